use Rattle.std.proofs.Common.{◌≡◌, ◌<◌, ◌↔◌, length, slice_index_or, ap, subst, ◌∙◌, arith}
use Rattle.std.specs.Prelude.{Contains}
use Rattle.class_links.proofs.Edges.{super_edges-more}
use Rattle.class_links.proofs.classes.Classes.super_edges.Goals as goal

pub loop-file-preserved : goal.loop-file-preserved
loop-file-preserved c =
    let files = c.args.self.now in
    let i = c.loop-file.file-index in
    let file = c.file-item.result in
    let l : i < length c.self.inside.files.now = omega arith in
    let there : i < length files = rw c.self.view_is at l in
    let at : file ≡ slice_index_or files i file = c.file-item.is ∙ ap (λ xs. slice_index_or xs i file) c.self.view_is in
    rw c.in_ok-push.ensures.items
    (super_edges-more files i file c.loop-file.edges.items c.each_once.result there at c.loop-file.invariant
    (λ n. subst (λ xs. Contains c.each_once.result n ↔ Contains xs n) c.in_ok-super_files.ensures (c.each_once.ensures n)))
