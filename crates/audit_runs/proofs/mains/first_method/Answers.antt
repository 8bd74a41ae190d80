use Rattle.std.proofs.Common.{◌≡◌, ◌<◌, List, slice_index_or, length, ap, sym, ◌∙◌, arith}
use Rattle.class_file.specs.declared.class.ClassFile.{ClassFile}
use Rattle.program_launch.proofs.MainMethods.{next_first, short_file}
use Rattle.audit_runs.proofs.mains.first_method.Goals as goal

pub loop-before-preserved : goal.loop-before-preserved
loop-before-preserved c =
    let set = c.args.set.now in
    let before = c.loop-before.before in
    let file = c.index-files-before.result in
    let l : before < length set.files = omega arith in
    let at : file ≡ slice_index_or set.files before file =
    c.index-files-before.is ∙ ap (λ (fs : List ClassFile). slice_index_or fs before file) c.files-files.ensures in
    let next = next_first set before file l at in
    let short = short_file set before file c.file_count-count.ensures.small l at in
    let number = c.loop-before.invariant.number in
    let few = c.loop-before.invariant.few in
    let counted : c.len.result ≡ length file.methods =
    c.len.ensures ∙ ap (λ (f : ClassFile). length f.methods) (sym c.index-files-before.is) in
    record { number = omega (arith, next, number, counted); few = omega (arith, few, counted, short) }
