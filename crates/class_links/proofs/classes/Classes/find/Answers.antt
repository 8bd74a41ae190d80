use Rattle.std.proofs.Common.{◌≡◌, slice_index_or, arith, ap, sym, ◌∙◌}
use Rattle.std.specs.Option.{option_map}
use Rattle.class_links.specs.Names.{built_in, is_interface, is_final}
use Rattle.class_links.specs.Found.{flags_of}
use Rattle.class_links.proofs.Known.{find_known-first, find_known-none, flags_at}
use Rattle.class_links.proofs.classes.Classes.find.Goals as goal

pub bounds-self-inside-number : goal.bounds-self-inside-number
bounds-self-inside-number c =
    let p = find_known-first built_in c.args.name.now c.args.self.now 0 c.in-Some.number (sym c.in-Some.ensures) in
    rw c.self.view_is (omega (arith, p.1, p.2))

pub returns-in-Some : goal.returns-in-Some
returns-in-Some c =
    let file = c.index-self-number.result in
    let at : file ≡ slice_index_or c.args.self.now c.in-Some.number file =
    c.index-self-number.is ∙ ap (λ files. slice_index_or files c.in-Some.number file) c.self.view_is in
    flags_at c.args.self.now c.args.name.now c.in-Some.number file c.is_interface.result c.is_final.result
    c.in-Some.ensures at (c.is_interface.ensures ∙ ap is_interface (sym c.index-self-number.is)) (c.is_final.ensures ∙ ap is_final (sym c.index-self-number.is))

pub returns-in-None : goal.returns-in-None
returns-in-None c =
    c.built_in.ensures ∙ ap (option_map flags_of) (sym (find_known-none built_in c.args.name.now c.args.self.now 0 (sym c.in-None.ensures)))
