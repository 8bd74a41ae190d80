use Rattle.std.proofs.Common.{◌≡◌, ap, sym, ◌∙◌, rules, None}
use Rattle.std.specs.Int.{w32, cast_signed, cast_unsigned}
use Rattle.std.specs.Int.RustNames.{FitsSigned}
use Rattle.std.proofs.lemmas.Int.{to_z-of_z}
use Rattle.natives.specs.Coded.{items, next_index}
use Rattle.natives.specs.Positions.{copied_to}
use Rattle.natives.proofs.Ends.{copies_end}
use Rattle.natives.proofs.chars_copy.copies_after.Goals as goal

-- no char is left
pub returns-in-None : goal.returns-in-None
returns-in-None c =
    let copying = c.args.copying in
    let at_fits : FitsSigned w32 copying.at = search rules in
    let end_fits : FitsSigned w32 copying.end = search rules in
    let at_is = to_z-of_z w32 copying.at at_fits in
    let end_is = to_z-of_z w32 copying.end end_fits in
    let none : next_index copying.at copying.end ≡ None =
    ap (λ at. next_index at copying.end) (sym at_is)
    ∙ ap (λ end. next_index (cast_signed w32 (cast_unsigned w32 copying.at)) end) (sym end_is)
    ∙ sym c.next_index.ensures ∙ c.in-None.is in
    c.next.ensures ∙ ap (λ end. copied_to items copying.target end copying.after) end_is ∙ sym
    (copies_end items copying none)
