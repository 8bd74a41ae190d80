use Rattle.std.proofs.Common.{◌≡◌, ◌<◌, ◌+◌, ◌++◌, None, false, drop, map, length, slice_index_or, ap, sym, ◌∙◌, arith}
use Rattle.std.proofs.Common.{append_assoc}
use Rattle.std.proofs.lemmas.List.{get_or_default, length-map}
use Rattle.ap_base.specs.declared.kind.Kind.TheVariants.{Z}
use Rattle.class_set.specs.declared.statics.Static.{Static}
use Rattle.class_set.specs.Linked.{Linked}
use Rattle.class_set.specs.Facts.{facts_of, root_of, roots_from}
use Rattle.class_set.specs.Tables.{static_now}
use Rattle.class_set.proofs.Above.{get_or-map_all}
use Rattle.class_set.proofs.StaticFields.{roots_next}
use Rattle.class_set.proofs.set.ClassSet.roots.Goals as goal

pub loop-place-preserved : goal.loop-place-preserved
loop-place-preserved c =
    let items = c.self.inside.statics.items in
    let shown = static_now c.args.self.now.files in
    let fs = (facts_of c.args.self.now).statics in
    let listed : map shown items ≡ fs =
    ap (λ (s : Linked). map (static_now s.files) items) (sym c.self.view_is) ∙ c.self.invariant.2.statics_listed
    ∙ ap (λ (s : Linked). (facts_of s).statics) c.self.view_is in
    let i = c.loop-place.place in
    let none : Static = record { class = 0; place = 0; kind = Z; constant = None; is_root = false } in
    let same = c.as_slice-field-items.ensures.value in
    let field = slice_index_or c.as_slice-field-items.result.now i none in
    let within : i < length items = omega (arith, c.loop-place-test.true, ap length same) in
    let at : field ≡ slice_index_or items i field = ap (λ xs. slice_index_or xs i none) same ∙ get_or_default items i none field within in
    let is : shown field ≡ slice_index_or fs i (shown field) =
    ap shown at ∙ sym (get_or-map_all shown field items i) ∙ ap (λ xs. slice_index_or xs i (shown field)) listed in
    let l : i < length fs = omega (arith, c.loop-place-test.true, ap length c.as_slice-field-items.ensures.value, ap length listed, length-map items shown) in
    let rest = roots_from (i + 1 + 1) (drop (i + 1) fs) in
    ap (λ xs. xs ++ rest) c.in_ok-add_root.ensures
    ∙ append_assoc c.loop-place.roots (root_of (i + 1) (shown field)) rest
    ∙ ap (λ xs. c.loop-place.roots ++ xs) (sym (roots_next fs (i + 1) i (shown field) l is))
    ∙ c.loop-place.invariant
