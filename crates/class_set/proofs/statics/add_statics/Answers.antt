use Rattle.std.proofs.Common.{Vec, ◌≡◌, ◌<◌, ◌+◌, ◌++◌, [], ◌∷◌, drop, map, length, slice_index_or, refl, ap, sym, ◌∙◌, arith}
use Rattle.std.proofs.Common.{append_assoc}
use Rattle.std.specs.Global.{Global}
use Rattle.std.proofs.lemmas.List.{map-append}
use Rattle.std.proofs.lemmas.Option.{slice_get_read}
use Rattle.class_set.specs.declared.statics.Static.{Static}
use Rattle.class_set.specs.Members.{kind_of}
use Rattle.class_set.specs.Facts.{static_facts, statics_of_fields}
use Rattle.class_set.specs.Tables.{static_now}
use Rattle.class_set.proofs.StaticFields.{other_field, static_field, static_shown}
use Rattle.class_set.proofs.statics.add_statics.Goals as goal
use Rattle.class_set.proofs.statics.add_statics.Goals.{then-is_static+in_ok-push, else-is_static}

pub loop-place-preserved : goal.loop-place-preserved
loop-place-preserved c = λ files lits get.
    let class = c.args.class in
    let file = c.args.file.now in
    let fs = file.fields in
    let i = c.loop-place.place in
    let f = c.field-item.result in
    let items = c.as_slice-field-items.ensures in
    let at : f ≡ slice_index_or fs i f = c.field-item.is ∙ ap (λ xs. slice_index_or xs i f) items in
    let l : i < length fs = omega (arith, c.loop-place-test.true, ap length items) in
    let rest = statics_of_fields files class file (drop (i + 1) fs) in
    let old = map (static_now files) c.loop-place.statics.items in
    elim c.if-is_static.branch [
      | then-is_static+in_ok-push w ↦
          (let s : Static = record { class = class; place = i; kind = w.kind_of.result; constant = w.constant_of.result; is_root = f.root } in
          let shown : static_now files s ≡ static_facts files class file f =
          static_shown files s file f get (slice_get_read fs (length fs) i f refl l at)
          (w.kind_of.ensures ∙ ap kind_of w.text_at.ensures) (w.constant_of.ensures files lits) refl in
          ap (λ (v : Vec Static Global). map (static_now files) v.items ++ rest) w.statics-is
          ∙ ap (λ xs. map (static_now files) xs ++ rest) w.in_ok-push.ensures.items
          ∙ ap (λ xs. xs ++ rest) (map-append (static_now files) c.loop-place.statics.items (s ∷ []))
          ∙ ap (λ x. (old ++ x ∷ []) ++ rest) shown
          ∙ append_assoc old (static_facts files class file f ∷ []) rest
          ∙ ap (λ xs. old ++ xs) (sym (static_field files class file fs i f l at (sym c.is_static.ensures ∙ w.if-is_static.true)))
          ∙ c.loop-place.invariant files lits get)
      | else-is_static w ↦
          ap (λ (v : Vec Static Global). map (static_now files) v.items ++ rest) w.statics-is
          ∙ ap (λ xs. old ++ xs) (sym (other_field files class file fs i f l at (sym c.is_static.ensures ∙ w.if-is_static.false)))
          ∙ c.loop-place.invariant files lits get
    ]
