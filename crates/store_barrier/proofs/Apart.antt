-- No two durable places of a machine's heap lie in one word of the image.
use Rattle.std.proofs.Common.{◌≡◌, ◌≢◌, inl, inr, ℕ, ◌+◌, ◌/◌, ◌<◌, ◌≤◌, true, List, length, sym, ◌∙◌, ap, subst, arith, map}
use Rattle.std.proofs.Common.{slice_index_or}
use Rattle.std.proofs.lemmas.Bool.{cases_lt}
use Rattle.std.proofs.Math.ListN.{get_or-eq_default}
use Rattle.ap_base.specs.declared.place.Place.{Place}
use Rattle.ap_base.specs.declared.place.Place.TheVariants.{Static, Slot}
use Rattle.graph_model.specs.declared.types.Root.{Root as DurableRoot}
use Rattle.graph_model.specs.declared.types.Obj.{Obj}
use Rattle.graph_model.specs.Heaps.{values_of}
use Rattle.image_layout.specs.Places.{first_object_line, slot_line, slot_word, object_line, object_word}
use Rattle.image_meaning.specs.Corresponds.{root_static}
use Rattle.run_history.specs.Knowing.{Knowledge}
use Rattle.stop_theorem.specs.Layouts.{root_number, is_kept_place}
use Rattle.stop_theorem.specs.InvariantEvents.{line_at, word_at}
use Rattle.stop_theorem.proofs.Held.{root_is}
use Rattle.stop_theorem.proofs.KeptPlaces.{IsKeptSlot, slot_parts, root_parts}
use Rattle.twin_forms.specs.Table.{Entry, entry, InP}
use Rattle.twin_forms.specs.Sights.{view_of}
use Rattle.twin_forms.proofs.Led.{same_or_not}
use Rattle.machine_forms.specs.Passed.{Root}
use Rattle.machine_forms.specs.Passed.{IsStatic, no_static}
use Rattle.machine_forms.proofs.Passed.{object_is, values_long}
use Rattle.machine_forms.specs.Machines.{Opening, Machine, known_in, layout_in}
use Rattle.machine_forms.specs.Keeping.{KeepsRun}
use Rattle.store_barrier.proofs.Machines.{line_of_durable}

-- two root slots of one word are one
one_slot : (r s : ℕ) → slot_line r ≡ slot_line s → slot_word r ≡ slot_word s → r ≡ s
one_slot r s line word = omega (arith, line, word)

-- two slots of one object
one_index : (a i j : ℕ) → object_line a i ≡ object_line a j → object_word i ≡ object_word j → i ≡ j
one_index a i j line word = omega (arith, line, word)

module _ (o : Opening) (m : Machine) (es : List Entry) (k : KeepsRun o m es) where
  abbrev known : Knowledge
  known = known_in o m

  abbrev durable_roots : List DurableRoot
  durable_roots = known.world.heap.roots

  -- a root's slot is one of the root slots
  slot_below : (r : ℕ) → r < length durable_roots → r < 256
  slot_below r lt =
      let f = root_static known.world.heap r in
      let is = k.world.roots.there r lt in
      elim (cases_lt f (length m.spaces.statics)) [
        | inl there ↦ (subst (IsStatic m.spaces es) is (k.heap.whole.statics f there)).0
        | inr past ↦ absurd (let no : no_static
            ≡ Root r = sym (get_or-eq_default m.spaces.statics no_static past) ∙ is in cc)
      ]

  root_at : (f : ℕ) → is_kept_place known (Static f) ≡ true → root_number durable_roots f < 256
  root_at f kept = slot_below (root_number durable_roots f) (root_is durable_roots f (root_parts known f kept).0).0

  values_many : (n : ℕ) → n < length es → length (values_of known.world.heap n) ≡ (entry es n).slots
  values_many n there =
      ap (λ w. length (values_of w.heap n)) k.world.world
      ∙ ap (λ (x : Obj). length x.values) (object_is m.spaces.classes (view_of m.spaces.twin) es n k.heap.whole.lies there)
      ∙ values_long m.spaces.classes (view_of m.spaces.twin) (entry es n)

  -- where a kept slot lies
  record LiesIn (n i : ℕ) : Type 0 where
    durable : InP es n
    inside : i < (entry es n).slots
    line : line_at (layout_in o es) known (Slot n i) ≡ (entry es n).line + (i + 1) / 8
    low : first_object_line ≤ (entry es n).line

  slot_at : (n i : ℕ) → is_kept_place known (Slot n i) ≡ true → LiesIn n i
  slot_at n i kept =
      let parts : IsKeptSlot known n i = slot_parts known n i kept in
      let p = (k.asked.durable n).0 parts.durable in
      let many = values_many n p.0 in
      let inside = parts.inside in record {
        durable = p;
        inside = omega (arith, many, inside);
        line = ap (λ l. l + (i + 1) / 8) (line_of_durable o es n p);
        low = k.heap.low n p.0 (let st = p.1 in omega (arith, st));
      }

  root_slot : (f n i : ℕ) → is_kept_place known (Static f) ≡ true → is_kept_place known (Slot n i) ≡ true
      → line_at (layout_in o es) known (Static f) ≢ line_at (layout_in o es) known (Slot n i)
  root_slot f n i is_root is_slot same =
      let r = root_at f is_root in
      let at = slot_at n i is_slot in
      let line = at.line in let low = at.low in
      omega (arith, r, line, low, same)

  roots_apart : (f g : ℕ) → is_kept_place known (Static f) ≡ true → is_kept_place known (Static g) ≡ true
      → root_number durable_roots f ≡ root_number durable_roots g → f ≡ g
  roots_apart f g a b same =
      sym (root_is durable_roots f (root_parts known f a).0).1
      ∙ ap (λ r. slice_index_or (map (λ (x : DurableRoot). x.at) durable_roots) r 0) same
      ∙ (root_is durable_roots g (root_parts known g b).0).1

  one_object : (n i x j : ℕ) → LiesIn n i → LiesIn x j
      → line_at (layout_in o es) known (Slot n i) ≡ line_at (layout_in o es) known (Slot x j) → n ≡ x
  one_object n i x j a b same = elim (same_or_not n x) [
    | inl is ↦ is
    | inr other ↦ (
        let line_a = a.line in let line_b = b.line in
        let in_a = a.inside in let in_b = b.inside in
        let st_a = a.durable.1 in let st_b = b.durable.1 in
        elim (k.heap.whole.lies.table.copy_apart n x a.durable.0 b.durable.0 other (omega (arith, st_a))
        (omega (arith, st_b))) [
          | inl before ↦ absurd (omega (arith, before, line_a, line_b, in_a, same))
          | inr behind ↦ absurd (omega (arith, behind, line_a, line_b, in_b, same))
        ])
  ]

  slots_apart : (n i x j : ℕ) → LiesIn n i → LiesIn x j
      → line_at (layout_in o es) known (Slot n i) ≡ line_at (layout_in o es) known (Slot x j)
      → object_word i ≡ object_word j → Slot n i ≡ Slot x j
  slots_apart n i x j a b line word =
      let same = one_object n i x j a b line in
      let index : i ≡ j = one_index ((layout_in o es).line_of x) i j
      (ap (λ y. object_line ((layout_in o es).line_of y) i) (sym same) ∙ line) word in
      ap (λ y. Slot y i) same ∙ ap (λ y. Slot x y) index

  pub places_apart : (p q : Place) → is_kept_place known p ≡ true → is_kept_place known q ≡ true
      → line_at (layout_in o es) known p ≡ line_at (layout_in o es) known q
      → word_at known p ≡ word_at known q → p ≡ q
  places_apart (Static f) (Static g) a b line word =
      ap (λ x. Static x) (roots_apart f g a b
      (one_slot (root_number durable_roots f) (root_number durable_roots g) line word))
  places_apart (Static f) (Slot n i) a b line word = absurd (root_slot f n i a b line)
  places_apart (Slot n i) (Static f) a b line word = absurd (root_slot f n i b a (sym line))
  places_apart (Slot n i) (Slot x j) a b line word =
      slots_apart n i x j (slot_at n i a) (slot_at x j b) line word
