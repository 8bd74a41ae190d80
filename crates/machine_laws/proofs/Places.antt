-- Where the kept places of a machine lie: outside logs and unsealed copies, and each at a word of its own.
use Rattle.std.proofs.Common.{◌≡◌, ◌≢◌, inl, inr, ℕ, ◌+◌, ◌/◌, ◌<◌, ◌≤◌, true, List, length, refl, sym, ◌∙◌, ap, subst, arith}
use Rattle.std.proofs.Common.{map, slice_index_or, nat_le, nat_lt, ◌&&◌, le-leb, lt-ltb}
use Rattle.std.proofs.lemmas.Bool.{cases_lt, or_right}
use Rattle.std.proofs.Math.ListN.{get_or-eq_default}
use Rattle.ap_base.specs.declared.place.Place.{Place}
use Rattle.ap_base.specs.declared.place.Place.TheVariants.{Static, Slot}
use Rattle.graph_model.specs.declared.types.Root.{Root as DurableRoot}
use Rattle.graph_model.specs.declared.types.Obj.{Obj}
use Rattle.graph_model.specs.Heaps.{values_of}
use Rattle.image_layout.specs.Places.{logs, root_slots, first_object_line, slot_line, slot_word, object_line, object_word}
use Rattle.image_meaning.specs.Corresponds.{root_static}
use Rattle.image_meaning.specs.Logs.{may_be_logged}
use Rattle.run_history.specs.Knowing.{Knowledge}
use Rattle.stop_theorem.specs.Layouts.{root_number, is_kept_place}
use Rattle.stop_theorem.specs.InvariantEvents.{line_at, word_at}
use Rattle.stop_theorem.proofs.Held.{root_is}
use Rattle.stop_theorem.proofs.KeptPlaces.{IsKeptSlot, slot_parts, root_parts}
use Rattle.region_log.specs.Made.{IsOfLog}
use Rattle.twin_forms.specs.Table.{Entry, entry, InP, lines_of}
use Rattle.twin_forms.specs.Sights.{view_of}
use Rattle.twin_forms.proofs.Led.{same_or_not}
use Rattle.two_spaces.specs.declared.spaces.Static.TheVariants.{Root}
use Rattle.two_spaces.specs.Whole.{IsStatic, no_static}
use Rattle.two_spaces.proofs.Shifting.{object_is, values_long}
use Rattle.machine_forms.specs.Machines.{Opening, Machine, known_in, memory_of, layout_in}
use Rattle.machine_forms.specs.Keeping.{KeepsRun}
use Rattle.machine_laws.proofs.AskKeeping.{line-in, durable-in}

-- two root slots of one word are one
one-slot : (r s : ℕ) → slot_line r ≡ slot_line s → slot_word r ≡ slot_word s → r ≡ s
one-slot r s line word = omega (arith, line, word)

-- two slots of one object
one-index : (a i j : ℕ) → object_line a i ≡ object_line a j → object_word i ≡ object_word j → i ≡ j
one-index a i j line word = omega (arith, line, word)

module _ (o : Opening) (m : Machine) (es : List Entry) (k : KeepsRun o m es) where
  abbrev known : Knowledge
  known = known_in o m

  abbrev durable_roots : List DurableRoot
  durable_roots = known.world.heap.roots

  -- a root's slot is one of the root slots
  pub slot-below : (r : ℕ) → r < length durable_roots → r < 256
  slot-below r lt =
      let f = root_static known.world.heap r in
      let is = k.world.roots.there r lt in
      elim (cases_lt f (length m.spaces.statics)) [
        | inl there ↦ (subst (IsStatic m.spaces es) is (k.heap.whole.statics f there)).0
        | inr past ↦ absurd (let no : no_static
            ≡ Root r = sym (get_or-eq_default m.spaces.statics no_static past) ∙ is in cc)
      ]

  -- where a durable root lies
  root-at : (f : ℕ) → is_kept_place known (Static f) ≡ true → root_number durable_roots f < 256
  root-at f kept = slot-below (root_number durable_roots f)
      (root_is durable_roots f (root_parts known f kept).0).0

  values-many : (n : ℕ) → n < length es → length (values_of known.world.heap n) ≡ (entry es n).slots
  values-many n there =
      ap (λ w. length (values_of w.heap n)) k.world.world
      ∙ ap (λ (x : Obj). length x.values)
      (object_is m.spaces.classes (view_of m.spaces.twin) es n k.heap.whole.lies there)
      ∙ values_long m.spaces.classes (view_of m.spaces.twin) (entry es n)

  -- where a kept slot lies
  pub record LiesIn (n i : ℕ) : Type 0 where
    pub durable : InP es n
    pub inside : i < (entry es n).slots
    pub line : line_at (layout_in o es) known (Slot n i) ≡ (entry es n).line + (i + 1) / 8
    pub low : first_object_line ≤ (entry es n).line

  slot-at : (n i : ℕ) → is_kept_place known (Slot n i) ≡ true → LiesIn n i
  slot-at n i kept =
      let parts : IsKeptSlot known n i = slot_parts known n i kept in
      let p = durable-in o m es k n parts.durable in
      let many = values-many n p.0 in
      let inside = parts.inside in record {
        durable = p;
        inside = omega (arith, many, inside);
        line = ap (λ l. l + (i + 1) / 8) (line-in o es n p);
        low = k.heap.low n p.0 (let st = p.1 in omega (arith, st));
      }

  -- a kept place is one of the image
  pub place-inside : (p : Place) → is_kept_place known p ≡ true
      → line_at (layout_in o es) known p < o.start.size
  place-inside (Static f) kept =
      let r = root-at f kept in let long = k.heap.long in omega (arith, r, long)
  place-inside (Slot n i) kept =
      let at = slot-at n i kept in
      let line = at.line in
      let slot = at.inside in
      let moved = at.durable.1 in
      let inside = (k.heap.whole.lies.table.copy_in n at.durable.0 (omega (arith, moved))).1 in
      let size = k.heap.size in
      omega (arith, line, inside, size, slot)

  -- its word may be logged
  pub place-may : (p : Place) → is_kept_place known p ≡ true
      → may_be_logged (memory_of m).size (line_at (layout_in o es) known p) ≡ true
  place-may (Static f) kept =
      let line = line_at (layout_in o es) known (Static f) in
      let r = root-at f kept in
      rw (
        le-leb (slot_line 0) line (omega arith),
        lt-ltb line (slot_line root_slots) (omega (arith, r)),
      ) refl
  place-may (Slot n i) kept =
      let line = line_at (layout_in o es) known (Slot n i) in
      let at = slot-at n i kept in
      let here = at.line in
      let low = at.low in
      let inside = place-inside (Slot n i) kept in
      let size = k.heap.size in
      or_right (nat_le (slot_line 0) line && nat_lt line (slot_line root_slots))
      (nat_le first_object_line line && nat_lt line (memory_of m).size)
      (rw (
        le-leb first_object_line line (omega (arith, here, low)),
        lt-ltb line (memory_of m).size (omega (arith, inside, size)),
      ) refl)

  -- ---- elsewhere

  pub place-off-logs : (p : Place) (t : ℕ) → is_kept_place known p ≡ true → t < logs
      → IsOfLog t (line_at (layout_in o es) known p) → ⊥
  place-off-logs (Static f) t kept below of_log =
      let r = root-at f kept in let from = of_log.from in omega (arith, r, from)
  place-off-logs (Slot n i) t kept below of_log =
      let at = slot-at n i kept in
      let line = at.line in let low = at.low in let under = of_log.below in
      omega (arith, below, line, low, under)

  -- none lies in a line of an object that isn't durable
  pub place-off-copies : (p : Place) (n c : ℕ) → is_kept_place known p ≡ true → n < length es
      → 0 < (entry es n).stage → (InP es n → ⊥) → c < lines_of (entry es n)
      → line_at (layout_in o es) known p ≢ (entry es n).line + c
  place-off-copies (Static f) n c kept there placed out inside same =
      let r = root-at f kept in let low = k.heap.low n there placed in omega (arith, r, low, same)
  place-off-copies (Slot x i) n c kept there placed out inside same =
      let at = slot-at x i kept in
      let line = at.line in
      let slot = at.inside in
      let moved = at.durable.1 in
      elim (k.heap.whole.lies.table.copy_apart x n at.durable.0 there
      (λ e. out (subst (InP es) e at.durable)) (omega (arith, moved)) placed) [
        | inl before ↦ omega (arith, before, line, slot, same)
        | inr behind ↦ omega (arith, behind, line, inside, same)
      ]

  -- ---- apart

  root-slot : (f n i : ℕ) → is_kept_place known (Static f) ≡ true → is_kept_place known (Slot n i) ≡ true
      → line_at (layout_in o es) known (Static f) ≢ line_at (layout_in o es) known (Slot n i)
  root-slot f n i is_root is_slot same =
      let r = root-at f is_root in
      let at = slot-at n i is_slot in
      let line = at.line in let low = at.low in
      omega (arith, r, line, low, same)

  roots-apart : (f g : ℕ) → is_kept_place known (Static f) ≡ true → is_kept_place known (Static g) ≡ true
      → root_number durable_roots f ≡ root_number durable_roots g → f ≡ g
  roots-apart f g a b same =
      sym (root_is durable_roots f (root_parts known f a).0).1
      ∙ ap (λ r. slice_index_or (map (λ (x : DurableRoot). x.at) durable_roots) r 0) same
      ∙ (root_is durable_roots g (root_parts known g b).0).1

  one-object : (n i x j : ℕ) → LiesIn n i → LiesIn x j
      → line_at (layout_in o es) known (Slot n i) ≡ line_at (layout_in o es) known (Slot x j) → n ≡ x
  one-object n i x j a b same = elim (same_or_not n x) [
    | inl is ↦ is
    | inr other ↦ (
        let line_a = a.line in let line_b = b.line in
        let in_a = a.inside in let in_b = b.inside in
        let st_a = a.durable.1 in let st_b = b.durable.1 in
        elim (k.heap.whole.lies.table.copy_apart n x a.durable.0 b.durable.0 other (omega (arith, st_a))
        (omega (arith, st_b))) [
          | inl before ↦ absurd (omega (arith, before, line_a, line_b, in_a, same))
          | inr behind ↦ absurd (omega (arith, behind, line_a, line_b, in_b, same))
        ])
  ]

  slots-apart : (n i x j : ℕ) → LiesIn n i → LiesIn x j
      → line_at (layout_in o es) known (Slot n i) ≡ line_at (layout_in o es) known (Slot x j)
      → object_word i ≡ object_word j → Slot n i ≡ Slot x j
  slots-apart n i x j a b line word =
      let same = one-object n i x j a b line in
      let index : i ≡ j = one-index ((layout_in o es).line_of x) i j
      (ap (λ y. object_line ((layout_in o es).line_of y) i) (sym same) ∙ line) word in
      ap (λ y. Slot y i) same ∙ ap (λ y. Slot x y) index

  -- no two kept places have one word
  pub places-apart : (p q : Place) → is_kept_place known p ≡ true → is_kept_place known q ≡ true
      → line_at (layout_in o es) known p ≡ line_at (layout_in o es) known q
      → word_at known p ≡ word_at known q → p ≡ q
  places-apart (Static f) (Static g) a b line word =
      ap (λ x. Static x) (roots-apart f g a b
      (one-slot (root_number durable_roots f) (root_number durable_roots g) line word))
  places-apart (Static f) (Slot n i) a b line word = absurd (root-slot f n i a b line)
  places-apart (Slot n i) (Static f) a b line word = absurd (root-slot f n i b a (sym line))
  places-apart (Slot n i) (Slot x j) a b line word =
      slots-apart n i x j (slot-at n i a) (slot-at x j b) line word
