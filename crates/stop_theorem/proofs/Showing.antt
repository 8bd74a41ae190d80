-- What the memory shows of durable objects, after a store of one word.
use Rattle.std.proofs.Common.{◌≡◌, ◌≢◌, inl, inr, ℕ, ◌<◌, true, ◌&&◌, length, refl, sym, ◌∙◌, ap, subst, if◌then◌else◌, arith}
use Rattle.std.proofs.lemmas.Bool.{cases_Bool, true≢false, and_parts}
use Rattle.ap_base.specs.declared.place.Place.{Place}
use Rattle.ap_base.specs.declared.place.Place.TheVariants.{Static, Slot}
use Rattle.graph_model.specs.declared.types.Value.{Value}
use Rattle.graph_model.specs.declared.types.Heap.{Heap}
use Rattle.graph_model.specs.Heaps.{has_number, object_at, shape_at, value_at, stored, place_is}
use Rattle.line_memory.specs.Memory.{Memory, shown}
use Rattle.image_layout.specs.Places.{root_slots, slot_line, slot_word, object_line, object_word}
use Rattle.image_meaning.specs.Objects.{kind_of, object_slot}
use Rattle.image_meaning.specs.Corresponds.{Holds, HoldsReference, Corresponds, root_static}
use Rattle.image_meaning.proofs.Changes.{corresponds-same}
use Rattle.run_history.specs.Worlds.{has_place}
use Rattle.run_history.specs.Knowing.{Knowledge, durable_at}
use Rattle.stop_theorem.specs.Choices.{Threads}
use Rattle.run_history.proofs.Sizes.{stored-sizes, value_stored}
use Rattle.stop_theorem.proofs.Joint.{same_place, is_same_place}
use Rattle.stop_theorem.specs.Layouts.{Layout, Lies, place_line, place_word, place_kind, is_kept_place}
use Rattle.stop_theorem.specs.Stops.{Stands}
use Rattle.stop_theorem.specs.InvariantEvents.{Puts}
use Rattle.stop_theorem.proofs.Rebuilt.{rebuilt}
use Rattle.stop_theorem.proofs.Allowed.{lies_parts}
use Rattle.stop_theorem.proofs.KeptPlaces.{slot_kept, root_kept}
use Rattle.stop_theorem.proofs.Stored.{place_lies, root_used, unused_elsewhere, stands_free}
use Rattle.stop_theorem.proofs.Held.{holds_shown}
use Rattle.stop_theorem.specs.InvariantLaws.{FreeStoresKeep}

module _ (first : Heap) (known : Knowledge) (lay : Layout) (Waits : Threads) (old new : Memory)
    (s : Stands first known lay Waits old) (line word x : ℕ) (puts : Puts line word x old new) where
  -- a word that is no head, no durable place's and no root slot's
  pub shows_elsewhere : ((n : ℕ) → has_number known.durable n ≡ true → line ≡ lay.line_of n → word ≢ 0)
      → ((p : Place) → is_kept_place known p ≡ true → line ≡ place_line lay known.world.heap p
      → word ≢ place_word known.world.heap p)
      → ((r : ℕ) → r < root_slots → slot_line r ≢ line)
      → Corresponds (Lies lay known) lay.directory lay.size (shown new) known.world.heap
  shows_elsewhere no_head no_place no_root =
      corresponds-same (Lies lay known) lay.directory lay.size (shown old)
      (shown new) known.world.heap s.shows (record {
        heads = λ at n y. let parts = lies_parts lay known at n y in
            puts.others at 0 (λ e f. no_head n parts.0 (sym e ∙ sym parts.1) (sym f));
        slots = λ at n y i below mark.
            let parts = lies_parts lay known at n y in
            let kept = slot_kept known n i mark parts.0 (s.shows.objects at n y).there below in
            puts.others (object_line at i) (object_word i)
            (λ e f. no_place (Slot n i) kept (sym e ∙ ap (λ l. object_line l i) (sym parts.1)) (sym f));
        at_roots = λ r below. puts.others (slot_line r) (slot_word r) (λ e. absurd (no_root r below e));
      })

-- a store at a durable place
pub shows_stored : (first : Heap) (known : Knowledge) (lay : Layout) (Waits : Threads) (old new : Memory)
    → Stands first known lay Waits old → (p : Place) (v : Value) (x : ℕ)
    → Puts (place_line lay known.world.heap p) (place_word known.world.heap p) x old new
    → is_kept_place known p ≡ true → Holds (Lies lay known) (place_kind known.world.heap p) x v
    → Corresponds (Lies lay known) lay.directory lay.size (shown new) (stored known.world.heap p v)
shows_stored first known lay Waits old new s p v x puts kept holds =
    rebuilt (Lies lay known) lay.directory lay.size (shown old) (shown new) known.world.heap
    (stored known.world.heap p v) s.shows (stored-sizes known.world.heap p v)
    (λ line n y. let parts = lies_parts lay known line n y in
    puts.others line 0 (λ e f. s.no_heads p n kept parts.0 (sym e ∙ sym parts.1) (sym f)))
    (λ line n i y below mark.
    let parts = lies_parts lay known line n y in
    subst (λ l. Holds (Lies lay known) (kind_of
    (shape_at known.world.heap (object_at known.world.heap n).shape) i) (object_slot (shown new) l i)
    (value_at (stored known.world.heap p v) (Slot n i))) parts.1
    (at (Slot n i) (slot_kept known n i mark parts.0 (s.shows.objects line n y).there below)))
    (λ r below.
    subst (λ k. HoldsReference (Lies lay known) (shown new (slot_line k) (slot_word k))
    (value_at (stored known.world.heap p v) (Static (root_static known.world.heap r))))
    (s.roots.numbers r below)
    (at (Static (root_static known.world.heap r))
    (root_kept known (root_static known.world.heap r) (s.roots.roots r below) (s.roots.statics r below))))
    (λ r low high. puts.others (slot_line r) (slot_word r)
    (λ e f. unused_elsewhere (place_line lay known.world.heap p) (place_word known.world.heap p)
    (length known.world.heap.roots) r (place_lies first known lay Waits old s p kept)
    (λ k. root_used first known lay Waits old s p kept k) low high e f) ∙ s.shows.unused r low high)
  where
    at : (q : Place) → is_kept_place known q ≡ true
        → Holds (Lies lay known) (place_kind known.world.heap q)
        (shown new (place_line lay known.world.heap q) (place_word known.world.heap q))
        (value_at (stored known.world.heap p v) q)
    at q is = elim (cases_Bool (place_is p q)) [
      | inl same ↦ (
          let e : p ≡ q = same_place p q same in
          let there = (and_parts (durable_at known p) (has_place known.world.heap p) kept).1 in
          let value : value_at (stored known.world.heap p v) p ≡ v = value_stored known.world.heap p p v
          ∙ (let both : (if place_is p p && has_place known.world.heap p then v else value_at
          known.world.heap p) ≡ v = rw (is_same_place p, there) refl in both) in
          subst (λ (y : Place). Holds (Lies lay known) (place_kind known.world.heap y)
          (shown new (place_line lay known.world.heap y) (place_word known.world.heap y))
          (value_at (stored known.world.heap p v) y)) e
          (rw value (subst (λ w. Holds (Lies lay known) (place_kind known.world.heap p) w v)
          (sym puts.here) holds)))
      | inr other ↦ (
          let apart : place_line lay known.world.heap q ≡ place_line lay known.world.heap p
          → place_word known.world.heap q ≢ place_word known.world.heap p = λ e f.
          let same : q ≡ p = s.apart q p is kept e f in
          true≢false (sym (is_same_place p) ∙ ap (λ (y : Place). place_is p y) (sym same) ∙ other) in
          let value : value_at (stored known.world.heap p v) q ≡ value_at known.world.heap q =
          value_stored known.world.heap p q v
          ∙ (let no : (if place_is p q && has_place known.world.heap p then v else value_at
          known.world.heap q) ≡ value_at known.world.heap q = rw other refl in no) in
          rw value (subst (λ w. Holds (Lies lay known) (place_kind known.world.heap q) w
          (value_at known.world.heap q)) (sym
          (puts.others (place_line lay known.world.heap q) (place_word known.world.heap q) apart))
          (holds_shown known lay (shown old) s.shows q is)))
    ]

pub free_keeps : FreeStoresKeep
free_keeps first known lay Waits old new line word x puts inside free s =
    stands_free first known lay Waits old new line word x puts inside free
    (shows_elsewhere first known lay Waits old new s line word x puts free.no_head free.no_place
    (λ r below e. let low = free.low in absurd (omega (arith, below, e, low))))
    s
