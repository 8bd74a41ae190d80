-- A group of copies that is closed, written back and fenced becomes durable.
use Rattle.std.proofs.Common.{◌≡◌, ◌⊎◌, inl, inr, ℕ, ◌<◌, ◌≤◌, ◌==◌, Bool, true, false, ◌||◌, List, [], ◌∷◌, ◌++◌, refl, sym}
use Rattle.std.proofs.Common.{◌∙◌, ap, subst, arith, nat_eq, if◌then◌else◌}
use Rattle.std.proofs.lemmas.Bool.{cases_Bool, true≢false, and_parts, eqb-true, eq-eqb}
use Rattle.ap_base.specs.declared.place.Place.{Place}
use Rattle.ap_base.specs.declared.place.Place.TheVariants.{Static, Slot}
use Rattle.graph_model.specs.declared.types.Heap.{Heap}
use Rattle.graph_model.specs.Heaps.{has_number}
use Rattle.line_memory.specs.Memory.{Memory, shown, IsDurable}
use Rattle.image_layout.specs.Places.{min_lines, slot_line, slot_word, object_line, object_word}
use Rattle.image_meaning.specs.Corresponds.{Corresponds, Either}
use Rattle.image_meaning.proofs.Changes.{corresponds-same, corresponds-along, corresponds-grow}
use Rattle.run_history.specs.declared.act.Op.TheVariants as op
use Rattle.run_history.specs.Knowing.{Knowledge, known_after_op}
use Rattle.plain_model.proofs.Durable.{has_number-append_left, has_number-append_cases}
use Rattle.stop_theorem.specs.Choices.{Threads}
use Rattle.stop_theorem.specs.Layouts.{Layout, Lies, place_line, place_word, is_kept_place}
use Rattle.stop_theorem.specs.Stops.{Stands}
use Rattle.stop_theorem.proofs.Allowed.{lies_parts}
use Rattle.stop_theorem.proofs.KeptPlaces.{slot_parts, slot_has}
use Rattle.stop_theorem.specs.StoreEvents.{Joins, joined}
use Rattle.stop_theorem.specs.Given.{FencedAll}
use Rattle.stop_theorem.specs.GivenCopies.{LieAt, IsWrittenGroup, with_group, FencedGroupsAreEvents}
use Rattle.stop_theorem.specs.Running.{State, known_at, with_memory, with_act, none, more, Joined}
use Rattle.stop_theorem.proofs.Given.{called, shown_stays}

append_right : (ns ms : List ℕ) (n : ℕ) → has_number ms n ≡ true → has_number (ns ++ ms) n ≡ true
append_right [] ms n is = is
append_right (k ∷ ns) ms n is = or_true (nat_eq k n) (has_number (ns ++ ms) n) (append_right ns ms n is)
  where
    or_true : (a b : Bool) → b ≡ true → (a || b) ≡ true
    or_true true b has = refl
    or_true false b has = has

chosen : {X : Type 0} (b : Bool) (x y : X) → b ≡ true → (if b then x else y) ≡ x
chosen true x y is = refl
chosen false x y is = absurd (true≢false (sym is))

passed : {X : Type 0} (b : Bool) (x y : X) → b ≡ false → (if b then x else y) ≡ y
passed false x y isnt = refl
passed true x y isnt = absurd (true≢false isnt)

module _ (first : Heap) (known : Knowledge) (lay : Layout) (Waits : Threads) (m fenced : Memory)
    (named : List ℕ)
    (at : ℕ → ℕ) (t calls : ℕ)
    (s : Stands first known lay Waits m) (big : min_lines ≤ lay.size)
    (g : IsWrittenGroup known lay m named at) (f : FencedAll m fenced) where
  abbrev new : Layout
  new = with_group lay m named at

  abbrev next : Knowledge
  next = joined known t calls named

  -- where each object lies
  line_of_new : (n : ℕ) → has_number named n ≡ true → new.line_of n ≡ at n
  line_of_new n is = chosen (has_number named n) (at n) (lay.line_of n) is

  not_new : (n : ℕ) → has_number known.durable n ≡ true → has_number named n ≡ false
  not_new n is = elim (cases_Bool (has_number named n)) [
    | inr isnt ↦ isnt
    | inl has ↦ absurd (true≢false (sym is ∙ g.fresh n has))
  ]

  line_of_old : (n : ℕ) → has_number known.durable n ≡ true → new.line_of n ≡ lay.line_of n
  line_of_old n is = passed (has_number named n) (at n) (lay.line_of n) (not_new n is)

  old_durable : (n : ℕ) → has_number known.durable n ≡ true → has_number next.durable n ≡ true
  unfolding known_after_op
  old_durable n is = has_number-append_left known.durable named n is

  new_durable : (n : ℕ) → has_number named n ≡ true → has_number next.durable n ≡ true
  unfolding known_after_op
  new_durable n is = append_right known.durable named n is

  either : (n : ℕ) → has_number next.durable n ≡ true
      → (has_number known.durable n ≡ true) ⊎ (has_number named n ≡ true)
  unfolding known_after_op
  either n is = has_number-append_cases known.durable named n is

  lies_at : (line n : ℕ) → has_number next.durable n ≡ true → new.line_of n ≡ line → Lies new next line n
  lies_at line n is here = rw (is, eq-eqb (new.line_of n) line here) refl

  to : (line n : ℕ) → Either (Lies lay known) (LieAt named at) line n → Lies new next line n
  to line n (inl old) =
      let parts = lies_parts lay known line n old in
      lies_at line n (old_durable n parts.0) (line_of_old n parts.0 ∙ parts.1)
  to line n (inr one) =
      let parts = and_parts (has_number named n) (at n == line) one in
      lies_at line n (new_durable n parts.0) (line_of_new n parts.0 ∙ eqb-true (at n) line parts.1)

  back : (line n : ℕ) → Lies new next line n → Either (Lies lay known) (LieAt named at) line n
  back line n lies =
      let parts = lies_parts new next line n lies in
      elim (either n parts.0) [
        | inl old ↦ inl (rw (old, eq-eqb (lay.line_of n) line (sym (line_of_old n old) ∙ parts.1)) refl)
        | inr one ↦ inr (rw (one, eq-eqb (at n) line (sym (line_of_new n one) ∙ parts.1)) refl)
      ]

  -- what the memory shows, before and after the fence
  shows_before : Corresponds (Lies new next) lay.directory lay.size (shown m) known.world.heap
  shows_before =
      corresponds-along (Either (Lies lay known) (LieAt named at)) (Lies new next) lay.directory lay.size
      (shown m) known.world.heap to back
      (corresponds-grow (Lies lay known) (LieAt named at) lay.directory lay.size (shown m) known.world.heap
      s.shows g.closed)

  stays : (l w : ℕ) → l < lay.size → shown fenced l w ≡ shown m l w
  stays l w below = shown_stays m fenced f.keeps l w (subst (λ k. l < k) (sym s.size) below)

  shows_after : Corresponds (Lies new next) lay.directory lay.size (shown fenced) known.world.heap
  shows_after =
      corresponds-same (Lies new next) lay.directory lay.size (shown m) (shown fenced) known.world.heap
      shows_before (record {
        heads = λ line n y. (let high = (shows_before.objects line n y).high in
            stays line 0 (omega (arith, high)));
        slots = λ line n y i below kept. (let high = (shows_before.objects line n y).high in
            stays (object_line line i) (object_word i) (omega (arith, high, below)));
        at_roots = λ r below. stays (slot_line r) (slot_word r) (omega (arith, below, big));
      })

  -- the line of an object lies in the image
  in_image : (n : ℕ) → has_number next.durable n ≡ true → new.line_of n < lay.size
  in_image n is =
      let high = (shows_before.objects (new.line_of n) n (lies_at (new.line_of n) n is refl)).high in
      omega (arith, high)

  head_shown : (n : ℕ) → has_number next.durable n ≡ true → shown m (new.line_of n) 0 ≡ new.head n
  head_shown n is = elim (either n is) [
    | inl old ↦ ap (λ l. shown m l 0) (line_of_old n old) ∙ s.heads n old
        ∙ sym (passed (has_number named n) (shown m (at n) 0) (lay.head n) (not_new n old))
    | inr one ↦ ap (λ l. shown m l 0) (line_of_new n one)
        ∙ sym (chosen (has_number named n) (shown m (at n) 0) (lay.head n) one)
  ]

  -- what wasn't durable is of the group
  of_group : (n : ℕ) → has_number next.durable n ≡ true → has_number known.durable n ≡ false
      → has_number named n ≡ true
  of_group n is isnt = elim (either n is) [ inl old ↦ absurd (true≢false (sym old ∙ isnt)) | inr one ↦ one ]

  word_durable : (p : Place) → is_kept_place next p ≡ true → is_kept_place known p ≡ false
      → IsDurable fenced (place_line new known.world.heap p) (place_word known.world.heap p)
  unfolding known_after_op
  word_durable (Static n) is isnt = absurd (true≢false (sym is ∙ isnt))
  word_durable (Slot n i) is isnt =
      let slot = slot_parts next n i is in
      let one = of_group n slot.durable (elim (cases_Bool (has_number known.durable n)) [
        | inr isnt_old ↦ isnt_old
        | inl old ↦ absurd (true≢false (sym (slot_has known n i slot.mark old slot.has) ∙ isnt))
      ]) in
      subst (λ l. IsDurable fenced (object_line l i) (object_word i)) (sym (line_of_new n one))
      (f.durable (object_line (at n) i) (object_word i) (g.slots n i one slot.inside slot.mark))

  joins : Joins known lay new fenced t calls named
  unfolding known_after_op
  joins = record {
    size = refl;
    directory = refl;
    lines = line_of_old;
    same_heads = λ n is. passed (has_number named n) (shown m (at n) 0) (lay.head n) (not_new n is);
    shows = shows_after;
    heads = λ n is. stays (new.line_of n) 0 (in_image n is) ∙ head_shown n is;
    durable_heads = λ n is isnt. (let one = of_group n is isnt in
        subst (λ l. IsDurable fenced l 0) (sym (line_of_new n one)) (f.durable (at n) 0 (g.heads n one)));
    durable_words = word_durable;
  }

pub fenced_groups : FencedGroupsAreEvents
fenced_groups first s fenced t named at stands big group f =
    let new = with_group s.layout s.memory named at in
    let one : State = with_memory s fenced in
    let last : State = record (with_act one t op.Joined named) { layout = new } in
    more s one last
    (more s s one (none s) (called first s fenced f.keeps f.count f.fits))
    (Joined one new t named
    (joins first.world.heap (known_at first s) s.layout s.waits s.memory fenced named at t fenced.calls stands
    big group f))
