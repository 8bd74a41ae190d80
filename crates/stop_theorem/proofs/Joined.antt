-- A group of objects becomes durable, all of whose words are durable and refer to durable objects alone.
use Rattle.std.proofs.Common.{◌≡◌, inl, inr, ℕ, ◌≤◌, ◌==◌, Bool, true, false, ◌||◌, List, [], ◌∷◌, ◌++◌, None, refl, sym, ◌∙◌}
use Rattle.std.proofs.Common.{ap, subst, arith, nat_eq}
use Rattle.std.specs.List.{AllByRecursion}
use Rattle.std.proofs.lemmas.Bool.{cases_Bool, true≢false, and_parts}
use Rattle.ap_base.specs.declared.place.Place.{Place}
use Rattle.ap_base.specs.declared.place.Place.TheVariants.{Static, Slot}
use Rattle.graph_model.specs.declared.types.Heap.{Heap}
use Rattle.graph_model.specs.Heaps.{has_number, value_at}
use Rattle.line_image.specs.Trace.{Outcome}
use Rattle.line_memory.specs.Memory.{Memory, shown, CanLeaveAll}
use Rattle.image_layout.specs.Places.{logs, first_object_line, object_line}
use Rattle.image_meaning.specs.Logs.{put_back}
use Rattle.image_meaning.specs.Corresponds.{Holds}
use Rattle.image_meaning.specs.Laws.{Opens}
use Rattle.image_meaning.proofs.Changes.{holds_too}
use Rattle.image_meaning.proofs.Logs.{not_log_after}
use Rattle.image_meaning.proofs.Recovering.{some_or}
use Rattle.image_meaning.proofs.Naming.{below_some}
use Rattle.run_history.specs.declared.act.Op.TheVariants as op
use Rattle.run_history.specs.Knowing.{Sure, Mark, Knowledge, with_sure, known_after_op, next_known}
use Rattle.run_history.specs.Kept.{survives}
use Rattle.stop_theorem.specs.Choices.{Threads, NoThread, MayHave, AllKept}
use Rattle.stop_theorem.specs.Orderly.{is_among_durable, IsSureElsewhere, IsOrderly}
use Rattle.stop_theorem.proofs.Having.{having_elsewhere, having_whole}
use Rattle.stop_theorem.proofs.Marks.{all_sure}
use Rattle.stop_theorem.specs.Layouts.{Layout, Lies, place_line, place_word, place_kind, is_kept_place}
use Rattle.stop_theorem.specs.Stops.{regions_of, named_in, keeps_of, PlaceIsCovered, IsCovered, Stands}
use Rattle.stop_theorem.proofs.Acting.{kept_there, act_of, order_by}
use Rattle.stop_theorem.proofs.Stored.{put_back_plain}
use Rattle.stop_theorem.proofs.Held.{holds_shown}
use Rattle.stop_theorem.proofs.KeptPlaces.{slot_parts, slot_has, lies_there}
use Rattle.stop_theorem.proofs.Apart.{places_apart, heads_apart}
use Rattle.stop_theorem.specs.StoreEvents.{Joins}
use Rattle.stop_theorem.specs.StoreLaws.{JoinsKeep}

has_more : (ns ms : List ℕ) (n : ℕ) → has_number ns n ≡ true → has_number (ns ++ ms) n ≡ true
has_more [] ms n is = absurd (true≢false (sym is))
has_more (k ∷ ns) ms n is = elim (nat_eq k n) as (λ b. (b || has_number ns n) ≡ true
    → (b || has_number (ns ++ ms) n) ≡ true) [ true ↦ λ _. refl | false ↦ λ rest. has_more ns ms n rest ] is

kept_elsewhere : (r : ℕ → Bool) (p : Place) (known : Knowledge) (ms : List Mark)
    → AllByRecursion (IsSureElsewhere known) ms
    → is_among_durable known.world.heap known.durable p ≡ false → AllKept r p ms
kept_elsewhere r p known [] all isnt = tt
kept_elsewhere r p known (m ∷ ms) all isnt =
    (λ is. ap (λ fate. survives r (λ t. true) fate) (all.0 p is isnt), kept_elsewhere r p known ms all.1 isnt)

module _ (first : Heap) (known : Knowledge) (lay new : Layout) (Waits : Threads) (m : Memory) (t at : ℕ)
    (named : List ℕ)
    (s : Stands first known lay Waits m) (joins : Joins known lay new m t at named)
    (orderly : IsOrderly first (next_known known (act_of t at op.Joined named))) where
  abbrev next : Knowledge
  next = next_known known (act_of t at op.Joined named)

  durable_too : (n : ℕ) → has_number known.durable n ≡ true → has_number next.durable n ≡ true
  unfolding known_after_op
  durable_too n is = has_more known.durable named n is

  kept_too : (p : Place) → is_kept_place known p ≡ true → is_kept_place next p ≡ true
  unfolding known_after_op
  kept_too (Static n) is = is
  kept_too (Slot n i) is =
      let slot = slot_parts known n i is in
      slot_has next n i slot.mark (has_more known.durable named n slot.durable) slot.has

  line_too : (p : Place) → is_kept_place known p ≡ true
      → place_line new known.world.heap p ≡ place_line lay known.world.heap p
  line_too (Static n) is = refl
  line_too (Slot n i) is = ap (λ l. object_line l i) (joins.lines n (slot_parts known n i is).durable)

  lies_too : (line n : ℕ) → Lies lay known line n → Lies new next line n
  unfolding known_after_op
  lies_too line n is = let parts = and_parts (has_number known.durable n) (lay.line_of n == line) is in
      rw (has_more known.durable named n parts.0, joins.lines n parts.0, parts.1) refl

  heap_same : next.world.heap ≡ known.world.heap
  unfolding known_after_op
  heap_same = refl

  marks_are : next.marks ≡ with_sure known.marks op.Joined
  unfolding known_after_op
  marks_are = refl

  -- a place that wasn't kept is a slot of a new object
  not_durable : (p : Place) → is_kept_place next p ≡ true → is_kept_place known p ≡ false
      → is_among_durable known.world.heap known.durable p ≡ false
  unfolding known_after_op
  not_durable (Static n) is isnt = absurd (true≢false (sym is ∙ isnt))
  not_durable (Slot n i) is isnt = elim (cases_Bool (has_number known.durable n)) [
    | inr none ↦ none
    | inl some ↦ (
        let slot = slot_parts next n i is in
        absurd (true≢false (sym (slot_has known n i slot.mark some slot.has) ∙ isnt)))
  ]

  place_far : (p : Place) → is_kept_place next p ≡ true → is_kept_place known p ≡ false
      → first_object_line ≤ place_line new known.world.heap p
  unfolding known_after_op
  place_far (Static n) is isnt = absurd (true≢false (sym is ∙ isnt))
  place_far (Slot n i) is isnt =
      let low = (joins.shows.objects (new.line_of n) n
      (lies_there new next n (slot_parts next n i is).durable)).low in
      omega (arith, low)

  module _ (K : Threads) (c : Outcome) (left : CanLeaveAll m c)
      (covered : IsCovered first known lay K c) where
    -- no counted entry names a word of a new object
    unnamed_word : (line word : ℕ)
        → ((p : Place) → is_kept_place known p ≡ true → line ≡ place_line new known.world.heap p
        → word ≡ place_word known.world.heap p → ⊥)
        → named_in c line word ≡ None
    unnamed_word line word apart = elim (some_or (named_in c line word)) [
      | inl none ↦ none
      | inr some ↦ (
          let found = below_some c line word some.0 logs some.1 in
          let g = covered.named found.0 line word some.0 found.1 found.2 in
          absurd (apart g.place g.is_kept (g.line_is ∙ sym (line_too g.place g.is_kept)) g.word_is))
    ]

    new_unnamed : (p : Place) → is_kept_place next p ≡ true → is_kept_place known p ≡ false
        → named_in c (place_line new known.world.heap p) (place_word known.world.heap p) ≡ None
    unfolding known_after_op
    new_unnamed p is isnt = unnamed_word (place_line new known.world.heap p) (place_word known.world.heap p)
        (λ q kept line word.
        let same : p ≡ q = places_apart next new (shown m) joins.shows s.roots p q is
        (kept_too q kept) line word in
        true≢false (sym (ap (λ (x : Place). is_kept_place known x) same ∙ kept) ∙ isnt))

    new_head : (n : ℕ) → has_number next.durable n ≡ true → has_number known.durable n ≡ false
        → put_back c (new.line_of n) 0 ≡ new.head n
    unfolding known_after_op
    new_head n is isnt =
        let low = (joins.shows.objects (new.line_of n) n (lies_there new next n is)).low in
        let none = unnamed_word (new.line_of n) 0
        (λ q kept line word. heads_apart next new (shown m) joins.shows q n (kept_too q kept) is
        (sym line) (sym word)) in
        put_back_plain c (new.line_of n) 0 (not_log_after (new.line_of n) low) none
        ∙ joins.durable_heads n is isnt (c (new.line_of n) 0) (left (new.line_of n) 0) ∙ joins.heads n is

    covered_joined : IsCovered first next new K c
    unfolding known_after_op
    covered_joined = record {
      opens = subst (λ d. Opens new.size c d) (sym joins.directory)
          (subst (λ k. Opens k c lay.directory) (sym joins.size) covered.opens);
      heads = λ n is. elim (cases_Bool (has_number known.durable n)) [
        | inl was ↦ ap (λ l. put_back c l 0) (joins.lines n was) ∙ covered.heads n was
            ∙ sym (joins.same_heads n was)
        | inr isnt ↦ new_head n is isnt
      ];
      unused = covered.unused;
      named = λ u line word o below is.
          let g = covered.named u line word o below is in
          record {
            place = g.place;
            is_kept = kept_too g.place g.is_kept;
            line_is = g.line_is
                ∙ sym (line_too g.place g.is_kept);
            word_is = g.word_is;
            guard = g.guard;
          };
      free = λ p is none. elim (cases_Bool (is_kept_place known p)) [
        | inl was ↦ all_sure (regions_of c) p op.Joined known.marks
            (covered.free p was (ap (λ l. named_in c l (place_word known.world.heap p)) (sym (line_too p was))
            ∙ none))
        | inr isnt ↦ all_sure (regions_of c) p op.Joined known.marks
            (kept_elsewhere (regions_of c) p known known.marks s.orderly.elsewhere (not_durable p is isnt))
      ];
      places = λ p is. elim (cases_Bool (is_kept_place known p)) [
        | inl was ↦ old_place p was (covered.places p was)
        | inr isnt ↦ new_place p is isnt
      ];
    }
      where
        old_place : (p : Place) → is_kept_place known p ≡ true → PlaceIsCovered first known lay K c p
            → PlaceIsCovered first next new K c p
        old_place p was old_at = record {
          value = old_at.value;
          holds = subst (λ l. Holds (Lies new next) (place_kind known.world.heap p)
              (put_back c l (place_word known.world.heap p)) old_at.value) (sym (line_too p was))
              (holds_too (Lies lay known) (Lies new next) lies_too (place_kind known.world.heap p)
              (put_back c (place_line lay known.world.heap p)
              (place_word known.world.heap p)) old_at.value old_at.holds);
          has = subst (λ l. MayHave first (with_sure known.marks op.Joined) (regions_of c)
              (keeps_of K (named_in c l (place_word known.world.heap p))) p old_at.value)
              (sym (line_too p was))
              (having_elsewhere first known.marks (regions_of c)
              (keeps_of K (named_in c (place_line lay known.world.heap p)
              (place_word known.world.heap p))) p old_at.value Sure op.Joined s.orderly.lost
              (kept_there first known p s.orderly was) refl old_at.has);
        }

        new_place : (p : Place) → is_kept_place next p ≡ true → is_kept_place known p ≡ false
            → PlaceIsCovered first next new K c p
        new_place p is isnt =
            let line = place_line new known.world.heap p in
            let word = place_word known.world.heap p in
            let plain : put_back c line word ≡ shown m line word =
            put_back_plain c line word (not_log_after line (place_far p is isnt)) (new_unnamed p is isnt)
            ∙ joins.durable_words p is isnt (c line word) (left line word) in
            record {
              value = value_at known.world.heap p;
              holds = subst (λ x. Holds (Lies new next) (place_kind known.world.heap p) x
                  (value_at known.world.heap p)) (sym plain)
                  (holds_shown next new (shown m) joins.shows p is);
              has = subst (λ (h : Heap). MayHave first next.marks (regions_of c)
                  (keeps_of K (named_in c line word)) p (value_at h p)) (sym orderly.heap)
                  (having_whole first next.marks (regions_of c)
                  (keeps_of K (named_in c line word)) p orderly.lost
                  (all_sure (regions_of c) p op.Joined known.marks
                  (kept_elsewhere (regions_of c) p known known.marks s.orderly.elsewhere
                  (not_durable p is isnt))));
            }

  -- The objects are sealed.
  pub stands_joined : Stands first next new Waits m
  unfolding known_after_op
  stands_joined = record {
    orderly = orderly;
    size = s.size ∙ sym joins.size;
    roots = s.roots;
    shows = joins.shows;
    heads = λ n is. joins.heads n is;
    apart = places_apart next new (shown m) joins.shows s.roots;
    no_heads = heads_apart next new (shown m) joins.shows;
    leaves = λ c left. covered_joined NoThread c left (s.leaves c left);
    fenced = λ c left after. covered_joined Waits c left (s.fenced c left after);
  }

pub joins_keep : JoinsKeep
joins_keep first known lay new Waits m t at named s joins =
    stands_joined first known lay new Waits m t at named s joins
    (order_by first known t at named op.Joined s.orderly tt)
