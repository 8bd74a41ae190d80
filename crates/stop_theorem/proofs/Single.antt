-- A durable store outside regions: other threads' stores, in the same line or at the same place too, may be
-- unfenced.
use Rattle.std.proofs.Common.{◌≡◌, ◌≢◌, inl, inr, ℕ, ◌<◌, Bool, true, false, ◌&&◌, List, [], ◌∷◌, ◌++◌, length, Option, None}
use Rattle.std.proofs.Common.{refl, sym, ◌∙◌, ap, subst, if◌then◌else◌}
use Rattle.std.proofs.lemmas.Bool.{cases_Bool, true≢false, and_parts}
use Rattle.ap_base.specs.declared.place.Place.{Place}
use Rattle.graph_model.specs.declared.types.Value.{Value}
use Rattle.graph_model.specs.declared.types.Heap.{Heap}
use Rattle.graph_model.specs.Heaps.{has_number, value_at, place_is}
use Rattle.line_image.specs.Trace.{Outcome}
use Rattle.line_memory.specs.Memory.{Memory, shown}
use Rattle.image_layout.specs.Places.{root_slots, slot_line, slot_word}
use Rattle.image_meaning.specs.Logs.{put_back}
use Rattle.image_meaning.specs.Corresponds.{Holds, Corresponds}
use Rattle.run_history.specs.declared.act.Op.TheVariants as op
use Rattle.run_history.specs.Worlds.{heap_after, has_place, depth_of}
use Rattle.run_history.specs.Knowing.{Fate, Single, Mark, Knowledge, guard_of, durable_at, fate_of, known_after_op, next_known}
use Rattle.run_history.specs.Knowing.{owes_fence, Sure, Open, Closing, store_fate}
use Rattle.stop_theorem.specs.Choices.{Threads, MayHave, AllKept, stores_at}
use Rattle.stop_theorem.specs.Orderly.{ops_of_marks, NoSingleOf, IsOrderly}
use Rattle.run_history.proofs.Sizes.{stored-sizes, value_stored}
use Rattle.stop_theorem.proofs.Having.{having_elsewhere, having_single, having_whole}
use Rattle.stop_theorem.proofs.Joint.{same_place, is_same_place}
use Rattle.stop_theorem.proofs.Marks.{all_single}
use Rattle.stop_theorem.specs.Layouts.{Layout, Lies, place_line, place_word, place_kind, is_kept_place, KeepsPlaces}
use Rattle.stop_theorem.specs.Stops.{regions_of, named_in, keeps_of, PlaceIsCovered, IsCovered, Stands}
use Rattle.stop_theorem.specs.InvariantEvents.{Puts}
use Rattle.stop_theorem.proofs.Places.{keeps_same, covered_act, line_same, word_same, holds_same, has_same}
use Rattle.stop_theorem.proofs.Acting.{kept_there, act_of, order_by}
use Rattle.stop_theorem.proofs.Changed.{covered_same_logs, place_still, named_same, regions_same}
use Rattle.stop_theorem.proofs.Calls.{stands_store}
use Rattle.stop_theorem.proofs.Stored.{place_lies, not_log, changed_front, changed_logs, root_used, unnamed, unused_elsewhere}
use Rattle.stop_theorem.proofs.Stored.{put_back_plain}
use Rattle.stop_theorem.proofs.Showing.{shows_stored}
use Rattle.stop_theorem.specs.StoreLaws.{SingleStoresKeep}

module _ (first : Heap) (known : Knowledge) (lay : Layout) (Waits : Threads) (old new : Memory) (t at : ℕ)
    (p : Place) (v : Value) (s : Stands first known lay Waits old) where
  abbrev next : Knowledge
  next = next_known known (act_of t at (op.Stored p v) [])

  marks_are : (fate : Fate) → fate_of known t p ≡ fate
      → next.marks ≡ known.marks ++ record { fate = fate; op = op.Stored p v } ∷ []
  unfolding known_after_op
  marks_are fate is = ap (λ f. known.marks ++ record { fate = f; op = op.Stored p v } ∷ []) is

  pub stored_places : KeepsPlaces known next
  unfolding known_after_op
  stored_places = keeps_same lay known next
      (record { durable = refl; sizes = stored-sizes known.world.heap p v })

  guards_are : next.guards ≡ known.guards
  unfolding known_after_op
  guards_are = refl

  value_there : is_kept_place known p ≡ true → IsOrderly first next
      → value_at (heap_after first (ops_of_marks next.marks)) p ≡ v
  unfolding known_after_op
  value_there kept orderly =
      let there = (and_parts (durable_at known p) (has_place known.world.heap p) kept).1 in
      ap (λ (h : Heap). value_at h p) (sym orderly.heap) ∙ value_stored known.world.heap p p v
      ∙ (let both : (if place_is p p && has_place known.world.heap p then v else value_at known.world.heap
      p) ≡ v = rw (is_same_place p, there) refl in both)

  -- the store is lost
  lost_single : fate_of known t p ≡ Single t → NoSingleOf t known.marks → is_kept_place known p ≡ true
      → guard_of known.guards p ≡ None
      → (K : Threads) (c : Outcome) → K t ≡ false → IsCovered first known lay K c
      → IsCovered first next lay K c
  lost_single fate none kept free K c not_waiting covered =
      covered_act first known next lay K K c stored_places
      (λ q u line word o guard below is. ap (λ g. guard_of g q) guards_are ∙ guard)
      (λ q is unnamed_there all. subst (λ (ms : List Mark). AllKept (regions_of c) q ms)
      (sym (marks_are (Single t) fate)) (all_single (regions_of c) q t (op.Stored p v) known.marks all))
      (λ q w is has.
      let n = named_in c (place_line lay known.world.heap q) (place_word known.world.heap q) in
      subst (λ (ms : List Mark). MayHave first ms (regions_of c) (keeps_of K n) q w)
      (sym (marks_are (Single t) fate))
      (elim (cases_Bool (stores_at q (op.Stored p v))) [
        | inr other ↦ having_elsewhere first known.marks (regions_of c) (keeps_of K n) q w (Single t)
            (op.Stored p v) s.orderly.lost (kept_there first known q s.orderly is) other has
        | inl same ↦ (
            let e : p ≡ q = same_place p q same in
            let plain : n ≡ None = ap (λ (x : Place). named_in c (place_line lay known.world.heap x)
            (place_word known.world.heap x)) (sym e)
            ∙ unnamed first known lay K Waits old c s covered p kept free in
            subst (λ (o : Option ℕ). MayHave first
            (known.marks ++ record { fate = Single t; op = op.Stored p v } ∷ []) (regions_of c)
            (keeps_of K o) q w) (sym plain)
            (having_single first known.marks (regions_of c) K q w t
            (op.Stored p v) s.orderly.lost none not_waiting
            (subst (λ (o : Option ℕ). MayHave first known.marks (regions_of c)
            (keeps_of K o) q w) plain has)))
      ]))
      covered

  -- the store is left
  made_single : is_kept_place known p ≡ true → guard_of known.guards p ≡ None → IsOrderly first next
      → (x : ℕ) → Holds (Lies lay known) (place_kind known.world.heap p) x v
      → (K : Threads) (c d : Outcome)
      → ((l w : ℕ) → (l ≡ place_line lay known.world.heap p → w ≢ place_word known.world.heap p)
      → d l w ≡ c l w)
      → d (place_line lay known.world.heap p) (place_word known.world.heap p) ≡ x
      → IsCovered first known lay K c → IsCovered first next lay K c → IsCovered first next lay K d
  made_single kept free orderly x holds K c d others is was covered =
      let line = place_line lay known.world.heap p in
      let word = place_word known.world.heap p in
      let lies = place_lies first known lay Waits old s p kept in
      let logs_are = changed_logs first next lay K c d line word lies others covered in
      let front = changed_front first next lay K c d line word lies others covered in
      let plain : named_in d line word ≡ None = named_same c d logs_are line word
      ∙ unnamed first known lay K Waits old c s was p kept free in
      let word_left : put_back d line word ≡ x = put_back_plain d line word (not_log line word lies) plain
      ∙ is in
      let plain_next : named_in c (place_line lay next.world.heap p) (place_word next.world.heap p) ≡ None =
      ap (λ l. named_in c l (place_word next.world.heap p))
      (line_same lay known.world.heap next.world.heap stored_places.roots p)
      ∙ ap (λ w. named_in c line w) (word_same known.world.heap next.world.heap stored_places.roots p)
      ∙ unnamed first known lay K Waits old c s was p kept free in
      covered_same_logs first next lay K c d logs_are front
      (λ n durable. others (lay.line_of n) 0 (λ e f. s.no_heads p n kept
      (subst (λ (ns : List ℕ). has_number ns n ≡ true) stored_places.durable durable) (sym e) (sym f)))
      (λ r low high. others (slot_line r) (slot_word r)
      (λ e f. unused_elsewhere line word (length known.world.heap.roots) r lies (used kept)
      (rw stored_places.roots at low) high e f))
      (λ q is_q at_q. elim (cases_Bool (place_is p q)) [
        | inl same ↦ (
            let e : p ≡ q = same_place p q same in
            subst (λ (y : Place). PlaceIsCovered first next lay K d y) e (record {
              value = v;
              holds = holds_same known next lay stored_places d p v kept
                  (subst (λ y. Holds (Lies lay known) (place_kind known.world.heap p) y v)
                  (sym word_left) holds);
              has = has_same first known next lay K d p v stored_places.roots
                  (subst (λ (y : Value). MayHave first next.marks (regions_of d)
                  (keeps_of K (named_in d line word)) p y) (value_there kept orderly)
                  (having_whole first next.marks (regions_of d)
                  (keeps_of K (named_in d line word)) p orderly.lost
                  (subst (λ (r : ℕ → Bool). AllKept r p next.marks) (sym (regions_same c d logs_are))
                  (covered.free p (stored_places.kept p ∙ kept) plain_next))));
            }))
        | inr other ↦ place_still first next lay K c d logs_are front q
            (others (place_line lay next.world.heap q) (place_word next.world.heap q)
            (λ e f.
            let q_kept : is_kept_place known q ≡ true = sym (stored_places.kept q) ∙ is_q in
            let same : q ≡ p = s.apart q p q_kept kept
            (sym (line_same lay known.world.heap next.world.heap stored_places.roots q) ∙ e)
            (sym (word_same known.world.heap next.world.heap stored_places.roots q) ∙ f) in
            absurd (true≢false (sym (is_same_place p) ∙ ap (λ (y : Place). place_is p y) (sym same)
            ∙ other)))) at_q
      ])
      covered
    where
      used : is_kept_place known p ≡ true → (k : ℕ) → place_line lay known.world.heap p ≡ slot_line k
          → place_word known.world.heap p ≡ slot_word k → k < root_slots → k < length known.world.heap.roots
      used kept k e f below = root_used first known lay Waits old s p kept k e f below

  -- Thread t stores at a durable place that nobody guards, outside regions, and owes no fence.
  pub stands_stored : (x : ℕ) → Puts (place_line lay known.world.heap p)
      (place_word known.world.heap p) x old new → place_line lay known.world.heap p < old.size
      → is_kept_place known p ≡ true → guard_of known.guards p ≡ None → fate_of known t p ≡ Single t
      → owes_fence known.unfenced t ≡ false → Waits t ≡ false
      → Holds (Lies lay known) (place_kind known.world.heap p) x v
      → IsOrderly first next → Corresponds (Lies lay next) lay.directory lay.size (shown new) next.world.heap
      → Stands first next lay Waits new
  stands_stored x puts inside kept free fate owes waits holds orderly shows =
      let idle : (K : Threads) → ((u : ℕ) → K u ≡ true → Waits u ≡ true) → K t ≡ false = λ K fewer.
      elim (cases_Bool (K t)) [ inl is ↦ absurd (true≢false (sym (fewer t is) ∙ waits)) | inr isnt ↦ isnt ] in
      let none = s.orderly.owed t owes in
      stands_store first known next lay Waits old new (place_line lay known.world.heap p)
      (place_word known.world.heap p) x puts inside stored_places orderly shows
      (λ n durable line. s.no_heads p n kept durable line)
      (λ K c fewer left covered. lost_single fate none kept free K c (idle K fewer) covered)
      (λ K c d fewer left left_new others is covered.
      made_single kept free orderly x holds K c d others is covered
      (lost_single fate none kept free K c (idle K fewer) covered))
      s

-- a single store is outside regions
no_depth : (t u : ℕ) (d : Bool) (depth : ℕ) (closing : Bool) → store_fate t d depth closing ≡ Single u
    → depth ≢ 0 → ⊥
no_depth t u false depth closing is some = let wrong : Sure ≡ Single u = is in apart u wrong
  where
    apart : (k : ℕ) → Sure ≡ Single k → ⊥
    apart k e = true≢false
        (ap (λ (fate : Fate). elim fate [ Sure ↦ true | Open n ↦ true | Closing n ↦ true | Single n ↦ false ])
        e)
no_depth t u true ℕ.zero closing is some = some refl
no_depth t u true (ℕ.suc depth) true is some = true≢false
    (ap (λ (fate : Fate). elim fate [ Sure ↦ true | Open n ↦ true | Closing n ↦ true | Single n ↦ false ]) is)
no_depth t u true (ℕ.suc depth) false is some = true≢false
    (ap (λ (fate : Fate). elim fate [ Sure ↦ true | Open n ↦ true | Closing n ↦ true | Single n ↦ false ]) is)

pub single_keeps : SingleStoresKeep
unfolding known_after_op
single_keeps first known lay Waits old new t at p v x s puts inside kept free fate owes waits holds =
    stands_stored first known lay Waits old new t at p v s x puts inside kept free fate owes waits holds
    (order_by first known t at [] (op.Stored p v) s.orderly (
      owes,
      λ durable some. absurd (no_depth t t (durable_at known p) (depth_of known.world t)
          (has_number known.closing t) fate some),
    ))
    (shows_stored first known lay Waits old new s p v x puts kept holds)
