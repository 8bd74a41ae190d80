-- Stores of an open region, and words of a log that no count covers.
use Rattle.stop_theorem.proofs.Marks.{all_last}
use Rattle.std.proofs.Common.{◌≡◌, ◌≢◌, ◌⊎◌, inl, inr, ℕ, ◌<◌, ◌≤◌, Bool, true, List, [], ◌∷◌, ◌++◌, length, Option, Some, None}
use Rattle.std.proofs.Common.{refl, sym, ◌∙◌, ap, subst, arith, if◌then◌else◌}
use Rattle.std.proofs.lemmas.Bool.{cases_Bool, true≢false, eq-eqb}
use Rattle.ap_base.specs.declared.place.Place.{Place}
use Rattle.graph_model.specs.declared.types.Value.{Value}
use Rattle.graph_model.specs.declared.types.Heap.{Heap}
use Rattle.graph_model.specs.Heaps.{has_number, place_is}
use Rattle.line_image.specs.Trace.{Outcome}
use Rattle.line_memory.specs.Memory.{Memory, shown, CanLeaveAll}
use Rattle.image_layout.specs.Places.{slot_line, slot_word, first_object_line, log_head_line}
use Rattle.image_meaning.specs.Checks.{Words}
use Rattle.image_meaning.specs.Logs.{is_log_line, put_back, SameLogs}
use Rattle.image_meaning.specs.Corresponds.{Holds, Corresponds}
use Rattle.run_history.specs.declared.act.Op.TheVariants as op
use Rattle.run_history.specs.Knowing.{Open, Mark, Knowledge, guard_of, fate_of, known_after_op, next_known}
use Rattle.stop_theorem.specs.Choices.{Threads, MayHave, AllKept}
use Rattle.stop_theorem.specs.Orderly.{IsOrderly}
use Rattle.run_history.proofs.Sizes.{sizes_refl}
use Rattle.stop_theorem.proofs.Having.{having_open}
use Rattle.stop_theorem.proofs.Joint.{same_place, is_same_place}
use Rattle.stop_theorem.specs.Layouts.{Layout, Lies, place_line, place_word, place_kind, is_kept_place, KeepsPlaces}
use Rattle.stop_theorem.specs.Stops.{regions_of, named_in, keeps_of, PlaceIsCovered, IsCovered, Stands}
use Rattle.stop_theorem.specs.InvariantEvents.{Puts}
use Rattle.stop_theorem.proofs.Places.{keeps_same, covered_act, line_same, word_same}
use Rattle.stop_theorem.proofs.Acting.{act_of, store_places}
use Rattle.stop_theorem.proofs.Changed.{covered_same_logs, place_still, named_same, regions_same}
use Rattle.stop_theorem.proofs.Calls.{stands_store}
use Rattle.stop_theorem.proofs.Stored.{place_lies, not_log, front_outside, changed_front, changed_logs, root_used, is_log}
use Rattle.stop_theorem.proofs.Stored.{unused_elsewhere}

put_back_is : (c : Words) (line word old : ℕ) → named_in c line word ≡ Some old
    → put_back c line word ≡ (if is_log_line line then 0 else old)
unfolding put_back
put_back_is c line word old is = rw is refl

-- a place whose word is put back
pub place_named : (first : Heap) (known : Knowledge) (lay : Layout) (K : Threads) (c d : Outcome)
    → SameLogs c d → (p : Place) (old : ℕ)
    → named_in c (place_line lay known.world.heap p) (place_word known.world.heap p) ≡ Some old
    → PlaceIsCovered first known lay K c p → PlaceIsCovered first known lay K d p
place_named first known lay K c d logs_are p old is at =
    let line = place_line lay known.world.heap p in
    let word = place_word known.world.heap p in
    let named = named_same c d logs_are line word in
    let same : put_back d line word ≡ put_back c line word = put_back_is d line word old (named ∙ is)
    ∙ sym (put_back_is c line word old is) in
    record {
      value = at.value;
      holds = subst (λ x. Holds (Lies lay known) (place_kind known.world.heap p) x at.value)
          (sym same) at.holds;
      has = subst (λ (o : Option ℕ). MayHave first known.marks (regions_of d) (keeps_of K o) p at.value)
          (sym named)
          (subst (λ (r : ℕ → Bool). MayHave first known.marks r
          (keeps_of K (named_in c line word)) p at.value) (sym (regions_same c d logs_are)) at.has);
    }

-- Thread t stores in its open region, at a place whose entry is whole.
module _ (first : Heap) (known : Knowledge) (lay : Layout) (Waits : Threads) (old new : Memory) (t at : ℕ)
    (p : Place) (v : Value) (s : Stands first known lay Waits old) where
  abbrev next : Knowledge
  next = next_known known (act_of t at (op.Stored p v) [])

  abbrev places : KeepsPlaces known next
  places = store_places known lay t at p v

  marks_are : fate_of known t p ≡ Open t
      → next.marks ≡ known.marks ++ record { fate = Open t; op = op.Stored p v } ∷ []
  unfolding known_after_op
  marks_are is = ap (λ f. known.marks ++ record { fate = f; op = op.Stored p v } ∷ []) is

  guards_are : next.guards ≡ known.guards
  unfolding known_after_op
  guards_are = refl

  lost_open : fate_of known t p ≡ Open t → (K : Threads) (c : Outcome) (o : ℕ)
      → named_in c (place_line lay known.world.heap p) (place_word known.world.heap p) ≡ Some o
      → IsCovered first known lay K c → IsCovered first next lay K c
  lost_open fate K c o logged covered =
      covered_act first known next lay K K c places
      (λ q u line word x guard below is. ap (λ g. guard_of g q) guards_are ∙ guard)
      (λ q is none all. subst (λ (ms : List Mark). AllKept (regions_of c) q ms) (sym (marks_are fate))
      (all_last (regions_of c) q (record { fate = Open t; op = op.Stored p v }) known.marks all
      (λ here. absurd
      (let e : p ≡ q = same_place p q here in
      let wrong : None ≡ Some o = sym none ∙ ap
      (λ (y : Place). named_in c (place_line lay known.world.heap y) (place_word known.world.heap y))
      (sym e) ∙ logged in cc))))
      (λ q w is has.
      let n = named_in c (place_line lay known.world.heap q) (place_word known.world.heap q) in
      subst (λ (ms : List Mark). MayHave first ms (regions_of c) (keeps_of K n) q w) (sym (marks_are fate))
      (having_open first known.marks (regions_of c) (keeps_of K n) q w t (op.Stored p v) has))
      covered

  made_open : is_kept_place known p ≡ true → (K : Threads) (c d : Outcome) (o : ℕ)
      → named_in c (place_line lay known.world.heap p) (place_word known.world.heap p) ≡ Some o
      → ((l w : ℕ) → (l ≡ place_line lay known.world.heap p → w ≢ place_word known.world.heap p)
      → d l w ≡ c l w)
      → IsCovered first next lay K c → IsCovered first next lay K d
  made_open kept K c d o logged others covered =
      let line = place_line lay known.world.heap p in
      let word = place_word known.world.heap p in
      let lies = place_lies first known lay Waits old s p kept in
      let logs_are = changed_logs first next lay K c d line word lies others covered in
      let front = changed_front first next lay K c d line word lies others covered in
      let logged_next : named_in c (place_line lay next.world.heap p)
      (place_word next.world.heap p) ≡ Some o =
      ap (λ l. named_in c l (place_word next.world.heap p))
      (line_same lay known.world.heap next.world.heap places.roots p)
      ∙ ap (λ w. named_in c line w) (word_same known.world.heap next.world.heap places.roots p) ∙ logged in
      covered_same_logs first next lay K c d logs_are front
      (λ n durable. others (lay.line_of n) 0 (λ e f. s.no_heads p n kept
      (subst (λ (ns : List ℕ). has_number ns n ≡ true) places.durable durable) (sym e) (sym f)))
      (λ r low high. others (slot_line r) (slot_word r)
      (λ e f. unused_elsewhere line word (length known.world.heap.roots) r lies
      (λ k. root_used first known lay Waits old s p kept k) (rw places.roots at low) high e f))
      (λ q is_q at_q. elim (cases_Bool (place_is p q)) [
        | inl same ↦ (
            let e : p ≡ q = same_place p q same in
            place_named first next lay K c d logs_are q o
            (subst (λ (y : Place). named_in c (place_line lay next.world.heap y)
            (place_word next.world.heap y) ≡ Some o) e logged_next) at_q)
        | inr other ↦ place_still first next lay K c d logs_are front q
            (others (place_line lay next.world.heap q) (place_word next.world.heap q)
            (λ e f.
            let q_kept : is_kept_place known q ≡ true = sym (places.kept q) ∙ is_q in
            let same : q ≡ p = s.apart q p q_kept kept
            (sym (line_same lay known.world.heap next.world.heap places.roots q) ∙ e)
            (sym (word_same known.world.heap next.world.heap places.roots q) ∙ f) in
            absurd (true≢false (sym (is_same_place p) ∙ ap (λ (y : Place). place_is p y) (sym same)
            ∙ other)))) at_q
      ])
      covered

  pub stands_region_store : (x : ℕ) → Puts (place_line lay known.world.heap p)
      (place_word known.world.heap p) x old new → place_line lay known.world.heap p < old.size
      → is_kept_place known p ≡ true → fate_of known t p ≡ Open t
      → ((c : Outcome) → CanLeaveAll old c → (o : ℕ)
      × (named_in c (place_line lay known.world.heap p) (place_word known.world.heap p) ≡ Some o))
      → IsOrderly first next → Corresponds (Lies lay next) lay.directory lay.size (shown new) next.world.heap
      → Stands first next lay Waits new
  stands_region_store x puts inside kept fate logged orderly shows =
      stands_store first known next lay Waits old new (place_line lay known.world.heap p)
      (place_word known.world.heap p) x puts inside places orderly shows
      (λ n durable line. s.no_heads p n kept durable line)
      (λ K c fewer left covered. let l = logged c left in lost_open fate K c l.0 l.1 covered)
      (λ K c d fewer left left_new others is covered. let l = logged c left in
      made_open kept K c d l.0 l.1 others (lost_open fate K c l.0 l.1 covered))
      s

-- A word of a log is stored that no count covers.
pub stands_log_word : (first : Heap) (known : Knowledge) (lay : Layout) (Waits : Threads) (old new : Memory)
    (line word x : ℕ) → Puts line word x old new → line < old.size
    → is_log_line line ≡ true
    → ((c d : Outcome) → CanLeaveAll old c → CanLeaveAll new d
    → ((l w : ℕ) → (l ≡ line → w ≢ word) → d l w ≡ c l w) → SameLogs c d)
    → Corresponds (Lies lay known) lay.directory lay.size (shown new) known.world.heap
    → Stands first known lay Waits old → Stands first known lay Waits new
stands_log_word first known lay Waits old new line word x puts inside log uncounted shows s =
    let bounds = log_bounds line log in
    stands_store first known known lay Waits old new line word x puts inside
    (keeps_same lay known known (record { durable = refl; sizes = sizes_refl known.world.heap }))
    s.orderly shows
    (λ n durable e. absurd (let low = (s.shows.objects (lay.line_of n) n
    (rw (durable, eq-eqb (lay.line_of n) (lay.line_of n) refl) refl)).low in omega (arith, low, e, bounds.1)))
    (λ K c fewer left covered. covered)
    (λ K c d fewer left left_new others is covered.
    let logs_are = uncounted c d left left_new others in
    let front = front_outside lay.size c d lay.directory covered.opens
    (λ l w f. others l w (λ e. absurd (not_front l f e bounds.0))) in
    covered_same_logs first known lay K c d logs_are front
    (λ n durable. others (lay.line_of n) 0 (λ e. absurd
    (let low = (s.shows.objects (lay.line_of n) n
    (rw (durable, eq-eqb (lay.line_of n) (lay.line_of n) refl) refl)).low in
    omega (arith, low, e, bounds.1))))
    (λ r low high. others (slot_line r) (slot_word r) (λ e. absurd (omega (arith, e, high, bounds.0))))
    (λ p kept at. place_still first known lay K c d logs_are front p
    (others (place_line lay known.world.heap p) (place_word known.world.heap p)
    (λ e. absurd (true≢false (sym log ∙ ap is_log_line (sym e)
    ∙ not_log (place_line lay known.world.heap p) (place_word known.world.heap p)
    (place_lies first known lay Waits old s p kept))))) at)
    covered)
    s
  where
    log_bounds : (l : ℕ) → is_log_line l ≡ true → (log_head_line 0 ≤ l) × (l < first_object_line)
    log_bounds l is = is_log l is

    not_front : (l : ℕ) → (l ≡ 0) ⊎ ((33 ≤ l) × (l < 4129)) → l ≡ line → log_head_line 0 ≤ line → ⊥
    not_front l (inl z) e low = absurd (omega (arith, z, e, low))
    not_front l (inr z) e low = absurd (omega (arith, z.1, e, low))
