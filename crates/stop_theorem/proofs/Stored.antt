-- Stores to words that nothing durable depends on, and where the words of durable places lie.
use Rattle.std.proofs.Common.{◌≡◌, ◌≢◌, ◌⊎◌, inl, inr, ℕ, ◌<◌, ◌≤◌, Bool, true, false, ◌||◌, List, [], ◌∷◌, length, Some, None}
use Rattle.std.proofs.Common.{refl, sym, ◌∙◌, ap, arith, nat_eq, nat_lt, nat_le, if◌then◌else◌}
use Rattle.std.specs.List.{AllByRecursion}
use Rattle.std.proofs.lemmas.Bool.{true≢false, eq-eqb, and_parts, leb-true, ltb-true}
use Rattle.ap_base.specs.declared.place.Place.{Place}
use Rattle.ap_base.specs.declared.place.Place.TheVariants.{Static, Slot}
use Rattle.graph_model.specs.declared.types.Root.{Root}
use Rattle.graph_model.specs.declared.types.Heap.{Heap}
use Rattle.line_image.specs.Trace.{Outcome}
use Rattle.line_memory.specs.Memory.{Memory, shown}
use Rattle.image_layout.specs.Places.{logs, root_slots, slot_line, slot_word, directory_line, directory_word, log_head_line}
use Rattle.image_layout.specs.Places.{first_object_line}
use Rattle.image_meaning.specs.Checks.{Words}
use Rattle.image_meaning.specs.Logs.{is_log_line, SameLogs, put_back}
use Rattle.image_meaning.specs.Corresponds.{Corresponds}
use Rattle.image_meaning.specs.Directories.{Directory}
use Rattle.image_meaning.specs.Laws.{Opens, SameFront}
use Rattle.image_meaning.proofs.Logs.{not_log_before, not_log_after}
use Rattle.image_meaning.proofs.Recovering.{some_or}
use Rattle.image_meaning.proofs.Standing.{use-within}
use Rattle.image_meaning.proofs.Naming.{below_some, logs_outside}
use Rattle.run_history.specs.Knowing.{Fate, Sure, Open, Closing, Single, Mark, Knowledge, guard_of, is_root}
use Rattle.run_history.specs.Kept.{survives}
use Rattle.stop_theorem.specs.Choices.{Threads, stores_at}
use Rattle.stop_theorem.specs.Orderly.{is_region_of, IsGuardedStore}
use Rattle.run_history.proofs.Sizes.{sizes_refl}
use Rattle.stop_theorem.specs.Layouts.{Layout, Lies, root_number, place_line, place_word, is_kept_place}
use Rattle.stop_theorem.specs.Stops.{named_in, IsCovered, Stands}
use Rattle.stop_theorem.specs.InvariantEvents.{Puts, IsFreeWord}
use Rattle.stop_theorem.proofs.Places.{keeps_same}
use Rattle.stop_theorem.proofs.Changed.{covered_same_logs, place_still}
use Rattle.stop_theorem.proofs.Calls.{stands_store}
use Rattle.stop_theorem.proofs.KeptPlaces.{slot_parts, root_parts, lies_there}

-- ---- lines

-- the front of an image that opens is not among the roots, the logs and the objects
pub front_outside : (size : ℕ) (c d : Words) (directory : Directory) → Opens size c directory
    → ((l w : ℕ) → (l ≡ 0) ⊎ ((33 ≤ l) × (l < 4129)) → d l w ≡ c l w) → SameFront c d
front_outside size c d directory opens same =
    let most = use-within size (c 0) opens.used opens.super in
    record {
      super = λ word below. same 0 word (inl refl);
      directory = λ i below. same (directory_line i) (directory_word i)
          (inr (omega arith, omega (arith, below, most)));
    }

-- where a kept place lies
pub data PlaceLies (line word : ℕ) : Type 0 where
  AtRoot : (r : ℕ) → r < root_slots → line ≡ slot_line r → word ≡ slot_word r → PlaceLies line word
  InObject : first_object_line ≤ line → PlaceLies line word

pub root_below : (roots : List Root) (s : ℕ) → is_root roots s ≡ true → root_number roots s < length roots
root_below [] s is = absurd (true≢false (sym is))
root_below (r ∷ rs) s is = elim (nat_eq r.at s) as (λ b. (b || is_root rs s) ≡ true
    → (if b then 0 else ℕ.suc (root_number rs s)) < ℕ.suc (length rs)) [
      | true ↦ λ _. omega arith
      | false ↦ λ rest. let below = root_below rs s rest in omega (arith, below)
    ] is

pub place_lies : (first : Heap) (known : Knowledge) (lay : Layout) (Waits : Threads) (m : Memory)
    → Stands first known lay Waits m → (p : Place) → is_kept_place known p ≡ true
    → PlaceLies (place_line lay known.world.heap p) (place_word known.world.heap p)
place_lies first known lay Waits m s (Static n) is =
    let root = (root_parts known n is).0 in
    let below = root_below known.world.heap.roots n root in
    let few = s.shows.few in
    AtRoot (root_number known.world.heap.roots n) (omega (arith, below, few)) refl refl
place_lies first known lay Waits m s (Slot n i) is =
    let durable = (slot_parts known n i is).durable in
    let low = (s.shows.objects (lay.line_of n) n (lies_there lay known n durable)).low in
    InObject (omega (arith, low))

pub not_log : (line word : ℕ) → PlaceLies line word → is_log_line line ≡ false
not_log line word (AtRoot r below at _) = not_log_before line (omega (arith, below, at))
not_log line word (InObject low) = not_log_after line low

pub is_log : (l : ℕ) → is_log_line l ≡ true → (log_head_line 0 ≤ l) × (l < first_object_line)
is_log l is = let parts = and_parts (nat_le (log_head_line 0) l) (nat_lt l first_object_line) is in
    (leb-true (log_head_line 0) l parts.0, ltb-true l first_object_line parts.1)

module _ (first : Heap) (known : Knowledge) (lay : Layout) (K : Threads) (c d : Outcome) (line word : ℕ)
    (lies : PlaceLies line word)
    (others : (l w : ℕ) → (l ≡ line → w ≢ word) → d l w ≡ c l w)
    (covered : IsCovered first known lay K c) where
  in_front : (l : ℕ) → (l ≡ 0) ⊎ ((33 ≤ l) × (l < 4129)) → l ≡ line → ⊥
  in_front l front e = apart lies front
    where
      apart : PlaceLies line word → (l ≡ 0) ⊎ ((33 ≤ l) × (l < 4129)) → ⊥
      apart (AtRoot r below at _) (inl z) = absurd (omega (arith, e, below, at, z))
      apart (AtRoot r below at _) (inr z) = absurd (omega (arith, e, below, at, z.0))
      apart (InObject low) (inl z) = absurd (omega (arith, e, low, z))
      apart (InObject low) (inr z) = absurd (omega (arith, e, low, z.1))

  pub changed_front : SameFront c d
  changed_front = front_outside lay.size c d lay.directory covered.opens
      (λ l w front. others l w (λ e. absurd (in_front l front e)))

  pub changed_logs : SameLogs c d
  changed_logs = logs_outside lay.size c d covered.opens.logs
      (λ l w log. others l w (λ e. absurd (true≢false (sym log ∙ ap is_log_line e ∙ not_log line word lies))))

-- ---- words that nothing durable depends on

-- A store to such a word keeps it all.
pub stands_free : (first : Heap) (known : Knowledge) (lay : Layout) (Waits : Threads) (old new : Memory)
    (line word x : ℕ) → Puts line word x old new → line < old.size
    → IsFreeWord known lay line word
    → Corresponds (Lies lay known) lay.directory lay.size (shown new) known.world.heap
    → Stands first known lay Waits old → Stands first known lay Waits new
stands_free first known lay Waits old new line word x puts inside free shows s =
    stands_store first known known lay Waits old new line word x puts inside
    (keeps_same lay known known (record { durable = refl; sizes = sizes_refl known.world.heap }))
    s.orderly shows free.no_head (λ K c fewer left covered. covered)
    (λ K c d fewer left left_new others is covered.
    let lies : PlaceLies line word = InObject free.low in
    let logs_are = changed_logs first known lay K c d line word lies others covered in
    covered_same_logs first known lay K c d logs_are
    (changed_front first known lay K c d line word lies others covered)
    (λ n durable. others (lay.line_of n) 0 (λ e f. free.no_head n durable (sym e) (sym f)))
    (λ r low high. others (slot_line r) (slot_word r)
    (λ e. absurd (let l = free.low in omega (arith, e, l, high))))
    (λ p kept at. place_still first known lay K c d logs_are
    (changed_front first known lay K c d line word lies others covered) p
    (others (place_line lay known.world.heap p) (place_word known.world.heap p)
    (λ e f. free.no_place p kept (sym e) (sym f))) at)
    covered)
    s

-- ---- one durable place

-- a place that nobody guards is named by no log
pub unnamed : (first : Heap) (known : Knowledge) (lay : Layout) (K Waits : Threads) (m : Memory) (c : Outcome)
    → Stands first known lay Waits m → IsCovered first known lay K c
    → (p : Place) → is_kept_place known p ≡ true → guard_of known.guards p ≡ None
    → named_in c (place_line lay known.world.heap p) (place_word known.world.heap p) ≡ None
unnamed first known lay K Waits m c s covered p kept none =
    let line = place_line lay known.world.heap p in
    let word = place_word known.world.heap p in
    elim (some_or (named_in c line word)) [
      | inl is ↦ is
      | inr some ↦ (
          let found = below_some c line word some.0 logs some.1 in
          let g = covered.named found.0 line word some.0 found.1 found.2 in
          let same : p ≡ g.place = s.apart p g.place kept g.is_kept g.line_is g.word_is in
          let wrong : None ≡ Some found.0 = sym none ∙ ap (guard_of known.guards) same ∙ g.guard in cc)
    ]

-- its stores all may be kept
pub unguarded_survives : (known : Knowledge) (p : Place) (r : ℕ → Bool) (ms : List Mark)
    → AllByRecursion (IsGuardedStore known) ms → guard_of known.guards p ≡ None
    → AllByRecursion (λ (m : Mark). stores_at p m.op ≡ true → survives r (λ t. true) m.fate ≡ true) ms
unguarded_survives known p r [] all none = tt
unguarded_survives known p r (m ∷ ms) all none =
    (λ is. one m.fate (λ t region. all.0 t p region is), unguarded_survives known p r ms all.1 none)
  where
    one : (fate : Fate) → ((t : ℕ) → is_region_of t fate ≡ true → guard_of known.guards p ≡ Some t)
        → survives r (λ t. true) fate ≡ true
    one Sure guarded = refl
    one (Single u) guarded = refl
    one (Open u) guarded = absurd (let wrong : None ≡ Some u = sym none ∙ guarded u (eq-eqb u u refl) in cc)
    one (Closing u) guarded = absurd (let wrong : None ≡ Some u = sym none ∙ guarded u (eq-eqb u u refl) in
        cc)

-- a root slot of a kept place is in use
pub root_used : (first : Heap) (known : Knowledge) (lay : Layout) (Waits : Threads) (m : Memory)
    → Stands first known lay Waits m → (p : Place) → is_kept_place known p ≡ true
    → (k : ℕ) → place_line lay known.world.heap p ≡ slot_line k → place_word known.world.heap p ≡ slot_word k
    → k < root_slots → k < length known.world.heap.roots
root_used first known lay Waits m s (Static n) is k e f small =
    let root = (root_parts known n is).0 in
    let below = root_below known.world.heap.roots n root in
    let same : root_number known.world.heap.roots n ≡ k = omega (arith, e, f) in
    omega (arith, below, same)
root_used first known lay Waits m s (Slot n i) is k e f small =
    let durable = (slot_parts known n i is).durable in
    let low = (s.shows.objects (lay.line_of n) n (lies_there lay known n durable)).low in
    absurd (omega (arith, low, e, small))

-- the words of an unused root slot and of a place are not the same
pub unused_elsewhere : (line word roots r : ℕ) → PlaceLies line word
    → ((k : ℕ) → line ≡ slot_line k → word ≡ slot_word k → k < root_slots → k < roots) → roots ≤ r
    → r < root_slots
    → slot_line r ≡ line → slot_word r ≡ word → ⊥
unused_elsewhere line word roots r (AtRoot k below at in_line) used low high e f =
    let same : k ≡ r = omega (arith, at, in_line, e, f) in
    let less = used k at in_line below in
    absurd (omega (arith, less, same, low))
unused_elsewhere line word roots r (InObject far) used low high e f = absurd (omega (arith, far, e, high))

-- a word that no entry names is put back as it is
pub put_back_plain : (c : Outcome) (line word : ℕ) → is_log_line line ≡ false → named_in c line word ≡ None
    → put_back c line word ≡ c line word
unfolding put_back
put_back_plain c line word outside none = rw (outside, none) refl
