-- A line that no durable object has may change whole.
use Rattle.std.proofs.Common.{◌≡◌, ◌≢◌, ◌⊎◌, inl, inr, ⊎_elim, ℕ, ◌+◌, ◌*◌, ◌/◌, ◌<◌, ◌≤◌, ◌==◌, true, length, refl, sym, ◌∙◌}
use Rattle.std.proofs.Common.{subst, arith, if◌then◌else◌}
use Rattle.std.proofs.lemmas.Bool.{cases_eq, eq-eqb, ne_eqb}
use Rattle.ap_base.specs.declared.place.Place.{Place}
use Rattle.ap_base.specs.declared.place.Place.TheVariants.{Static, Slot}
use Rattle.graph_model.specs.declared.types.Heap.{Heap}
use Rattle.graph_model.specs.Heaps.{has_number, values_of}
use Rattle.line_image.specs.Trace.{Outcome}
use Rattle.line_image.specs.Told.{Told}
use Rattle.line_memory.specs.Memory.{Memory, shown, ReadsWord, CanLeave, CanLeaveAll, IsTelling}
use Rattle.image_layout.specs.Places.{root_slots, slot_line, slot_word, lines_of, object_line, object_word}
use Rattle.image_meaning.specs.Logs.{SameLogs}
use Rattle.image_meaning.specs.Corresponds.{Corresponds}
use Rattle.image_meaning.specs.Laws.{SameFront}
use Rattle.image_meaning.proofs.Changes.{corresponds-same}
use Rattle.image_meaning.proofs.Naming.{logs_outside}
use Rattle.run_history.specs.Knowing.{Knowledge}
use Rattle.stop_theorem.specs.Choices.{Threads, NoThread}
use Rattle.stop_theorem.specs.Layouts.{Layout, Lies, place_line, place_word, is_kept_place}
use Rattle.stop_theorem.specs.Stops.{IsCovered, IsAfterFence, Stands, IsAllowedImage}
use Rattle.stop_theorem.proofs.Allowed.{lies_parts}
use Rattle.stop_theorem.proofs.KeptPlaces.{slot_parts, root_parts}
use Rattle.stop_theorem.proofs.Stored.{root_below, front_outside, is_log}
use Rattle.stop_theorem.proofs.Changed.{covered_same_logs, place_still}
use Rattle.stop_theorem.specs.Running.{State, known_at, with_memory}
use Rattle.stop_theorem.specs.GivenCopies.{IsFreeLine}
use Rattle.stop_theorem.proofs.Moments.{safe_quiet}
use Rattle.twin_forms.specs.Moves.{ChangesLine}
use Rattle.machine_forms.specs.Machines.{Opening, first_of}
use Rattle.machine_laws.proofs.StopMoving.{RunsAt}

-- the words with one line as it is shown
put_line : Memory → ℕ → Outcome → Outcome
put_line m line c l w = if l == line then shown m l w else c l w

put_here : (m : Memory) (line : ℕ) (c : Outcome) (l w : ℕ) → l ≡ line → put_line m line c l w ≡ shown m l w
unfolding put_line
put_here m line c l w is = rw (eq-eqb l line is) refl

put_there : (m : Memory) (line : ℕ) (c : Outcome) (l w : ℕ) → l ≢ line → put_line m line c l w ≡ c l w
unfolding put_line
put_there m line c l w ne = rw (ne_eqb l line ne) refl

module _ (first : Heap) (known : Knowledge) (lay : Layout) (Waits : Threads) (old new : Memory) (line : ℕ)
    (s : Stands first known lay Waits old) (changes : ChangesLine line old new)
    (free : IsFreeLine known lay line) where
  -- it is none of an object's
  not_of : (n i : ℕ) → has_number known.durable n ≡ true
      → i < 8 * lines_of (length (values_of known.world.heap n)) → lay.line_of n + i / 8 ≢ line
  not_of n i durable inside is = elim (free.apart n durable) [
    | inl before ↦ absurd (omega (arith, before, is))
    | inr behind ↦ absurd (omega (arith, behind, is, inside))
  ]

  not_head : (n : ℕ) → has_number known.durable n ≡ true → lay.line_of n ≢ line
  not_head n durable is = not_of n 0 durable (omega arith) (omega (arith, is))

  not_at : (p : Place) → is_kept_place known p ≡ true → place_line lay known.world.heap p ≢ line
  not_at (Static n) kept is =
      let below = root_below known.world.heap.roots n (root_parts known n kept).0 in
      let few = s.shows.few in
      let low = free.low in
      absurd (omega (arith, below, few, low, is))
  not_at (Slot n i) kept is =
      let slot = slot_parts known n i kept in
      let inside = slot.inside in
      not_of n (i + 1) slot.durable (omega (arith, inside)) is

  not_root : (r : ℕ) → r < root_slots → slot_line r ≢ line
  not_root r below is = let low = free.low in omega (arith, below, low, is)

  -- ---- what is shown

  shows_on : Corresponds (Lies lay known) lay.directory lay.size (shown new) known.world.heap
  shows_on = corresponds-same (Lies lay known) lay.directory lay.size (shown old) (shown new) known.world.heap
      s.shows (record {
        heads = λ l n y. (let parts = lies_parts lay known l n y in
            changes.others l 0 (λ e. not_head n parts.0 (parts.1 ∙ e)));
        slots = λ l n y i below kept. (let parts = lies_parts lay known l n y in
            let here = parts.1 in
            changes.others (object_line l i) (object_word i)
            (λ e. not_of n (i + 1) parts.0 (omega (arith, below)) (omega (arith, e, here))));
        at_roots = λ r below. changes.others (slot_line r) (slot_word r) (not_root r below);
      })

  -- ---- what a stop may leave

  before : Outcome → Outcome
  before c = put_line old line c

  could_leave : (c : Outcome) → CanLeaveAll new c → CanLeaveAll old (before c)
  unfolding before
  could_leave c left l w = elim (cases_eq l line) [
    | inl e ↦ inl (put_here old line c l w e)
    | inr ne ↦ subst (λ v. CanLeave old l w v) (sym (put_there old line c l w ne))
        (changes.leaves l w (c l w) ne (left l w))
  ]

  reads_same : (l w v : ℕ) → ReadsWord new.image.trace l w v → ReadsWord old.image.trace l w v
  reads_same l w v may = subst (λ (t : Told). ReadsWord t.trace l w v) changes.same.image may

  after_before : (c : Outcome) → IsAfterFence new c → IsAfterFence old (before c)
  unfolding before
  after_before c after l w below = elim (cases_eq l line) [
    | inl e ↦ inl (put_here old line c l w e)
    | inr ne ↦ subst (λ v. (v ≡ shown old l w) ⊎ ReadsWord old.image.trace l w v)
        (sym (put_there old line c l w ne)) (⊎_elim
        (λ (is : c l w ≡ shown new l w). inl (is ∙ changes.others l w ne))
        (λ (may : ReadsWord new.image.trace l w (c l w)). inr (reads_same l w (c l w) may))
        (after l w (let size = changes.size in omega (arith, below, size))))
  ]

  -- the words differ in the line alone
  same_words : (c : Outcome) (l w : ℕ) → l ≢ line → c l w ≡ before c l w
  unfolding before
  same_words c l w ne = sym (put_there old line c l w ne)

  front : (K : Threads) (c : Outcome) → IsCovered first known lay K (before c) → SameFront (before c) c
  front K c covered = front_outside lay.size (before c) c lay.directory covered.opens
      (λ l w at. same_words c l w (not_front l at))
    where
      not_front : (l : ℕ) → (l ≡ 0) ⊎ ((33 ≤ l) × (l < 4129)) → l ≢ line
      not_front l (inl z) is = let low = free.low in absurd (omega (arith, low, z, is))
      not_front l (inr z) is = let low = free.low in absurd (omega (arith, low, z.1, is))

  logs_are : (K : Threads) (c : Outcome) → IsCovered first known lay K (before c) → SameLogs (before c) c
  logs_are K c covered = logs_outside lay.size (before c) c covered.opens.logs
      (λ l w log. same_words c l w (λ is. (let at = is_log l log in
      let low = free.low in absurd (omega (arith, at.1, low, is)))))

  covered_on : (K : Threads) (c : Outcome) → IsCovered first known lay K (before c)
      → IsCovered first known lay K c
  covered_on K c covered =
      let logs = logs_are K c covered in
      let at_front = front K c covered in
      covered_same_logs first known lay K (before c) c logs at_front
      (λ n durable. same_words c (lay.line_of n) 0 (not_head n durable))
      (λ r low high. same_words c (slot_line r) (slot_word r) (not_root r high))
      (λ p kept at. place_still first known lay K (before c) c logs at_front p
      (same_words c (place_line lay known.world.heap p) (place_word known.world.heap p) (not_at p kept)) at)
      covered

  pub stands_line : Stands first known lay Waits new
  stands_line = record {
    orderly = s.orderly;
    size = changes.size ∙ s.size;
    roots = s.roots;
    shows = shows_on;
    heads = λ n is. changes.others (lay.line_of n) 0 (not_head n is) ∙ s.heads n is;
    apart = s.apart;
    no_heads = s.no_heads;
    leaves = λ c left. covered_on NoThread c (s.leaves (before c) (could_leave c left));
    fenced = λ c left after. covered_on Waits c
        (s.fenced (before c) (could_leave c left) (after_before c after));
  }

-- So it may at every point of a run.
pub line_changed : (o : Opening) (s : State) (new : Memory) (line : ℕ) → ChangesLine line s.memory new
    → IsFreeLine (known_at (first_of o) s) s.layout line → RunsAt o s → RunsAt o (with_memory s new)
line_changed o s new line changes free runs = record {
  size = runs.size;
  directory_is = runs.directory_is;
  tells = subst (λ (t : Told). IsTelling t.trace) (sym changes.same.image) runs.tells;
  stands = stands_line (first_of o).world.heap (known_at (first_of o) s) s.layout s.waits s.memory new line
      runs.stands changes free;
  safe = safe_quiet (λ done c. IsAllowedImage (first_of o) o.start.size o.directory done c) o.begin o.start s.acts
      s.memory runs.safe new changes.same;
}
