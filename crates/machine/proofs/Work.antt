-- How many quiet steps events make.
use Rattle.std.proofs.Common.{◌≡◌, inl, inr, ℕ, zero, suc, ◌+◌, ◌-◌, ◌*◌, ◌≤◌, List, [], ◌∷◌, length, refl, ◌∙◌, ap, arith}
use Rattle.std.specs.Prelude.{replicate, slice_index_or, sum_by}
use Rattle.std.proofs.lemmas.List.{length-append}
use Rattle.std.proofs.lemmas.List.Sums.{sum_by-cons}
use Rattle.run_history.specs.Recorded.{History, Recorded}
use Rattle.convert_queue.specs.declared.phase.Phase.{Phase}
use Rattle.convert_queue.specs.declared.phase.Phase.TheVariants.{Copy}
use Rattle.convert_queue.specs.Marks.{clean}
use Rattle.convert_queue.specs.Queues.{Queued, Queues, phase_of, place_of, queue_of}
use Rattle.convert_queue.specs.Work.{line_work, sum_below, thread_work, weight, work_left as queues_left}
use Rattle.machine_threads.specs.Passed.{work_left}
use Rattle.shared_heap.specs.First.{first_shared}
use Rattle.shared_heap.specs.Shared.{Shared}
use Rattle.machine.specs.declared.events.Event.{Event}
use Rattle.machine.specs.declared.events.Event.TheVariants.{Did, Micro, WouldWait, Over}
use Rattle.machine.specs.Events.{AddsActs, AddsOne, KeepsBound, acts_added, lines_taken}
use Rattle.machine.specs.Work.{Events, FirstHasNoWork, GoesOn, QuietStepsAreFew, QuietStepsOfRunsAreFew, lines_in, quiet_in, quiet_of}
use Rattle.machine.specs.Work.Events.{no_event, one_more}

-- ---- the first machine

same-at : {X : Type 0} (n t : ℕ) (x : X) → slice_index_or (replicate n x) t x ≡ x
same-at zero t x = refl
same-at (suc n) zero x = refl
same-at (suc n) (suc t) x = same-at n t x

sums-none : {X : Type 0} (f : X → ℕ) (n : ℕ) (x : X) → f x ≡ 0 → sum_by f (replicate n x) ≡ 0
sums-none f zero x none = refl
sums-none f (suc n) x none =
    let first = sum_by-cons f x (replicate n x) in
    let rest = sums-none f n x none in omega (arith, first, rest, none)

none-below : (f : ℕ → ℕ) (n : ℕ) → ((t : ℕ) → f t ≡ 0) → sum_below f n ≡ 0
unfolding sum_below
none-below f zero none = refl
none-below f (suc n) none = let last = none n in let rest = none-below f n none in omega (arith, last, rest)

-- a thread that has queued nothing
empty-copies : (lines : ℕ → ℕ) (n done : ℕ) → thread_work lines [] Copy n done ≡ 0
empty-copies lines zero done = omega arith
empty-copies lines (suc n) done = omega arith

no-thread-work : (lines : ℕ → ℕ) (queue : List Queued) (p : Phase) (n done : ℕ) → queue ≡ [] → p ≡ Copy
    → thread_work lines queue p n done ≡ 0
no-thread-work lines queue p n done empty copies =
    ap (λ (xs : List Queued). thread_work lines xs p n done) empty
    ∙ ap (λ (x : Phase). thread_work lines [] x n done) copies ∙ empty-copies lines n done

no-queue-work : (lines done : ℕ → ℕ) (size : ℕ) (q : Queues) → q.queues ≡ replicate 64 [] → q.phases ≡ replicate 64 Copy
    → q.marks ≡ replicate size clean → queues_left lines done q ≡ 0
no-queue-work lines done size q queues phases marks =
    let of_lines : line_work q.marks ≡ 0 = ap line_work marks ∙ sums-none weight size clean refl in
    let of_threads = none-below
    (λ t. thread_work lines (queue_of q t) (phase_of q t) (place_of q t).0 (done t)) 64
    (λ t. no-thread-work lines (queue_of q t) (phase_of q t) (place_of q t).0 (done t)
    (ap (λ (xs : List (List Queued)). slice_index_or xs t []) queues ∙ same-at 64 t [])
    (ap (λ (xs : List Phase). slice_index_or xs t Copy) phases ∙ same-at 64 t Copy)) in
    omega (arith, of_lines, of_threads)

-- of conversions, durable stores and regions
none-left : (conversions stores logs : ℕ) → conversions ≡ 0 → stores ≡ 0 → logs ≡ 0 → conversions + stores + logs ≡ 0
none-left conversions stores logs a b c = omega (arith, a, b, c)

-- beside conversions there is no work: no thread is about a durable store, and no log has an entry
pub first_has_no_work : FirstHasNoWork
first_has_no_work spaces free rest acts =
    let m = (first_shared spaces free rest acts).machine in
    none-left _ 0 0 (no-queue-work _ _ spaces.twin.memory.size m.queue refl refl refl) refl refl

-- ---- events

added : (t : ℕ) (old new : List Recorded) → AddsOne t old new → length old ≤ length new
added t old new one =
    let long = ap (λ (xs : List Recorded). length xs) one.acts ∙ length-append old (one.act ∷ []) in omega (arith, long)

-- none takes an act back
acts-kept : (result : Event) (t : ℕ) (old new : List Recorded) → AddsActs result t old new → length old ≤ length new
acts-kept (Did r) t old new one = added t old new one
acts-kept Micro t old new (inl same) = let e = ap (λ (xs : List Recorded). length xs) same in omega (arith, e)
acts-kept Micro t old new (inr one) = added t old new one
acts-kept (WouldWait on) t old new same = let e = ap (λ (xs : List Recorded). length xs) same in omega (arith, e)
acts-kept (Over halt) t old new same = let e = ap (λ (xs : List Recorded). length xs) same in omega (arith, e)

takes-work : (result : Event) (old new : Shared) → GoesOn result → KeepsBound result old new
    → work_left new.machine + quiet_of result old new
    ≤ work_left old.machine + 16 * (acts_added old new + lines_taken old new)
takes-work (Did r) old new on bound = omega (arith, bound)
takes-work Micro old new on bound = bound
takes-work (WouldWait w) old new on bound = omega (arith, bound)
takes-work (Over halt) old new on bound = absurd on

-- with that they take no act back
few : (first last : Shared) (events : Events first last) → (quiet_in events + work_left last.machine
    ≤ work_left first.machine + 16 * ((length last.history.acts - length first.history.acts) + lines_in events))
    × (length first.history.acts ≤ length last.history.acts)
few first _ no_event = (omega arith, omega arith)
few first _ (one_more last old new before machine history e) =
    let (bound, kept) = few first last before in
    let work = ap work_left machine in
    let acts = ap (λ (h : History). length h.acts) history in
    let one = takes-work e.result old new e.on e.work in
    let longer = acts-kept e.result e.thread old.history.acts new.history.acts e.acts in
    (omega (arith, bound, kept, work, acts, one, longer), omega (arith, kept, acts, longer))

pub quiet_steps_are_few : QuietStepsAreFew
quiet_steps_are_few first last events = (few first last events).0

pub quiet_steps_of_runs_are_few : QuietStepsOfRunsAreFew
quiet_steps_of_runs_are_few spaces free rest limit last events =
    let bound = (few (first_shared spaces free rest limit) last events).0 in
    let begun = first_has_no_work spaces free rest limit in omega (arith, bound, begun)
