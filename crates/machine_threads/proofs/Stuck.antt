-- Whoever has claimed an object has asked a value, so that it lives and asks its store; and a machine whose threads all wait
-- is stuck.
use Rattle.std.proofs.Common.{◌≡◌, inl, inr, ℕ, ◌<◌, Bool, true, false, List, length, refl, sym, ◌∙◌, ap, subst}
use Rattle.std.proofs.Common.{if◌then◌else◌}
use Rattle.std.specs.Prelude.{Option, Some, None, IsSome}
use Rattle.run_types.specs.declared.wait.On.{On}
use Rattle.run_types.specs.declared.fault.RunFault.TheVariants as fault
use Rattle.run_history.specs.Recorded.{Recorded}
use Rattle.run_history.specs.Knowing.{Knowledge, owes_fence}
use Rattle.plain_model.specs.Limits.{most_threads}
use Rattle.plain_model.specs.Requests.{PlainRequest}
use Rattle.plain_model.specs.Steps.{Step, Does, Waits, WrongOperand, IsOver, step}
use Rattle.plain_model.specs.Runs.{request_after}
use Rattle.plain_model.specs.Ends.{wait_at, wait_of, waits_from, waits_of}
use Rattle.run_forms.specs.Standing.{Launch, known_at, plain_code}
use Rattle.run_forms.specs.Ends.{IsEndedBy}
use Rattle.machine_ends.specs.Passed.{Doing}
use Rattle.machine_ends.specs.Passed.{doing_of, known_in, layout_in, scene_of}
use Rattle.machine_ends.specs.Passed.{IsDoing}
use Rattle.stop_theorem.specs.Layouts.{Layout}
use Rattle.machine_ends.specs.Passed.{IsReady, ReadyThreadsAskAlike}
use Rattle.machine_ends.proofs.Passed.{owes_some}
use Rattle.machine_ends.specs.Laws.{OwesFence}
use Rattle.machine_ends.proofs.Rooms.{fault_so, paid-steps}
use Rattle.convert_waits.proofs.Rows.{rows_begin}
use Rattle.lasting_steps.proofs.Asking.{askers_live}
use Rattle.machine_threads.specs.Plain.{EndsStuck}
use Rattle.machine_threads.specs.Stuck.{RecordsAreRight, plain_waits}
use Rattle.machine_threads.specs.Stuck.{ClaimersLive, FencesDontWait, FullRowsEndMachines, MachinesBeginRows}
use Rattle.machine_threads.specs.Stuck.{ReadyThreadsWaitAlike, StuckMachinesEnd, StuckRecordsEndMachines, requests_in}
use Rattle.machine_threads.proofs.Claiming.{claimers_have_asked}
use Rattle.machine_threads.proofs.Ends.{ends-stuck, full_rows_end_runs, stuck_runs_end}

-- ---- rows and records

pub claimers_live : ClaimersLive
claimers_live o m es t n keeps ask claimed =
    let asked = claimers_have_asked o m es t n keeps claimed in
    askers_live o.launch.set (known_in o m) (requests_in o m) t asked.0 (ask t) asked.1

wait-not : (at : Option On) (on : On) → at ≡ None → at ≡ Some on → ⊥
wait-not at on none some = let no : ◌≡◌ {A = Option On} None (Some on) = sym none ∙ some in cc

-- whoever has claimed an object waits for nothing in the plain world
pub records_are_right : RecordsAreRight
records_are_right o m es recorded keeps ask are = record {
  claimers = λ t n claimed. (claimers_live o m es t n keeps ask claimed).0;
  nothing = λ t on told waits n claimed. wait-not (plain_waits o m t) on (claimers_live o m es t n keeps ask claimed).1 waits;
  forwarded = are.forwarded;
  below = are.below;
}

pub stuck_records_end_machines : StuckRecordsEndMachines
stuck_records_end_machines o m es recorded t keeps ask are stuck asks =
    stuck_runs_end o.launch.set o.launch.opening o.launch.limits (known_in o m) (requests_in o m) (scene_of m) es recorded t
    keeps.heap.agrees (records_are_right o m es recorded keeps ask are) stuck asks

pub machines_begin_rows : MachinesBeginRows
machines_begin_rows o m es plain keeps unwritten = rows_begin plain (scene_of m) es keeps.heap.agrees unwritten

pub full_rows_end_machines : FullRowsEndMachines
full_rows_end_machines o m es waited t keeps ask row all asks =
    full_rows_end_runs o.launch.set o.launch.opening o.launch.limits (known_in o m) (requests_in o m) (scene_of m) es waited t
    row (record { claimers = λ u n claimed. (claimers_live o m es u n keeps ask claimed).0; all = all }) asks

-- ---- what a thread waits for

owed-not : (owes : Bool) (at : Option On) (on : On) → (if owes then None else at) ≡ Some on → (owes ≡ false) × (at ≡ Some on)
owed-not true at on is = absurd (let no : ◌≡◌ {A = Option On} None (Some on) = is in cc)
owed-not false at on is = (refl, is)

waits-step : (s : Step) (on : On) → wait_of s ≡ Some on → s ≡ Waits on
waits-step (Does p r) on is = absurd (let no : ◌≡◌ {A = Option On} None (Some on) = is in cc)
waits-step (Waits x) on is = let same : x ≡ on = (let e : ◌≡◌ {A = Option On} (Some x) (Some on) = is in cc) in ap Waits same
waits-step WrongOperand on is = absurd (let no : ◌≡◌ {A = Option On} None (Some on) = is in cc)
waits-step (IsOver f) on is = absurd (let no : ◌≡◌ {A = Option On} None (Some on) = is in cc)

some-of : {X : Type 0} (at : Option X) (x : X) → at ≡ Some x → IsSome at
some-of at x is = rw is refl

-- ---- the end

module _ (launch : Launch) (acts : List Recorded) (lines t : ℕ) (room : length acts < launch.limits.acts) where
  abbrev known : Knowledge
  known = known_at launch acts

  abbrev requests : ℕ → Option PlainRequest
  requests = request_after launch.set launch.main launch.opening (plain_code launch) acts

  abbrev waits : ℕ → Option On
  waits = waits_of launch.set known requests

  ends-by : (on : On) (at : Option PlainRequest) → requests t ≡ at → owes_fence known.unfenced t ≡ false
      → wait_at launch.set known.world t at ≡ Some on
      → EndsStuck launch.set launch.opening launch.limits known requests
      → IsEndedBy launch lines acts t (fault.Stuck (waits_from waits 0 most_threads))
  ends-by on None asks paid is stuck = absurd (let no : ◌≡◌ {A = Option On} None (Some on) = is in cc)
  ends-by on (Some pq) asks paid is stuck =
      let waiting : step launch.set known.world t 1 pq ≡ Waits on = waits-step (step launch.set known.world t 1 pq) on is in
      inl (paid-steps launch acts lines t room pq asks paid ∙ ap (fault_so launch acts lines t pq) waiting ∙ stuck.fault_is)

  pub ends : (on : On) → waits t ≡ Some on → ((u : ℕ) → IsSome (requests u) → IsSome (waits u))
      → IsEndedBy launch lines acts t (fault.Stuck (waits_from waits 0 most_threads))
  ends on is all =
      let here = owed-not (owes_fence known.unfenced t) (wait_at launch.set known.world t (requests t)) on is in
      ends-by on (requests t) refl here.0 here.1
      (ends-stuck launch.set launch.opening launch.limits known requests t (asks-some (requests t) on here.1) all)
    where
      asks-some : (at : Option PlainRequest) (on : On) → wait_at launch.set known.world t at ≡ Some on → IsSome at
      asks-some None on is = absurd (let no : ◌≡◌ {A = Option On} None (Some on) = is in cc)
      asks-some (Some pq) on is = refl

pub stuck_machines_end : StuckMachinesEnd
stuck_machines_end o m es threads keeps plain lines t on is all room = ends o.launch m.acts lines t room on is all

-- ---- as its own frames ask

unowed : (owes : Bool) (at : Option On) → owes ≡ false → (if owes then None else at) ≡ at
unowed owes at paid = ap (λ b. if b then None else at) paid

module _ (known : Knowledge) (lay : Layout) (t : ℕ) where
  ready-paid : (d : Doing) → IsReady d → IsDoing known lay t d → owes_fence known.unfenced t ≡ false
  ready-paid d (inl nothing) is = (subst (IsDoing known lay t) nothing is).1
  ready-paid d (inr converting) is = (subst (IsDoing known lay t) converting is).1

  owing : (d : Doing) → OwesFence d → IsDoing known lay t d → owes_fence known.unfenced t ≡ true
  owing d (inl (line, writing)) is =
      let at = (subst (IsDoing known lay t) writing is).1 in owes_some known.unfenced t at.0 at.1
  owing d (inr fencing) is =
      let at = (subst (IsDoing known lay t) fencing is).1 in owes_some known.unfenced t at.0 at.1

pub ready_threads_wait_alike : ReadyThreadsAskAlike → ReadyThreadsWaitAlike
ready_threads_wait_alike law o m es threads keeps plain t fs request ready asks =
    let known = known_in o m in
    let asked = law o m es threads keeps plain t fs request ready asks in
    unowed (owes_fence known.unfenced t) (wait_at o.launch.set known.world t (requests_in o m t))
    (ready-paid known (layout_in o es) t (doing_of m t) ready (keeps.asked.doing t))
    ∙ ap (wait_at o.launch.set known.world t) asked.plain

pub fences_dont_wait : FencesDontWait
fences_dont_wait o m es threads keeps plain t owes =
    let known = known_in o m in
    ap (λ b. if b then None else wait_at o.launch.set known.world t (requests_in o m t))
    (owing known (layout_in o es) t (doing_of m t) owes (keeps.asked.doing t))
