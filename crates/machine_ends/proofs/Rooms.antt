-- Whether a history has room for an act, and what it comes to where it has none, or where a fence is owed.
use Rattle.std.proofs.Common.{◌≡◌, ℕ, ◌<◌, ◌≤◌, true, false, List, length, nat_le, Option, Some, None, inl, refl, ap, sym}
use Rattle.std.proofs.Common.{subst, ◌∙◌, arith, if◌then◌else◌}
use Rattle.std.specs.Prelude.{IsSome}
use Rattle.std.proofs.lemmas.Bool.Decides.{nat_tests}
use Rattle.run_types.specs.declared.fault.RunFault.{RunFault}
use Rattle.run_types.specs.declared.fault.RunFault.TheVariants as fault
use Rattle.run_types.specs.declared.fault.Which.TheVariants as which
use Rattle.run_history.specs.Recorded.{Recorded}
use Rattle.run_history.specs.Knowing.{Knowledge, owes_fence}
use Rattle.plain_model.specs.First.{first_known}
use Rattle.plain_model.specs.Requests.{PlainRequest}
use Rattle.plain_model.specs.Limits.{acts_left}
use Rattle.plain_model.specs.Steps.{Step, step}
use Rattle.plain_model.specs.Runs.{request_after}
use Rattle.plain_model.specs.Ends.{full, fault_of_step, fault_of_request, fault_after}
use Rattle.plain_model.proofs.Within.{each_act_leaves_a_mark}
use Rattle.run_forms.specs.Standing.{Launch, plain_code, known_at}
use Rattle.run_forms.specs.Ends.{IsEndedBy, MeetsNoFault}

module _ (launch : Launch) (acts : List Recorded) (lines t : ℕ) where
  abbrev pub known : Knowledge
  known = known_at launch acts

  abbrev pub requests : ℕ → Option PlainRequest
  requests = request_after launch.set launch.main launch.opening (plain_code launch) acts

  abbrev pub left : ℕ
  left = acts_left launch.limits known

  abbrev pub fault_here : Option RunFault
  fault_here =
      fault_after launch.set launch.main launch.opening (plain_code launch) launch.limits lines acts t

  -- what the event comes to where the thread asks this
  abbrev pub fault_asked : Option PlainRequest → Option RunFault
  fault_asked asked = fault_of_request launch.set launch.opening launch.limits known requests t asked

  abbrev pub fault_so : PlainRequest → Step → Option RunFault
  fault_so pq s = fault_of_step launch.set launch.opening launch.limits known requests t pq s

  abbrev fault_then : PlainRequest → Option RunFault
  fault_then pq =
      if owes_fence known.unfenced t then None else fault_so pq (step launch.set known.world t 1 pq)

  marks-are : length known.marks ≡ length acts
  marks-are =
      let e = each_act_leaves_a_mark (first_known launch.set launch.opening) acts in omega (arith, e)

  pub full-history : (pq : PlainRequest) → requests t ≡ Some pq → launch.limits.acts ≤ length acts
      → IsEndedBy launch lines acts t (full which.Acts 1 0)
  full-history pq asks enough =
      let none : left ≡ 0 = omega (arith, enough, marks-are) in
      inl (ap fault_asked asks
      ∙ ap (λ n. if nat_le 1 n then fault_then pq else Some (full which.Acts 1 n)) none)

  module _ (room : length acts < launch.limits.acts) where
    pub has-room : 0 < left
    has-room = omega (arith, room, marks-are)

    -- there is room, so the event comes to what the request does
    opens : (pq : PlainRequest) → fault_asked (Some pq) ≡ fault_then pq
    opens pq =
        let some = has-room in
        let so : nat_le 1 left ≡ true = grind (arith, nat_tests) in
        ap (λ b. if b then fault_then pq else Some (full which.Acts 1 left)) so

    pub image-fails : (pq : PlainRequest) → requests t ≡ Some pq
        → IsEndedBy launch lines acts t fault.ImageFault
    image-fails pq asks = (subst IsSome (sym asks) refl, has-room)

    -- a thread that owes none does its step
    pub paid-steps : (pq : PlainRequest) → requests t ≡ Some pq → owes_fence known.unfenced t ≡ false
        → fault_here ≡ fault_so pq (step launch.set known.world t 1 pq)
    paid-steps pq asks paid =
        ap fault_asked asks ∙ opens pq
        ∙ ap (λ b. if b then None else fault_so pq (step launch.set known.world t 1 pq)) paid

    owing-none : owes_fence known.unfenced t ≡ true → (asked : Option PlainRequest) → fault_asked asked ≡ None
    owing-none owes None = refl
    owing-none owes (Some pq) =
        opens pq ∙ ap (λ b. if b then None else fault_so pq (step launch.set known.world t 1 pq)) owes

    pub fence-meets-none : owes_fence known.unfenced t ≡ true → MeetsNoFault launch lines acts t
    fence-meets-none owes = (has-room, owing-none owes (requests t))
