-- Each fault that acts tell has its cause.
use Rattle.std.proofs.Common.{◌≡◌, ℕ, zero, suc, ◌+◌, ◌<◌, ◌≤◌, Bool, true, false, nat_eq, nat_le, not, ◌||◌, List, length}
use Rattle.std.proofs.Common.{refl, ap, sym, ◌∙◌, inl, inr, arith, if◌then◌else◌}
use Rattle.std.specs.Prelude.{Option, Some, None, is_some, IsSome, slice_get}
use Rattle.std.proofs.lemmas.Bool.{leb-false, eqb-false, and_parts, or_parts, false≢true, cases_lt}
use Rattle.std.proofs.lemmas.Option.{slice_get_past}
use Rattle.ap_base.specs.declared.place.Place.{Place}
use Rattle.run_types.specs.declared.resolved.At.{At}
use Rattle.run_types.specs.declared.wait.On.{On}
use Rattle.run_types.specs.declared.limits.Limits.{Limits}
use Rattle.run_types.specs.declared.fault.RunFault.{RunFault}
use Rattle.run_types.specs.declared.fault.RunFault.TheVariants as fault
use Rattle.run_types.specs.Faults.{run_fault}
use Rattle.run_types.specs.declared.fault.Which.{Which}
use Rattle.run_types.specs.declared.fault.Which.TheVariants as which
use Rattle.graph_model.specs.declared.types.Value.{Value}
use Rattle.graph_model.specs.declared.types.Graph.{Graph}
use Rattle.run_history.specs.declared.act.Op.{Op}
use Rattle.run_history.specs.declared.act.Op.TheVariants as op
use Rattle.run_history.specs.declared.act.PlainKey.{PlainKey}
use Rattle.run_history.specs.declared.plain.Monitor.{Monitor}
use Rattle.run_history.specs.Recorded.{Recorded}
use Rattle.run_history.specs.Worlds.{held, depth_of}
use Rattle.run_history.specs.Knowing.{Knowledge, durable_at, guard_of, owes_fence}
use Rattle.plain_model.specs.Facts.{SetFacts}
use Rattle.plain_model.specs.Requests.{PlainRequest, PlainReply, from_of}
use Rattle.plain_model.specs.Limits.{most_threads, words_made, words_left, acts_left, log_entries_left, monitors_left}
use Rattle.plain_model.specs.Steps.{Step, Does, Waits, WrongOperand, IsOver, step, op_of}
use Rattle.plain_model.specs.Codes.{Code, asks_live, taken_by}
use Rattle.plain_model.specs.Runs.{IsAbout, is_volatile, is_guarded_by, known_of, frames_of, request_after}
use Rattle.plain_model.specs.Ends.{full, full_unless, bad_code, all_wait, waits_from, fault_of_durable_store, fault_of_enter}
use Rattle.plain_model.specs.Ends.{fault_of_op, waits_of, fault_of_step, fault_of_request, fault_after}
use Rattle.plain_model.specs.Causes.{UsesUp, HasCause, HasCauseOfStep}

no_fault : {C : Type 0} (f : RunFault) → ◌≡◌ {A = Option RunFault} None (Some f) → C
no_fault f is = absurd (let no : ◌≡◌ {A = Option RunFault} None (Some f) = is in cc)

the_fault : (g f : RunFault) → ◌≡◌ {A = Option RunFault} (Some g) (Some f) → f ≡ g
the_fault g f is = cc

-- more is needed than is left
full_where : (which : Which) (need left : ℕ) (f : RunFault) (enough : Bool) → nat_le need left ≡ enough
    → (if enough then None else Some (full which need left)) ≡ Some f → UsesUp need left which f
full_where which need left f true e is = no_fault f is
full_where which need left f false e is =
    record { more = leb-false need left e; names = the_fault (full which need left) f is }

-- a thread that asks something waits
waits_as_asked : (asks waits : Bool) → asks ≡ true → (not asks || waits) ≡ true → waits ≡ true
waits_as_asked true waits asked either = either
waits_as_asked false waits asked either = absurd (false≢true asked)

all_wait_at : (requests : ℕ → Option PlainRequest) (waits : ℕ → Option On) (count t : ℕ)
    → all_wait requests waits count ≡ true → t < count → IsSome (requests t) → IsSome (waits t)
all_wait_at requests waits zero t all below asks = absurd (omega (arith, below))
all_wait_at requests waits (suc n) t all below asks =
    let (here, rest) = and_parts (not (is_some (requests n)) || is_some (waits n)) (all_wait requests waits n) all in
    elim (cases_lt t n) [
      | inl less ↦ all_wait_at requests waits n t rest less asks
      | inr least ↦
          (let same : t ≡ n = omega (arith, least, below) in
          let asked : is_some (requests n) ≡ true = rw same at asks in
          rw same (waits_as_asked (is_some (requests n)) (is_some (waits n)) asked here))
    ]

length-waits_from : (waits : ℕ → Option On) (first count : ℕ) → length (waits_from waits first count) ≡ count
length-waits_from waits first zero = refl
length-waits_from waits first (suc n) = ap suc (length-waits_from waits (suc first) n)

waits_from-get : (waits : ℕ → Option On) (first count t : ℕ) → t < count
    → slice_get (waits_from waits first count) t ≡ Some (waits (first + t))
waits_from-get waits first zero t below = absurd (omega (arith, below))
waits_from-get waits first (suc n) zero below =
    let same : first ≡ first + 0 = omega arith in ap (λ k. Some (waits k)) same
waits_from-get waits first (suc n) (suc t) below =
    let same : suc first + t ≡ first + suc t = omega arith in
    waits_from-get waits (suc first) n t (omega (arith, below)) ∙ ap (λ k. Some (waits k)) same

module _ (set : SetFacts) (opening : Graph) (limits : Limits) (known : Knowledge) (requests : ℕ → Option PlainRequest)
    (t : ℕ) (f : RunFault) where
  abbrev Has : Type 0
  Has = HasCauseOfStep set opening limits known requests t f

  abbrev About : Op → Type 0
  About o = IsAbout set known (requests t) t o

  about : (request : PlainRequest) → requests t ≡ Some request → (o : Op) (r : PlainReply) → taken_by o ≡ 1
      → step set known.world t 1 request ≡ Does o r → About o
  about request asks o r one does =
      rw (asks, one) (ap op_of does)

  store_cause : (place : Place) (value : Value) → About (op.Stored place value) → durable_at known place ≡ true
      → (guard : Option ℕ) → guard_of known.guards place ≡ guard
      → fault_of_durable_store set opening limits known t place value guard ≡ Some f → Has
  store_cause place value it durable (Some other) guarded is = by_other (nat_eq other t) refl is
    where
      by_other : (own : Bool) → nat_eq other t ≡ own
          → (if own then None else Some (fault.RegionRace t other place)) ≡ Some f → Has
      by_other true own comes = no_fault f comes
      by_other false own comes = inr (inr (inl (record {
        place = place;
        other = other;
        stores = (value, it);
        durable = durable;
        guarded = guarded;
        another = eqb-false other t own;
        names = the_fault (fault.RegionRace t other place) f comes;
      })))
  store_cause place value it durable None unguarded is =
      by_log (is_volatile known.durable value || nat_eq (depth_of known.world t) 0) refl is
    where
      by_log : (other : Bool) → (is_volatile known.durable value || nat_eq (depth_of known.world t) 0) ≡ other
          → (if other then None else full_unless which.LogEntries 1 (log_entries_left known.guards t)) ≡ Some f
          → Has
      by_log true other comes = no_fault f comes
      by_log false other comes =
          let fails = or_parts (is_volatile known.durable value) (nat_eq (depth_of known.world t) 0) other in
          inr (inr (inr (inr (inr (inl (
            place,
            value,
            it,
            durable,
            fails.0,
            eqb-false (depth_of known.world t) 0 fails.1,
            ap (is_guarded_by t) unguarded,
            full_where which.LogEntries 1 (log_entries_left known.guards t) f
                (nat_le 1 (log_entries_left known.guards t)) refl comes,
          ))))))

  stored_cause : (place : Place) (value : Value) → About (op.Stored place value) → (durable : Bool)
      → durable_at known place ≡ durable
      → (if durable
      then fault_of_durable_store set opening limits known t place value (guard_of known.guards place)
      else None) ≡ Some f → Has
  stored_cause place value it true durable is = store_cause place value it durable (guard_of known.guards place) refl is
  stored_cause place value it false volatile is = no_fault f is

  enter_cause : (key : PlainKey) → About (op.Enter key) → (holder : Option Monitor)
      → held known.world.monitors key ≡ holder → fault_of_enter set opening limits known holder ≡ Some f → Has
  enter_cause key it (Some monitor) taken is = no_fault f is
  enter_cause key it None free is = inr (inr (inr (inr (inr (inr (
    key,
    it,
    free,
    full_where which.Monitors 1 (monitors_left known.world.monitors) f
        (nat_le 1 (monitors_left known.world.monitors)) refl is,
  ))))))

  words_cause : (o : Op) (need : ℕ) → About o → words_made known.world.heap o ≡ Some need
      → full_unless which.VolatileWords need (words_left limits opening known.world.heap) ≡ Some f → Has
  words_cause o need it makes is = inr (inr (inr (inr (inl (
    o,
    need,
    it,
    makes,
    full_where which.VolatileWords need (words_left limits opening known.world.heap) f
        (nat_le need (words_left limits opening known.world.heap)) refl is,
  )))))

  op_cause : (o : Op) → (taken_by o ≡ 1 → About o) → fault_of_op set opening limits known t o ≡ Some f → Has
  op_cause (op.Stored place value) it is =
      stored_cause place value (it refl) (durable_at known place) refl is
  op_cause (op.Enter key) it is = enter_cause key (it refl) (held known.world.monitors key) refl is
  op_cause (op.Alloc n shape count) it is = words_cause (op.Alloc n shape count) _ (it refl) refl is
  op_cause (op.Throw n class) it is = words_cause (op.Throw n class) _ (it refl) refl is
  op_cause o it is = no_fault f is

  operand_cause : (request : PlainRequest) → requests t ≡ Some request
      → step set known.world t 1 request ≡ WrongOperand
      → (from : Option At) → from_of request ≡ from → bad_code from ≡ Some f → Has
  operand_cause request asks wrong None from is = no_fault f is
  operand_cause request asks wrong (Some at) from is = inl (record {
    asked = request;
    is_asked = asks;
    is_wrong = wrong;
    names = (at, from, the_fault (fault.BadCode at) f is);
  })

  stuck_cause : IsSome (requests t) → ((u : ℕ) → length known.world.threads ≤ u → requests u ≡ None)
      → (all : Bool)
      → all_wait requests (waits_of set known requests) (length known.world.threads) ≡ all
      → (if all
      then Some (fault.Stuck (waits_from (waits_of set known requests) 0 most_threads))
      else None) ≡ Some f → Has
  stuck_cause asks beyond false all is = no_fault f is
  stuck_cause asks beyond true all is = inr (inr (inr (inl (record {
    lives = (t, asks);
    all_wait = λ u asked. elim (cases_lt u (length known.world.threads)) [
      | inl below ↦ all_wait_at requests (waits_of set known requests)
          (length known.world.threads) u all below asked
      | inr past ↦
          (let no : false ≡ true = (rw (beyond u (omega (arith, past))) at asked) in absurd (false≢true no))
    ];
    named = waits_from (waits_of set known requests) 0 most_threads;
    sixty_four = length-waits_from (waits_of set known requests) 0 most_threads;
    told = λ u below.
        let same : 0 + u ≡ u = omega arith in
        waits_from-get (waits_of set known requests) 0 most_threads u below
        ∙ ap (λ k. Some (waits_of set known requests k)) same;
    names = the_fault (fault.Stuck (waits_from (waits_of set known requests) 0 most_threads)) f is;
  }))))

  step_cause : ((u : ℕ) → length known.world.threads ≤ u → requests u ≡ None)
      → (request : PlainRequest) → requests t ≡ Some request → (s : Step)
      → step set known.world t 1 request ≡ s
      → fault_of_step set opening limits known requests t request s ≡ Some f → Has
  step_cause beyond request asks (Does o r) does is = op_cause o (λ one. about request asks o r one does) is
  step_cause beyond request asks (Waits on) waits is =
      stuck_cause (ap is_some asks) beyond
      (all_wait requests (waits_of set known requests) (length known.world.threads)) refl is
  step_cause beyond request asks WrongOperand wrong is =
      operand_cause request asks wrong (from_of request) refl is
  step_cause beyond request asks (IsOver g) over is =
      inr (inl (record {
        asked = request;
        is_asked = asks;
        met = g;
        is_over = over;
        names = the_fault (run_fault g) f is;
      }))

  pub request_cause : ((u : ℕ) → length known.world.threads ≤ u → requests u ≡ None)
      → (request : Option PlainRequest) → requests t ≡ request
      → fault_of_request set opening limits known requests t request ≡ Some f
      → HasCause set opening limits known requests t f
  request_cause beyond None asks is = no_fault f is
  request_cause beyond (Some request) asks is = by_room (nat_le 1 (acts_left limits known)) refl is
    where
      Stepped : Option RunFault
      Stepped = fault_of_step set opening limits known requests t request (step set known.world t 1 request)

      by_fence : (owes : Bool) → owes_fence known.unfenced t ≡ owes → (if owes then None else Stepped) ≡ Some f
          → HasCause set opening limits known requests t f
      by_fence true owes comes = no_fault f comes
      by_fence false owes comes =
          inr (owes, step_cause beyond request asks (step set known.world t 1 request) refl comes)

      by_room : (room : Bool) → nat_le 1 (acts_left limits known) ≡ room
          → (if room
          then if owes_fence known.unfenced t then None else Stepped
          else Some (full which.Acts 1 (acts_left limits known))) ≡ Some f
          → HasCause set opening limits known requests t f
      by_room true room comes = by_fence (owes_fence known.unfenced t) refl comes
      by_room false none comes = inl (record {
        more = leb-false 1 (acts_left limits known) none;
        names = the_fault (full which.Acts 1 (acts_left limits known)) f comes;
      })

module _ (set : SetFacts) (main : ℕ) (opening : Graph) {Frames : Type 0} (code : Code set main opening Frames)
    (limits : Limits) (lines : ℕ) (acts : List Recorded) where
  none_asks : (u : ℕ) → length (known_of set main opening code acts).world.threads ≤ u
      → request_after set main opening code acts u ≡ None
  none_asks u past =
      ap (λ thread. asks_live set main opening code thread (slice_get (frames_of set main opening code acts) u))
      (slice_get_past (known_of set main opening code acts).world.threads u past)

  pub faults_have_causes : (t : ℕ) (f : RunFault) → fault_after set main opening code limits lines acts t ≡ Some f
      → HasCause set opening limits (known_of set main opening code acts) (request_after set main opening code acts) t f
  faults_have_causes t f is =
      request_cause set opening limits (known_of set main opening code acts) (request_after set main opening code acts)
      t f none_asks (request_after set main opening code acts t) refl is
