-- Where all live threads wait, no thread does anything.
use Rattle.std.proofs.Common.{◌≡◌, ◌⊎◌, ℕ, Bool, true, false, ap, List, refl, sym, ◌∙◌, inl, inr, length, nat_lt, nat_le, ◌&&◌}
use Rattle.std.proofs.Common.{if◌then◌else◌, take}
use Rattle.std.specs.Prelude.{Option, Some, None, IsSome}
use Rattle.std.proofs.lemmas.Bool.{false≢true}
use Rattle.run_types.specs.declared.wait.On.{On}
use Rattle.run_types.specs.declared.fault.RunFault.{RunFault}
use Rattle.run_types.specs.declared.key.Key.TheVariants as key
use Rattle.natives.specs.declared.requests.Request.TheVariants as ask
use Rattle.natives.specs.declared.requests.Reply.TheVariants as reply
use Rattle.run_history.specs.declared.act.Op.{Op}
use Rattle.run_history.specs.declared.act.Op.TheVariants as op
use Rattle.run_history.specs.Recorded.{Recorded}
use Rattle.run_history.specs.Worlds.{World}
use Rattle.run_history.specs.Knowing.{Knowledge, owes_fence}
use Rattle.run_history.specs.Wanted.{Wishes}
use Rattle.plain_model.specs.Facts.{SetFacts}
use Rattle.plain_model.specs.Requests.{PlainRequest}
use Rattle.plain_model.specs.Steps.{Step, Does, Waits, WrongOperand, IsOver, step, op_of, prints}
use Rattle.plain_model.specs.Codes.{taken_by}
use Rattle.plain_model.specs.Runs.{IsAbout, Rule, MayAct, is_fenced}
use Rattle.plain_model.specs.Ends.{wait_of, wait_at, waits_of}
use Rattle.plain_model.specs.Causes.{IsStuck}

waits_only : (s : Step) → IsSome (wait_of s) → op_of s ≡ None
waits_only (Waits on) some = refl
waits_only (Does o r) some = absurd (false≢true some)
waits_only WrongOperand some = refl
waits_only (IsOver f) some = refl

print_waits_not : (set : SetFacts) (world : World) (taken : ℕ) (piece : List ℕ)
    → IsSome (wait_of (prints set world taken piece)) → ⊥
print_waits_not set world taken piece some = elim (nat_lt 0 taken && nat_le taken (length piece)) as (λ b.
    IsSome (wait_of (if b then Does (op.Print (take taken piece)) (reply.Printed taken) else WrongOperand))
    → ⊥) [
      | true ↦ λ e. false≢true e
      | false ↦ λ e. false≢true e
    ] some

-- a request that waits does nothing, however many bytes are taken
waiting_does_nothing : (set : SetFacts) (world : World) (t taken : ℕ) (request : PlainRequest)
    → IsSome (wait_of (step set world t 1 request)) → op_of (step set world t taken request) ≡ None
unfolding step
waiting_does_nothing set world t taken (ask.Print from piece) some =
    absurd (print_waits_not set world 1 piece some)
waiting_does_nothing set world t taken (ask.Enter from (key.Object object)) some =
    waits_only (step set world t 1 (ask.Enter from (key.Object object))) some
waiting_does_nothing set world t taken (ask.Enter from (key.Class class)) some =
    waits_only (step set world t 1 (ask.Enter from (key.Class class))) some
waiting_does_nothing set world t taken (ask.Exit from (key.Object object)) some =
    waits_only (step set world t 1 (ask.Exit from (key.Object object))) some
waiting_does_nothing set world t taken (ask.Exit from (key.Class class)) some =
    waits_only (step set world t 1 (ask.Exit from (key.Class class))) some
waiting_does_nothing set world t taken request some = waits_only (step set world t 1 request) some

module _ (set : SetFacts) (known : Knowledge) (requests : ℕ → Option PlainRequest) (f : RunFault)
    (stuck : IsStuck (waits_of set known requests) requests f) where
  -- a thread that waits owes no fence
  waits_freely : (owes : Bool) (wait : Option On) → IsSome (if owes then None else wait) → (owes ≡ false) × IsSome wait
  waits_freely true wait some = absurd (false≢true some)
  waits_freely false wait some = (refl, some)

  waiting : (t : ℕ) → IsSome (requests t)
      → (owes_fence known.unfenced t ≡ false) × IsSome (wait_at set known.world t (requests t))
  waiting t asks =
      waits_freely (owes_fence known.unfenced t) (wait_at set known.world t (requests t)) (stuck.all_wait t asks)

  not_about : (t : ℕ) (o : Op) → IsAbout set known (requests t) t o → ⊥
  not_about t o about = elim (requests t) as (λ r. requests t ≡ r → ⊥) [
    | None ↦ λ is. (let no : ◌≡◌ {A = Option Op} None (Some o) = rw is at about in cc)
    | Some r ↦ λ is.
        let asks : IsSome (requests t) = rw is refl in
        let waits : IsSome (wait_of (step set known.world t 1 r)) = rw is at (waiting t asks).1 in
        let does : op_of (step set known.world t (taken_by o) r) ≡ Some o = rw is at about in
        let nothing = waiting_does_nothing set known.world t (taken_by o) r waits in
        let no : ◌≡◌ {A = Option Op} None (Some o) = sym nothing ∙ does in cc
  ] refl

  quiet : (Now : Wishes) (t : ℕ) (named : List ℕ) (o : Op) → Rule set known Now (requests t) t named o
      → (o ≡ op.Joined) ⊎ (o ≡ op.Fenced)
  quiet Now t named op.Joined rule = inl refl
  quiet Now t named op.Fenced rule = inr refl
  quiet Now t named (op.Asked place value) rule = absurd (not_about t (op.Stored place value) rule.is_about)
  quiet Now t named (op.Guarded place) rule =
      let (value, about, kept) = rule.is_about in absurd (not_about t (op.Stored place value) about)
  quiet Now t named op.Closing rule = absurd (not_about t op.End rule.is_about)
  quiet Now t named (op.Stored place value) rule = absurd (not_about t (op.Stored place value) rule.is_about)
  quiet Now t named op.End rule = absurd (not_about t op.End rule.is_about)
  quiet Now t named o rule = absurd (not_about t o rule)

  -- a fence is owed by no thread that asks something
  asks_nothing : (t : ℕ) → owes_fence known.unfenced t ≡ true → requests t ≡ None
  asks_nothing t owes = elim (requests t) as (λ r. requests t ≡ r → r ≡ None) [
    | None ↦ λ is. refl
    | Some r ↦ λ is.
        let asks : IsSome (requests t) = rw is refl in
        absurd (false≢true (sym (waiting t asks).0 ∙ owes))
  ] refl

  pub stuck_does_nothing : (Now : Wishes) (a : Recorded) → MayAct set known Now (requests a.act.thread) a
      → (a.act.op ≡ op.Joined) ⊎ ((a.act.op ≡ op.Fenced) × (requests a.act.thread ≡ None))
  stuck_does_nothing Now a may = elim (quiet Now a.act.thread a.named a.act.op may.rule) [
    | inl joined ↦ inl joined
    | inr fences ↦ inr (
      fences,
      asks_nothing a.act.thread (sym may.fence ∙ ap is_fenced fences),
    )
  ]
