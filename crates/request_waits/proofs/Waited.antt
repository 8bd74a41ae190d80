-- Steps that may wait, and for what.
use Rattle.std.proofs.Common.{◌≡◌, ◌≢◌, ℕ, List, Bool, true, false, nat_eq, slice_get, refl, sym, ap, ◌∙◌, eq-eqb}
use Rattle.std.proofs.Common.{if◌then◌else◌}
use Rattle.std.proofs.lemmas.Bool.{ne_eqb}
use Rattle.std.specs.Prelude.{Option, Some, None}
use Rattle.ap_base.specs.declared.reference.Ref.{Ref}
use Rattle.run_types.specs.declared.resolved.At.{At}
use Rattle.run_types.specs.declared.resolved.FieldAt.{FieldAt}
use Rattle.run_types.specs.declared.key.Key.{Key}
use Rattle.run_types.specs.declared.wait.On.{On}
use Rattle.run_types.specs.declared.wait.On.TheVariants as on
use Rattle.graph_model.specs.declared.types.Root.{Root}
use Rattle.graph_model.specs.declared.types.Value.{Value}
use Rattle.monitors.specs.declared.monitor.Monitor.{Monitor}
use Rattle.monitors.specs.Held.{monitor_of, owner_of}
use Rattle.natives.specs.declared.requests.Request.TheVariants as ask
use Rattle.natives.specs.declared.requests.Reply.TheVariants as reply
use Rattle.run_history.specs.declared.act.Op.TheVariants as op
use Rattle.run_history.specs.declared.act.PlainKey.{PlainKey}
use Rattle.run_history.specs.declared.plain.Progress.{Progress}
use Rattle.run_history.specs.declared.plain.Progress.TheVariants.{Untouched, BegunBy, Finished}
use Rattle.run_history.specs.Worlds.{World}
use Rattle.plain_model.specs.Facts.{SetFacts}
use Rattle.plain_model.specs.Steps.{Step, Does, Waits, step, with_progress, enters, enters_held, joins_thread}
use Rattle.plain_model.specs.Ends.{wait_of}
use Rattle.shared_objects.specs.declared.rest.Rest.{Rest}
use Rattle.shared_objects.specs.declared.threads.ThreadState.{ThreadState}
use Rattle.shared_objects.specs.Shown.{Shown, HasOneKey}
use Rattle.shared_objects.specs.Worlds.{IsHeldKey, KnowsMonitors, plain_key, world_of}
use Rattle.world_steps.proofs.Locking.{held_by_number, plain_held}
use Rattle.world_steps.proofs.Running.{plain_started}
use Rattle.request_waits.specs.Waiting.{end_wait, owner_wait, progress_wait}

-- what it waits for where the test fails, and else nothing
unless : (b : Bool) (go : Step) (o : On) → wait_of go ≡ None
    → wait_of (if b then go else Waits o) ≡ (if b then None else Some o)
unless true go o is = is
unless false go o is = refl

module _ (set : SetFacts) (world : World) (t : ℕ) where
  progress-waits : (class : ℕ) (progress : Option Progress) (go : Step) → wait_of go ≡ None
      → wait_of (with_progress set world t class progress go) ≡ progress_wait t progress
  progress-waits class None go is = refl
  progress-waits class (Some Untouched) go is = refl
  progress-waits class (Some (BegunBy u)) go is = unless (nat_eq u t) go (on.Init u) is
  progress-waits class (Some Finished) go is = is

  enters-wait : (k : PlainKey) (shown : Shown) (o : Option Monitor)
      → wait_of (enters_held set world t k (plain_held shown o)) ≡ owner_wait t (owner_of o)
  enters-wait k shown None = refl
  enters-wait k shown (Some m) = unless (nat_eq m.owner t) (Does (op.Enter k) reply.Done) (on.Monitor m.owner) refl

  pub joins-wait : (n : ℕ) (o : Option (ℕ × ThreadState))
      → wait_of (joins_thread set world n (plain_started o)) ≡ end_wait o
  joins-wait n None = refl
  joins-wait n (Some (u, state)) = unless state.ended (Does (op.Join n) reply.Done) (on.Join u) refl

  -- ---- the use of a class

  pub new-waits : (taken class : ℕ) (from : At)
      → wait_of (step set world t taken (ask.New from class)) ≡ progress_wait t (slice_get world.classes class)
  unfolding step
  new-waits taken class from = progress-waits class (slice_get world.classes class) _ refl

  pub init-waits : (taken class : ℕ) (from : At)
      → wait_of (step set world t taken (ask.Init from class)) ≡ progress_wait t (slice_get world.classes class)
  unfolding step
  init-waits taken class from = progress-waits class (slice_get world.classes class) _ refl

  pub get-waits : (taken : ℕ) (field : FieldAt) (from : At)
      → wait_of (step set world t taken (ask.GetStatic from field)) ≡ progress_wait t (slice_get world.classes field.class)
  unfolding step
  get-waits taken field from = progress-waits field.class (slice_get world.classes field.class) _ refl

  pub put-waits : (taken : ℕ) (field : FieldAt) (value : Value) (from : At)
      → wait_of (step set world t taken (ask.PutStatic from field value)) ≡ progress_wait t (slice_get world.classes field.class)
  unfolding step
  put-waits taken field value from = progress-waits field.class (slice_get world.classes field.class) _ refl

-- ---- the entry of a monitor

pub monitor-waits : (set : SetFacts) (t : ℕ) (shown : Shown) (rest : Rest) (k : Key Ref) (pk : PlainKey) (roots : List Root)
    → HasOneKey shown → KnowsMonitors shown rest → IsHeldKey shown k → pk ≡ plain_key shown.number k
    → wait_of (enters set (world_of roots shown rest) t pk) ≡ owner_wait t (owner_of (monitor_of rest.monitors k))
monitor-waits set t shown rest k pk roots one monitors known is =
    ap (λ o. wait_of (enters_held set (world_of roots shown rest) t pk o))
    (held_by_number set t shown rest k pk one monitors known is)
    ∙ enters-wait set (world_of roots shown rest) t pk shown (monitor_of rest.monitors k)

-- ---- as it is read

pub owner-none : (t : ℕ) (o : Option ℕ) → o ≡ None → None ≡ owner_wait t o
owner-none t o is = sym (ap (owner_wait t) is)

pub owner-own : (t u : ℕ) (o : Option ℕ) → o ≡ Some u → u ≡ t → None ≡ owner_wait t o
owner-own t u o is same =
    sym (ap (owner_wait t) is ∙ ap (λ b. if b then None else Some (on.Monitor u)) (eq-eqb u t same))

pub owner-other : (t u : ℕ) (o : Option ℕ) → o ≡ Some u → u ≢ t → Some (on.Monitor u) ≡ owner_wait t o
owner-other t u o is other =
    sym (ap (owner_wait t) is ∙ ap (λ b. if b then None else Some (on.Monitor u)) (ne_eqb u t other))

pub progress-own : (t u : ℕ) (p : Option Progress) → p ≡ Some (BegunBy u) → u ≡ t → None ≡ progress_wait t p
progress-own t u p is same =
    sym (ap (progress_wait t) is ∙ ap (λ b. if b then None else Some (on.Init u)) (eq-eqb u t same))

pub progress-other : (t u : ℕ) (p : Option Progress) → p ≡ Some (BegunBy u) → u ≢ t → Some (on.Init u) ≡ progress_wait t p
progress-other t u p is other =
    sym (ap (progress_wait t) is ∙ ap (λ b. if b then None else Some (on.Init u)) (ne_eqb u t other))

pub progress-untouched : (t : ℕ) (p : Option Progress) → p ≡ Some Untouched → None ≡ progress_wait t p
progress-untouched t p is = sym (ap (progress_wait t) is)

pub progress-finished : (t : ℕ) (p : Option Progress) → p ≡ Some Finished → None ≡ progress_wait t p
progress-finished t p is = sym (ap (progress_wait t) is)
