-- The operation by which alone a request can change monitors, classes or threads.
use Rattle.std.specs.Prelude.{◌≡◌, ℕ, zero, suc, nat_lt, false, List, length, Option, Some, None, if◌then◌else◌}
use Rattle.ap_base.specs.declared.reference.Ref.{Ref}
use Rattle.ap_base.specs.declared.reference.Item.{Item}
use Rattle.run_types.specs.declared.key.Key.{Key}
use Rattle.run_types.specs.declared.key.Key.TheVariants as key
use Rattle.graph_model.specs.declared.types.Root.{Root}
use Rattle.natives.specs.declared.requests.Request.{Request}
use Rattle.run_history.specs.declared.act.Op.{Op}
use Rattle.run_history.specs.declared.act.Op.TheVariants as op
use Rattle.run_history.specs.declared.act.PlainKey.{PlainKey}
use Rattle.run_history.specs.declared.act.PlainKey.TheVariants as plain
use Rattle.run_history.specs.declared.act.Stage.TheVariants as stage
use Rattle.run_history.specs.declared.plain.Progress.{Progress}
use Rattle.run_history.specs.declared.plain.Progress.TheVariants.{Untouched}
use Rattle.plain_model.specs.Facts.{SetFacts}
use Rattle.plain_model.specs.Steps.{Step, op_of, step}
use Rattle.shared_objects.specs.declared.rest.Rest.{Rest}
use Rattle.shared_objects.specs.declared.threads.ThreadState.{ThreadState}
use Rattle.shared_objects.specs.Shown.{Numbers, Shown}
use Rattle.shared_objects.specs.Plain.{plain_request}
use Rattle.shared_objects.specs.Threads.{started_from}
use Rattle.shared_objects.specs.Worlds.{world_of}
use Rattle.plain_machine.specs.Ops.{changes_rest, is_print}

-- the plain step of a request in the world that a heap and the rest show, where these are the durable roots
abbrev pub step_in : SetFacts → List Root → Shown → Rest → (t taken : ℕ) → Request Ref Item → Step
step_in set roots shown rest t taken q =
    step set (world_of roots shown rest) t taken (plain_request shown.number q)

-- Whatever the request's step does is this operation, or changes the heap at most.
abbrev pub Foresees : SetFacts → Shown → Rest → ℕ → Request Ref Item → Option Op → Type 0
Foresees set shown rest t q (Some o) = (is_print o ≡ false) × ((roots : List Root) (taken : ℕ) (p : Op)
    → op_of (step_in set roots shown rest t taken q) ≡ Some p → p ≡ o)
Foresees set shown rest t q None = (roots : List Root) (taken : ℕ) (p : Op)
    → op_of (step_in set roots shown rest t taken q) ≡ Some p → changes_rest p ≡ false

abbrev pub op_begun : ℕ → Option Progress → Option Op
op_begun class (Some Untouched) = Some (op.Init class stage.Begun)
op_begun class other = None

abbrev pub key_by : Option ℕ → Option PlainKey
key_by None = None
key_by (Some n) = Some (plain.Object n)

-- the key of an object's or a class's monitor, none for null
abbrev pub key_named : Numbers → Key Ref → Option PlainKey
key_named number (key.Object r) = key_by (number r)
key_named number (key.Class c) = Some (plain.Class c)

abbrev pub op_entered : Option PlainKey → Option Op
op_entered None = None
op_entered (Some k) = Some (op.Enter k)

abbrev pub op_next : ℕ → ℕ → Option Op
op_next n count = if nat_lt count 64 then Some (op.Start n count) else None

abbrev pub op_unless : ℕ → List ThreadState → Option (ℕ × ThreadState) → Option Op
op_unless n ts None = op_next n (length ts)
op_unless n ts (Some started) = None

abbrev pub op_started : Option ℕ → List ThreadState → Option Op
op_started None ts = None
op_started (Some n) ts = op_unless n ts (started_from 0 ts n)

abbrev pub op_raised : ℕ → Option Op
op_raised zero = None
op_raised (suc depth) = Some op.End
