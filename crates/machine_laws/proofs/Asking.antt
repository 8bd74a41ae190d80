-- A step that stores does so whatever the durable roots are, and whatever a print would take.
use Rattle.std.proofs.Common.{◌≡◌, ℕ, Bool, true, false, List, [], if◌then◌else◌, nat_lt, nat_le, ◌&&◌, length, take}
use Rattle.ap_base.specs.declared.place.Place.{Place}
use Rattle.run_types.specs.declared.key.Key.TheVariants as key
use Rattle.graph_model.specs.declared.types.Value.{Value}
use Rattle.graph_model.specs.declared.types.Root.{Root}
use Rattle.natives.specs.declared.requests.Request.TheVariants as ask
use Rattle.natives.specs.declared.requests.Reply.TheVariants as reply
use Rattle.run_history.specs.declared.act.Op.TheVariants as op
use Rattle.plain_model.specs.Facts.{SetFacts}
use Rattle.plain_model.specs.Requests.{PlainRequest}
use Rattle.plain_model.specs.Steps.{Step, Does, WrongOperand, step}
use Rattle.shared_objects.specs.declared.rest.Rest.{Rest}
use Rattle.shared_objects.specs.Shown.{Shown}
use Rattle.shared_objects.specs.Worlds.{world_of}

module _ (set : SetFacts) (shown : Shown) (rest : Rest) (t : ℕ) where
  abbrev at_roots : List Root → ℕ → PlainRequest → Step
  at_roots roots taken q = step set (world_of roots shown rest) t taken q

  no-store : (bytes : List ℕ) (taken : ℕ) (b : Bool) (place : Place) (value : Value)
      → (if b then Does (op.Print bytes) (reply.Printed taken) else WrongOperand)
      ≡ Does (op.Stored place value) reply.Done
      → ⊥
  no-store bytes taken true place value e = let no = e in cc
  no-store bytes taken false place value e = let no = e in cc

  pub stores-anyhow : (roots : List Root) (taken : ℕ) (q : PlainRequest) (place : Place) (value : Value)
      → at_roots [] 0 q ≡ Does (op.Stored place value) reply.Done
      → at_roots roots taken q ≡ Does (op.Stored place value) reply.Done
  unfolding step
  stores-anyhow roots taken (ask.Print from piece) place value e =
      absurd (no-store (take 0 piece) 0 (nat_lt 0 0 && nat_le 0 (length piece)) place value e)
  stores-anyhow roots taken (ask.Enter from (key.Object object)) place value e = e
  stores-anyhow roots taken (ask.Enter from (key.Class class)) place value e = e
  stores-anyhow roots taken (ask.Exit from (key.Object object)) place value e = e
  stores-anyhow roots taken (ask.Exit from (key.Class class)) place value e = e
  stores-anyhow roots taken q place value e = e
