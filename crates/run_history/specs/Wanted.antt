-- Wanted objects, and durability by reachability: what a durable place refers to is durable.
use Rattle.std.specs.Prelude.{◌≡◌, ◌⊎◌, ℕ, true, List, [], ◌∷◌, slice_get, Option, Some, None}
use Rattle.graph_model.specs.declared.types.Value.TheVariants.{Obj as Object}
use Rattle.graph_model.specs.Heaps.{has_number}
use Rattle.graph_model.specs.Reach.{Reaches, Refers}
use Rattle.run_history.specs.Recorded.{Recorded}
use Rattle.run_history.specs.Knowing.{Knowledge, Pending, pending_of, next_known, is_root}

-- what each thread wants: object n is wanted by thread u
abbrev pub Wishes : Type 1
Wishes = ℕ → ℕ → Type 0

abbrev pub NoWish : Wishes
NoWish u n = ⊥

abbrev pub WantsFor : Knowledge → Wishes → ℕ → Option Pending → ℕ → Type 0
WantsFor known Before u None n = ⊥
WantsFor known Before u (Some p) n = Reaches known.world.heap (λ m. (p.value ≡ Object m) ⊎ Before u m) n

-- What the threads want after an act: while a thread's Asked act is pending, what its value and what it wanted before
-- reach. So an object that was wanted stays so until the store is made.
abbrev pub WantsNow : Knowledge → Wishes → Wishes
WantsNow known Before u n = WantsFor known Before u (pending_of known.asked u) n

-- what the threads want after these acts
abbrev pub WantsAfter : Knowledge → Wishes → List Recorded → Wishes
WantsAfter known Now [] = Now
WantsAfter known Now (a ∷ acts) = WantsAfter (next_known known a) (WantsNow (next_known known a) Now) acts

-- Whatever a durable object or a durable root refers to is durable.
pub record IsClosed (known : Knowledge) : Type 0 where
  pub objects : (m n : ℕ) → has_number known.durable m ≡ true → Refers known.world.heap m n
      → has_number known.durable n ≡ true
  pub roots : (k n : ℕ) → is_root known.world.heap.roots k ≡ true → slice_get known.world.heap.statics k ≡ Some (Object n)
      → has_number known.durable n ≡ true
