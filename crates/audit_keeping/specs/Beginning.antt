-- What is kept before the first act.
use Rattle.std.specs.Prelude.{◌≡◌, ◌<◌, ◌≤◌, ◌-◌, ℕ, Bool, true, false, List, [], ◌∷◌, ◌++◌, length, replicate, slice_set, All}
use Rattle.graph_model.specs.declared.types.Root.{Root}
use Rattle.graph_model.specs.declared.types.Heap.{Heap}
use Rattle.run_history.specs.Worlds.{World}
use Rattle.run_history.specs.Knowing.{known_at_first}
use Rattle.run_history.specs.Wanted.{IsClosed}
use Rattle.plain_model.specs.First.{numbers_to}
use Rattle.audit_keeping.specs.declared.keeping.Keeping.{Keeping}
use Rattle.audit_keeping.specs.Keeping.{Lists, lists_of}
use Rattle.audit_keeping.specs.Steps.{IsStanding}

-- the marks with those of the static fields of these roots
abbrev pub with_roots : List Bool → List Root → List Bool
with_roots marks [] = marks
with_roots marks (r ∷ rs) = with_roots (slice_set marks r.at true) rs

-- the roots and the first so many objects are durable, and nothing else is kept
abbrev pub first_lists : Heap → ℕ → Lists
first_lists heap durable = record {
  roots = with_roots (replicate (length heap.statics) false) heap.roots;
  durable = replicate durable true ++ replicate (length heap.objects - durable) false;
  asked = [];
  guards = [];
  closing = [];
  unfenced = [];
}

-- each durable root has its static field
abbrev pub HaveStatics : Heap → Type 0
HaveStatics heap = All (λ (r : Root). r.at < length heap.statics) heap.roots

-- Where the first so many objects are durable, and what durable places refer to is, that stands for no acts.
abbrev pub KeepingBegins : Type 0
KeepingBegins = (world : World) (durable : ℕ) (k : Keeping) → HaveStatics world.heap → durable ≤ length world.heap.objects
    → IsClosed (known_at_first world (numbers_to durable)) → lists_of k ≡ first_lists world.heap durable
    → IsStanding (known_at_first world (numbers_to durable)) [] k
