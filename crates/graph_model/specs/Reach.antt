-- Reach: the objects to which a path of references leads ("persistence by reachability": Shull, Huang and Torrellas,
-- "AutoPersist", PLDI 2019).
use Rattle.std.specs.Prelude.{ℕ, List, Contains}
use Rattle.graph_model.specs.declared.types.Value.{Value}
use Rattle.graph_model.specs.declared.types.Value.TheVariants.{Obj as Object}
use Rattle.graph_model.specs.declared.types.Heap.{Heap}
use Rattle.graph_model.specs.Heaps.{kept_values_of}

-- object m keeps a reference to object n
abbrev pub Refers : Heap → ℕ → ℕ → Type 0
Refers heap m n = Contains (kept_values_of heap m) (Object n)

-- a path of references leads from an object of `From` to this one
pub data Reaches (heap : Heap) (From : ℕ → Type 0) : ℕ → Type 0 where
  here : (n : ℕ) → From n → Reaches heap From n
  along : (m n : ℕ) → Reaches heap From m → Refers heap m n → Reaches heap From n

-- one of the values is this object, or a path leads from one of them to it
abbrev pub IsReached : Heap → List Value → ℕ → Type 0
IsReached heap values n = Reaches heap (λ m. Contains values (Object m)) n
