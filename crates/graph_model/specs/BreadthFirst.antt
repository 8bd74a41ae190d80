-- Breadth first numberings, said without the steps that make one.
use Rattle.std.specs.Prelude.{◌≡◌, ◌↔◌, ℕ, nat_eq, List, [], ◌++◌, Contains}
use Rattle.std.specs.List.{IsDistinct, flat_map}
use Rattle.graph_model.specs.declared.types.Value.{Value}
use Rattle.graph_model.specs.declared.types.Heap.{Heap}
use Rattle.graph_model.specs.Heaps.{kept_values_of}
use Rattle.graph_model.specs.Canon.{with_new}
use Rattle.graph_model.specs.Reach.{IsReached}

-- The numbers are those of exactly the objects that the values reach, each once, in the order in which these
-- first stand in one row: the values, then the slots of the object that is numbered first, of the second one,
-- and so on.
pub record IsNumbering (heap : Heap) (start : List Value) (numbers : List ℕ) : Type 0 where
  pub reached : (n : ℕ) → Contains numbers n ↔ IsReached heap start n
  pub once : IsDistinct nat_eq numbers
  pub in_order : numbers ≡ with_new [] (start ++ flat_map (kept_values_of heap) numbers)
