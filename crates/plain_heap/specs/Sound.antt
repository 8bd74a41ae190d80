-- What every heap keeps.
use Rattle.std.specs.Prelude.{◌≡◌, ℕ, ◌<◌, ◌^◌, true, List, length, All}
use Rattle.graph_model.specs.declared.types.Value.{Value}
use Rattle.graph_model.specs.declared.types.Obj.{Obj}
use Rattle.graph_model.specs.declared.types.Shape.{Shape}
use Rattle.run_history.specs.Worlds.{is_below}

-- The object's class is there, it has fewer than 2^31 slots, and its references name objects, of which there
-- are so many.
pub record IsSoundObject (shapes : List Shape) (count : ℕ) (o : Obj) : Type 0 where
  pub shape : o.shape < length shapes
  pub few : length o.values < 2 ^ 31
  pub below : All (λ (v : Value). is_below count v ≡ true) o.values

-- Each object is so, references in static fields name objects, and numbers have 32 bits.
pub record IsSoundHeap (shapes : List Shape) (objects : List Obj) (statics : List Value) : Type 0 where
  pub objects_sound : All (IsSoundObject shapes (length objects)) objects
  pub statics_below : All (λ (v : Value). is_below (length objects) v ≡ true) statics
  pub few : length objects < 2 ^ 32
