-- Objects that are found, by their first lines, and the places that lines have among them.
use Rattle.std.specs.Prelude.{◌≤◌, ℕ, List, All, Option}
use Rattle.graph_model.specs.Found.{IsPlaced}
use Rattle.image_layout.specs.Places.{first_object_line}

-- each line has the place of the object that begins there, all behind the logs
pub record IsPlacedLow (found : List ℕ) (places : List (Option ℕ)) : Type 0 where
  pub placed : IsPlaced found places
  pub low : All (λ line. first_object_line ≤ line) found
