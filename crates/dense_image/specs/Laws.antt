-- The laws of dense images. Of this project's own format.
use Rattle.std.specs.Prelude.{◌≡◌, ◌≤◌, ℕ, None, ◌↔◌}
use Rattle.graph_model.specs.declared.types.Graph.{Graph}
use Rattle.image_layout.specs.Places.{min_lines, max_lines}
use Rattle.image_meaning.specs.Checks.{Words}
use Rattle.image_meaning.specs.Meaning.{StandsFor}
use Rattle.dense_image.specs.Graphs.{CanBeStoodFor}
use Rattle.dense_image.specs.Written.{IsWritten, HasRoom, IsWhole, no_room}

-- A dense image is well formed, stands for its graph, and leaves no line between its objects.
abbrev pub WrittenImagesStand : Type 0
WrittenImagesStand = (size : ℕ) (words : Words) (graph : Graph) → min_lines ≤ size → size ≤ max_lines → CanBeStoodFor graph
    → HasRoom size graph → IsWritten size words graph → IsWhole size words graph

-- Each graph for which an image stands can be written.
abbrev pub StandingGraphsCanBeStoodFor : Type 0
StandingGraphsCanBeStoodFor = (size : ℕ) (words : Words) (graph : Graph) → StandsFor size words graph → CanBeStoodFor graph

-- there is room exactly where none is wanting
abbrev pub RoomIsTold : Type 0
RoomIsTold = (size : ℕ) (graph : Graph) → min_lines ≤ size → no_room size graph ≡ None ↔ HasRoom size graph
