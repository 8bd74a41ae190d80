-- What the machine that runs frames gives them where values are items, and such frames as the plain machine
-- has them.
use Rattle.std.specs.Prelude.{ℕ, List, [], ◌∷◌, length, unwrap_or}
use Rattle.ap_base.specs.declared.reference.Ref.{Ref}
use Rattle.ap_base.specs.declared.reference.Item.{Item}
use Rattle.ap_base.specs.declared.reference.Item.TheVariants as item
use Rattle.graph_model.specs.declared.types.Value.{Value}
use Rattle.natives.specs.declared.states.NativeState.{NativeState}
use Rattle.frame_cells.specs.declared.cell.Cell.{Cell}
use Rattle.frame_cells.specs.declared.cell.Cell.TheVariants as cell
use Rattle.frames.specs.Settings.{Frames}
use Rattle.frames.specs.Maps.{map_frames}
use Rattle.plain_frames.specs.Coded.{plain_reference}
use Rattle.plain_frames.specs.Moves.{map_state}
use Rattle.shared_objects.specs.Shown.{Shown}

-- the cells of an item, the top first
abbrev pub item_cells : Item → List (Cell Ref)
item_cells (item.Int i) = cell.Int i ∷ []
item_cells (item.Long i) = cell.Half ∷ cell.Long i ∷ []
item_cells (item.Ref r) = cell.Reference r ∷ []

-- the frames of a thread, whose references a heap gives
abbrev pub ThreadFrames : Type 0
ThreadFrames = Frames Ref (NativeState Ref)

-- those of the plain machine
abbrev pub PlainFrames : Type 0
PlainFrames = Frames Value (NativeState Value)

-- the number of the object that a reference stands for; one past all objects where it stands for none
abbrev pub numbered : Shown → Ref → ℕ
numbered shown r = unwrap_or (shown.number r) (length shown.objects)

-- the frames with numbers of objects in place of references
abbrev pub plain_frames : Shown → ThreadFrames → PlainFrames
plain_frames shown fs =
    map_frames (plain_reference (numbered shown)) (map_state (plain_reference (numbered shown))) fs
