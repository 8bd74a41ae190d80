-- What frames are given by a program with the built-in methods, over the references of the runtime.
use Rattle.std.specs.Prelude.{ℕ, List, [], ◌∷◌}
use Rattle.ap_base.specs.declared.reference.Ref.{Ref}
use Rattle.ap_base.specs.declared.reference.Item.{Item}
use Rattle.ap_base.specs.declared.reference.Item.TheVariants as item
use Rattle.run_types.specs.declared.known.Known.{Known}
use Rattle.natives.specs.declared.methods.Native.{Native}
use Rattle.natives.specs.declared.states.NativeState.{NativeState}
use Rattle.natives.specs.Coded.{items}
use Rattle.frame_cells.specs.declared.cell.Cell.{Cell}
use Rattle.frame_cells.specs.declared.cell.Cell.TheVariants.{Int, Long, Half, Reference}
use Rattle.frames.specs.declared.program.Program.{Program}
use Rattle.frames.specs.Settings.{Setting}
use Rattle.frames.specs.Tables.{start_of}
use Rattle.plain_frames.specs.Coded.{item_given}
use Rattle.plain_frames.specs.Machines.{setting}
use Rattle.program_host.specs.Literals.{literal_in}

-- the cells of an item, the top first
abbrev pub item_cells : Item → List (Cell Ref)
item_cells (item.Int i) = Int i ∷ []
item_cells (item.Long i) = Half ∷ Long i ∷ []
item_cells (item.Ref r) = Reference r ∷ []

-- `method` is the number of `main`
abbrev pub setting_of : Program Native → (method : ℕ) → Known → (literals : List Ref)
    → Setting Native Ref (NativeState Ref) Item
setting_of program method known literals =
    setting items item_given known program (start_of program method) (literal_in literals) item.Long item_cells
