-- How the frame of a method begins.
use Rattle.std.specs.Prelude.{List, [], ◌∷◌, Option, Some, None, IsSome, IfSome, if◌then◌else◌}
use Rattle.frame_cells.specs.declared.cell.Cell.{Cell}
use Rattle.frame_cells.specs.declared.cell.Cell.TheVariants.{Reference}
use Rattle.frames.specs.declared.program.Method.{Method}
use Rattle.frames.specs.Settings.{Frame, Runs, Enters}
use Rattle.frames.specs.Calls.{monitor_of}
use Rattle.frame_thread.specs.declared.form.Form.{Form}
use Rattle.frame_steps.specs.declared.begins.Base.{Base}
use Rattle.frame_steps.specs.declared.begins.Base.TheVariants as base
use Rattle.frame_thread.specs.Stacked.{Stacked, holding, IsBelowEnd}

module _ {R : Type 0} where
  -- the cell of a receiver, where there is one
  abbrev pub cells_given : Option R → List (Cell R)
  cells_given None = []
  cells_given (Some r) = Reference r ∷ []

module _ {R N : Type 0} where
  abbrev pub below_of : Base → List (Frame R N) → List (Frame R N)
  below_of base.Others frames = frames
  below_of base.Nothing frames = []

  -- a frame may be made above the last one
  abbrev pub IsBase : Base → Option (Form R N) → Type 0
  IsBase base.Others form = IsSome form × IfSome form IsBelowEnd
  IsBase base.Nothing form = Unit {0}

  -- the method that was just called takes its monitor, or asks for it
  abbrev pub entered : {M : Type 0} → Method M → Stacked R N → Stacked R N
  entered method s = record s {
    doing = if method.is_synchronized then Enters else Runs;
    form = holding (monitor_of method s.own) s.form;
  }
