-- What replies give to the instructions that asked.
use Rattle.std.specs.Prelude.{Bool, true, false, List, [], ◌∷◌}
use Rattle.natives.specs.declared.requests.Reply.{Reply}
use Rattle.natives.specs.declared.requests.Reply.TheVariants as reply
use Rattle.frame_cells.specs.declared.cell.Cell.{Cell}
use Rattle.frame_cells.specs.declared.cell.Cell.TheVariants.{Reference}
use Rattle.frames.specs.declared.op.Op.{Op}
use Rattle.frames.specs.declared.op.Op.TheVariants as op
use Rattle.frames.specs.Settings.{Setting}
use Rattle.frame_thread.specs.declared.said.Said.{Said}
use Rattle.frame_thread.specs.declared.said.Said.TheVariants as said

-- the cells that a reply puts in place of an instruction's operands
abbrev pub cells_replied : {M R N V : Type 0} → Setting M R N V → Reply R V → List (Cell R)
cells_replied x (reply.Item v) = x.cells v
cells_replied x (reply.Made r) = Reference r ∷ []
cells_replied x other = []

-- neither a throwable nor a class to be initialised first
abbrev pub IsPlain : {R V : Type 0} → Reply R V → Type 0
IsPlain (reply.Thrown r class) = ⊥
IsPlain (reply.Init class) = ⊥
IsPlain other = Unit {0}

abbrev pub is_shape : {R V : Type 0} → Reply R V → Bool
is_shape (reply.Shape class) = true
is_shape other = false

abbrev pub is_item : {R V : Type 0} → Reply R V → Bool
is_item (reply.Item v) = true
is_item other = false

abbrev pub is_thrown : {R V : Type 0} → Reply R V → Bool
is_thrown (reply.Thrown r class) = true
is_thrown other = false

abbrev pub is_init : {R V : Type 0} → Reply R V → Bool
is_init (reply.Init class) = true
is_init other = false

-- the instructions for which a reply may mean something else than cells in place of the operands
abbrev pub goes_its_way : Op → Bool
goes_its_way (op.InvokeStatic k) = true
goes_its_way (op.InvokeVirtual s) = true
goes_its_way op.Throw = true
goes_its_way op.Return = true
goes_its_way (op.ReturnValue sort) = true
goes_its_way (op.IfSame equality target) = true
goes_its_way other = false

abbrev pub is_breaks : {R : Type 0} → Said R → Bool
is_breaks (said.Breaks f) = true
is_breaks other = false
