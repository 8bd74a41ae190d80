-- What the built-in methods of a consistent class set keep.
use Rattle.plain_model.specs.Consistent.{IsConsistent}
use Rattle.plain_model.specs.Facts.{SetFacts}
use Rattle.plain_frames.specs.Sound.{KeepIn}
use Rattle.plain_frames.specs.Methods.{plain_natives}
use Rattle.plain_frames.specs.Worlds.{is_in}

-- They ask what is fit, and go on where they are in the world.
abbrev pub BuiltInMethodsKeepIn : Type 0
BuiltInMethodsKeepIn = (set : SetFacts) → IsConsistent set → KeepIn set (plain_natives set) (is_in set)
