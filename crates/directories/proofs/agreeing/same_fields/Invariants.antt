-- The fields so far are the same.
use Rattle.std.proofs.Common.{◌≡◌, map, take}
use Rattle.directories.specs.ClassSets.{field_of}
use Rattle.directories.proofs.agreeing.same_fields.Given as goal

abbrev pub invariant-loop-i : goal.invariant-loop-i
invariant-loop-i l = map field_of (take l.i l.fields) ≡ map field_of (take l.i l.others)
