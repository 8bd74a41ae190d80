use Rattle.std.proofs.Common.{◌≡◌, ◌++◌, drop}
use Rattle.std.specs.List.{flat_map}
use Rattle.class_code.specs.Signatures.{marked}
use Rattle.class_code.proofs.signatures.marked_name.Given as goal

abbrev pub invariant-loop-byte : goal.invariant-loop-byte
invariant-loop-byte l = l.text.items ++ flat_map marked (drop l.byte-index l.name) ≡ flat_map marked l.name
