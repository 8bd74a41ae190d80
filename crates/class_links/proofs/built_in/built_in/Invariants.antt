use Rattle.std.proofs.Common.{◌≡◌, map, drop}
use Rattle.class_links.specs.Names.{built_in, find_known}
use Rattle.class_links.specs.Found.{known_row}
use Rattle.class_links.proofs.built_in.built_in.Given as goal

abbrev pub invariant-loop-class : goal.invariant-loop-class
invariant-loop-class l = find_known built_in l.name ≡ find_known (map known_row (drop l.class-index l.class-items)) l.name
