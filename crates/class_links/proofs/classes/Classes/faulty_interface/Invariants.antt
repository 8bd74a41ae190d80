use Rattle.std.proofs.Common.{◌≡◌, map, drop}
use Rattle.class_links.specs.Names.{known_classes, class_name, interfaces_of}
use Rattle.class_links.specs.Links.{first_name}
use Rattle.class_links.specs.Rules.{has_fault}
use Rattle.class_links.proofs.classes.Classes.faulty_interface.Given as goal

abbrev pub invariant-loop-index : goal.invariant-loop-index
invariant-loop-index l =
    first_name (has_fault (known_classes l.self) l.fault) (interfaces_of l.file)
    ≡ first_name (has_fault (known_classes l.self) l.fault) (map (class_name l.file.pool) (drop l.index-index l.index-items))
