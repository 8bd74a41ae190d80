use Rattle.std.proofs.Common.{◌≡◌, drop}
use Rattle.class_links.specs.Names.{known_classes}
use Rattle.class_links.specs.Links.{first_with}
use Rattle.class_links.specs.Rules.{faulty_super}
use Rattle.class_links.proofs.classes.Classes.first_faulty.Given as goal

abbrev pub invariant-loop-file : goal.invariant-loop-file
invariant-loop-file l =
    first_with (faulty_super (known_classes l.self) l.of_class l.of_interface) l.self
    ≡ first_with (faulty_super (known_classes l.self) l.of_class l.of_interface) (drop l.file-index l.self)
