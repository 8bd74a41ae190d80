use Rattle.std.proofs.Common.{◌≡◌, map, take, drop}
use Rattle.class_links.specs.Names.{NamedClass, built_in}
use Rattle.class_links.specs.Links.{doubled, doubled_after}
use Rattle.class_links.specs.Found.{AreNumbers}
use Rattle.class_links.proofs.Doubled.{names_after}
use Rattle.class_links.proofs.classes.Classes.of.Given as goal

abbrev pub invariant-loop-number : goal.invariant-loop-number
invariant-loop-number l = record {
  numbers : AreNumbers (take l.number l.files) l.numbers;
  single : doubled l.files
      ≡ doubled_after (names_after (map (λ (k : NamedClass). k.name) built_in) (take l.number l.files)) (drop l.number l.files);
}
