-- What a heap over two spaces is to its clauses.
use Rattle.two_spaces.specs.declared.spaces.TwoSpaces.{TwoSpaces}
use Rattle.two_spaces.specs.Seen.{Spaces}

abbrev pub spaces_of : {I : Type 0} → TwoSpaces I → Spaces
spaces_of s = record {
  twin = record { space = s.heap.space; memory = s.heap.memory; marks = s.heap.marks };
  shapes = s.shapes;
  classes = s.classes.items;
  numbers = s.numbers.items;
  statics = s.statics.items;
}
