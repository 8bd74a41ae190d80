use Rattle.std.proofs.Common.{◌≡◌, ◌≤◌, map, take, length}
use Rattle.std.specs.Prelude.{vec_capacity}
use Rattle.one_space.specs.First.{text_object}
use Rattle.two_spaces.specs.Seen.{shown_of}
use Rattle.first_spaces.specs.Growing.{Grows}
use Rattle.first_spaces.specs.Items.{AreNumbered}
use Rattle.first_spaces.specs.Spaces.{spaces_of}
use Rattle.first_spaces.proofs.adding.add_texts.Given as goal

abbrev pub invariant-loop-text : goal.invariant-loop-text
invariant-loop-text g l = record {
  grown : Grows (map (text_object l.class) (take l.text-index l.texts)) (spaces_of l.initial.spaces)
      (spaces_of l.spaces);
  numbers : AreNumbered (shown_of (spaces_of l.spaces)).number (length (shown_of (spaces_of
      l.initial.spaces)).objects)
      l.references.items;
  long : length l.references.items ≡ l.text-index;
  room : length l.texts ≤ vec_capacity l.references;
}
