use Rattle.std.proofs.Common.{take}
use Rattle.first_spaces.specs.Growing.{IsYoung, PutsChars}
use Rattle.first_spaces.specs.Spaces.{spaces_of}
use Rattle.first_spaces.proofs.adding.put_chars.Given as goal

abbrev pub invariant-loop-i : goal.invariant-loop-i
invariant-loop-i g l = record {
  puts : PutsChars l.object (take l.i l.chars) (spaces_of l.initial.spaces) (spaces_of l.spaces);
  young : IsYoung (spaces_of l.spaces) l.object;
}
