use Rattle.std.proofs.Common.{take}
use Rattle.one_space.specs.Making.{PutsChars}
use Rattle.one_space.proofs.space.OneSpace.put_chars.Given as goal

abbrev pub invariant-loop-i : goal.invariant-loop-i
invariant-loop-i l = PutsChars l.at (take l.i l.chars) l.initial.self l.self
