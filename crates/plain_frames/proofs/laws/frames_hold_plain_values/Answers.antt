use Rattle.std.proofs.Common.{refl}
use Rattle.frames.specs.Turns.{turn, answer}
use Rattle.plain_frames.specs.Codes.{code_of}
use Rattle.plain_frames.proofs.laws.frames_hold_plain_values.Goals as goal

pub returns-clause-asked : goal.returns-clause-asked
unfolding turn
returns-clause-asked c = record {
  int = refl;
  long = refl;
  null = refl;
  literal = refl;
  is_null = refl;
  is_object = refl;
}

pub returns-clause-given : goal.returns-clause-given
unfolding answer
returns-clause-given c = record { int = refl; long = refl; null = refl; object = refl; made = refl }

pub returns-clause-beginnings : goal.returns-clause-beginnings
unfolding turn answer code_of
returns-clause-beginnings c = record { main = refl; argument = refl; thread = refl }
