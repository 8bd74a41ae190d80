use Rattle.plain_model.proofs.Narrowing.{loaded, no_bit, no_char}
use Rattle.plain_model.proofs.rows.loads_narrow_nothing.Goals as goal

pub returns : goal.returns
returns c = record {
  loads = loaded;
  byte = record { form = tt; range = tt };
  short = record { form = tt; range = tt };
  boolean = no_bit;
  char = no_char;
}
