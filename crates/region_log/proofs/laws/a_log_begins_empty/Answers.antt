use Rattle.std.proofs.Common.{arith}
use Rattle.region_log.proofs.laws.a_log_begins_empty.Goals as goal

pub returns : goal.returns
returns c t depth m thread size counts = record {
  thread = thread;
  size = size;
  room = omega arith;
  places = λ k d below. absurd (omega (arith, below));
  once = λ i j d before below. absurd (omega (arith, below));
  fits = tt;
  words = λ tells. record { count = counts tells; each = tt };
}
