use Rattle.std.proofs.Common.{refl}
use Rattle.std.specs.Char.{encode_utf8}
use Rattle.std.specs.Fmt.{digits}
use Rattle.std.specs.Int.{int_wrap}
use Rattle.natives.proofs.laws.request_lists_are_those_of_the_rows.Goals as goal

pub returns : goal.returns
unfolding encode_utf8 digits int_wrap
returns c = record {
  singles = refl;
  equal_texts = refl;
  built = refl;
  printed_numbers = refl;
  printed_texts = refl;
  long_texts = refl;
  threads = refl;
}
