use Rattle.std.proofs.Common.{refl}
use Rattle.std.specs.Char.{encode_utf8}
use Rattle.std.specs.Fmt.{digits}
use Rattle.std.specs.Int.{int_wrap}
use Rattle.plain_frames.proofs.native_laws.further_request_lists_are_those_of_the_rows.Goals as goal

pub returns : goal.returns
unfolding encode_utf8 digits int_wrap
returns c = record {
  appended = refl;
  appended_objects = refl;
  printed_values = refl;
  printed_objects = refl;
  whole_pieces = refl;
}
