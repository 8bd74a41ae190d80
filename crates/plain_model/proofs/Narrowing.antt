-- What byte, short, boolean and char places keep, and what a load gives.
use Rattle.std.proofs.Common.{◌≡◌, pos, negsuc, refl}
use Rattle.std.specs.Int.{int_wrap}
use Rattle.ap_base.specs.declared.kind.Kind.TheVariants.{Z, B, C, S}
use Rattle.graph_model.specs.declared.types.Value.TheVariants.{Int}
use Rattle.plain_model.specs.Steps.{step}
use Rattle.plain_model.specs.Kinds.{IsOf}
use Rattle.plain_model.specs.Rows.{Narrows, LoadsGiveWhatIsThere}

pub byte_kept : Narrows B (pos 300) (pos 44)
unfolding step int_wrap
byte_kept set world t class at from finished = rw finished refl

pub short_kept : Narrows S (pos 65535) (negsuc 0)
unfolding step int_wrap
short_kept set world t class at from finished = rw finished refl

pub boolean_kept : Narrows Z (pos 2) (pos 0)
unfolding step int_wrap
boolean_kept set world t class at from finished = rw finished refl

pub char_kept : Narrows C (negsuc 0) (pos 65535)
unfolding step int_wrap
char_kept set world t class at from finished = rw finished refl

pub loaded : LoadsGiveWhatIsThere
unfolding step
loaded set world t class at kind from finished = rw finished refl

pub no_bit : IsOf Z (Int (pos 2)) → ⊥
no_bit is = let e : Int (pos 0) ≡ Int (pos 2) = is.range in cc

pub no_char : IsOf C (Int (pos 65536)) → ⊥
no_char is = let e : Int (pos 0) ≡ Int (pos 65536) = is.range in cc
