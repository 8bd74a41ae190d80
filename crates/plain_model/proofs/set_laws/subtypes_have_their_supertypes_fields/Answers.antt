use Rattle.plain_model.proofs.Given.{own_subtype}
use Rattle.plain_model.proofs.Subtypes.{subtypes_have_fields}
use Rattle.plain_model.proofs.Supertypes.{direct_subtype}
use Rattle.plain_model.proofs.set_laws.subtypes_have_their_supertypes_fields.Goals as goal

pub returns : goal.returns
returns c = record {
  own = λ set n consistent. own_subtype set consistent n;
  direct = λ set n super consistent below has. direct_subtype set consistent n super below has;
  fields = λ set m n i f consistent is not_interface at. subtypes_have_fields set consistent m n i f is not_interface at;
}
