use Rattle.class_code.proofs.Spelled.{ascii_is_utf8}
use Rattle.class_code.proofs.native_methods.built_in_method.Goals as goal

pub parameters_spelled-requires : goal.parameters_spelled-requires
parameters_spelled-requires g c = ascii_is_utf8 c.args.member.now.descriptor.now c.requires
