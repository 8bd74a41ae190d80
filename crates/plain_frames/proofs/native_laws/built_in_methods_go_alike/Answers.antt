use Rattle.plain_frames.proofs.Moving.{methods_go_alike}
use Rattle.plain_frames.proofs.native_laws.built_in_methods_go_alike.Goals as goal

pub returns : goal.returns
returns g c = λ f h x y give give' a. methods_go_alike f h x y give give' a
