use Rattle.natives.proofs.Following.{request_lists-follow}
use Rattle.natives.proofs.laws.methods_make_their_request_lists.Goals as goal

pub returns : goal.returns
returns g c = λ x known from method values. request_lists-follow x known from values method
