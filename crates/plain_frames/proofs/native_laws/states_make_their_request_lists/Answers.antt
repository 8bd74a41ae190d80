use Rattle.plain_frames.proofs.Making.{states_make, frames_make}
use Rattle.plain_frames.proofs.native_laws.states_make_their_request_lists.Goals as goal

pub returns : goal.returns
returns g c = record {
  states = λ x. states_make x (c.methods_make_their_request_lists.ensures x);
  frames = λ x give. frames_make x give (c.methods_make_their_request_lists.ensures x);
}
