use Rattle.plain_frames.proofs.Machines.{programs_ask_what_is_fit, worlds_are_of, frames_stay_in}
use Rattle.plain_frames.proofs.native_laws.programs_with_built_in_methods_ask_what_is_fit.Goals as goal

pub returns : goal.returns
returns c = record {
  duties = programs_ask_what_is_fit;
  worlds = worlds_are_of;
  frames = frames_stay_in;
}
