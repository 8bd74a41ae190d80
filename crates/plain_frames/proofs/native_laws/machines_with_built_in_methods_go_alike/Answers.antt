use Rattle.plain_frames.proofs.Machines.{settings_keep, settings_go_alike, plain_settings_are_such}
use Rattle.plain_frames.proofs.native_laws.machines_with_built_in_methods_go_alike.Goals as goal

pub returns : goal.returns
returns g c = record {
  keep = λ f h. settings_keep f h;
  alike = λ f h. settings_go_alike f h;
  plain = plain_settings_are_such;
}
