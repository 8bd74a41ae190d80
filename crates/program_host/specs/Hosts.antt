-- The setting that a host gives.
use Rattle.ap_base.specs.declared.reference.Ref.{Ref}
use Rattle.ap_base.specs.declared.reference.Item.{Item}
use Rattle.natives.specs.declared.methods.Native.{Native}
use Rattle.natives.specs.declared.states.NativeState.{NativeState}
use Rattle.frames.specs.Settings.{Setting}
use Rattle.program_host.specs.declared.host.ProgramHost.{ProgramHost}
use Rattle.program_host.specs.Settings.{setting_of}

abbrev pub setting_in : ProgramHost → Setting Native Ref (NativeState Ref) Item
setting_in host = setting_of host.program host.main host.known host.literals
