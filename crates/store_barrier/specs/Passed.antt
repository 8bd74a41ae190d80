-- What crates above name of the crates below this one: they stand on this one alone.
pub use Rattle.machine_forms.specs.Events.{CallsImage, Converted, ConvertsOn, FailsOn, IsNoSeal, LogsWord}
pub use Rattle.machine_forms.specs.Events.{MakesFence, NotesStore, OnlyImage, Seals, StaysSound, WritesBack, act_in}
pub use Rattle.machine_forms.specs.Events.{told_of_log, value_in, with_asked, with_closing, with_doing, with_fence}
pub use Rattle.machine_forms.specs.Events.{with_guarded, with_joined, with_log, with_logged, with_twin, with_write}
pub use Rattle.machine_forms.specs.Machines.{Machine, doing_of, empty_log, log_of, memory_of, scene_of, shown_in}
pub use Rattle.machine_forms.specs.Naming.{HasToSeal, group_names, member_names, names_below, queue_names}
pub use Rattle.machine_forms.specs.declared.doing.Doing.{Doing}
pub use Rattle.machine_forms.specs.declared.doing.Doing.TheVariants.{Converting, Fencing, Nothing, Writing}
pub use Rattle.machine_forms.specs.Passed.{AtMost, BehindGoes, FaultsGo, IsSilent, OutputGoes, SharesGo}
