-- What crates above name of the crates below this one: they stand on this one alone.
pub use Rattle.machine.specs.Passed.{EachStopIsAllowed, RunsAsPlain, Shared, StartsHaveUnwritten}
pub use Rattle.machine.specs.Passed.{StartsTakeNoLines, TakesLines, first_shared, no_notes, started_as}
pub use Rattle.machine.specs.Passed.{AllKeep, BeginnersKeepTheirs, IsUnbegun, ThreadNotes, asked_by, waits_on}
pub use Rattle.machine.specs.Running.{HadNoFault, IsRunning, ListsClasses, RemembersAsked, Runs}
pub use Rattle.frame_steps.specs.Sized.{AreOf}
pub use Rattle.machine.specs.Passed.{IsDoing, KeepsRun}
pub use Rattle.machine.specs.Passed.{Opening, doing_of, empty_log, known_in, layout_in, log_of, memory_of, shown_in}
pub use Rattle.machine.specs.Passed.{Doing}
pub use Rattle.machine.specs.Passed.{Nothing}
pub use Rattle.machine.specs.Passed.{work_left}
pub use Rattle.machine.specs.Halts.{fault_of_halt}
pub use Rattle.machine.specs.declared.events.Halt.{Halt}
pub use Rattle.machine.specs.declared.events.Halt.TheVariants.{Stuck}
