-- What crates above name of the crates below this one: they stand on this one alone.
pub use Rattle.durable_run.specs.Passed.{AllKeep, AreOf, BeginnersKeepTheirs, EachStopIsAllowed, HadNoFault}
pub use Rattle.durable_run.specs.Passed.{IsRunning, IsUnbegun, KeepsRun, ListsClasses, Opening, Runs, RunsAsPlain}
pub use Rattle.durable_run.specs.Passed.{Shared, StartsHaveUnwritten, StartsTakeNoLines, TakesLines, ThreadNotes}
pub use Rattle.durable_run.specs.Passed.{asked_by, empty_log, first_shared, log_of, memory_of, no_notes, shown_in}
pub use Rattle.durable_run.specs.Passed.{waits_on, work_left}
pub use Rattle.durable_run.specs.Shares.{EachPrintsItsShare, IsShareOfPiece, PrintsShares, piece_after, piece_of}
pub use Rattle.durable_run.specs.Sparing.{Spares, SparesAll, SparesSink}
pub use Rattle.durable_run.specs.Telling.{HasTold, IsCaused, LeavesShares, with_all}
pub use Rattle.durable_run.specs.Turning.{AsksListed, EndsBy, HasFrames, HasRun, HaveTurned, IsReady, ending_of}
pub use Rattle.durable_run.specs.Turning.{fault_in}
pub use Rattle.durable_run.specs.declared.runs.RunEnd.{RunEnd}
pub use Rattle.durable_run.specs.declared.runs.RunEnd.TheVariants.{Ended, Over}
pub use Rattle.frames.specs.Settings.{Setting}
pub use Rattle.frames.specs.Turns.{begun_main}
pub use Rattle.run_forms.specs.Standing.{IsLaunch, Launch, setting_of}
pub use Rattle.run_forms.specs.Views.{ThreadFrames}
pub use Rattle.shared_objects.specs.declared.rest.Rest.{Rest}
pub use Rattle.shared_objects.specs.declared.threads.ThreadState.{ThreadState}
