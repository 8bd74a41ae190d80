-- What crates above name of the crates below this one.
pub use Rattle.class_runs.specs.Again.{HadOtherShape, IsLeftBy, IsRefusedStill, LackedRoom, StoppedRunsOpenAgain}
pub use Rattle.class_runs.specs.Chosen.{Choice, FilesGive}
pub use Rattle.class_runs.specs.Complete.{Admits, EndsComplete, IsNumberedFor, IsOfPlainRun, MeetsLimit}
pub use Rattle.class_runs.specs.Passed.{IsShareOfPiece, piece_of}
pub use Rattle.class_runs.specs.Passed.{AllAgree, AreEntriesOf, AreRead, EachPrintsItsShare, HadNoFault, IsDirectoryIn, IsRun, Launch, Linked, Main, StandsWithNew}
pub use Rattle.class_runs.specs.Passed.{facts_of, lacking, launch_over, made_of, main_of, plain_code, with_all, with_arrays_of}
pub use Rattle.class_runs.specs.Runs.{ComesTo, EndsOver, IsCauseAt, IsCauseOf, OfChoice, Over, RunsAs, over}
pub use Rattle.class_runs.specs.Sets.{CannotOpen, HasEndedSo, IsOpenedSo, StandsAllowed, StandsAsBefore, StandsRightly, StandsStill}
pub use Rattle.class_runs.specs.Sets.{HasNoMain, IsFencedFor, status_of_ending}
pub use Rattle.run_types.specs.declared.fault.Full.{Full}
pub use Rattle.run_types.specs.declared.limits.Limits.{Limits}
pub use Rattle.statuses.specs.Stages.{OfMemory, OfOpening, Stage, stage_of}
pub use Rattle.statuses.specs.declared.status.Status.{Status}
pub use Rattle.statuses.specs.declared.status.Status.TheVariants.{BadImage, Full as FullOf, ImageFault, OutOfMemory, ShapeChanged, SinkFault}
