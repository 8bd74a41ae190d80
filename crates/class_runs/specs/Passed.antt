-- What crates above name of the crates below this one.
pub use Rattle.class_set.specs.Facts.{facts_of}
pub use Rattle.class_set.specs.Linked.{Linked}
pub use Rattle.class_set.specs.Sets.{made_of}
pub use Rattle.directories.specs.ClassSets.{AreEntriesOf}
pub use Rattle.directories.specs.Planning.{lacking}
pub use Rattle.durable_launch.specs.Launching.{launch_over}
pub use Rattle.durable_launch.specs.Passed.{AllAgree, AreRead, EachPrintsItsShare, HadNoFault, IsDirectoryIn, Main, StandsWithNew, main_of, with_all, with_arrays_of}
pub use Rattle.durable_launch.specs.Passed.{IsShareOfPiece, piece_of}
pub use Rattle.run_forms.specs.Standing.{IsRun, Launch, plain_code}
pub use Rattle.source_classes.specs.Reading.{HadLeft, IsLeft, IsOfClasses}
