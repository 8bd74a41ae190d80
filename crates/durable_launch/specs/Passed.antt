-- What crates above name of the crates below this one: they stand on this one alone.
pub use Rattle.workers.specs.Passed.{EachStopIsAllowed, HadNoFault, Opening, Shared, memory_of}
pub use Rattle.workers.specs.Passed.{shown_in}
pub use Rattle.workers.specs.Passed.{EachPrintsItsShare, IsShareOfPiece, PrintsShares, piece_after, piece_of}
pub use Rattle.workers.specs.Passed.{Spares, SparesAll, SparesSink}
pub use Rattle.workers.specs.Passed.{HasTold, IsCaused, LeavesShares, with_all}
pub use Rattle.workers.specs.Passed.{EndsBy, HasRun, IsReady, ending_of, fault_in}
pub use Rattle.workers.specs.Passed.{RunEnd}
pub use Rattle.workers.specs.Passed.{Ended, Over}
pub use Rattle.class_code.specs.Sizes.{IsTooLarge}
pub use Rattle.program_launch.specs.Mains.{main_of}
pub use Rattle.program_launch.specs.Refusals.{IfFull}
pub use Rattle.program_launch.specs.declared.mains.Main.{Main}
pub use Rattle.program_launch.specs.declared.mains.NoMain.{NoMain}
pub use Rattle.program_launch.specs.declared.refusals.NoLaunch.{NoLaunch}
pub use Rattle.set_opening.specs.Again.{HoldsGraph, IsNoRefusal, LacksRoom, OpenedImagesOpenAgain}
pub use Rattle.set_opening.specs.Arrays.{with_arrays_of}
pub use Rattle.set_opening.specs.Attached.{AreRead, IsAttached, IsSettled}
pub use Rattle.set_opening.specs.Fitted.{AllAgree, IsOtherShape, IsUnfit}
pub use Rattle.set_opening.specs.Found.{HasDirectory, IsDirectoryIn}
pub use Rattle.set_opening.specs.Opened.{IsFoundFor, IsOpenedFor, StandsWithFirst, StandsWithNew}
pub use Rattle.set_opening.specs.Unopened.{IsAttachFault, IsLeft, IsLeftAsFound, IsRecoveryFault, IsUnappended, IsUnbegun}
pub use Rattle.set_opening.specs.Unopened.{IsUnopened}
pub use Rattle.set_opening.specs.declared.unopened.Unopened.{Unopened}
