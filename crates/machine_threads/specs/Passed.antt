-- What crates above name of the crates below this one: they stand on this one alone.
pub use Rattle.machine_ends.specs.Laws.{EndsMeetNoFault, FencesMeetNoFault, FullHistoriesEnd, FullLogsEnd}
pub use Rattle.machine_ends.specs.Laws.{ImageFaultsEnd, Lives, RacesEnd, RunsFinish, StepsEnd, StepsMeetNoFault}
pub use Rattle.machine_ends.specs.Laws.{StoresMeetNoFault}
pub use Rattle.machine_ends.specs.LineLaws.{EventsKeepLines, RefusalsEndTheRun, RefusedBeginningsFillTheImage}
pub use Rattle.machine_ends.specs.LineLaws.{RefusedStepsFillTheImage, StartsTakeNoLines}
pub use Rattle.machine_ends.specs.Lines.{IsRefused, TakesLines, lines_fault, lines_from}
pub use Rattle.machine_ends.specs.Regions.{EndingLowersTheMeasure, GuardsAddEightToTheMeasure, LoggingLowersTheMeasure}
pub use Rattle.machine_ends.specs.Stores.{IsFreeOp, StoresFreely, beside, outside, own, room, volatile}
pub use Rattle.machine_ends.specs.Unwritten.{EventsLeaveUnwritten, HasUnwritten, StartsHaveUnwritten}
pub use Rattle.machine_ends.specs.Work.{ActsAddTwo, AskedAddsNone, BeginningsAddLines, ConversionsTakeWork}
pub use Rattle.machine_ends.specs.Work.{DurableStoresAddTwo, FencesTakeOne, QuietEventsLowerTheMeasure, SealsAddNone}
pub use Rattle.machine_ends.specs.Work.{WritesTakeOne, measure, work_left}
pub use Rattle.machine_ends.specs.Passed.{ActsArePlainRuns, Asks, AsksIts, Begins, BeginsBy, EventsGoOnAsPlain}
pub use Rattle.machine_ends.specs.Passed.{IsReady, ReadyThreadsAskAlike, RunsAsPlain, all_acted, frames_by}
pub use Rattle.machine_ends.specs.Passed.{stored_frames}
pub use Rattle.machine_ends.specs.Passed.{KeepsShared}
pub use Rattle.machine_ends.specs.Passed.{EachStopIsAllowed, EventsKeepRuns}
pub use Rattle.machine_ends.specs.Passed.{ActsBeside, AsksEnd, AsksFor, BeginsOn, BeginsRegion, CallsEnd}
pub use Rattle.machine_ends.specs.Passed.{ClosesRegion, Converted, Converting, DoesRequest, Doing, EndsByAct}
pub use Rattle.machine_ends.specs.Passed.{EndsPart, Fencing, GuardsPlace, Happens, IsDoing, IsFitRequest, IsFree}
pub use Rattle.machine_ends.specs.Passed.{IsListed, IsStoreOf, KeepsAsked, KeepsHeap, KeepsRun, KeepsWorld}
pub use Rattle.machine_ends.specs.Passed.{LeavesLog, LeavesRegions, LogsWord, Machine, MakesListed, NotesStore}
pub use Rattle.machine_ends.specs.Passed.{Nothing, Opening, RegionStep, StoresBeside, StoresDurably, StoresLogged}
pub use Rattle.machine_ends.specs.Passed.{Writing, act_in, doing_of, empty_log, group_names, known_in, layout_in}
pub use Rattle.machine_ends.specs.Passed.{left_by, log_of, memory_of, request_of, roots_in, scene_of, shown_in}
pub use Rattle.machine_ends.specs.Passed.{table_after, value_in, with_asked, with_closing, with_fence, with_guarded}
pub use Rattle.machine_ends.specs.Passed.{with_joined, with_logged, with_twin, with_write}
