-- What crates above name of the crates below this one: they stand on this one alone.
pub use Rattle.machine_laws.specs.Frames.{ActsArePlainRuns, Asks, AsksIts, Begins, BeginsBy, EventsGoOnAsPlain}
pub use Rattle.machine_laws.specs.Frames.{IsReady, OfPlain, ReadyThreadsAskAlike, RunsAsPlain, all_acted, frames_by}
pub use Rattle.machine_laws.specs.Frames.{region_frames, stored_frames}
pub use Rattle.machine_laws.specs.HeapLaws.{KeepsShared}
pub use Rattle.machine_laws.specs.Keeping.{EachStopIsAllowed, EventsKeepRuns}
pub use Rattle.machine_laws.specs.Passed.{AsksFor, CallsImage, DoesRequest, RegionStep, act_in, value_in}
pub use Rattle.machine_laws.specs.Passed.{with_logged, with_twin}
pub use Rattle.machine_laws.specs.Happening.{Happens, act_of, acted, asked, begun, called, converted, failed}
pub use Rattle.machine_laws.specs.Happening.{fenced, region, region_act, sealed, stored, written}
pub use Rattle.machine_laws.specs.Passed.{IsDoing, KeepsRun}
pub use Rattle.machine_laws.specs.Passed.{Machine, Opening, doing_of, empty_log, known_in, layout_in, log_of}
pub use Rattle.machine_laws.specs.Passed.{roots_in, scene_of, shown_in}
pub use Rattle.machine_laws.specs.Passed.{Doing}
pub use Rattle.machine_laws.specs.Passed.{Converting, Fencing, Nothing, Writing}
pub use Rattle.machine_laws.specs.Passed.{ActsBeside, AsksEnd, BeginsOn, BeginsRegion, CallsEnd, ClosesRegion}
pub use Rattle.machine_laws.specs.Passed.{Converted, EndsByAct, EndsPart, GuardsPlace, Happens, IsFitRequest, IsFree}
pub use Rattle.machine_laws.specs.Passed.{IsListed, IsStoreOf, KeepsAsked, KeepsHeap, KeepsWorld, LeavesLog}
pub use Rattle.machine_laws.specs.Passed.{LeavesRegions, LogsWord, MakesListed, NotesStore, StoresBeside}
pub use Rattle.machine_laws.specs.Passed.{StoresDurably, StoresLogged, group_names, left_by, memory_of, request_of}
pub use Rattle.machine_laws.specs.Passed.{table_after, with_asked, with_closing, with_fence, with_guarded}
pub use Rattle.machine_laws.specs.Passed.{with_joined, with_write}
