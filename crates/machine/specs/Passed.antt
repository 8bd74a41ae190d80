-- What crates above name of the crates below this one: they stand on this one alone.
pub use Rattle.line_memory.specs.Memory.{SameImage}
pub use Rattle.convert_waits.specs.Passes.{HaveWaited, PassesBegin, PassesFill, PassesGoOn, PassesSkip}
pub use Rattle.convert_waits.specs.Rows.{InRow, Why, none_waited, on_of, with_wait}
pub use Rattle.convert_waits.specs.Rows.Why.{Plain}
pub use Rattle.convert_waits.specs.Stuck.{FullRowsWaitPlainly, HoldsWait, IsFull, IsPlain, IsStuckAt}
pub use Rattle.convert_words.specs.Agreeing.{Is, Queueing}
pub use Rattle.convert_words.specs.Scenes.{AgreesAt}
pub use Rattle.machine_threads.specs.Passed.{RunsFinish}
pub use Rattle.machine_threads.specs.Passed.{StartsTakeNoLines}
pub use Rattle.machine_threads.specs.Passed.{TakesLines, lines_from}
pub use Rattle.machine_threads.specs.Passed.{StartsHaveUnwritten}
pub use Rattle.machine_threads.specs.Passed.{measure, work_left}
pub use Rattle.machine_threads.specs.Passed.{Asks, Begins, IsReady, RunsAsPlain, all_acted}
pub use Rattle.machine_threads.specs.Passed.{EachStopIsAllowed}
pub use Rattle.machine_threads.specs.Keeping.{AllKeep, AsksSomeStore, BeginnersKeepTheirs, IsUnbegun, KeepsThread, LagsByItsStore}
pub use Rattle.machine_threads.specs.Plain.{PlainWaitsAreNoConversions, asks_some}
pub use Rattle.machine_threads.specs.Stuck.{AllAskStores, ClaimersLive, MachinesBeginRows, plain_waits, requests_in}
pub use Rattle.machine_threads.specs.Testing.{AreNoted, IsLive, LiveThreadsAsk}
pub use Rattle.shared_heap.specs.First.{first_shared}
pub use Rattle.shared_heap.specs.Notes.{AreOf64, ThreadNotes, answered, asked_by, no_notes, started_as, taken, waits_on}
pub use Rattle.shared_heap.specs.Passed.{IsSilent}
pub use Rattle.shared_heap.specs.Shared.{Shared}
pub use Rattle.step_forms.specs.Becomes.{given}
pub use Rattle.machine_threads.specs.Passed.{IsListed}
pub use Rattle.machine_threads.specs.Passed.{IsDoing, KeepsRun}
pub use Rattle.machine_threads.specs.Passed.{Machine, Opening, doing_of, empty_log, known_in, layout_in, log_of}
pub use Rattle.machine_threads.specs.Passed.{memory_of, scene_of, shown_in}
pub use Rattle.machine_threads.specs.Passed.{Doing}
pub use Rattle.machine_threads.specs.Passed.{Converting, Fencing, Nothing, Writing}
