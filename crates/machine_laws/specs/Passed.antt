-- What crates above name of the crates below this one: they stand on this one alone.
pub use Rattle.machine_forms.specs.Keeping.{HasSlotsOfRoots, HoldsNumbers, IsOfDirectory, KeepsAsked, KeepsHeap}
pub use Rattle.machine_forms.specs.Keeping.{KeepsRun, KeepsStops, KeepsWorld}
pub use Rattle.machine_forms.specs.Machines.{Machine, Opening, doing_of, empty_log, first_of, is_fencing, known_in}
pub use Rattle.machine_forms.specs.Machines.{log_of, memory_of, scene_of, shown_in}
pub use Rattle.machine_forms.specs.declared.doing.Doing.{Doing}
pub use Rattle.machine_forms.specs.declared.doing.Doing.TheVariants.{Nothing}
pub use Rattle.machine_forms.specs.Events.{ActsBeside, AsksEnd, AsksFor, BeginsOn, BeginsRegion, CallsImage}
pub use Rattle.machine_forms.specs.Events.{ClosesRegion, ConvertsOn, DoesRequest, EndsByAct, EndsPart, FailsOn}
pub use Rattle.machine_forms.specs.Events.{GuardsPlace, IsStoreOf, IsWithFresh, LeavesLog, LogsWord, MakesFence}
pub use Rattle.machine_forms.specs.Events.{OnlyImage, RegionStep, Seals, StoresDurably, StoresLogged, TableAfter}
pub use Rattle.machine_forms.specs.Events.{WritesBack, act_in, at_once, begun, closing, emptied, ended, ending}
pub use Rattle.machine_forms.specs.Events.{guarded, left_by, logged, stored, told_of_log, value_in, with_asked}
pub use Rattle.machine_forms.specs.Events.{with_closing, with_fence, with_guarded, with_joined, with_logged}
pub use Rattle.machine_forms.specs.Events.{with_twin, with_write}
pub use Rattle.machine_forms.specs.Keeping.{IsDoing}
pub use Rattle.machine_forms.specs.Machines.{layout_in, roots_in, wants_in}
pub use Rattle.machine_forms.specs.declared.doing.Doing.TheVariants.{Converting, Fencing, Writing}
pub use Rattle.machine_forms.specs.Events.{CallsEnd, Converted, IsFitRequest, IsFree, IsListed, LeavesRegions}
pub use Rattle.machine_forms.specs.Events.{MakesListed, NotesStore, StoresBeside}
pub use Rattle.machine_forms.specs.Happening.{Happens, request_of, table_after}
pub use Rattle.machine_forms.specs.Naming.{group_names}
