-- What crates above name of the crates below this one: they stand on this one alone.
pub use Rattle.store_barrier.specs.Barriers.{AgreesWith, ConvertsFirst, HoldsDurable, IsDurablePlace, IsLineOf}
pub use Rattle.store_barrier.specs.Barriers.{IsReady, IsSpotAt, MayFollow, line_of_place, static_at, word_of_place}
pub use Rattle.store_barrier.specs.Barriers.{word_of_static}
pub use Rattle.store_barrier.specs.Laws.{Asks, ConversionsAreAsked, DurableLinesAgree, DurablePlacesAgree}
pub use Rattle.store_barrier.specs.Laws.{DurableWordsAgree, GuardedBy, GuardsAgree, PlacesMayBeGuarded}
pub use Rattle.store_barrier.specs.Laws.{StoredPlacesAreKept, StoresAreLogged, StoresAreOutside, StoresKeepDurable}
pub use Rattle.store_barrier.specs.Regions.{HasLogged, IsApart, IsLineLeft, LogsFirst, Races}
pub use Rattle.store_barrier.specs.Passed.{AtMost, BehindGoes, FaultsGo, IsSilent, OutputGoes, SharesGo}
