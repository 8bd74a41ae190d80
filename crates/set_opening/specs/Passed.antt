-- What crates above name of the crates below this one: they stand on this one alone.
pub use Rattle.first_spaces.specs.Beginnings.{HasTables, IsWholeOpened, RootsLieInSlots, ShowsOpening, StandFor}
pub use Rattle.first_spaces.specs.Laws.{AppendedImagesAreOpened}
pub use Rattle.first_spaces.specs.Opened.{IsOpened}
pub use Rattle.first_spaces.specs.Parts.{AreObjects, AreTables, IsBeginning, volatile_objects}
pub use Rattle.first_spaces.specs.Spaces.{spaces_of}
pub use Rattle.first_spaces.specs.declared.parts.FirstObjects.{FirstObjects}
pub use Rattle.first_spaces.specs.declared.parts.SpacesParts.{SpacesParts}
pub use Rattle.first_spaces.specs.declared.parts.SpacesTables.{SpacesTables}
