-- What crates above name of the crates below this one: they stand on this one alone.
pub use Rattle.shared_steps.specs.Lasting.{AtMost}
pub use Rattle.shared_steps.specs.Output.{BehindGoes, FaultsGo, IsSilent, OutputGoes, SharesGo}
pub use Rattle.two_spaces.specs.Seen.{Spaces, number_in, shown_of}
pub use Rattle.two_spaces.specs.Whole.{HasLine, IsHereIn, IsItem, IsStatic, IsStaticHereIn, IsTo, IsWhole}
pub use Rattle.two_spaces.specs.Whole.{MayStoreIn, NeedsLine, Stands, StoresIn, no_static}
pub use Rattle.two_spaces.specs.declared.spaces.Static.{Static}
pub use Rattle.two_spaces.specs.declared.spaces.Static.TheVariants.{Beside, Root}
pub use Rattle.two_spaces.specs.declared.spaces.TwoSpaces.{TwoSpaces}
