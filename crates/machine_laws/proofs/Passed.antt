-- What crates above name of the crates below this one: they stand on this one alone.
pub use Rattle.two_spaces.proofs.Keeping.{copied_or_not}
pub use Rattle.two_spaces.proofs.Moved.{shows}
pub use Rattle.two_spaces.proofs.Numbering.{number_named}
pub use Rattle.two_spaces.proofs.Shifting.{object_is, objects_long, values_long}
pub use Rattle.machine_forms.proofs.Happening.{table-is}
