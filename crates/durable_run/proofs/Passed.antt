-- What crates above name of the crates below this one: they stand on this one alone.
pub use Rattle.machine.proofs.Passed.{at_to, long_to}
