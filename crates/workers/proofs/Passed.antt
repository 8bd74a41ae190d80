-- What crates above name of the crates below this one: they stand on this one alone.
pub use Rattle.durable_run.proofs.Passed.{at_to, long_to}
