-- What crates above name of the crates below this one: they stand on this one alone.
pub use Rattle.machine_ends.proofs.Passed.{in-durable}
pub use Rattle.machine_ends.proofs.Passed.{stores-anyhow}
pub use Rattle.machine_ends.proofs.Passed.{counted}
pub use Rattle.machine_ends.proofs.Passed.{left_goes_on}
pub use Rattle.machine_ends.proofs.Passed.{frames-at, ready-own}
pub use Rattle.machine_ends.proofs.Passed.{place-inside}
pub use Rattle.machine_ends.proofs.Passed.{copied-there}
pub use Rattle.machine_ends.proofs.Passed.{table-is}
