-- What crates above name of the crates below this one: they stand on this one alone.
pub use Rattle.machine_laws.proofs.Acts.{asked-next, asked_after, durable-kept, owes_some, pending-kept, pending-own}
pub use Rattle.machine_laws.proofs.Acts.{pending-without_own}
pub use Rattle.machine_laws.proofs.AskKeeping.{in-durable}
pub use Rattle.machine_laws.proofs.Asking.{stores-anyhow}
pub use Rattle.machine_laws.proofs.Beside.{OnlyAdds, claimed-was}
pub use Rattle.machine_laws.proofs.Called.{quiet}
pub use Rattle.machine_laws.proofs.Converted.{counted}
pub use Rattle.machine_laws.proofs.HeapBeginning.{failed_move, move_begun}
pub use Rattle.machine_laws.proofs.HeapConverting.{move}
pub use Rattle.machine_laws.proofs.HeapRegions.{closing_goes_on, ending_goes_on, left_goes_on, logged_goes_on}
pub use Rattle.machine_laws.proofs.Lagging.{frames-at, ready-own}
pub use Rattle.machine_laws.proofs.Logging.{LogGoesOn}
pub use Rattle.machine_laws.proofs.Places.{place-inside}
pub use Rattle.machine_laws.proofs.Requested.{copied-there}
pub use Rattle.machine_laws.proofs.StopTables.{lies, objects_many}
pub use Rattle.machine_laws.proofs.Passed.{table-is}
pub use Rattle.machine_laws.proofs.Passed.{shows}
pub use Rattle.machine_laws.proofs.Passed.{number_named}
