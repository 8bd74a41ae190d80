-- What crates above name of the crates below this one: they stand on this one alone.
pub use Rattle.machine_forms.proofs.Naming.{groups_name_theirs}
pub use Rattle.machine_forms.proofs.Taking.{names_fit, seals_take_queues}
