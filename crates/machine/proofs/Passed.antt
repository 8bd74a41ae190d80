-- What crates above name of the crates below this one: they stand on this one alone.
pub use Rattle.shared_heap.proofs.Logging.{at_to, long_to}
pub use Rattle.machine_threads.proofs.Passed.{frames-at, ready-own}
