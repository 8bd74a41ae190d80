-- What crates above name of the proofs of crates below this one.
pub use Rattle.class_runs.proofs.Again.{shape_keeps}
pub use Rattle.class_runs.proofs.Causes.{come_so, one_of_files}
pub use Rattle.class_runs.proofs.Complete.{admits_so, read_directory}
pub use Rattle.class_runs.proofs.Reading.{fenced_as_read, not_both, one_read, same_graph, stands_alike}
pub use Rattle.class_runs.proofs.SetStops.{still_stands}
