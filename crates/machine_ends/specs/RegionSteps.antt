-- The kinds of steps of regions, for crates above: they stand on this one alone.
pub use Rattle.machine_laws.specs.Passed.{begun, closing, ended, ending, guarded, logged, stored}
