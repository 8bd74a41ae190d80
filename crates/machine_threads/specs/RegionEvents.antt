-- The events of a machine's regions: what crates above name of them.
pub use Rattle.machine_ends.specs.RegionEvents.{at_once, begun, closing, emptied, ended, ending, guarded, logged, stored}
