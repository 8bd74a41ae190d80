-- The events of a machine, as they happen: what crates above name of them.
pub use Rattle.machine_laws.specs.Happening.{acted, asked, begun, called, converted, failed, fenced, region, sealed, stored}
pub use Rattle.machine_laws.specs.Happening.{written}
