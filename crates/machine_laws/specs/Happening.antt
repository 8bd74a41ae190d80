-- The events of a machine, as they happen: what crates above name of them.
pub use Rattle.machine_forms.specs.Happening.{act_of, acted, asked, begun, called, converted, failed, fenced, Happens}
pub use Rattle.machine_forms.specs.Happening.{OfEvents, region, region_act, sealed, stored, written}
