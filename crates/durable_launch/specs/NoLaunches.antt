-- Why no run is launched, as crates above name it.
pub use Rattle.program_launch.specs.declared.refusals.NoLaunch.TheVariants.{Full, OutOfMemory}
