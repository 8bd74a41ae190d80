-- What is missing where there is no `main`, as crates above name it.
pub use Rattle.program_launch.specs.declared.mains.NoMain.TheVariants.{Class, Method}
