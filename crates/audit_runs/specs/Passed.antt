-- What crates above name of the crates below this one.
pub use Rattle.program_launch.specs.Mains.{main_of}
pub use Rattle.program_launch.specs.declared.mains.Main.{Main}
pub use Rattle.program_launch.specs.declared.mains.NoMain.{NoMain}
pub use Rattle.program_launch.specs.declared.mains.NoMain.TheVariants.{Class, Method}
