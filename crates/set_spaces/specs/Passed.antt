-- What crates above name of the crates below this one.
pub use Rattle.set_directory.specs.Written.{is_written}
pub use Rattle.two_spaces.specs.Seen.{Spaces, shown_of}
