-- What crates above name of the proofs of crates below this one.
pub use Rattle.set_opening.proofs.Again.{shapes_first}
pub use Rattle.set_opening.proofs.Arrays.{arrays_files}
pub use Rattle.set_opening.proofs.Opened.{agree_before, found_left}
pub use Rattle.set_opening.proofs.Recovered.{has_spells, one_directory, standing_has, standing_spells, stops_both}
pub use Rattle.set_opening.proofs.Room.{first_lacks}
