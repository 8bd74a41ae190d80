-- What crates above name of the crates below this one: they stand on this one alone.
pub use Rattle.shared_steps.proofs.Lasting.{classes_kept, counts_kept, heap_kept, objects_kept, words_kept}
pub use Rattle.two_spaces.proofs.Finding.{At, at_number, slot_there}
pub use Rattle.two_spaces.proofs.Numbering.{named_number, number_named}
pub use Rattle.two_spaces.proofs.Shifting.{object_is, values_long}
pub use Rattle.two_spaces.proofs.Valuing.{item_to}
