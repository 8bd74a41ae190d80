-- What fits keeps the heap sound, and what doesn't changes nothing.
use Rattle.run_history.proofs.CheckedHeaps.{checked-sound}
use Rattle.run_history.proofs.laws.a_checked_operation_keeps_the_heap_sound.Goals as goal

pub returns : goal.returns
returns c = record { sound = checked-sound }
