use Rattle.launch_laws.proofs.Heaps.{heap_kept}
use Rattle.launch_laws.proofs.Worlds.{slots_of_roots, world_kept}
use Rattle.launch_laws.proofs.start_laws.first_machines_show_their_world.Goals as goal

pub returns-clause-roots : goal.returns-clause-roots
returns-clause-roots c o lines m es first = slots_of_roots o lines m es first

pub returns-clause-heaps : goal.returns-clause-heaps
returns-clause-heaps c o lines m es first =
    heap_kept c.conversions_can_begin_at_the_first_heap.ensures o lines m es first

pub returns-clause-worlds : goal.returns-clause-worlds
returns-clause-worlds c o lines m es first = world_kept o lines m es first
