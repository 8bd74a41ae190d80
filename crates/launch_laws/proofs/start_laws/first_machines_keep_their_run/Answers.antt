use Rattle.launch_laws.proofs.start_laws.first_machines_keep_their_run.Goals as goal

pub returns : goal.returns
returns c o lines m es first = record {
  heap = c.first_machines_show_their_world.ensures.heaps o lines m es first;
  world = c.first_machines_show_their_world.ensures.worlds o lines m es first;
  asked = c.first_machines_keep_what_was_asked.ensures o lines m es first;
  stops = c.first_machines_keep_stops.ensures o lines m es first;
}
