use Rattle.machine_laws.proofs.run_laws.events_keep_runs.Goals as goal

pub returns : goal.returns
returns c o t m m' es es' run e =
    let shared = c.events_keep_heaps.ensures o t m m' es es' run e in record {
      heap = shared.0;
      world = shared.1;
      asked = c.events_keep_what_was_asked.ensures o t m m' es es' run e;
      stops = c.events_keep_stops.ensures o t m m' es es' run e shared.0;
    }
