use Rattle.plain_model.proofs.Within.{runs_stay_within}
use Rattle.machine.proofs.laws.laws.Goals as goal

pub returns : goal.returns
returns c = record {
  keep = c.events_keep_runs.ensures;
  frames = c.events_go_on_as_plain_runs.ensures;
  alike = c.machines_ask_as_plain_runs.ensures.ready;
  runs = c.machines_ask_as_plain_runs.ensures.acts;
  within = λ set main opening code limits lines acts run quiet.
      runs_stay_within set main opening code limits lines acts run quiet;
  threads = record {
    own = c.others_keep_theirs.ensures.own;
    all = c.others_keep_theirs.ensures.all;
    ask = c.others_keep_theirs.ensures.ask;
    forwarded = c.others_keep_theirs.ensures.forwarded;
    nothing = c.claimers_convert.ensures.others;
    plain = c.full_rows_end_runs.ensures.no_conversion;
    wait = c.threads_wait_as_they_ask.ensures.ready;
    fences = c.threads_wait_as_they_ask.ensures.fences;
    live = c.tested_waits_are_stuck.ensures.live;
    tested = c.tested_waits_are_stuck.ensures.stuck;
    end = c.tested_waits_are_stuck.ensures.end;
  };
  lines = c.events_keep_lines.ensures.events;
  unwritten = c.lines_stay_unwritten.ensures.events;
  ends = record {
    full = c.machines_end_by_their_faults.ensures.full;
    steps = c.machines_end_by_their_faults.ensures.steps;
    image = c.machines_end_by_their_faults.ensures.image;
    logs = c.machines_end_by_their_faults.ensures.logs;
    races = c.machines_end_by_their_faults.ensures.races;
    steps_meet = c.acts_meet_no_fault.ensures.steps;
    fences_meet = c.acts_meet_no_fault.ensures.fences;
    stores_meet = c.acts_meet_no_fault.ensures.stores;
    ends_meet = c.acts_meet_no_fault.ensures.ends;
    refused_steps = c.refusals_fill_the_image.ensures.steps;
    refused_begins = c.refusals_fill_the_image.ensures.begins;
    refusals = c.refusals_fill_the_image.ensures.ends;
  };
  barriers = record {
    places = c.answers_serve_machines.ensures.places;
    lines = c.answers_serve_machines.ensures.lines;
    words = c.answers_serve_machines.ensures.words;
    kept = c.answers_serve_machines.ensures.kept;
    guards = c.answers_serve_machines.ensures.guards;
    asked = c.answers_serve_machines.ensures.asked;
    durable = c.answers_serve_machines.ensures.durable;
    outside = c.answers_serve_machines.ensures.outside;
    logged = c.answers_serve_machines.ensures.logged;
    may = c.answers_serve_machines.ensures.may;
  };
  work = record {
    writes = c.events_take_work.ensures.writes;
    fences = c.events_take_work.ensures.fences;
    steps = c.events_take_work.ensures.steps;
    begins = c.events_take_work.ensures.begins;
    seals = c.events_take_work.ensures.seals;
    asked = c.events_take_work.ensures.asked;
    beside = c.events_take_work.ensures.beside;
    durable = c.events_take_work.ensures.durable;
    guards = c.calls_of_regions_lower_the_measure.ensures.acts;
  };
  measure = c.quiet_events_lower_the_measure.ensures.quiet;
  logging = c.calls_of_regions_lower_the_measure.ensures.logging;
  ending = c.calls_of_regions_lower_the_measure.ensures.ending;
  resident = c.every_line_is_resident.ensures;
}
