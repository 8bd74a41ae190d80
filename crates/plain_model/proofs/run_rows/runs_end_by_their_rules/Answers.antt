use Rattle.plain_model.proofs.Ending.{regions_race, threads_are_stuck, runs_fill, lines_are_wanted, causes_are_in_order}
use Rattle.plain_model.proofs.Ending.{fences_come_first, faults_come, threads_end}
use Rattle.plain_model.proofs.Ending.{lines_hold_eight_words, logs_fill}
use Rattle.plain_model.proofs.run_rows.runs_end_by_their_rules.Goals as goal

pub returns : goal.returns
returns c = record {
  races = regions_race;
  stuck = threads_are_stuck;
  fill = runs_fill;
  lines = lines_are_wanted;
  eight = lines_hold_eight_words;
  logs = logs_fill;
  order = causes_are_in_order;
  fences = fences_come_first;
  faults = faults_come;
  ends = threads_end;
}
