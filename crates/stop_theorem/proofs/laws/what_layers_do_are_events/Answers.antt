use Rattle.stop_theorem.proofs.Given.{fenced_stores, begin_is, entry_words, counted_entries, region_stores, closing_is}
use Rattle.stop_theorem.proofs.Given.{emptied_logs, ended_regions}
use Rattle.stop_theorem.proofs.Begun.{run_begins, one_store}
use Rattle.stop_theorem.proofs.Fenced.{lines_may_be_fenced}
use Rattle.stop_theorem.proofs.Copies.{free_stores}
use Rattle.stop_theorem.proofs.Quiet.{quiet_acts}
use Rattle.stop_theorem.proofs.Groups.{fenced_groups}
use Rattle.stop_theorem.proofs.Sealing.{one_group}
use Rattle.stop_theorem.proofs.WrittenLines.{written_lines}
use Rattle.stop_theorem.proofs.laws.what_layers_do_are_events.Goals as goal

pub returns-clause-stored : goal.returns-clause-stored
returns-clause-stored c = fenced_stores

pub returns-clause-counted : goal.returns-clause-counted
returns-clause-counted c = counted_entries

pub returns-clause-emptied : goal.returns-clause-emptied
returns-clause-emptied c = emptied_logs

pub returns-clause-ended : goal.returns-clause-ended
returns-clause-ended c = ended_regions

pub returns-clause-entry : goal.returns-clause-entry
returns-clause-entry c = entry_words

pub returns-clause-region : goal.returns-clause-region
returns-clause-region c = region_stores

pub returns-clause-closing : goal.returns-clause-closing
returns-clause-closing c = closing_is

pub returns-clause-lines : goal.returns-clause-lines
returns-clause-lines c = lines_may_be_fenced

pub returns-clause-one : goal.returns-clause-one
returns-clause-one c = one_store

pub returns-clause-begun : goal.returns-clause-begun
returns-clause-begun c = begin_is

pub returns-clause-start : goal.returns-clause-start
returns-clause-start c = run_begins

pub returns-clause-free : goal.returns-clause-free
returns-clause-free c = free_stores

pub returns-clause-acts : goal.returns-clause-acts
returns-clause-acts c = quiet_acts

pub returns-clause-group : goal.returns-clause-group
returns-clause-group c = fenced_groups

pub returns-clause-sealed : goal.returns-clause-sealed
returns-clause-sealed c = one_group

pub returns-clause-written : goal.returns-clause-written
returns-clause-written c = written_lines
