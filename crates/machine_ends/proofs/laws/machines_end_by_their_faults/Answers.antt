use Rattle.machine_ends.proofs.Ending.{full-ends, steps-end, image-ends, full-logs-end, races-end}
use Rattle.machine_ends.proofs.laws.machines_end_by_their_faults.Goals as goal

pub returns-clause-full : goal.returns-clause-full
returns-clause-full c = full-ends

pub returns-clause-steps : goal.returns-clause-steps
returns-clause-steps c = steps-end c.machines_ask_as_plain_runs.ensures.ready

pub returns-clause-image : goal.returns-clause-image
returns-clause-image c = image-ends

pub returns-clause-logs : goal.returns-clause-logs
returns-clause-logs c = full-logs-end c.machines_ask_as_plain_runs.ensures.ready

pub returns-clause-races : goal.returns-clause-races
returns-clause-races c = races-end c.machines_ask_as_plain_runs.ensures.ready
