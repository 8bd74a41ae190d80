use Rattle.region_events.proofs.Ending.{ending_is_events, fences_are_closings, last_calls_are_ends}
use Rattle.region_events.proofs.Logging.{logging_is_events}
use Rattle.region_events.proofs.Regions.{begins_are_events, guards_are_events, stores_are_events, ends_at_once}
use Rattle.region_events.proofs.laws.regions_are_events.Goals as goal

pub returns-clause-begins : goal.returns-clause-begins
returns-clause-begins c = begins_are_events

pub returns-clause-guards : goal.returns-clause-guards
returns-clause-guards c = guards_are_events

pub returns-clause-logs : goal.returns-clause-logs
returns-clause-logs c = logging_is_events

pub returns-clause-stores : goal.returns-clause-stores
returns-clause-stores c = stores_are_events

pub returns-clause-ending : goal.returns-clause-ending
returns-clause-ending c = ending_is_events

pub returns-clause-closes : goal.returns-clause-closes
returns-clause-closes c = fences_are_closings

pub returns-clause-ends : goal.returns-clause-ends
returns-clause-ends c = last_calls_are_ends

pub returns-clause-at_once : goal.returns-clause-at_once
returns-clause-at_once c = ends_at_once
