use Rattle.convert_words.proofs.StepLaws.{starts_agree, needs_keep, places_keep, answered, met_lines_go_on}
use Rattle.convert_words.proofs.StepLaws.{forwarded_queues_repair, repaired_lines_go_on, repaired_objects_go_on}
use Rattle.convert_words.proofs.StepLaws.{repaired_queues_flush}
use Rattle.convert_words.proofs.laws.places_go_on.Goals as goal

pub returns-clause-needs : goal.returns-clause-needs
returns-clause-needs c = needs_keep

pub returns-clause-places : goal.returns-clause-places
returns-clause-places c = places_keep

pub returns-clause-answered : goal.returns-clause-answered
returns-clause-answered c = answered

pub returns-clause-met : goal.returns-clause-met
returns-clause-met c = met_lines_go_on

pub returns-clause-to_repair : goal.returns-clause-to_repair
returns-clause-to_repair c = forwarded_queues_repair

pub returns-clause-repaired : goal.returns-clause-repaired
returns-clause-repaired c = repaired_lines_go_on

pub returns-clause-next : goal.returns-clause-next
returns-clause-next c = repaired_objects_go_on

pub returns-clause-to_flush : goal.returns-clause-to_flush
returns-clause-to_flush c = repaired_queues_flush

pub returns-clause-start : goal.returns-clause-start
returns-clause-start c = starts_agree
