use Rattle.std.proofs.Common.{rules}
use Rattle.plain_model.proofs.Sets.{boxes_are_consistent, boxes_are_typed}
use Rattle.plain_model.proofs.run_rows.the_boxes_are_sound.Goals as goal

pub returns-clause-set : goal.returns-clause-set
returns-clause-set c = boxes_are_consistent

pub returns-clause-graph : goal.returns-clause-graph
returns-clause-graph c = record {
  shapes = search rules;
  agree = search rules;
  values = boxes_are_typed;
  has_roots = search rules;
  names_differ = search rules;
  references = search rules;
  in_roots = search rules;
  in_nodes = search rules;
  few = search rules;
}
