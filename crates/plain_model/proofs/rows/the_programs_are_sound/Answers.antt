use Rattle.std.proofs.Common.{rules}
use Rattle.plain_model.proofs.Sets.{nodes_are_consistent}
use Rattle.plain_model.proofs.rows.the_programs_are_sound.Goals as goal

pub returns-clause-set : goal.returns-clause-set
returns-clause-set c = nodes_are_consistent

pub returns-clause-null_root : goal.returns-clause-null_root
returns-clause-null_root c = record {
  shapes = search rules;
  agree = search rules;
  values = search rules;
  has_roots = search rules;
  names_differ = search rules;
  references = search rules;
  in_roots = search rules;
  in_nodes = search rules;
  few = search rules;
}

pub returns-clause-one_node : goal.returns-clause-one_node
returns-clause-one_node c = record {
  shapes = search rules;
  agree = search rules;
  values = search rules;
  has_roots = search rules;
  names_differ = search rules;
  references = search rules;
  in_roots = search rules;
  in_nodes = search rules;
  few = search rules;
}
