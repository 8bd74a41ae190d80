use Rattle.plain_model.proofs.Publishing.{published, without_joined_refused, stored_first_refused, without_fenced_refused}
use Rattle.plain_model.proofs.Publishing.{joined_nothing_refused, joined_unreached_refused}
use Rattle.plain_model.proofs.rows.a_node_is_published.Goals as goal

pub returns : goal.returns
returns c = record {
  run = published;
  without_joined = without_joined_refused;
  stored_first = stored_first_refused;
  without_fenced = without_fenced_refused;
  joined_nothing = joined_nothing_refused;
  joined_unreached = joined_unreached_refused;
}
