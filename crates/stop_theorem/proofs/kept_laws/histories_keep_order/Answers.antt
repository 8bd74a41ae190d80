use Rattle.stop_theorem.proofs.Ordered.{orderly_next}
use Rattle.stop_theorem.proofs.Own.{singles_are_placed, none_open_at_end}
use Rattle.stop_theorem.proofs.kept_laws.histories_keep_order.Goals as goal

pub returns-clause-acts : goal.returns-clause-acts
returns-clause-acts c = orderly_next

pub returns-clause-singles : goal.returns-clause-singles
returns-clause-singles c = singles_are_placed

pub returns-clause-ends : goal.returns-clause-ends
returns-clause-ends c = none_open_at_end
