use Rattle.image_meaning.proofs.Order.{in_order}
use Rattle.image_meaning.proofs.laws.checks_come_in_order.Goals as goal

pub returns : goal.returns
returns c size words = in_order size words
