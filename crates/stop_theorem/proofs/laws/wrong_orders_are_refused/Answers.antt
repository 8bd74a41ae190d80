use Rattle.stop_theorem.proofs.WrongOrders.{wrong_orders}
use Rattle.stop_theorem.proofs.laws.wrong_orders_are_refused.Goals as goal

pub returns : goal.returns
returns c = wrong_orders
