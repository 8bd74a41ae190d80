use Rattle.statuses.proofs.Whole.{class_whole, method_whole, named_whole, unnamed_whole}
use Rattle.statuses.proofs.laws.names_are_whole.Goals as goal

pub returns : goal.returns
returns c = record { methods = method_whole; entries = named_whole; classes = class_whole; unnamed = unnamed_whole }
