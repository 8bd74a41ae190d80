use Rattle.directories.proofs.Growths.{others_leave, plans_leave}
use Rattle.directories.proofs.laws.others_leave_directories.Goals as goal

pub returns : goal.returns
returns c = record {
  others = λ had kept old new room leave stands. others_leave old new leave had kept room stands;
  plans = plans_leave;
}
