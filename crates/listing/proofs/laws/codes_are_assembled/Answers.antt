use Rattle.std.proofs.Common.{refl}
use Rattle.listing.proofs.Rows.{jumps_are, loads_are}
use Rattle.listing.proofs.laws.codes_are_assembled.Goals as goal

pub returns-clause-jumps : goal.returns-clause-jumps
returns-clause-jumps c = jumps_are

pub returns-clause-entries : goal.returns-clause-entries
returns-clause-entries c = loads_are

pub returns-clause-near : goal.returns-clause-near
returns-clause-near c = refl

pub returns-clause-far_back : goal.returns-clause-far_back
returns-clause-far_back c = refl

pub returns-clause-far : goal.returns-clause-far
returns-clause-far c = refl
