use Rattle.std.proofs.Common.{refl}
use Rattle.listing.proofs.Rows.{handlers_are}
use Rattle.listing.proofs.laws.tables_and_roots_are_assembled.Goals as goal

pub returns-clause-handlers : goal.returns-clause-handlers
returns-clause-handlers c = handlers_are

pub returns-clause-root : goal.returns-clause-root
returns-clause-root c = refl
