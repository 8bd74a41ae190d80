use Rattle.run_history.specs.Knowing.{known_after}
use Rattle.run_history.specs.Wanted.{NoWish, WantsAfter}
use Rattle.audit_rules.proofs.Wishing.{wishes-tested}
use Rattle.audit_rules.proofs.laws.tests_of_wishes_are_exact.Goals as goal

pub returns : goal.returns
returns c = λ set first acts request t wanted are. wishes-tested set (known_after first acts) request t wanted (WantsAfter first NoWish acts) are
