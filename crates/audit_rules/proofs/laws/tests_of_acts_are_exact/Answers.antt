use Rattle.run_history.specs.Knowing.{known_after}
use Rattle.run_history.specs.Wanted.{NoWish, WantsAfter}
use Rattle.audit_rules.proofs.Acts.{acts-exact}
use Rattle.audit_rules.proofs.laws.tests_of_acts_are_exact.Goals as goal

pub returns : goal.returns
returns c = λ set first acts request wanted about a are closed there told fitting. acts-exact set (known_after first acts) request wanted (WantsAfter first NoWish acts) about a are closed there told fitting
