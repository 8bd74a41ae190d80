use Rattle.std.proofs.Common.{◌≡◌, ◌+◌, ◌-◌, ◌*◌}
use Rattle.annotations.specs.Annotations.{after_many, after_counted, after_pair, after_value}
use Rattle.annotations.proofs.value.+value.Given as goal

abbrev pub decreases-value : goal.decreases-value
decreases-value l = 5 * l.deep

abbrev pub decreases-values : goal.decreases-values
decreases-values l = 5 * l.deep + 1

abbrev pub decreases-pair : goal.decreases-pair
decreases-pair l = 5 * l.deep + 1

abbrev pub decreases-pairs : goal.decreases-pairs
decreases-pairs l = 5 * l.deep + 2

abbrev pub decreases-annotation : goal.decreases-annotation
decreases-annotation l = 5 * l.deep + 3

abbrev pub decreases-content : goal.decreases-content
decreases-content l = 5 * l.deep + 4

abbrev pub invariant-values-loop : goal.invariant-values-loop
invariant-values-loop l = after_many (after_value l.pool l.deep) (l.count - l.counter) l.file ≡ after_counted (after_value l.pool l.deep) l.fn.file

abbrev pub invariant-pairs-loop : goal.invariant-pairs-loop
invariant-pairs-loop l = after_many (after_pair (after_value l.pool l.deep) l.pool) (l.count - l.counter) l.file ≡ after_counted (after_pair (after_value l.pool l.deep) l.pool) l.fn.file
