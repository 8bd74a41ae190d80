-- Which acts are none of a region.
use Rattle.run_history.specs.declared.act.Op.{Op}
use Rattle.run_history.specs.declared.act.Op.TheVariants as op

-- it begins and ends no region, guards nothing, and closes none
abbrev pub IsOutside : Op → Type 0
IsOutside op.Begin = ⊥
IsOutside op.End = ⊥
IsOutside (op.Guarded place) = ⊥
IsOutside op.Closing = ⊥
IsOutside o = Unit {0}
