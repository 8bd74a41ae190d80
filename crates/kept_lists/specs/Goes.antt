-- How doubts go on by an act.
use Rattle.std.specs.Prelude.{◌≡◌, ◌<◌, ℕ, List, [], ◌∷◌, ◌++◌, length, nat_eq}
use Rattle.run_history.specs.declared.act.Op.{Op}
use Rattle.run_history.specs.declared.act.Op.TheVariants as op
use Rattle.run_history.specs.Recorded.{Recorded}
use Rattle.run_history.specs.Worlds.{depth_of}
use Rattle.run_history.specs.Knowing.{Knowledge, durable_at, known_after}
use Rattle.graph_model.specs.Heaps.{has_number}
use Rattle.kept_lists.specs.declared.doubts.Doubt.{Doubt}
use Rattle.kept_lists.specs.declared.doubts.Doubt.TheVariants as doubt
use Rattle.kept_lists.specs.declared.doubts.Doubts.{Doubts}
use Rattle.kept_lists.specs.Doubts.{StandsFor, doubt_of, lasts_after}

-- the doubt of an operation of thread t, by what is known before it
abbrev pub doubt_at : Knowledge → ℕ → Op → Doubt
doubt_at known t (op.Stored place value) = doubt_of (durable_at known place) (depth_of known.world t) (has_number known.closing t)
doubt_at known t o = doubt.Never

-- they were told the act, with its doubt, and whether its thread's region was one deep
pub record WereTold (known : Knowledge) (a : Recorded) (before now : Doubts) : Type 0 where
  pub doubts : now.doubts.items ≡ before.doubts.items ++ doubt_at known a.act.thread a.act.op ∷ []
  pub lasts : now.lasts.items
      ≡ lasts_after before.lasts.items a.act.thread a.act.op (nat_eq (depth_of known.world a.act.thread) 1) (length before.doubts.items)

-- Doubts that stand for some acts stand for those with one more that they were told.
abbrev pub DoubtsGoOn : Type 0
DoubtsGoOn = (first : Knowledge) (acts : List Recorded) (a : Recorded) (before now : Doubts) → StandsFor first acts before
    → a.act.thread < 64 → WereTold (known_after first acts) a before now → StandsFor first (acts ++ a ∷ []) now
