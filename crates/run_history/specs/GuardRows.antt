-- Whose open region has guarded a place, after each act of two threads, as a table: thread 0 starts thread 1 and has a
-- region in a region, and thread 1 guards the same place meanwhile.
use Rattle.std.specs.Prelude.{◌≡◌, ℕ, List, [], ◌∷◌, map, Option, Some, None}
use Rattle.ap_base.specs.declared.place.Place.TheVariants.{Static, Slot}
use Rattle.run_history.specs.declared.act.Op.{Op}
use Rattle.run_history.specs.declared.act.Op.TheVariants as op
use Rattle.run_history.specs.Recorded.{Recorded}
use Rattle.run_history.specs.Worlds.{new_thread}
use Rattle.run_history.specs.Knowing.{Knowledge, known_at_first, next_known, guard_of}
use Rattle.run_history.specs.KnowledgeRows.{by}
use Rattle.run_history.specs.OpenGuards.{IsOutsideRegions}
use Rattle.run_history.specs.WorldRows.{ring_world}

-- an act, and the thread whose open region has guarded the slot after it
pub record Guarding : Type 0 where
  pub act : Recorded
  pub slot : Option ℕ

abbrev pub row : ℕ → Op → Option ℕ → Guarding
row t o slot = record { act = by t 0 o; slot = slot }

abbrev pub alone : Knowledge
alone = known_at_first (record ring_world { threads = new_thread None ∷ [] }) []

abbrev pub guarding : List Guarding
guarding =
    row 0 (op.Start 1 1) None
    ∷ row 0 op.Begin None
    ∷ row 0 op.Begin None
    ∷ row 0 (op.Guarded (Static 0)) None
    ∷ row 0 (op.Guarded (Slot 0 0)) (Some 0)
    ∷ row 1 op.Begin (Some 0)
    ∷ row 1 (op.Guarded (Slot 0 0)) (Some 0)
    ∷ row 0 op.End (Some 0)
    ∷ row 0 op.End (Some 1)
    ∷ row 0 op.Begin (Some 1)
    ∷ row 0 op.End (Some 1)
    ∷ row 1 op.End None
    ∷ []

abbrev pub guards_after : Knowledge → List Guarding → List (Option ℕ)
guards_after known [] = []
guards_after known (r ∷ rs) =
    guard_of (next_known known r.act).guards (Slot 0 0) ∷ guards_after (next_known known r.act) rs

-- the guard after each act is what stands beside it, from one thread outside regions on
pub record AreGuarded : Type 0 where
  pub first : IsOutsideRegions alone
  pub guards : guards_after alone guarding ≡ map (λ (r : Guarding). r.slot) guarding
