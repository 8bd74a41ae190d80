-- Lines that are written back one after another.
use Rattle.std.proofs.Common.{◌≡◌, inl, inr, ℕ, true, ◌||◌, List, [], ◌∷◌, refl, sym, ◌∙◌, subst, nat_eq}
use Rattle.std.proofs.lemmas.Bool.{cases_Bool, true≢false, eqb-true}
use Rattle.graph_model.specs.Heaps.{has_number}
use Rattle.line_memory.specs.Memory.{Memory, IsWritten}
use Rattle.run_history.specs.Knowing.{Knowledge}
use Rattle.stop_theorem.specs.Running.{State, with_memory, Events, none, more}
use Rattle.stop_theorem.specs.GivenCopies.{WroteBackEach, written_none, written_more, WrittenLinesAreEvents}
use Rattle.stop_theorem.proofs.Given.{called}

-- each write-back is an event
go_on : (first : Knowledge) (start s : State) (lines : List ℕ) (old new : Memory)
    → Events first start (with_memory s old) → WroteBackEach lines old new
    → Events first start (with_memory s new)
go_on first start s [] old new before (written_none m) = before
go_on first start s (line ∷ lines) old new before (written_more _ _ _ middle _ w rest) =
    go_on first start s lines middle new
    (more start (with_memory s old) (with_memory s middle) before
    (called first (with_memory s old) middle w.keeps w.count w.fits))
    rest

-- what is written back stays so
stays : (lines : List ℕ) (old new : Memory) → WroteBackEach lines old new → (l w : ℕ) → IsWritten old l w
    → IsWritten new l w
stays [] old new (written_none m) l w is = is
stays (line ∷ lines) old new (written_more _ _ _ middle _ one rest) l w is =
    stays lines middle new rest l w (one.keeps.written l w is)

each_written : (lines : List ℕ) (old new : Memory) → WroteBackEach lines old new → (l w : ℕ)
    → has_number lines l ≡ true → IsWritten new l w
each_written [] old new (written_none m) l w is = absurd (true≢false (sym is))
each_written (line ∷ lines) old new (written_more _ _ _ middle _ one rest) l w is =
    elim (cases_Bool (nat_eq line l)) [
      | inl here ↦ stays lines middle new rest l w
          (subst (λ k. IsWritten middle k w) (eqb-true line l here) (one.written w))
      | inr other ↦ each_written lines middle new rest l w
          (sym (let later : (nat_eq line l || has_number lines l) ≡ has_number lines l = rw other refl in later) ∙ is)
    ]

pub written_lines : WrittenLinesAreEvents
written_lines first s lines new w = (
  go_on first s s lines s.memory new (none s) w,
  each_written lines s.memory new w,
)
