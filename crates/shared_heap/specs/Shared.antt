-- A shared heap, as its calls see it, and what its calls of the image do.
use Rattle.std.specs.Prelude.{◌≡◌, ℕ}
use Rattle.run_history.specs.declared.act.Op.TheVariants as op
use Rattle.run_history.specs.Recorded.{History, with_act}
use Rattle.twin_forms.specs.Sights.{Twin}
use Rattle.store_barrier.specs.Passed.{Machine}
use Rattle.shared_heap.specs.Notes.{ThreadNotes}
use Rattle.store_barrier.specs.Passed.{CallsImage, with_twin, WritesBack, with_write, MakesFence, with_fence}

-- The machine; its history, with the objects that are named for the next act that makes objects durable; how
-- many lines the image has; and what is noted for threads.
pub record Shared : Type 0 where
  pub machine : Machine
  pub history : History
  pub lines : ℕ
  pub notes : ThreadNotes

-- a call of the image was made that failed: all but the memory is as it was
pub record Failed (old new : Shared) : Type 0 where
  pub twin : Twin
  pub calls : CallsImage old.machine twin
  pub machine : new.machine ≡ with_twin old.machine twin
  pub history : new.history ≡ old.history
  pub lines : new.lines ≡ old.lines
  pub notes : new.notes ≡ old.notes

-- the line of the thread's store was written back
pub record Writes (t : ℕ) (old new : Shared) : Type 0 where
  pub twin : Twin
  pub wrote : WritesBack old.machine twin t
  pub machine : new.machine ≡ with_write old.machine twin t
  pub history : new.history ≡ old.history
  pub lines : new.lines ≡ old.lines
  pub notes : new.notes ≡ old.notes

-- a fence was made, and its act told
pub record TellsFence (t : ℕ) (old new : Shared) : Type 0 where
  pub twin : Twin
  pub made : MakesFence old.machine twin t
  pub machine : new.machine ≡ with_fence old.machine twin t
  pub history : new.history
      ≡ with_act old.history (record { thread = t; at = twin.memory.calls; op = op.Fenced })
  pub lines : new.lines ≡ old.lines
  pub notes : new.notes ≡ old.notes
