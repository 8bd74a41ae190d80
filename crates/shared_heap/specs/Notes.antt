-- What a shared heap notes for each of its 64 threads.
use Rattle.std.specs.Prelude.{◌≡◌, ℕ, List, length, replicate, slice_index_or, slice_set, Option, None, Some}
use Rattle.ap_base.specs.declared.reference.Ref.{Ref}
use Rattle.ap_base.specs.declared.reference.Item.{Item}
use Rattle.run_types.specs.declared.wait.On.{On}
use Rattle.natives.specs.declared.requests.Request.{Request}

-- The request that each thread has asked and that isn't answered yet; what its last event waited for; and the reference to
-- its Thread object with which it was started.
pub record ThreadNotes : Type 0 where
  pub asks : List (Option (Request Ref Item))
  pub waits : List (Option On)
  pub started : List (Option Ref)

abbrev pub no_notes : ThreadNotes
no_notes = record { asks = replicate 64 None; waits = replicate 64 None; started = replicate 64 None }

pub record AreOf64 (notes : ThreadNotes) : Type 0 where
  pub asks : length notes.asks ≡ 64
  pub waits : length notes.waits ≡ 64
  pub started : length notes.started ≡ 64

abbrev pub asked_by : ThreadNotes → ℕ → Option (Request Ref Item)
asked_by notes t = slice_index_or notes.asks t None

abbrev pub waits_on : ThreadNotes → ℕ → Option On
waits_on notes t = slice_index_or notes.waits t None

abbrev pub started_as : ThreadNotes → ℕ → Option Ref
started_as notes t = slice_index_or notes.started t None

-- ---- what becomes of them

-- thread t asks this, and its last event waited for nothing
abbrev pub asking : ThreadNotes → ℕ → Request Ref Item → ThreadNotes
asking notes t request = record notes {
  asks = slice_set notes.asks t (Some request);
  waits = slice_set notes.waits t None;
}

-- its last event waited for this
abbrev pub waiting : ThreadNotes → ℕ → On → ThreadNotes
waiting notes t on = record notes { waits = slice_set notes.waits t (Some on) }

-- it asks nothing
abbrev pub taken : ThreadNotes → ℕ → ThreadNotes
taken notes t = record notes { asks = slice_set notes.asks t None }

-- it asks nothing, and its last event waited for nothing
abbrev pub answered : ThreadNotes → ℕ → ThreadNotes
answered notes t = record notes {
  asks = slice_set notes.asks t None;
  waits = slice_set notes.waits t None;
}

-- it was started by this reference to its Thread object
abbrev pub starting : ThreadNotes → ℕ → Ref → ThreadNotes
starting notes t thread = record notes { started = slice_set notes.started t (Some thread) }
