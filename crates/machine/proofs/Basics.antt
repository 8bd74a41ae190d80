-- Small facts about options, lists and what threads are about.
use Rattle.std.proofs.Common.{◌≡◌, ℕ, ◌<◌, List, [], ◌∷◌, ◌++◌, length, Option, Some, None, ap, arith}
use Rattle.std.specs.Prelude.{slice_index_or, slice_set}
use Rattle.std.proofs.lemmas.List.{get_or-set_same, set-get_or, length-append}
use Rattle.run_history.specs.Recorded.{History}
use Rattle.machine_threads.specs.Passed.{Doing}
use Rattle.machine_threads.specs.Passed.{Nothing}
use Rattle.machine_threads.specs.Passed.{Machine}
use Rattle.shared_heap.specs.Notes.{ThreadNotes}
use Rattle.shared_heap.specs.Shared.{Shared}

pub no-some : {X : Type 0} {P : Type 0} (v : X) → ◌≡◌ {A = Option X} None (Some v) → P
no-some v e = absurd (let no = e in cc)

pub some-same : {X : Type 0} (v w : X) → ◌≡◌ {A = Option X} (Some v) (Some w) → v ≡ w
some-same v w e = cc

-- a list with one more element is another one
pub not-longer : {X : Type 0} {P : Type 0} (xs : List X) (x : X) → xs ++ x ∷ [] ≡ xs → P
not-longer xs x e = absurd (let long = ap length e in let one = length-append xs (x ∷ []) in omega (
  arith,
  long,
  one,
))

-- ---- what the thread is about

pub doing-set : (ds : List Doing) (t : ℕ) (d : Doing) → t < 64 → length ds ≡ 64
    → slice_index_or (slice_set ds t d) t Nothing ≡ d
doing-set ds t d below long = get_or-set_same ds t d Nothing (omega (arith, below, long))

pub doing-same : (ds : List Doing) (t : ℕ) → slice_set ds t (slice_index_or ds t Nothing) ≡ ds
doing-same ds t = set-get_or ds t Nothing

-- ---- shared heaps

-- a shared heap by its parts
pub shared-is : (s : Shared) (m : Machine) (h : History) (lines : ℕ) (notes : ThreadNotes) → s.machine ≡ m
    → s.history ≡ h → s.lines ≡ lines → s.notes ≡ notes
    → s ≡ record { machine = m; history = h; lines = lines; notes = notes }
shared-is s m h lines notes machine history is_lines is_notes =
    λ i. record { machine = machine i; history = history i; lines = is_lines i; notes = is_notes i }
