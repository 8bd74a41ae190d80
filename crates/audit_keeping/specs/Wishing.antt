-- What threads want, as marks tell it: of the objects that aren't durable, a thread's marks are those that it wants.
use Rattle.std.specs.Prelude.{◌≡◌, ◌≢◌, ◌↔◌, ◌⊎◌, ◌<◌, ℕ, Bool, true, false, ◌||◌, length, get_or, map, All, List, [], ◌∷◌, Some, None}
use Rattle.graph_model.specs.declared.types.Value.TheVariants.{Obj as Object}
use Rattle.graph_model.specs.declared.types.Heap.{Heap}
use Rattle.graph_model.specs.Heaps.{has_number}
use Rattle.graph_model.specs.Reach.{Refers}
use Rattle.run_history.specs.Knowing.{Knowledge, pending_of}
use Rattle.run_history.specs.Wanted.{Wishes}
use Rattle.audit_keeping.specs.declared.keeping.Asked.{Asked}
use Rattle.audit_keeping.specs.Keeping.{is_marked, pending_in}
use Rattle.audit_keeping.specs.Walking.{AreClosedBut, HaveGrown}

-- The marks tell which volatile objects the thread wants. What it wants is there, has the asked object, and is closed.
pub record IsWish (heap : Heap) (durable : List ℕ) (p : Asked) (Now : ℕ → Type 0) : Type 0 where
  pub exact : (n : ℕ) → has_number durable n ≡ false → (is_marked p.marks n ≡ true) ↔ Now n
  pub own : (n : ℕ) → p.value ≡ Object n → Now n
  pub closed : (m n : ℕ) → Now m → Refers heap m n → Now n
  pub there : (n : ℕ) → Now n → n < length heap.objects

-- The values that are pending, of each thread at most one, stand for what is wanted.
pub record AreWishes (known : Knowledge) (Now : Wishes) (asked : List Asked) : Type 0 where
  pub each : All (λ (p : Asked). IsWish known.world.heap known.durable p (Now p.thread)) asked
  pub found : All (λ (p : Asked). pending_of (map pending_in asked) p.thread ≡ Some (pending_in p)) asked
  pub none : (u n : ℕ) → Now u n → pending_of (map pending_in asked) u ≢ None

-- the marks of either list
abbrev pub both_marks : List Bool → List Bool → List Bool
both_marks [] ms = []
both_marks (d ∷ ds) [] = d ∷ ds
both_marks (d ∷ ds) (m ∷ ms) = (d || m) ∷ both_marks ds ms

-- A pending value once a slot of the holder refers to the object: where the object is durable, or the holder has no mark, it
-- is as it was; else the marks have grown by what the object reaches.
abbrev pub SpreadMarks : Heap → List Bool → ℕ → ℕ → List Bool → List Bool → Type 0
SpreadMarks heap durable holder object before now =
    (((is_marked durable object ≡ true) ⊎ (is_marked before holder ≡ false)) × (now ≡ before))
    ⊎ ((is_marked before holder ≡ true) × HaveGrown heap (both_marks durable before) object now)

pub record IsSpread (heap : Heap) (durable : List Bool) (holder object : ℕ) (p q : Asked) : Type 0 where
  pub thread : q.thread ≡ p.thread
  pub pending : pending_in q ≡ pending_in p
  pub marks : SpreadMarks heap durable holder object p.marks q.marks

-- so are all of them, in their order
pub record AreSpread (heap : Heap) (durable : List Bool) (holder object : ℕ) (asked now : List Asked) : Type 0 where
  pub long : length now ≡ length asked
  pub each : (k : ℕ) (d : Asked) → k < length asked → IsSpread heap durable holder object (get_or asked k d) (get_or now k d)

-- the marks with those of durable objects are closed but for the object, where the holder has a mark
abbrev pub MaySpread : Heap → List Bool → ℕ → ℕ → Asked → Type 0
MaySpread heap durable holder object p = is_marked p.marks holder ≡ true → AreClosedBut heap (both_marks durable p.marks) object
