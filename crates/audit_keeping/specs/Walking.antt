-- The walk by which a wanted set grows: a queue of objects, each marked as it is met.
use Rattle.std.specs.Prelude.{◌≡◌, ◌↔◌, ◌⊎◌, ◌≤◌, ◌<◌, ℕ, suc, Bool, true, false, length, drop, slice_set, List, [], ◌∷◌, ◌++◌, All, if◌then◌else◌}
use Rattle.graph_model.specs.declared.types.Value.{Value}
use Rattle.graph_model.specs.declared.types.Value.TheVariants.{Int, Long, Null, Obj as Object}
use Rattle.graph_model.specs.declared.types.Heap.{Heap}
use Rattle.graph_model.specs.Heaps.{has_number}
use Rattle.graph_model.specs.Reach.{Refers, Reaches}
use Rattle.audit_keeping.specs.Keeping.{is_marked}

-- the marks and the queue after the objects among these values were met
abbrev pub marks_met : List Value → List Bool → List Bool
marks_met [] marks = marks
marks_met (Object n ∷ vs) marks = marks_met vs (if is_marked marks n then marks else slice_set marks n true)
marks_met (Int i ∷ vs) marks = marks_met vs marks
marks_met (Long i ∷ vs) marks = marks_met vs marks
marks_met (Null ∷ vs) marks = marks_met vs marks

abbrev pub queue_met : List Value → List Bool → List ℕ → List ℕ
queue_met [] marks queue = queue
queue_met (Object n ∷ vs) marks queue =
    if is_marked marks n then queue_met vs marks queue else queue_met vs (slice_set marks n true) (queue ++ n ∷ [])
queue_met (Int i ∷ vs) marks queue = queue_met vs marks queue
queue_met (Long i ∷ vs) marks queue = queue_met vs marks queue
queue_met (Null ∷ vs) marks queue = queue_met vs marks queue

abbrev pub unmarked : List Bool → ℕ
unmarked [] = 0
unmarked (true ∷ ms) = unmarked ms
unmarked (false ∷ ms) = suc (unmarked ms)

-- A walk that began from these marks with one more object, by now: what is marked refers to what is marked, those aside that
-- stand in the queue from here on, and everything marked was so before or is reached from the object.
pub record IsWalking (heap : Heap) (before : List Bool) (start : ℕ) (marks : List Bool) (queue : List ℕ) (at : ℕ) : Type 0 where
  pub long : length marks ≡ length heap.objects
  pub within : at ≤ length queue
  pub there : All (λ n. n < length heap.objects) queue
  pub kept : (n : ℕ) → is_marked before n ≡ true → is_marked marks n ≡ true
  pub started : is_marked marks start ≡ true
  pub closed : (m k : ℕ) → is_marked marks m ≡ true → Refers heap m k → (is_marked marks k ≡ true) ⊎ (has_number (drop at queue) m ≡ true)
  pub reached : (n : ℕ) → is_marked marks n ≡ true → (is_marked before n ≡ true) ⊎ Reaches heap (λ m. m ≡ start) n
  pub queued : (n : ℕ) → has_number queue n ≡ true → is_marked marks n ≡ true

-- the marks are a closed set
abbrev pub AreClosedMarks : Heap → List Bool → Type 0
AreClosedMarks heap marks = (m k : ℕ) → is_marked marks m ≡ true → Refers heap m k → is_marked marks k ≡ true

-- the marks are a closed set but for references to this object
abbrev pub AreClosedBut : Heap → List Bool → ℕ → Type 0
AreClosedBut heap marks start = (m k : ℕ) → is_marked marks m ≡ true → Refers heap m k → (is_marked marks k ≡ true) ⊎ (k ≡ start)

-- The marks have grown by an object and what it reaches.
pub record HaveGrown (heap : Heap) (before : List Bool) (start : ℕ) (marks : List Bool) : Type 0 where
  pub long : length marks ≡ length heap.objects
  pub closed : AreClosedMarks heap marks
  pub exact : (n : ℕ) → (is_marked marks n ≡ true) ↔ ((is_marked before n ≡ true) ⊎ Reaches heap (λ m. m ≡ start) n)
