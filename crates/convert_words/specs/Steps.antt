-- What one step of a conversion does to the words, and to the queues.
use Rattle.std.specs.Prelude.{◌≡◌, ◌≢◌, ◌⊎◌, ℕ, ◌+◌, ◌-◌, ◌*◌, ◌%◌, ◌<◌, ◌==◌, ltb, Bool, true, List, [], ◌∷◌, ◌++◌, length}
use Rattle.std.specs.Prelude.{slice_set, if◌then◌else◌}
use Rattle.twin_forms.specs.Table.{Entry, entry, View, Names, refers, kept_at, InP}
use Rattle.twin_forms.specs.Moves.{owned, placed}
use Rattle.convert_queue.specs.declared.phase.Phase.{Phase}
use Rattle.convert_queue.specs.Marks.{with_store, with_write, with_fence}
use Rattle.convert_queue.specs.Queues.{Queues, queue_of, place_of, phase_of}

-- ---- words of the image

-- The words of these lines alone may be shown otherwise, and a stop may leave more of them alone. The same slots are kept.
pub record Changes (Line : ℕ → Type 0) (v v' : View) (held held' : ℕ → ℕ → Type 0) (back back' : ℕ → Type 0) : Type 0 where
  pub lines : v'.lines ≡ v.lines
  pub kept : v'.kept ≡ v.kept
  pub shown : (l w : ℕ) → l < v.lines → w < 8 → (Line l → ⊥) → v'.shown (8 * l + w) ≡ v.shown (8 * l + w)
  pub leaves : (l w x : ℕ) → l < v.lines → w < 8 → (Line l → ⊥) → held' (8 * l + w) x → held (8 * l + w) x
  pub keeps : (l w : ℕ) → l < v.lines → w < 8 → (Line l → ⊥) → back (8 * l + w) → back' (8 * l + w)

-- no line's: a touch, a write-back, a fence, or a step in the space alone
abbrev pub IsQuiet : View → View → (ℕ → ℕ → Type 0) → (ℕ → ℕ → Type 0) → (ℕ → Type 0) → (ℕ → Type 0) → Type 0
IsQuiet = Changes (λ _. ⊥)

-- one line's: a store to it
abbrev pub IsOnly : ℕ → View → View → (ℕ → ℕ → Type 0) → (ℕ → ℕ → Type 0) → (ℕ → Type 0) → (ℕ → Type 0) → Type 0
IsOnly line = Changes (λ l. l ≡ line)

-- ---- queues

-- told of a store by thread t to a line, of a write of the line, and of a fence
abbrev pub told : Queues → ℕ → ℕ → Queues
told q t l = record q { marks = with_store q.marks t l }

abbrev pub told_written : Queues → ℕ → Queues
told_written q l = record q { marks = with_write q.marks l }

abbrev pub told_fenced : Queues → Queues
told_fenced q = record q { marks = with_fence q.marks }

-- with one object more behind thread t's queue
abbrev pub with_object : Queues → ℕ → ℕ → ℕ → Queues
with_object q t object line = record q { queues = slice_set q.queues t (queue_of q t ++ (object, line) ∷ []) }

-- Thread t is in such a phase, at line l of its object n. All else is as before.
pub record GoesTo (t : ℕ) (p : Phase) (n l : ℕ) (q q' : Queues) : Type 0 where
  pub phase : phase_of q' t ≡ p
  pub at : (place_of q' t).0 ≡ n
  pub line : (place_of q' t).1 ≡ l
  pub other_phases : (u : ℕ) → u ≢ t → phase_of q' u ≡ phase_of q u
  pub other_places : (u : ℕ) → u ≢ t → place_of q' u ≡ place_of q u
  pub queues : q'.queues ≡ q.queues
  pub needs : q'.needs ≡ q.needs
  pub marks : q'.marks ≡ q.marks
  pub places : length q'.places ≡ length q.places
  pub phases : length q'.phases ≡ length q.phases

-- ---- the table

-- One object lies otherwise, and no other does.
pub record OneBecomes (n : ℕ) (e' : Entry) (es es' : List Entry) : Type 0 where
  pub long : length es' ≡ length es
  pub here : entry es' n ≡ e'
  pub others : (m : ℕ) → m ≢ n → entry es' m ≡ entry es m

-- an ordinary object that a thread has claimed, whose copy is to begin at a line
abbrev pub claimed_at : ℕ → ℕ → Entry → Entry
claimed_at t line e = placed line (owned t e)

-- ---- stores

-- The word may be stored to a slot of a queued object whose line has been copied. A kept reference there is null or the
-- line's word of a durable object.
abbrev pub MayHold : View → List Entry → ℕ → ℕ → ℕ → Type 0
MayHold v es n k w = refers v (entry es n) k ≡ true → kept_at v (entry es n) k ≡ true
    → (w % 2 ≡ 0) × ((m : ℕ) → m < length es → Names (entry es m) w → InP es m)

-- ---- references

-- What a reference to an object asks of thread t: nothing, for the object is durable or the thread's own; to claim it;
-- or to need the thread that has claimed it.
pub data Asks : Type 0 where
  Nothing : Asks
  ToClaim : ℕ → Asks
  ToNeed : ℕ → Asks

abbrev pub asks : Entry → ℕ → Asks
asks e t = if e.owner == 0 then (if ltb e.stage 2 then ToClaim e.at else Nothing)
    else (if e.owner == t + 1 then Nothing else ToNeed (e.owner - 1))

-- It asks nothing more of a thread that needs what it needs.
abbrev pub IsAnswered : Entry → (ℕ → ℕ → Bool) → ℕ → Type 0
IsAnswered e need t = (asks e t ≡ Nothing) ⊎ ((u : ℕ) × (asks e t ≡ ToNeed u) × (need t u ≡ true))
