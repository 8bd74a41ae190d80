-- What a seal leaves: the sealed objects, and what a stop may leave of them.
use Rattle.std.specs.Prelude.{◌≡◌, ◌⊎◌, ℕ, ◌+◌, ◌*◌, ◌<◌, true, false, List, [], length}
use Rattle.twin_forms.specs.Table.{Entry, entry, View, refers, kept_at, lines_of, IsClaimed, InP}
use Rattle.twin_forms.specs.Moves.{sealed}
use Rattle.convert_queue.specs.Queues.{Queues, queue_of}
use Rattle.convert_queue.specs.Threads.{has, needs_of}
use Rattle.convert_words.specs.Agreeing.{Keeps}

-- the objects that are durable once the threads of the set are sealed
abbrev pub SealedBy : List Entry → ℕ → ℕ → Type 0
SealedBy es set m = InP es m ⊎ ((t : ℕ) × (has set t ≡ true) × IsClaimed es t m)

-- the word is null, or the line's word of such an object
abbrev pub Refers : List Entry → (ℕ → Type 0) → ℕ → Type 0
Refers es P w = (w ≡ 0) ⊎ ((m : ℕ) × P m × (w ≡ 2 * (entry es m).line) × (0 < w))

-- The objects of the set are forwarded. Each kept word of theirs that a stop may leave is the one that is shown, and a
-- kept reference leads to a sealed object or to none.
pub record FencedAndClosed (v : View) (held : ℕ → ℕ → Type 0) (es : List Entry) (set : ℕ) : Type 0 where
  pub forwarded : (t n : ℕ) → has set t ≡ true → IsClaimed es t n → (entry es n).stage ≡ 2
  pub shown : (t n j x : ℕ) → has set t ≡ true → IsClaimed es t n → j < 8 * lines_of (entry es n)
      → Keeps v (entry es n) (8 * (entry es n).line + j) → held (8 * (entry es n).line + j) x
      → x ≡ v.shown (8 * (entry es n).line + j)
  pub refers : (t n k x : ℕ) → has set t ≡ true → IsClaimed es t n → refers v (entry es n) k ≡ true
      → kept_at v (entry es n) k ≡ true → k < (entry es n).slots → held (8 * (entry es n).line + 1 + k) x
      → Refers es (SealedBy es set) x

-- The objects of these numbers are sealed, and all others lie as they did.
pub record AreSealed (Those : ℕ → Type 0) (es es' : List Entry) : Type 0 where
  pub long : length es' ≡ length es
  pub here : (n : ℕ) → n < length es → Those n → entry es' n ≡ sealed (entry es n)
  pub others : (n : ℕ) → n < length es → (Those n → ⊥) → entry es' n ≡ entry es n

-- the objects that the threads of a set have claimed
abbrev pub OfSet : List Entry → ℕ → ℕ → Type 0
OfSet es set n = (t : ℕ) × (has set t ≡ true) × IsClaimed es t n

-- The threads of the set are sealed: their queues are empty, they need nobody, and nobody needs them.
pub record Released (set : ℕ) (q q' : Queues) : Type 0 where
  pub empty : (t : ℕ) → has set t ≡ true → queue_of q' t ≡ []
  pub kept : (t : ℕ) → has set t ≡ false → queue_of q' t ≡ queue_of q t
  pub no_more : (a b : ℕ) → a < 64 → b < 64 → (has set a ≡ true) ⊎ (has set b ≡ true) → needs_of q'.needs a b ≡ false
  pub needed : (a b : ℕ) → has set a ≡ false → has set b ≡ false → needs_of q'.needs a b ≡ needs_of q.needs a b
  pub queues : length q'.queues ≡ length q.queues
  pub needs : length q'.needs ≡ length q.needs
  pub places : q'.places ≡ q.places
  pub phases : q'.phases ≡ q.phases
  pub marks : q'.marks ≡ q.marks
