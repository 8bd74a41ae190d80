-- What a stop leaves of the two halves of a mirror, and what pairing them shows then.
use Rattle.std.specs.Prelude.{◌≡◌, ◌⊎◌, ◌<◌, ◌≤◌, ◌+◌, ◌-◌, ◌^◌, ℕ, Option, Some, None, length, drop, if◌then◌else◌, nat_le}
use Rattle.line_image.specs.Trace.{Trace, Outcome, LeavesNow, MayLeave, IsAllFenced, read_word, trace_within}
use Rattle.line_image.specs.Told.{Told}
use Rattle.mirror_image.specs.Sound.{done_in}
use Rattle.mirror_image.specs.Labels.{label_of, generation, leader}
use Rattle.mirror_image.specs.Leaving.{BothTell}

-- the generation of a half with these words
abbrev pub generation_left : ℕ → Outcome → ℕ
generation_left z c = generation (label_of (c z 0) (c z 1))

-- what pairing shows of halves with these words: what the one of greater generation has, the first at a tie
abbrev pub led : ℕ → Outcome → Outcome → Outcome
led z c d = if nat_le (generation_left z d) (generation_left z c) then c else d

-- The half that tells o is marked as left alone: whatever a stop now leaves of it is of greater generation than what it
-- leaves of the other, which tells p.
abbrev pub IsAlone : ℕ → Option Trace → Option Trace → Type 0
IsAlone z o p = (c d : Outcome) → LeavesNow o c → LeavesNow p d → generation_left z d < generation_left z c

-- A stop leaves these words of the two halves: of each what it told may be left; or anything of lesser generation, once
-- the other one is marked as left alone.
pub record AreLeft (z : ℕ) (o p : Option Trace) (c d : Outcome) : Type 0 where
  pub first : LeavesNow o c ⊎ (IsAlone z p o × (generation_left z c < generation_left z d))
  pub second : LeavesNow p d ⊎ (IsAlone z o p × (generation_left z d < generation_left z c))

-- Where both halves tell, pairing what a stop now leaves of them shows of each shown line what a stop may leave of the mirror.
abbrev pub PairingShows : ℕ → Option Trace → Option Trace → Option Trace → Type 0
PairingShows z o p t = BothTell o p → (c d : Outcome) → AreLeft z o p c d
    → (l w : ℕ) → l < z → MayLeave t l w (led z c d l w)

-- the same without the newest n writes and fences
abbrev pub without : ℕ → Option Trace → Option Trace
without n None = None
without n (Some h) = Some (record h { done = drop n h.done })

-- so many writes and fences, or more, were made of the one until it was the other
abbrev pub Made : ℕ → Option Trace → Option Trace → Type 0
Made n o p = n + length (done_in o) ≤ length (done_in p)

-- The same for a stop within a call that makes o' and p' of the halves: each has made some of it by then. Of what is told
-- after the call, what was done within it counts, as long as the count of the calls isn't full.
abbrev pub StopsShow : ℕ → Option Trace → Option Trace → Option Trace → Option Trace → Told → Told → Type 0
StopsShow z o p o' p' told told' = told.calls < 2 ^ 64 - 1 → (i j : ℕ) → Made i o o' → Made j p p'
    → PairingShows z (without i o') (without j p') (trace_within told'.calls told'.trace)

-- A stop within pairing, which makes o' and p' of halves that were all fenced: pairing what is left of both shows what the
-- leader's reads gave.
abbrev pub KeepsLeader : ℕ → Option Trace → Option Trace → Option Trace → Option Trace → Type 0
KeepsLeader z o p o' p' = IsAllFenced o → IsAllFenced p → (h k : Trace) → o ≡ Some h → p ≡ Some k
    → (i j : ℕ) → Made i o o' → Made j p p' → (c d : Outcome) → LeavesNow (without i o') c → LeavesNow (without j p') d
    → (l w : ℕ) → l < z → led z c d l w ≡ read_word (leader z h k) l w

-- reads of halves that are opened again give these words
abbrev pub Holds : Trace → Outcome → Type 0
Holds h c = (l w : ℕ) → read_word h l w ≡ c l w
