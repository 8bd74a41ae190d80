-- What pairing makes of two halves.
use Rattle.std.specs.Prelude.{◌≡◌, ◌⊎◌, ◌≤◌, ◌+◌, ◌-◌, ℕ, Bool, true, false, Option, min}
use Rattle.ap_base.specs.Causes.{next_count}
use Rattle.line_image.specs.Trace.{Trace, did}
use Rattle.line_image.specs.Told.{Told}
use Rattle.line_image.specs.declared.effect.Done.TheVariants.{Wrote, Fenced}
use Rattle.mirror_image.specs.declared.halves.Left.TheVariants.{Both}
use Rattle.mirror_image.specs.Joint.{most, told_by}
use Rattle.mirror_image.specs.Sound.{label_words, ReadsAlike, IsSound}
use Rattle.mirror_image.specs.Labels.{IsLabelled, KeepsReads}
use Rattle.mirror_image.specs.Safe.{IsSafe}

-- a half failed once: its count of faults is the next one, and didn't fall
abbrev pub FailedOnce : ℕ → ℕ → Type 0
FailedOnce faults faults' = (faults ≤ faults') × (faults' ≡ next_count faults)

-- of two halves the one failed once, and the other didn't
abbrev pub OneHalfFailed : ℕ → ℕ → ℕ → ℕ → Type 0
OneHalfFailed a a' b b' = (FailedOnce a a' × (b' ≡ b)) ⊎ ((a' ≡ a) × FailedOnce b b')

-- neither half failed
abbrev pub NoneFailed : ℕ → ℕ → ℕ → ℕ → Type 0
NoneFailed a a' b b' = (a' ≡ a) × (b' ≡ b)

-- The leader was marked, and the other half, which reads as the leader, too.
pub record IsLed (z generation : ℕ) (l o l' o' : Told) : Type 0 where
  pub leader : l'.trace ≡ did Fenced (next_count (next_count l.calls)) (did (Wrote z (label_words generation)) (next_count l.calls) l.trace)
  pub labelled : IsLabelled z generation o'.calls o'.trace
  pub alike : ReadsAlike z o'.trace l'.trace
  pub leader_calls : l'.calls ≡ min (l.calls + z + 2) most
  pub other_calls : o'.calls ≡ min (o.calls + z + 5) most

-- Both were marked, and read alike, as the one that leads did; `mark_a` and `mark_b` are the numbers of the fences.
pub record ArePaired (z generation : ℕ) (first_leads : Bool) (a b a' b' : Told) : Type 0 where
  pub mark_a : ℕ
  pub labelled_a : IsLabelled z generation mark_a a'.trace
  pub mark_b : ℕ
  pub labelled_b : IsLabelled z generation mark_b b'.trace
  pub alike : ReadsAlike z b'.trace a'.trace
  pub leads_first : first_leads ≡ true → a'.trace ≡ did Fenced (next_count (next_count a.calls)) (did (Wrote z (label_words generation)) (next_count a.calls) a.trace)
  pub leads_second : first_leads ≡ false → b'.trace ≡ did Fenced (next_count (next_count b.calls)) (did (Wrote z (label_words generation)) (next_count b.calls) b.trace)
  pub low : min (z + 2) most ≤ a'.calls
  pub high : b'.calls ≤ mark_b + z

-- the last that was done to it is a fence
pub record IsJustFenced (o : Option Trace) : Type 0 where
  pub before : Option Trace
  pub at : ℕ
  pub is : o ≡ did Fenced at before

-- Two halves as one, which reads as the one that leads did. Each half is fenced.
pub record ArePairedFrom (z generation : ℕ) (first_leads : Bool) (a b a' b' : Told) : Type 0 where
  pub sound : IsSound a' b' Both true 0 0
  pub safe : IsSafe (a'.size - 1) (generation + 1) Both true a'.trace b'.trace (told_by a' b' Both 0 0).trace
  pub alike : ReadsAlike z b'.trace a'.trace
  pub leads_first : first_leads ≡ true → KeepsReads z a.trace a'.trace
  pub leads_second : first_leads ≡ false → KeepsReads z b.trace b'.trace
  pub fenced_a : IsJustFenced a'.trace
  pub fenced_b : IsJustFenced b'.trace
  pub fenced : IsJustFenced (told_by a' b' Both 0 0).trace
