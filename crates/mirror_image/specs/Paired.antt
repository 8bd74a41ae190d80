-- When two halves are paired, and what the mirror then shows.
use Rattle.std.specs.Prelude.{◌≡◌, ◌≢◌, ◌<◌, ◌≤◌, ◌+◌, ◌-◌, ◌^◌, ℕ, true, Option, Some, max}
use Rattle.line_image.specs.Trace.{Trace}
use Rattle.line_image.specs.Told.{Told}
use Rattle.mirror_image.specs.declared.halves.Left.TheVariants.{Both}
use Rattle.mirror_image.specs.declared.pairing.MirrorFault.{MirrorFault}
use Rattle.mirror_image.specs.declared.pairing.MirrorFault.TheVariants.{Size, Generation}
use Rattle.mirror_image.specs.Joint.{told_by}
use Rattle.mirror_image.specs.Sound.{ReadsAlike, IsSound}
use Rattle.mirror_image.specs.Labels.{generation_at, leader}
use Rattle.mirror_image.specs.Safe.{IsSafe}
use Rattle.mirror_image.specs.Pairing.{IsJustFenced}

-- where both halves tell, the leader's generation is above what can lead
abbrev pub LeaderTooHigh : ℕ → Option Trace → Option Trace → Type 0
LeaderTooHigh z o p = (h k : Trace) → o ≡ Some h → p ≡ Some k → 2 ^ 64 - 4 < max (generation_at z h) (generation_at z k)

abbrev pub LeaderFits : ℕ → Option Trace → Option Trace → Type 0
LeaderFits z o p = (h k : Trace) → o ≡ Some h → p ≡ Some k → max (generation_at z h) (generation_at z k) ≤ 2 ^ 64 - 4

-- where both halves told, this reads as the one that led
abbrev pub ShowsLeader : ℕ → Option Trace → Option Trace → Option Trace → Type 0
ShowsLeader z o p t = (h k : Trace) → o ≡ Some h → p ≡ Some k → ReadsAlike z t (Some (leader z h k))

pub record IsPairing (z : ℕ) (a b a' b' : Told) (generation : ℕ) : Type 0 where
  pub sound : IsSound a' b' Both true 0 0
  pub safe : IsSafe (a'.size - 1) (generation + 1) Both true a'.trace b'.trace (told_by a' b' Both 0 0).trace
  pub fits : LeaderFits z a.trace b.trace
  pub shows : ShowsLeader z a.trace b.trace (told_by a' b' Both 0 0).trace
  pub fenced_a : IsJustFenced a'.trace
  pub fenced_b : IsJustFenced b'.trace
  pub fenced : IsJustFenced (told_by a' b' Both 0 0).trace
  pub low : generation ≤ 2 ^ 64 - 3

-- what a fault of pairing says, where the halves are of one size
pub record IsPairFault (z : ℕ) (a b a' b' : Told) (fault : MirrorFault) : Type 0 where
  pub no_size : fault ≢ Size
  pub too_high : fault ≡ Generation → LeaderTooHigh z a.trace b.trace
  pub a_same : fault ≡ Generation → a'.trace ≡ a.trace
  pub b_same : fault ≡ Generation → b'.trace ≡ b.trace
