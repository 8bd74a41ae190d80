-- What holds of a mirror between its calls.
use Rattle.std.specs.Prelude.{◌==◌, ◌||◌, slice_index, ◌⊎◌, ◌∷◌, ◌≡◌, ◌<◌, ◌≤◌, ◌+◌, ◌-◌, ℕ, List, [], Bool, true, false, Option, Some, None, All, length, min}
use Rattle.ap_base.specs.Causes.{next_count}
use Rattle.line_image.specs.Trace.{Trace, newest, versions, did}
use Rattle.line_image.specs.Told.{Told}
use Rattle.line_image.specs.declared.effect.Effect.{Effect}
use Rattle.line_image.specs.declared.effect.Done.TheVariants.{Wrote, Fenced}
use Rattle.mirror_image.specs.declared.halves.Left.{Left}
use Rattle.mirror_image.specs.declared.halves.Left.TheVariants.{Both, First, Second}
use Rattle.mirror_image.specs.Joint.{top_is_label, above, below, label_at, most, ahead_by, calls_by, told_from}

-- the words of a label of this generation; word 0 is the bytes APMIRROR
abbrev pub label_words : ℕ → List ℕ
label_words generation = 5931049747640832065 ∷ generation ∷ 0 ∷ 0 ∷ 0 ∷ 0 ∷ 0 ∷ 0 ∷ []

abbrev pub done_in : Option Trace → List Effect
done_in None = []
done_in (Some h) = h.done

-- what a read gives of a line
abbrev pub read_in : Option Trace → ℕ → List ℕ
read_in None l = []
read_in (Some h) l = newest (versions h l)

-- where both tell, reads of the lines below z give the same
abbrev pub ReadsAlike : ℕ → Option Trace → Option Trace → Type 0
ReadsAlike z o p = (h k : Trace) → o ≡ Some h → p ≡ Some k → (l : ℕ) → l < z → newest (versions h l) ≡ newest (versions k l)

-- where both tell, as much was done to both since they were paired
abbrev pub SameMade : ℕ → Option Trace → Option Trace → Type 0
SameMade z o p = (h k : Trace) → o ≡ Some h → p ≡ Some k → length (above z h.done) ≡ length (above z k.done)

-- Where both tell, the second has made again as much of the first one's newest effects as it can, since it was marked.
abbrev pub Settled : ℕ → Option Trace → Option Trace → Type 0
Settled z o p = (h k : Trace) → o ≡ Some h → p ≡ Some k → length (above z h.done) - length (above z (below z k.done)) ≤ length (above z k.done)

-- one of these versions has this value in the word
abbrev pub one_has : List (List ℕ) → ℕ → ℕ → Bool
one_has [] w v = false
one_has (words ∷ rest) w v = (v == slice_index words w) || one_has rest w v

-- the newest is the same, and what each version of the one has in a word, one of the other has
abbrev pub Within : List (List ℕ) → List (List ℕ) → Type 0
Within vs us = (newest vs ≡ newest us) × ((w v : ℕ) → one_has vs w v ≡ true → one_has us w v ≡ true)

-- Where both tell, reads of the lines below z give the same, and what a stop leaves of the one it may leave of the other.
abbrev pub LeavesAlike : ℕ → Option Trace → Option Trace → Type 0
LeavesAlike z o p = (h k : Trace) → o ≡ Some h → p ≡ Some k → (l : ℕ) → l < z → Within (versions h l) (versions k l)

abbrev pub both_used : Left → Bool → Bool
both_used Both alive = alive
both_used First alive = false
both_used Second alive = false

abbrev pub first_used : Left → Bool → Bool
first_used Both alive = false
first_used First alive = alive
first_used Second alive = false

abbrev pub second_used : Left → Bool → Bool
second_used Both alive = false
second_used First alive = false
second_used Second alive = alive

abbrev pub Tells : Option Trace → Type 0
Tells None = ⊥
Tells (Some h) = Unit {0}

-- both halves are used
pub record BothLive (ahead : ℕ) (a b : Told) (less extra : ℕ) : Type 0 where
  pub none_less : less ≡ 0
  pub none_extra : extra ≡ 0
  pub lag : Tells b.trace → b.calls + 4 ≤ a.calls + ahead
  pub top_a : top_is_label (a.size - 1) (done_in a.trace) ≡ false
  pub top_b : top_is_label (a.size - 1) (done_in b.trace) ≡ false
  pub same : SameMade (a.size - 1) a.trace b.trace
  pub reads : LeavesAlike (a.size - 1) b.trace (told_from ahead a b Both less extra).trace

-- the first half alone
pub record FirstLives (a : Told) (less extra : ℕ) : Type 0 where
  pub two_less : less ≡ 2
  pub none_extra : extra ≡ 0
  pub top : top_is_label (a.size - 1) (done_in a.trace) ≡ false

-- the second half alone; its next call's number, as the mirror counts it, is the mirror's next one
pub record SecondLives (ahead : ℕ) (a b : Told) (less extra : ℕ) : Type 0 where
  pub none_less : less ≡ 0
  pub top : top_is_label (a.size - 1) (done_in b.trace) ≡ false
  pub settled : Settled (a.size - 1) a.trace b.trace
  pub reads : LeavesAlike (a.size - 1) b.trace (told_from ahead a b Second less extra).trace
  pub step : (h : Trace) → b.trace ≡ Some h
      → min (b.calls + (a.calls + ahead - 2 - label_at (a.size - 1) h.done)) most ≡ calls_by ahead a.calls less extra

pub record IsSoundBy (ahead : ℕ) (a b : Told) (left : Left) (alive : Bool) (less extra : ℕ) : Type 0 where
  pub number : ahead ≡ ahead_by (a.size - 1) left b.trace
  pub some : 0 < a.size
  pub sizes : b.size ≡ a.size
  pub few : less ≤ 2
  pub so_far : All (λ (effect : Effect). effect.at ≤ calls_by ahead a.calls less extra) (done_in (told_from ahead a b left less extra).trace)
  pub both : both_used left alive ≡ true → BothLive ahead a b less extra
  pub first : first_used left alive ≡ true → FirstLives a less extra
  pub second : second_used left alive ≡ true → SecondLives ahead a b less extra

abbrev pub IsSound : Told → Told → Left → Bool → ℕ → ℕ → Type 0
IsSound a b left alive less extra = IsSoundBy (ahead_by (a.size - 1) left b.trace) a b left alive less extra

-- it has been marked: the label was written and fenced
pub record IsMarked (z generation : ℕ) (old new : Told) : Type 0 where
  pub size : new.size ≡ old.size
  pub calls : new.calls ≡ next_count (next_count old.calls)
  pub trace : new.trace ≡ did Fenced new.calls (did (Wrote z (label_words generation)) (next_count old.calls) old.trace)

-- It wasn't marked, and so many calls were made for it: the label is there, or isn't, and isn't fenced.
pub record IsNotMarked (z generation made : ℕ) (old new : Told) : Type 0 where
  pub size : new.size ≡ old.size
  pub range : (1 ≤ made) × (made ≤ 2)
  pub calls : new.calls ≡ min (old.calls + made) most
  pub trace : (new.trace ≡ did (Wrote z (label_words generation)) (next_count old.calls) old.trace) ⊎ (new.trace ≡ old.trace)

-- nothing was done since it was marked
pub record IsNewlyMarked (z : ℕ) (o : Option Trace) : Type 0 where
  pub top : top_is_label z (done_in o) ≡ false
  pub none : length (above z (done_in o)) ≡ 0
