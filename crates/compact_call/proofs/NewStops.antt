-- What stops leave of a new image, from its attaching on.
use Rattle.std.proofs.Common.{◌≡◌, ◌≢◌, ◌⊎◌, inl, inr, ⊎_elim, ℕ, ◌<◌, ◌≤◌, true, Option, Some, None, sym, ◌∙◌, ap, subst, arith}
use Rattle.std.specs.Prelude.{nat_le}
use Rattle.std.proofs.lemmas.Bool.{and_parts, leb-true}
use Rattle.graph_model.specs.declared.types.Graph.{Graph}
use Rattle.line_image.specs.Told.{Told}
use Rattle.line_image.specs.Trace.{Trace, Outcome, IsAllFenced, LeavesNow}
use Rattle.line_memory.specs.Attached.{Attaches}
use Rattle.line_memory.specs.Memory.{Memory, ReadsWord, IsTelling, CanLeave, shown}
use Rattle.line_memory.specs.Moments.{Goes}
use Rattle.line_memory.proofs.Chain.{goes_on}
use Rattle.image_layout.specs.Places.{has_size, min_lines, max_lines}
use Rattle.image_meaning.specs.Checks.{Words}
use Rattle.word_changes.specs.Changes.{Tells, AllKnown, IsFixed, Nothing, OldOrGiven, ChangesTo, StopsLeave}
use Rattle.word_changes.proofs.Changing.{changes_stops}
use Rattle.image_opening.specs.Attached.{AreRead, IsSettled}
use Rattle.dense_image.specs.Written.{IsWhole}
use Rattle.image_compact.specs.Outcomes.{IsBlankOrWhole}
use Rattle.compact_call.specs.Fresh.{StopsAre, HasWords, KeepsFresh}

-- an image has a size that images have exactly where its lines are in range
pub in_size : (size : ℕ) → has_size size ≡ true → (min_lines ≤ size) × (size ≤ max_lines)
in_size size is =
    let parts = and_parts (nat_le min_lines size) (nat_le size max_lines) is in
    (leb-true min_lines size parts.0, leb-true size max_lines parts.1)

-- what a stop leaves of an image with nothing unfenced is what reads give
fenced_as_read : (o : Option Trace) → IsTelling o → IsAllFenced o → (c : Outcome) → LeavesNow o c
    → (l w v : ℕ) → ReadsWord o l w v → c l w ≡ v
fenced_as_read None telling settled c left l w v reads = absurd telling
fenced_as_read (Some h) telling settled c left l w v reads = settled l w (c l w) (left l w) ∙ sym reads

-- reads of an image that tells give one value
pub one_read : (o : Option Trace) → IsTelling o → (l w u v : ℕ) → ReadsWord o l w u → ReadsWord o l w v → v ≡ u
one_read None telling l w u v a b = absurd telling
one_read (Some h) telling l w u v a b = b ∙ sym a

module _ (start : Told) (settled : IsSettled start) (words : Words) (read : AreRead start words) where
  -- what a stop at the start leaves
  pub still : (c : Outcome) → LeavesNow start.trace c → HasWords start.size words c
  still c left l w below = fenced_as_read start.trace settled.0 settled.1 c left l w (words l w) (read l w below)

  -- nothing was done
  pub untouched : (after : Told) (P : Outcome → Type 0) → after.trace ≡ start.trace → Goes start after (LeavesNow start.trace)
      → ((c : Outcome) → HasWords start.size words c → P c) → StopsAre start after P
  untouched after P same moments so = record {
    within = record {
      later = moments.later;
      before = moments.before;
      during = λ n gt le lt c left. so c (still c (moments.during n gt le lt c left));
    };
    now = λ c left. so c (still c (subst (λ (o : Option Trace). LeavesNow o c) same left));
  }

  module _ (faults : ℕ) (m : Memory) (at : Attaches start faults m) where
    pub shown_is : (l w : ℕ) → l < start.size → shown m l w ≡ words l w
    shown_is l w below = one_read start.trace settled.0 l w (words l w) (shown m l w) (read l w below) (at.shows l w (omega (arith, below, at.size)))

    pub telling : IsTelling m.image.trace
    telling = subst IsTelling (sym at.trace) settled.0

    pub fixed : (l w : ℕ) → l < start.size → IsFixed m l w (words l w)
    fixed l w below v left = at.durable settled.1 l w (omega (arith, below, at.size)) v left ∙ shown_is l w below

    -- then what was done since
    pub since : (after : Memory) (P Q : Outcome → Type 0) → StopsLeave m after P → ((c : Outcome) → HasWords start.size words c → Q c)
        → ((c : Outcome) → P c → Q c) → StopsAre start after.image Q
    since after P Q stops first then = record {
      within = goes_on start m.image after.image (LeavesNow start.trace) P Q at.any_moment stops.within (λ c left. first c (still c left)) then;
      now = λ c left. then c (stops.after c (λ l w. inr (left l w)));
    }

    -- nothing was stored
    pub looked : (after : Memory) → ChangesTo Nothing m after → StopsLeave m after (HasWords start.size words)
    looked after look =
        changes_stops Nothing m after (HasWords start.size words) look
        (λ k all l w below. ⊎_elim (λ was. fixed l w below (k l w) was) (λ none. absurd none) (all l w))
