-- What a mirror tells, from what its halves tell.
--
-- Each half has one line more than the mirror shows, the label. What is written to a label, and its fence, isn't shown.
use Rattle.std.specs.Prelude.{ℕ, List, [], ◌∷◌, ◌++◌, ◌+◌, ◌-◌, ◌^◌, Bool, true, false, ◌||◌, ◌&&◌, Option, Some, None, if◌then◌else◌, ◌==◌, length, drop, take, min}
use Rattle.line_image.specs.Trace.{Trace}
use Rattle.line_image.specs.Told.{Told}
use Rattle.line_image.specs.declared.effect.Effect.{Effect}
use Rattle.line_image.specs.declared.effect.Done.{Done}
use Rattle.line_image.specs.declared.effect.Done.TheVariants.{Wrote, Fenced}
use Rattle.mirror_image.specs.declared.halves.Left.{Left}
use Rattle.mirror_image.specs.declared.halves.Left.TheVariants.{Both, First, Second}

-- it writes the label, which is line z
abbrev pub is_label : ℕ → Done → Bool
is_label z (Wrote line words) = line == z
is_label z Fenced = false

abbrev pub top_is_label : ℕ → List Effect → Bool
top_is_label z [] = false
top_is_label z (effect ∷ done) = is_label z effect.done

abbrev pub is_fence : Done → Bool
is_fence (Wrote line words) = false
is_fence Fenced = true

-- it is the fence of a label, which was written right before it
abbrev pub fences_label : ℕ → Done → List Effect → Bool
fences_label z deed done = is_fence deed && top_is_label z done

-- what is shown of some effects, the newest first
abbrev pub shown : ℕ → List Effect → List Effect
shown z [] = []
shown z (effect ∷ done) = if is_label z effect.done || fences_label z effect.done done then shown z done else effect ∷ shown z done

-- what was done since the fence of the newest label, and what before the newest label
abbrev pub above : ℕ → List Effect → List Effect
above z [] = []
above z (effect ∷ done) = if fences_label z effect.done done then [] else effect ∷ above z done

abbrev pub below : ℕ → List Effect → List Effect
below z [] = []
below z (effect ∷ done) = if fences_label z effect.done done then drop 1 done else below z done

-- the number of the call that wrote the newest label
abbrev pub label_at : ℕ → List Effect → ℕ
label_at z [] = 0
label_at z (effect ∷ done) = if is_label z effect.done then effect.at else label_at z done

-- the number of the fence of the newest label
abbrev pub fence_at : ℕ → List Effect → ℕ
fence_at z [] = 0
fence_at z (effect ∷ done) = if fences_label z effect.done done then effect.at else fence_at z done

-- the number of the fence that ended the pairing of the second half, whose label is its newest until it is marked as left alone
abbrev pub paired_at : ℕ → Left → Option Trace → ℕ
paired_at z left None = 0
paired_at z Both (Some k) = fence_at z k.done
paired_at z First (Some k) = fence_at z k.done
paired_at z Second (Some k) = fence_at z (below z k.done)

-- the highest number of a call
abbrev pub most : ℕ
most = 2 ^ 64 - 1

-- How far a mirror's numbers are above those of its first half: it had as many calls, and the second half's pairing took as many
-- as that one had by then, so that its count is full no later than theirs.
unfoldable pub ahead_by : ℕ → Left → Option Trace → ℕ
ahead_by z left second = paired_at z left second + 4

-- the same, with numbers that are higher by k
abbrev pub numbered : ℕ → List Effect → List Effect
numbered k [] = []
numbered k (effect ∷ done) = record { at = min (effect.at + k) most; done = effect.done } ∷ numbered k done

-- How many calls a mirror had: those of its first half, without what marked it, and those since it was last used.
abbrev pub calls_by : ℕ → ℕ → ℕ → ℕ → ℕ
calls_by ahead calls less extra = min (calls + (ahead - less) + extra) most

-- How many of the first one's newest effects the second has made again since it was marked: a write that failed may
-- have been made.
abbrev pub remade : ℕ → List Effect → List Effect → ℕ
remade z a b = min (length (above z b)) (length (above z a) - length (above z (below z b)))

-- What was done to a mirror whose first half had so many calls. With both halves, or none, the first one's; with
-- the first alone, its numbers are higher by the two calls that marked it; with the second alone, that one's since
-- it was marked, above those of the first one that it hasn't made again.
abbrev pub done_by : ℕ → ℕ → Left → ℕ → List Effect → List Effect → List Effect
done_by ahead z Both calls a b = numbered ahead (shown z a)
done_by ahead z First calls a b = numbered (ahead - 2) (above z a) ++ numbered ahead (shown z (below z a))
done_by ahead z Second calls a b =
    numbered (calls + ahead - 2 - label_at z b) (above z b)
    ++ numbered ahead (drop (remade z a b) (shown z a))

abbrev pub joint : ℕ → ℕ → Left → ℕ → Option Trace → Option Trace → Option Trace
joint ahead z left calls (Some a) (Some b) = Some (record { first = take z a.first; done = done_by ahead z left calls a.done b.done })
joint ahead z left calls (Some a) None = None
joint ahead z left calls None b = None

-- what it tells where its numbers are above those of its first half by so much
abbrev pub told_from : ℕ → Told → Told → Left → ℕ → ℕ → Told
told_from ahead a b left less extra = record {
  size = a.size - 1;
  calls = calls_by ahead a.calls less extra;
  trace = joint ahead (a.size - 1) left a.calls a.trace b.trace;
}

abbrev pub told_by : Told → Told → Left → ℕ → ℕ → Told
told_by a b left less extra = told_from (ahead_by (a.size - 1) left b.trace) a b left less extra
