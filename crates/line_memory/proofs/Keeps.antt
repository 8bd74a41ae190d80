-- What each call keeps, and what an attach of an image gives.
use Rattle.std.proofs.Common.{◌≡◌, ◌⊎◌, inl, inr, ◌<◌, ◌≤◌, ℕ, List, [], Option, get_or, slice_index, refl, sym, ap, subst}
use Rattle.ap_base.specs.Causes.{next_count}
use Rattle.line_image.specs.Trace.{Trace, MayLeave, Reads, IsAllFenced}
use Rattle.line_image.specs.Told.{Told, IsCounted}
use Rattle.line_image.specs.declared.effect.Done.TheVariants.{Wrote, Fenced}
use Rattle.line_memory.specs.Attached.{Attaches}
use Rattle.line_memory.specs.Memory.{Memory, line_shown, shown, IsTelling, CanLeaveAll, ReadsWord, IsDurable, SameShown}
use Rattle.line_memory.specs.Memory.{KeepsTelling, StillWritten, WroteLine, MadeFence, DidNothing}
use Rattle.line_memory.specs.Moments.{CountsFrom, KeepsShown}
use Rattle.line_memory.proofs.Stops.{write_narrows, write_reads, fence_narrows, fence_reads, reads-line, reads-kept}
use Rattle.line_memory.proofs.Stops.{settled_leaves}
use Rattle.line_memory.proofs.Chain.{goes_nowhere, goes_quietly, write_goes, fence_goes}
use Rattle.line_memory.proofs.Residence.{every_line_is_resident}
use Rattle.line_memory.proofs.StopSets.{telling-did, telling-before, reads-fenced}

-- no call
pub keeps_itself : (m : Memory) → KeepsShown m m
keeps_itself m = record {
  size = refl;
  shows = λ l w before after. refl;
  telling = λ tells. tells;
  leaves = λ l w v left. left;
  reads = λ l w v reads. inl reads;
  any_moment = goes_nowhere m.image (CanLeaveAll m);
  silent = λ tells. tells;
  written = λ l w is. is;
}

-- one call, by the lines that are shown before and after it
module _ (old new : Memory) (lines : new.lines ≡ old.lines) (size : new.size ≡ old.size)
    (counted : IsCounted old.image) (one : new.image.calls ≡ next_count old.image.calls) where
  same : (l : ℕ) → line_shown new l ≡ line_shown old l
  unfolding line_shown
  same l = ap (λ (all : List (List ℕ)). get_or all l []) lines

  same_word : (l w : ℕ) → shown new l w ≡ shown old l w
  same_word l w = ap (λ (words : List ℕ). slice_index words w) (same l)

  shows : SameShown old new
  shows l w before after = same_word l w

  -- where nothing was done
  unchanged : DidNothing old new → StillWritten old new
  unchanged nothing l w is = subst (λ (v : ℕ). ReadsWord new.image.trace l w v) (sym (same_word l w))
      (subst (λ (o : Option Trace). ReadsWord o l w (shown old l w)) (sym nothing) is)

  pub write_keeps : (line : ℕ) → WroteLine line old new ⊎ DidNothing old new → KeepsShown old new
  write_keeps line did_it = record {
    size = size;
    shows = shows;
    telling = telling did_it;
    leaves = write_narrows old new same line did_it;
    reads = write_reads old new line did_it;
    any_moment = write_goes old new counted one line did_it;
    silent = silent did_it;
    written = still_written did_it;
  }
    where
      telling : WroteLine line old new ⊎ DidNothing old new → KeepsTelling old new
      telling (inl wrote) tells = subst IsTelling (sym wrote)
          (telling-did old.image.trace (Wrote line (line_shown old line)) new.image.calls tells)
      telling (inr nothing) tells = subst IsTelling (sym nothing) tells

      silent : WroteLine line old new ⊎ DidNothing old new → KeepsTelling new old
      silent (inl wrote) tells =
          telling-before old.image.trace (Wrote line (line_shown old line)) new.image.calls (subst IsTelling wrote tells)
      silent (inr nothing) tells = subst IsTelling nothing tells

      still_written : WroteLine line old new ⊎ DidNothing old new → StillWritten old new
      still_written (inl wrote) l w is = subst (λ (v : ℕ). ReadsWord new.image.trace l w v) (sym (same_word l w))
          (subst (λ (o : Option Trace). ReadsWord o l w (shown old l w)) (sym wrote)
          (reads-kept old.image.trace line new.image.calls (line_shown old line) l w (shown old l w)
          (λ here. ap (λ (k : ℕ). shown old k w) here) is))
      still_written (inr nothing) l w is = unchanged nothing l w is

  pub fence_keeps : MadeFence old new ⊎ DidNothing old new → KeepsShown old new
  fence_keeps did_it = record {
    size = size;
    shows = shows;
    telling = telling did_it;
    leaves = fence_narrows old new same did_it;
    reads = fence_reads old new did_it;
    any_moment = fence_goes old new counted one did_it;
    silent = silent did_it;
    written = still_written did_it;
  }
    where
      telling : MadeFence old new ⊎ DidNothing old new → KeepsTelling old new
      telling (inl fenced) tells = subst IsTelling (sym fenced)
          (telling-did old.image.trace Fenced new.image.calls tells)
      telling (inr nothing) tells = subst IsTelling (sym nothing) tells

      silent : MadeFence old new ⊎ DidNothing old new → KeepsTelling new old
      silent (inl fenced) tells =
          telling-before old.image.trace Fenced new.image.calls (subst IsTelling fenced tells)
      silent (inr nothing) tells = subst IsTelling nothing tells

      still_written : MadeFence old new ⊎ DidNothing old new → StillWritten old new
      still_written (inl fenced) l w is = subst (λ (v : ℕ). ReadsWord new.image.trace l w v) (sym (same_word l w))
          (subst (λ (o : Option Trace). ReadsWord o l w (shown old l w)) (sym fenced)
          (reads-fenced old.image.trace new.image.calls l w (shown old l w) is))
      still_written (inr nothing) l w is = unchanged nothing l w is

-- an image whose lines were read
pub attaches : (image : Told) (faults : ℕ) (m : Memory) → IsCounted image → m.size ≡ image.size
    → (32768 ≤ m.size) × (m.size ≤ 4194304) → m.image.trace ≡ image.trace → image.calls ≤ m.image.calls
    → m.calls ≡ image.size → CountsFrom image.calls m
    → ((l : ℕ) → l < m.size → Reads image.trace l (line_shown m l)) → m.faults ≡ faults
    → Attaches image faults m
attaches image faults m counted size range same calls_later calls counts reads spared = record {
  size = size;
  range = range;
  known = λ l below. inl (every_line_is_resident m l below);
  shows = shows;
  durable = durable;
  trace = same;
  calls = calls;
  counts = counts;
  any_moment = goes_quietly image m.image counted calls_later same;
  spared = spared;
}
  where
    shows : (l w : ℕ) → l < m.size → ReadsWord image.trace l w (shown m l w)
    shows l w below = reads-line image.trace l w (line_shown m l) (reads l below)

    durable : IsAllFenced image.trace → (l w : ℕ) → l < m.size → IsDurable m l w
    durable fenced l w below v (inl is) = is
    durable fenced l w below v (inr left) =
        settled_leaves image.trace l w v (shown m l w) fenced (shows l w below)
        (subst (λ (o : Option Trace). MayLeave o l w v) same left)
