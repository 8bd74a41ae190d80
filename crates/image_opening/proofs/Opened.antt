-- An image that was attached and then recovered, and one that wasn't.
use Rattle.std.proofs.Common.{◌≡◌, ◌≢◌, ℕ, List, false, Option, Some, None, Err, sym, refl, ◌∙◌, subst, ⊎_elim, inl, inr}
use Rattle.std.specs.Prelude.{nat_le}
use Rattle.std.proofs.lemmas.Bool.{cases_eq, lt-leb, and_left, and_right}
use Rattle.graph_model.specs.declared.types.Graph.{Graph}
use Rattle.line_image.specs.Told.{Told}
use Rattle.line_image.specs.Trace.{Trace, read_word}
use Rattle.line_memory.specs.Memory.{Memory, ReadsWord, shown}
use Rattle.image_layout.specs.Places.{has_size, max_lines, min_lines, super_check}
use Rattle.image_layout.specs.declared.superblock.BadReason.TheVariants.{Size}
use Rattle.image_meaning.specs.Checks.{Words}
use Rattle.image_meaning.specs.Meaning.{meaning}
use Rattle.word_changes.specs.Changes.{AllKnown, ChangesTo}
use Rattle.directories.specs.Kept.{Kept}
use Rattle.image_recovery.specs.Putting.{AllDurable, IsPutBack}
use Rattle.image_recovery.specs.Recovered.{IsBadFault, entries_in}
use Rattle.image_recovery.specs.Recoveries.{FailsToRecover, HasDirectory, Recovers}
use Rattle.image_walk.specs.declared.fault.RecoverFault.{RecoverFault}
use Rattle.image_walk.specs.declared.fault.RecoverFault.TheVariants as recovery
use Rattle.image_walk.specs.Walking.{IsFaultOf}
use Rattle.image_opening.specs.declared.not_opened.NotOpened.{NotOpened}
use Rattle.image_opening.specs.declared.not_opened.NotOpened.TheVariants.{BadImage, ImageFailed, OutOfMemory}
use Rattle.image_opening.specs.Attached.{IsAttached}
use Rattle.image_opening.specs.Opened.{IsDirectoryIn, IsFoundIn, IsOpenImage, IsRecoveredAs}
use Rattle.image_opening.specs.Unopened.{IsBadThere, IsOfRecovery, IsOfWrongSize, IsRecoveryFault, IsUnattached}
use Rattle.image_opening.specs.Unopened.{IsUnrecovered}
use Rattle.image_opening.proofs.Fenced.{attached_durable, attached_written, silent_durable, tells_or_not}
use Rattle.image_opening.proofs.Finding.{IsFoundNow, blank_found, none_found, used_found}

module _ (start : Told) (before m : Memory) (version : ℕ) (directory : Kept) (graph : Graph) (lines : List ℕ)
    (free undone : ℕ) (at : IsAttached start before) (r : Recovers before m directory graph lines free undone) where
  done : IsRecoveredAs before m
  done = record { blank = r.formatted at.known; used = r.recovered at.known }

  now_found : IsFoundNow m directory lines free
  now_found = ⊎_elim
      (λ (zero : shown before 0 0 ≡ 0). blank_found before m at.enough at.most r.goes_on.size directory graph lines free undone
      (r.blank at.known zero) (done.blank zero))
      (λ (not_zero : shown before 0 0 ≢ 0). used_found before m at.enough at.most r.goes_on.size directory graph lines free undone
      (r.used at.known not_zero) (done.used not_zero))
      (cases_eq (shown before 0 0) 0)

  directory_found : IsDirectoryIn (shown before) (entries_in directory)
  directory_found = (
    λ zero. none_found before m at.enough at.most r.goes_on.size directory graph lines free undone (r.blank at.known zero)
        (done.blank zero),
    λ not_zero. (r.used at.known not_zero).finds.opens.entries,
  )

  directory_had : HasDirectory before.size (shown before) (entries_in directory)
  directory_had = ⊎_elim
      (λ (zero : shown before 0 0 ≡ 0). inl (zero, directory_found.0 zero))
      (λ (not_zero : shown before 0 0 ≢ 0). inr (r.used at.known not_zero).finds.opens)
      (cases_eq (shown before 0 0) 0)

  durable_now : AllDurable m
  durable_now = ⊎_elim
      (λ tells. r.durable tells (attached_written start before at) (attached_durable start before at))
      (λ silent. silent_durable m (λ tells. silent (r.goes_on.silent tells)))
      (tells_or_not before.image.trace)

  is_found : version ≡ shown m 0 1 → IsFoundIn before m version directory graph lines free undone
  is_found version_is = record {
    blank = r.blank at.known;
    used = r.used at.known;
    version_is = version_is;
    directory_is = directory_found;
    unplanned = now_found.unplanned;
    begins = now_found.begins;
    in_use = now_found.used;
    free_is = now_found.free_is;
  }

  pub is_open : version ≡ shown m 0 1 → AllKnown m → IsOpenImage start before m version directory graph lines free undone
  is_open version_is known = record {
    attached = at;
    stands = r.stands at.known;
    found = is_found version_is;
    goes_on = r.goes_on;
    stops = λ tells. r.stops (at.telling tells) (attached_durable start before at) (attached_written start before at) graph
        (r.stands at.known);
    directory_stays = λ tells. r.directory_stays (at.telling tells) (attached_durable start before at)
        (attached_written start before at) at.enough at.most (entries_in directory) directory_had;
    stores = r.stores;
    recovered = done;
    known = known;
    stands_now = r.stands_now at.known;
    well_formed = r.well_formed at.known;
    opens = now_found.opens;
    unlogged = r.empty at.known;
    durable = durable_now;
  }

-- ---- an image that couldn't be recovered

recovery_cause : (before m : Memory) (fault : RecoverFault) (why : NotOpened) → IsOfRecovery fault why
    → IsFaultOf (meaning before.size (shown before)) fault
    → (IsBadFault fault → ChangesTo (IsPutBack (shown before)) before m)
    → IsRecoveryFault before m why
recovery_cause before m (recovery.Bad line reason) why is fails back =
    subst (IsRecoveryFault before m) (sym is) (fails, back tt)
recovery_cause before m recovery.ImageFailed why is fails back = subst (IsRecoveryFault before m) (sym is) tt
recovery_cause before m recovery.OutOfMemory why is fails back = subst (IsRecoveryFault before m) (sym is) tt

pub is_unrecovered : (start after : Told) (before m : Memory) (fault : RecoverFault) (why : NotOpened)
    → IsAttached start before → FailsToRecover before m fault → IsOfRecovery fault why → after.size ≡ m.size
    → after ≡ m.image → IsUnrecovered start after why
is_unrecovered start after before m fault why at fails of sized told = record {
  before = before;
  memory = m;
  attached = at;
  size = sized ∙ fails.goes_on.size ∙ at.size;
  told = told;
  goes_on = fails.goes_on;
  stops = λ tells. fails.stops (at.telling tells) (attached_durable start before at) (attached_written start before at);
  directory_stays = λ tells. fails.directory_stays (at.telling tells) (attached_durable start before at)
      (attached_written start before at) at.enough at.most;
  stores = fails.stores;
  recovering = λ tells. fails.recovering (at.telling tells) (attached_durable start before at) (attached_written start before at) at.enough;
  cause = recovery_cause before m fault why of (fails.bad at.known) (fails.put_back at.known);
}

-- ---- an image that is bad

-- what reads give
abbrev words_of : Option Trace → Words
words_of None l w = 0
words_of (Some h) l w = read_word h l w

words_read : (o : Option Trace) (l w : ℕ) → ReadsWord o l w (words_of o l w)
words_read None l w = tt
words_read (Some h) l w = refl

wrong_size : (start : Told) → IsOfWrongSize start → has_size start.size ≡ false
wrong_size start wrong = ⊎_elim
    (λ few. and_left (nat_le min_lines start.size) (nat_le start.size max_lines) (lt-leb min_lines start.size few))
    (λ many. and_right (nat_le min_lines start.size) (nat_le start.size max_lines) (lt-leb start.size max_lines many))
    wrong

fails_size : (words : Words) (size : ℕ) → has_size size ≡ false → super_check (words 0) size ≡ Some Size
fails_size words size wrong = rw wrong refl

size_bad : (size : ℕ) (words : Words) → has_size size ≡ false → meaning size words ≡ Err (0, Size)
unfolding meaning
size_bad size words wrong = let fails = fails_size words size wrong in rw fails refl

pub unattached_bad : (start after : Told) (why : NotOpened) → IsUnattached start after why → IsBadThere start why
unattached_bad start after (BadImage line reason) is =
    let words = words_of start.trace in
    let size = wrong_size start is.cause.2 in
    record {
      words = words;
      read = λ l w below. words_read start.trace l w;
      fails = rw (is.cause.0, is.cause.1) (size_bad start.size words size);
    }
unattached_bad start after ImageFailed is = tt
unattached_bad start after OutOfMemory is = tt

pub unrecovered_bad : (start after : Told) (why : NotOpened) → IsUnrecovered start after why → IsBadThere start why
unrecovered_bad start after (BadImage line reason) is = record {
  words = shown is.before;
  read = is.attached.shows;
  fails = rw (← is.attached.size) is.cause.0;
}
unrecovered_bad start after ImageFailed is = tt
unrecovered_bad start after OutOfMemory is = tt
