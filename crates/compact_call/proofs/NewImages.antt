-- What comes of a new image.
use Rattle.std.proofs.Common.{◌≡◌, ◌≢◌, ◌⊎◌, ◌↔◌, inl, inr, ⊎_elim, ℕ, ◌<◌, true, Some, None, refl, sym, ◌∙◌, subst, arith, length, ◌-◌, ◌^◌}
use Rattle.ap_base.specs.Causes.{IsCauseOf}
use Rattle.graph_model.specs.declared.types.Graph.{Graph}
use Rattle.line_image.specs.Told.{Told}
use Rattle.line_image.specs.Trace.{LeavesNow}
use Rattle.line_memory.specs.Attached.{Attaches, GivesBack}
use Rattle.line_memory.specs.Memory.{Memory, IsTelling, shown}
use Rattle.line_memory.specs.declared.attach.AttachFault.{AttachFault}
use Rattle.line_memory.specs.declared.attach.AttachFault.TheVariants as attach
use Rattle.image_layout.specs.Places.{has_size}
use Rattle.image_meaning.specs.Checks.{Words}
use Rattle.word_changes.specs.Changes.{AllKnown, Nothing, ChangesTo}
use Rattle.image_opening.specs.Attached.{AreRead, IsSettled}
use Rattle.image_opening.specs.Unopened.{IsOfWrongSize}
use Rattle.image_meaning.specs.Directories.{spelled_all}
use Rattle.dense_image.specs.Written.{no_room, lines_taken, entries_of, IsWhole}
use Rattle.image_compact.specs.declared.fault.WriteFault.{WriteFault}
use Rattle.image_compact.specs.declared.fault.WriteFault.TheVariants as write
use Rattle.image_compact.specs.Outcomes.{IsBlankOrWhole, StopsKeepBlankOrWhole, Writes, IsRefused, FailsToWrite}
use Rattle.statuses.specs.declared.status.NewReason.TheVariants.{Size}
use Rattle.compact_call.specs.declared.fault.CompactFault.{CompactFault}
use Rattle.compact_call.specs.declared.fault.CompactFault.TheVariants.{BadImage, NewImage, Full, ImageFailed, SinkFailed, OutOfMemory}
use Rattle.compact_call.specs.Faults.{IsOfAttach, IsOfWrite}
use Rattle.compact_call.specs.Fresh.{StopsAre, IsInRange, IsBlank, HasWords, KeepsFresh, StaysAsItWas, IsWrittenTo}
use Rattle.compact_call.specs.Fresh.{IsNewFault, StaysIfRefused}
use Rattle.image_compact.proofs.ImageWords.{sized}
use Rattle.image_compact.proofs.Outcomes.{passed_on}
use Rattle.image_compact.proofs.Plans.{room_of}
use Rattle.compact_call.proofs.NewStops.{in_size, untouched, shown_is, telling, fixed, since, looked}

-- ---- one that wasn't attached

module _ (graph : Graph) (start : Told) (faults : ℕ) (fault : AttachFault) (after : Told) (faults_after : ℕ)
    (back : GivesBack start faults fault after faults_after) where
  blank_still : IsSettled start → (words : Words) → AreRead start words → IsBlank start words
      → StopsAre start after (IsBlankOrWhole start.size graph)
  blank_still settled words read blank =
      untouched start settled words read after (IsBlankOrWhole start.size graph) back.same_trace back.any_moment
      (λ c has. let range = in_size start.size blank.0 in inl (blank.0, has 0 0 (omega (arith, range.0)) ∙ blank.1))

  pub unattached_stays : StaysAsItWas start after
  unattached_stays settled words read =
      untouched start settled words read after (HasWords start.size words) back.same_trace back.any_moment (λ c has. has)

  pub unattached_keeps : KeepsFresh graph start after
  unattached_keeps = record {
    size = back.same_size;
    blank = blank_still;
    used = λ settled words read used. unattached_stays settled words read;
  }

  pub unattached_sized : (why : CompactFault) → IsOfAttach fault why → IsOfWrongSize start → why ≡ NewImage Size
  unattached_sized why is wrong =
      let at : fault ≡ attach.Size = back.size_fault.1 wrong in
      subst (λ (f : AttachFault). IsOfAttach f why) at is

wrong_size : (graph : Graph) (start : Told) (fault : AttachFault) (why : CompactFault) → IsOfAttach fault why
    → (fault ≡ attach.Size ↔ IsOfWrongSize start) → IsNewFault graph start why
wrong_size graph start attach.Size why is exact = subst (λ (y : CompactFault). IsNewFault graph start y) (sym is) (exact.0 refl)
wrong_size graph start attach.ImageFailed why is exact = subst (λ (y : CompactFault). IsNewFault graph start y) (sym is) tt
wrong_size graph start attach.OutOfMemory why is exact = subst (λ (y : CompactFault). IsNewFault graph start y) (sym is) tt

pub unattached_came : (graph : Graph) (start : Told) (faults : ℕ) (fault : AttachFault) (after : Told) (faults_after : ℕ)
    → GivesBack start faults fault after faults_after → (why : CompactFault) → IsOfAttach fault why → IsNewFault graph start why
unattached_came graph start faults fault after faults_after back why is = wrong_size graph start fault why is back.size_fault

-- what stays as it was does so where it must
pub stays_refused : (start after : Told) (why : CompactFault) → StaysAsItWas start after → StaysIfRefused start after why
stays_refused start after (NewImage reason) stays = stays
stays_refused start after (Full full) stays = stays
stays_refused start after OutOfMemory stays = stays
stays_refused start after ImageFailed stays = tt
stays_refused start after (BadImage line reason) stays = tt
stays_refused start after SinkFailed stays = tt

-- ---- a failure, and nothing else, is told as one

failed_attach : (fault : AttachFault) (why : CompactFault) → IsOfAttach fault why → why ≡ ImageFailed → fault ≡ attach.ImageFailed
failed_attach attach.Size why is failed = cc
failed_attach attach.ImageFailed why is failed = refl
failed_attach attach.OutOfMemory why is failed = cc

attach_failed : (fault : AttachFault) (why : CompactFault) → IsOfAttach fault why → fault ≡ attach.ImageFailed → why ≡ ImageFailed
attach_failed fault why is failed = subst (λ (f : AttachFault). IsOfAttach f why) failed is

pub attach_cause : (fault : AttachFault) (why : CompactFault) (before now : ℕ) → IsOfAttach fault why
    → IsCauseOf attach.ImageFailed fault before now → IsCauseOf ImageFailed why before now
attach_cause fault why before now is cause =
    passed_on attach.ImageFailed fault ImageFailed why before now (attach_failed fault why is) (failed_attach fault why is) cause

failed_write : (fault : WriteFault) (why : CompactFault) → IsOfWrite fault why → why ≡ ImageFailed → fault ≡ write.ImageFailed
failed_write write.NotBlank why is failed = cc
failed_write (write.Full full) why is failed = cc
failed_write write.ImageFailed why is failed = refl
failed_write write.OutOfMemory why is failed = cc

write_failed : (fault : WriteFault) (why : CompactFault) → IsOfWrite fault why → fault ≡ write.ImageFailed → why ≡ ImageFailed
write_failed fault why is failed = subst (λ (f : WriteFault). IsOfWrite f why) failed is

-- ---- one that was

module _ (graph : Graph) (start : Told) (faults : ℕ) (m n : Memory) (at : Attaches start faults m) where
  pub right_size : IsOfWrongSize start → ⊥
  right_size wrong =
      let range = at.range in let same = at.size in
      ⊎_elim (λ few. omega (arith, few, range.0, same)) (λ many. omega (arith, many, range.1, same)) wrong

  in_range : IsInRange start
  in_range = let range = at.range in let same = at.size in (omega (arith, range.0, same), omega (arith, range.1, same))

  right_count : has_size start.size ≡ true
  right_count = sized start.size in_range.0 in_range.1

  known : AllKnown m
  known = at.known

  read_now : AreRead start (shown m)
  read_now l w below = at.shows l w (omega (arith, below, at.size))

  first_there : 0 < start.size
  first_there = let range = at.range in let same = at.size in omega (arith, range.0, same)

  module _ (after : Told) (told : after ≡ n.image) (sized : after.size ≡ n.size) (grown : n.size ≡ m.size)
      (stops : StopsKeepBlankOrWhole graph m n) (not_blank : AllKnown m → shown m 0 0 ≢ 0 → ChangesTo Nothing m n) where
    stays_blank : IsSettled start → (words : Words) → AreRead start words → IsBlank start words
        → StopsAre start n.image (IsBlankOrWhole start.size graph)
    stays_blank settled words read blank =
        since start settled words read faults m at n (IsBlankOrWhole m.size graph) (IsBlankOrWhole start.size graph)
        (stops (telling start settled words read faults m at)
        (λ v left. fixed start settled words read faults m at 0 0 first_there v left ∙ blank.1))
        (λ c has. inl (blank.0, has 0 0 first_there ∙ blank.1))
        (λ c so. subst (λ (k : ℕ). IsBlankOrWhole k graph c) at.size so)

    stays_used : IsSettled start → (words : Words) → AreRead start words → ¬ IsBlank start words
        → StopsAre start n.image (HasWords start.size words)
    stays_used settled words read used =
        since start settled words read faults m at n (HasWords start.size words) (HasWords start.size words)
        (looked start settled words read faults m at n
        (not_blank known (λ zero. used (right_count, sym (shown_is start settled words read faults m at 0 0 first_there) ∙ zero))))
        (λ c has. has) (λ c has. has)

    pub attached_keeps : KeepsFresh graph start after
    attached_keeps = record {
      size = sized ∙ grown ∙ at.size;
      blank = λ settled words read blank.
          subst (λ (t : Told). StopsAre start t (IsBlankOrWhole start.size graph)) (sym told) (stays_blank settled words read blank);
      used = λ settled words read used.
          subst (λ (t : Told). StopsAre start t (HasWords start.size words)) (sym told) (stays_used settled words read used);
    }

  -- nothing was stored, whatever its words
  pub attached_stays : (after : Told) → after ≡ n.image → ChangesTo Nothing m n → StaysAsItWas start after
  attached_stays after told look settled words read =
      subst (λ (t : Told). StopsAre start t (HasWords start.size words)) (sym told)
      (since start settled words read faults m at n (HasWords start.size words) (HasWords start.size words)
      (looked start settled words read faults m at n look) (λ c has. has) (λ c has. has))

  pub is_written_to : (after : Told) → after ≡ n.image → Writes graph m n → IsWrittenTo graph start after
  is_written_to after told w = record {
    was = record { words = shown m; read = read_now; blank = (right_count, w.was_blank known) };
    room = subst (λ (k : ℕ). no_room k graph ≡ None) at.size w.room;
    whole = λ tells c left.
        subst (λ (k : ℕ). IsWhole k c graph) at.size
        (w.kept (subst IsTelling (sym at.trace) tells) c
        (λ l w. inr (subst (λ (t : Told). LeavesNow t.trace c) told left l w)));
  }

  refused : (fault : WriteFault) → FailsToWrite graph fault m n → (why : CompactFault) → IsOfWrite fault why → IsNewFault graph start why
  refused write.NotBlank fails why is =
      subst (λ (y : CompactFault). IsNewFault graph start y) (sym is)
      (record { in_range = in_range; words = shown m; read = read_now; used = fails.refused.0 known })
  refused (write.Full full) fails why is =
      subst (λ (y : CompactFault). IsNewFault graph start y) (sym is) (
        record { words = shown m; read = read_now; blank = (right_count, fails.refused.0 known) },
        subst (λ (k : ℕ). no_room k graph ≡ Some full) at.size fails.refused.1,
      )
  refused write.ImageFailed fails why is = subst (λ (y : CompactFault). IsNewFault graph start y) (sym is) tt
  refused write.OutOfMemory fails why is = subst (λ (y : CompactFault). IsNewFault graph start y) (sym is) tt

  pub attached_came : (fault : WriteFault) → FailsToWrite graph fault m n → (why : CompactFault) → IsOfWrite fault why
      → IsNewFault graph start why
  attached_came fault fails why is = refused fault fails why is

  unstored : (after : Told) → after ≡ n.image → (fault : WriteFault) → IsRefused graph fault m n → (why : CompactFault) → IsOfWrite fault why
      → StaysIfRefused start after why
  unstored after told write.NotBlank given why is = stays_refused start after why (attached_stays after told given.1)
  unstored after told (write.Full full) given why is = stays_refused start after why (attached_stays after told given.2)
  unstored after told write.OutOfMemory given why is = stays_refused start after why (attached_stays after told given)
  unstored after told write.ImageFailed given why is = subst (λ (y : CompactFault). StaysIfRefused start after y) (sym is) tt

  pub attached_refused : (after : Told) → after ≡ n.image → (fault : WriteFault) → FailsToWrite graph fault m n → (why : CompactFault)
      → IsOfWrite fault why → StaysIfRefused start after why
  attached_refused after told fault fails why is = unstored after told fault fails.refused why is

  -- as many lines as its nodes take are there
  pub attached_line : Writes graph m n → lines_taken graph.nodes < 2 ^ 64 - 1
  attached_line w =
      let range = at.range in
      let room = room_of m.size (length (spelled_all (entries_of graph))) (lines_taken graph.nodes) range.0 w.room in
      omega (arith, room.1, range.1)

  -- it failed since it had been attached, and not before
  pub attached_cause : (fault : WriteFault) → FailsToWrite graph fault m n → (why : CompactFault) → IsOfWrite fault why → (faults_after : ℕ)
      → faults_after ≡ n.faults → IsCauseOf ImageFailed why faults faults_after
  attached_cause fault fails why is faults_after same =
      passed_on write.ImageFailed fault ImageFailed why faults faults_after (write_failed fault why is) (failed_write fault why is)
      (subst (λ (k : ℕ). IsCauseOf write.ImageFailed fault k faults_after) at.spared
      (subst (λ (k : ℕ). IsCauseOf write.ImageFailed fault m.faults k) (sym same) fails.cause))
