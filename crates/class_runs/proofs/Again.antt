-- What stops of a run left opens again.
use Rattle.std.proofs.Common.{◌≡◌, ◌⊎◌, inl, inr, ⊎_elim, ℕ, ◌+◌, ◌<◌, ◌≤◌, List, [], length, slice_index_or, sym, refl, ap, ◌∙◌, subst, arith}
use Rattle.std.specs.Prelude.{take, Option}
use Rattle.std.proofs.lemmas.List.{get_or_append_left, length-append}
use Rattle.graph_model.specs.Heaps.{no_shape}
use Rattle.graph_model.specs.declared.types.Graph.{Graph}
use Rattle.graph_model.specs.declared.types.Shape.{Shape}
use Rattle.line_image.specs.Told.{Told}
use Rattle.line_image.specs.Trace.{Outcome}
use Rattle.line_memory.specs.Memory.{IsTelling, Memory, shown}
use Rattle.image_layout.specs.Places.{max_lines, min_lines}
use Rattle.image_layout.specs.declared.superblock.BadReason.{BadReason}
use Rattle.image_meaning.specs.Appending.{with_all_too}
use Rattle.image_meaning.specs.Checks.{Words}
use Rattle.image_meaning.specs.Directories.{Directory, with_all}
use Rattle.image_meaning.specs.Meaning.{StandsFor, meaning}
use Rattle.image_meaning.proofs.Standings.{stands-within}
use Rattle.directories.specs.ClassSets.{Agrees}
use Rattle.directories.specs.Planning.{lacking}
use Rattle.image_recovery.specs.Recovered.{entries_in}
use Rattle.run_history.specs.Recorded.{Recorded}
use Rattle.run_types.specs.declared.fault.Full.{Full}
use Rattle.run_types.specs.declared.fault.RunFault.{RunFault}
use Rattle.run_types.specs.declared.fault.RunFault.TheVariants as fault
use Rattle.run_types.specs.declared.limits.Limits.{Limits}
use Rattle.plain_model.specs.Ends.{Ending, Fault, Finished, Uncaught}
use Rattle.class_set.specs.Facts.{facts_of}
use Rattle.class_set.specs.Linked.{Linked}
use Rattle.durable_launch.specs.Passed.{HasDirectory, HoldsGraph, IsAttachFault, IsAttached, IsNoRefusal, IsOtherShape, IsRecoveryFault}
use Rattle.durable_launch.specs.Passed.{IsUnfit, IsUnopened, OpenedImagesOpenAgain, StandsWithNew, Unopened}
use Rattle.durable_launch.proofs.Passed.{first_lacks, shapes_first}
use Rattle.durable_launch.specs.Unopenings as unopened
use Rattle.statuses.specs.Names.{fault_status}
use Rattle.statuses.specs.Stages.{OfImage, OfMemory, OfNames, OfOpening, OfRoom, stage_of}
use Rattle.statuses.specs.declared.status.Status.{Status}
use Rattle.statuses.specs.declared.status.Status.TheVariants as status
use Rattle.class_runs.specs.Again.{HadOtherShape, IsLeftBy, IsRefusedStill, LackedRoom}
use Rattle.class_runs.specs.Sets.{CannotBegin, CannotOpen, HasEndedSo, HasItsDirectory, IsOfSet, IsOpenedSo, SetEnds, StandsAllowed, StandsAsBefore, StandsRightly}
use Rattle.class_runs.specs.Sets.{StandsStill, status_of_ending, status_of_unopened}
use Rattle.class_runs.proofs.Reading.{not_both, one_read, sized}

-- ---- what stands is no bad image

-- a graph for which the words stand
abbrev StandsSome : ℕ → Words → Type 0
StandsSome size words = (graph : Graph) × StandsFor size words graph

stands_before : (set : Linked) (size : ℕ) (before : Words) (stood : Graph) (left : Outcome) → StandsFor size before stood
    → StandsAsBefore set size before left → StandsSome size left
stands_before set size before stood left stands as_before = ⊎_elim
    (λ still. (stood, still.stands))
    (λ new. (with_all_too stood (take new.first.count (lacking new.found new.entries)), new.first.stands))
    (as_before stood stands)

stands_rightly : (set : Linked) (start : Told) (opening : Graph) (all acts : List Recorded) (before : Words) (stood : Graph) (left : Outcome)
    → StandsFor start.size before stood → StandsRightly set start opening all acts before left → StandsSome start.size left
stands_rightly set start opening all acts before stood left stands (inl allowed) = (allowed.allowed.graph, allowed.allowed.stands)
stands_rightly set start opening all acts before stood left stands (inr (none, as_before)) =
    stands_before set start.size before stood left stands as_before

module _ (start : Told) (left : Outcome) (again : Told) (is : IsLeftBy start left again) (graph : Graph)
    (stands : StandsFor start.size left graph) where
  range : (min_lines ≤ start.size) × (start.size ≤ max_lines)
  range = sized start.size left graph stands

  attached_stands : (before : Memory) → IsAttached again before → StandsFor before.size (shown before) graph
  attached_stands before at =
      subst (λ n. StandsFor n (shown before) graph) (sym (at.size ∙ is.size))
      (stands-within start.size left (shown before) graph range.0 range.1 stands
      (λ l w below.
      let size = is.size in
      let here : l < again.size = omega (arith, below, size) in
      one_read again.trace is.telling l w (left l w) (shown before l w) (is.read l w here) (at.shows l w here)))

  pub not_bad_so : (line : ℕ) (reason : BadReason) (set now : Linked) (after : Told)
      → IsUnopened again after set now (unopened.BadImage line reason) → ⊥
  not_bad_so line reason set now after (inl (unattached, same)) =
      let size = is.size in
      let cause : IsAttachFault again (unopened.BadImage line reason) = unattached.cause in
      ⊎_elim
      (λ (few : again.size < min_lines). let r = range.0 in omega (arith, few, size, r))
      (λ (many : max_lines < again.size). let r = range.1 in omega (arith, many, size, r))
      cause.2
  not_bad_so line reason set now after (inr (inl (unrecovered, same))) =
      let before = unrecovered.before in
      let cause : IsRecoveryFault before unrecovered.memory (unopened.BadImage line reason) = unrecovered.cause in
      not_both (meaning before.size (shown before)) graph (line, reason)
      (attached_stands before unrecovered.left.attached) cause.0
  not_bad_so line reason set now after (inr (inr unprepared)) =
      let cause : IsUnfit set now unprepared.directory (unopened.BadImage line reason) = unprepared.cause in
      absurd cause

-- the status of a bad image is that of no other cause
bad_alone : (line : ℕ) (reason : BadReason) (why : Unopened) → status.BadImage line reason ≡ status_of_unopened why
    → why ≡ unopened.BadImage line reason
bad_alone line reason (unopened.BadImage other why) is = cc
bad_alone line reason (unopened.ShapeChanged name) is = absurd (cc)
bad_alone line reason (unopened.Full full) is = absurd (cc)
bad_alone line reason unopened.ImageFailed is = absurd (cc)
bad_alone line reason unopened.OutOfMemory is = absurd (cc)

pub not_bad : (set other : Linked) (start : Told) (opening : Graph) (all acts : List Recorded) (before : Words) (stood : Graph)
    (left : Outcome) → StandsFor start.size before stood → StandsRightly set start opening all acts before left
    → (again after : Told) → IsLeftBy start left again → (line : ℕ) (reason : BadReason)
    → CannotOpen other again after (status.BadImage line reason) → ⊥
not_bad set other start opening all acts before stood left stands rightly again after is line reason cannot =
    let some = stands_rightly set start opening all acts before stood left stands rightly in
    not_bad_so start left again is some.0 some.1 line reason other cannot.numbered after
    (subst (λ (why : Unopened). IsUnopened again after other cannot.numbered why) (bad_alone line reason cannot.why cannot.is)
    cannot.unopened)

-- ---- what was opened for the set

status_left : (why : Unopened) → IsNoRefusal why
    → (status_of_unopened why ≡ status.ImageFault) ⊎ (status_of_unopened why ≡ status.OutOfMemory)
status_left (unopened.BadImage line reason) left = absurd left
status_left (unopened.ShapeChanged name) left = absurd left
status_left (unopened.Full full) left = absurd left
status_left unopened.ImageFailed left = inl refl
status_left unopened.OutOfMemory left = inr refl

module _ (law : OpenedImagesOpenAgain) (set : Linked) (start : Told) (opening : Graph) (all acts : List Recorded) (left : Outcome)
    (stands : StandsAllowed set start opening all acts left) (again : Told) (is : IsLeftBy start left again) where
  holds : HoldsGraph again start.size (entries_in stands.of.directory) stands.allowed.graph
  holds = record {
    size_is = is.size;
    telling = is.telling;
    words = left;
    read = is.read;
    has = inr stands.opens;
    stands = stands.allowed.stands;
  }

  pub unrefused_behind : (after : Told) (how : Status) → CannotOpen set again after how
      → (how ≡ status.ImageFault) ⊎ (how ≡ status.OutOfMemory)
  unrefused_behind after how cannot =
      let of = stands.of in
      let unrefused : IsNoRefusal cannot.why =
      law.unrefused start set of.numbered of.memory of.directory of.lines stands.graph of.free of.opened again after
      stands.allowed.graph holds cannot.numbered cannot.why cannot.unopened in
      subst (λ (s : Status). (s ≡ status.ImageFault) ⊎ (s ≡ status.OutOfMemory)) (sym cannot.is) (status_left cannot.why unrefused)

  pub goes_on : (graph : Graph) → IsOpenedSo set again graph → graph ≡ stands.allowed.graph
  goes_on graph of_again =
      let of = stands.of in
      (law.as_left start set of.numbered of.memory of.directory of.lines stands.graph of.free of.opened again stands.allowed.graph holds
      of_again.numbered of_again.memory of_again.directory of_again.lines graph of_again.free of_again.opened).1

-- ---- what wasn't

-- it isn't refused, but for what it had before the run
abbrev EndsOpening : Linked → (before : Words) → Status → Type 0
EndsOpening set before s = (s ≡ status.ImageFault) ⊎ (s ≡ status.OutOfMemory) ⊎ IsRefusedStill set before s

module _ (law : OpenedImagesOpenAgain) (set : Linked) (start : Told) (before : Words) (left : Outcome) (again : Told)
    (is : IsLeftBy start left again) where
  early_holds : (directory : Directory) (graph : Graph) → StandsFor start.size left graph → HasDirectory start.size left directory
      → HoldsGraph again start.size directory graph
  early_holds directory graph stands has = record {
    size_is = is.size;
    telling = is.telling;
    words = left;
    read = is.read;
    has = has;
    stands = stands;
  }

  -- no shape of an entry that was appended is another
  none_appended : (graph : Graph) (new : StandsWithNew set start.size before graph left) (name : List ℕ)
      → IsOtherShape (facts_of set) (with_all new.found (take new.first.count (lacking new.found new.entries))).shapes name → ⊥
  none_appended graph new name other =
      let added = lacking new.found new.entries in
      let shapes = (with_all new.found (take new.first.count added)).shapes in
      let at = other.at in
      let there = other.first.there in
      let more = shapes_first new.found added new.first.count in
      let long : length (with_all new.found added).shapes ≡ length shapes + length more.0 =
      ap (λ (ss : List Shape). length ss) more.1 ∙ length-append shapes more.0 in
      let same : slice_index_or (with_all new.found added).shapes at no_shape ≡ slice_index_or shapes at no_shape =
      ap (λ (ss : List Shape). slice_index_or ss at no_shape) more.1 ∙ get_or_append_left shapes more.0 no_shape at there in
      other.first.other (subst (λ (s : Shape). Agrees (facts_of set) s) same (new.agree at (omega (arith, there, long))))

  module _ (as_before : StandsAsBefore set start.size before left) (stood : Graph) (stands : StandsFor start.size before stood)
      (now : Linked) (after : Told) where
    changed : (name : List ℕ) → IsUnopened again after set now (unopened.ShapeChanged name) → HadOtherShape set before name
    changed name cannot = ⊎_elim
        (λ (still : StandsStill start.size before stood left). record {
          found = still.found;
          found_is = still.found_is;
          other = law.refused set again after start.size still.found stood
              (early_holds still.found stood still.stands still.has) now name cannot;
        })
        (λ (new : StandsWithNew set start.size before stood left).
        let first = take new.first.count (lacking new.found new.entries) in
        absurd (none_appended stood new name
        (law.refused set again after start.size (with_all new.found first) (with_all_too stood first)
        (early_holds (with_all new.found first) (with_all_too stood first) new.first.stands new.first.has) now name cannot)))
        (as_before stood stands)

    lacked : (full : Full) → IsUnopened again after set now (unopened.Full full) → LackedRoom set before full.which
    lacked full cannot = ⊎_elim
        (λ (still : StandsStill start.size before stood left). record {
          found = still.found;
          found_is = still.found_is;
          lacks = law.full set again after start.size still.found stood
              (early_holds still.found stood still.stands still.has) now full cannot;
        })
        (λ (new : StandsWithNew set start.size before stood left).
        let first = take new.first.count (lacking new.found new.entries) in
        record {
          found = new.found;
          found_is = new.found_is;
          lacks = first_lacks set new.found new.entries new.are_its new.first.count full.which
              (law.full set again after start.size (with_all new.found first) (with_all_too stood first)
              (early_holds (with_all new.found first) (with_all_too stood first) new.first.stands new.first.has) now full cannot);
        })
        (as_before stood stands)

    early : (why : Unopened) → IsUnopened again after set now why → EndsOpening set before (status_of_unopened why)
    early (unopened.BadImage line reason) cannot =
        let some = stands_before set start.size before stood left stands as_before in
        absurd (not_bad_so start left again is some.0 some.1 line reason set now after cannot)
    early (unopened.ShapeChanged name) cannot = inr (inr (changed name cannot))
    early (unopened.Full full) cannot = inr (inr (lacked full cannot))
    early unopened.ImageFailed cannot = inl refl
    early unopened.OutOfMemory cannot = inr (inl refl)

-- whichever it is
pub unrefused : (law : OpenedImagesOpenAgain) (set : Linked) (start : Told) (opening : Graph) (all acts : List Recorded) (before : Words)
    (stood : Graph) (left : Outcome) → StandsFor start.size before stood → StandsRightly set start opening all acts before left
    → (again after : Told) → IsLeftBy start left again → (how : Status) → CannotOpen set again after how
    → (how ≡ status.ImageFault) ⊎ (how ≡ status.OutOfMemory) ⊎ ((acts ≡ []) × IsRefusedStill set before how)
unrefused law set start opening all acts before stood left stands (inl allowed) again after is how cannot = ⊎_elim
    (λ fault. inl fault)
    (λ memory. inr (inl memory))
    (unrefused_behind law set start opening all acts left allowed again is after how cannot)
unrefused law set start opening all acts before stood left stands (inr (none, as_before)) again after is how cannot =
    let ends : EndsOpening set before how =
    subst (EndsOpening set before) (sym cannot.is)
    (early law set start before left again is as_before stood stands cannot.numbered after cannot.why cannot.unopened) in
    ⊎_elim
    (λ fault. inl fault)
    (λ rest. inr (⊎_elim (λ memory. inl memory) (λ refused. inr (none, refused)) rest))
    ends

-- ---- what refuses an image

fault_not : (set : Linked) (f : RunFault) → stage_of (fault_status set f) ≡ OfOpening → ⊥
fault_not set (fault.BadCode at) is = cc
fault_not set (fault.RegionRace thread other place) is = cc
fault_not set (fault.Full full) is = cc
fault_not set fault.SinkFault is = cc
fault_not set fault.ImageFault is = cc
fault_not set (fault.Stuck waits) is = cc
fault_not set (fault.LinkFault kind class index) is = cc

ending_not : (set : Linked) (ending : Ending) → stage_of (status_of_ending set ending) ≡ OfOpening → ⊥
ending_not set (Fault f) is = fault_not set f is
ending_not set (Uncaught t class) is = cc
ending_not set Finished is = cc

-- a status of another stage isn't one of the opening
other_stage : (s t : Status) → s ≡ t → stage_of s ≡ OfOpening → stage_of t ≡ OfOpening
other_stage s t same is = subst (λ (x : Status). stage_of x ≡ OfOpening) same is

module _ (set : Linked) (name : List ℕ) (limits : Limits) (start : Told) (takes : ℕ → ℕ → Option ℕ) (opening : Graph) (acts : List Recorded) (after : Told)
    (how : Status) (is : stage_of how ≡ OfOpening) where
  begins_not : CannotBegin set name limits start after how → ⊥
  begins_not c = elim c.cause [
    | inl lacks ↦ let other : OfRoom ≡ OfOpening = other_stage how (status.Full lacks.full) lacks.is is in cc
    | inr rest ↦ elim rest [
      | inl none ↦ let other : OfNames ≡ OfOpening = other_stage how _ none.is is in cc
      | inr memory ↦ let other : OfMemory ≡ OfOpening = other_stage how status.OutOfMemory memory is in cc
    ]
  ]

  ended_not : HasEndedSo set name limits start takes opening acts how → ⊥
  ended_not ran =
      ending_not ran.of.numbered ran.ends.ending (other_stage how (status_of_ending ran.of.numbered ran.ends.ending) ran.ends.is is)

  pub refused : SetEnds set name limits start takes opening acts after how → CannotOpen set start after how
  refused (inl (none, inl cannot)) = cannot
  refused (inl (none, inr (inl begins))) = absurd (begins_not begins)
  refused (inl (none, inr (inr (inl appends)))) =
      absurd (let other : OfImage ≡ OfOpening = other_stage how status.ImageFault appends.is is in cc)
  refused (inl (none, inr (inr (inr lacks)))) =
      absurd (let other : OfMemory ≡ OfOpening = other_stage how status.OutOfMemory lacks.is is in cc)
  refused (inr ran) = absurd (ended_not ran)

-- where a shape was refused nothing was appended: the image has the directory that it had
of_shape : (name : List ℕ) (why : Unopened) → status.ShapeChanged name ≡ status_of_unopened why → IsOfSet why
of_shape name (unopened.BadImage line reason) is = absurd (cc)
of_shape name (unopened.ShapeChanged other) is = tt
of_shape name (unopened.Full full) is = tt
of_shape name unopened.ImageFailed is = absurd (cc)
of_shape name unopened.OutOfMemory is = absurd (cc)

pub shape_keeps : (set : Linked) (start after : Told) (name : List ℕ) → CannotOpen set start after (status.ShapeChanged name)
    → IsTelling start.trace → HasItsDirectory start after
shape_keeps set start after name cannot telling = cannot.unappended (of_shape name cannot.why cannot.is) telling
