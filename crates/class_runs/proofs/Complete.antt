-- A run of a class set over an image that suits it, where nothing outside fails.
use Rattle.std.proofs.Common.{◌≡◌, ◌⊎◌, inl, inr, ⊎_elim, ℕ, ◌<◌, List, [], Err, refl, sym, ◌∙◌, subst, Option}
use Rattle.graph_model.specs.declared.types.Graph.{Graph}
use Rattle.image_layout.specs.declared.superblock.BadReason.{BadReason}
use Rattle.image_meaning.specs.Checks.{Words}
use Rattle.image_meaning.specs.Directories.{Directory}
use Rattle.image_meaning.specs.Meaning.{StandsFor, meaning}
use Rattle.image_recovery.specs.Recovered.{entries_in}
use Rattle.image_recovery.proofs.Directories.{has_by_lines}
use Rattle.line_image.specs.Told.{Told}
use Rattle.line_memory.specs.Memory.{IsTelling, shown}
use Rattle.run_history.specs.Recorded.{Recorded}
use Rattle.run_types.specs.declared.fault.Full.{Full}
use Rattle.run_types.specs.declared.fault.RunFault.{RunFault}
use Rattle.run_types.specs.declared.fault.RunFault.TheVariants as fault
use Rattle.run_types.specs.declared.limits.Limits.{Limits}
use Rattle.plain_model.specs.Ends.{Ending, Fault, Finished, Uncaught}
use Rattle.class_set.specs.Facts.{facts_of}
use Rattle.class_set.specs.Linked.{Linked}
use Rattle.durable_launch.specs.Passed.{AllAgree, AreRead, HasDirectory, IsAttachFault, IsDirectoryIn, IsRecoveryFault, IsUnfit}
use Rattle.durable_launch.specs.Passed.{IsUnopened, Unopened}
use Rattle.durable_launch.proofs.Passed.{has_spells, one_directory, standing_has}
use Rattle.durable_launch.specs.Unopenings as unopened
use Rattle.statuses.specs.Names.{fault_status}
use Rattle.statuses.specs.declared.status.Status.{Status}
use Rattle.statuses.specs.declared.status.Status.TheVariants as status
use Rattle.class_runs.specs.Again.{IsLeftBy}
use Rattle.class_runs.specs.Complete.{Admits, EndsComplete, IsNumberedFor, IsOfPlainRun, LacksEntryRoom, MeetsLimit, StandsForSome}
use Rattle.class_runs.specs.Sets.{CannotBegin, HasEndedSo, LacksFirstWords, SetEnds, status_of_ending, status_of_unopened}
use Rattle.class_runs.proofs.Again.{not_bad_so}
use Rattle.class_runs.proofs.Reading.{not_both, one_read, sized, stands_alike}

-- ---- how a run ends that nothing outside ended

abbrev IsPlainOrFull : Status → Type 0
IsPlainOrFull how = IsOfPlainRun how ⊎ ((full : Full) × (how ≡ status.Full full))

plain_fault : (set : Linked) (f : RunFault) → (fault_status set f ≡ status.ImageFault → ⊥) → (fault_status set f ≡ status.SinkFault → ⊥)
    → IsPlainOrFull (fault_status set f)
plain_fault set (fault.BadCode at) image sink = inl tt
plain_fault set (fault.RegionRace thread other place) image sink = inl tt
plain_fault set (fault.Full full) image sink = inr (full, refl)
plain_fault set fault.SinkFault image sink = absurd (sink refl)
plain_fault set fault.ImageFault image sink = absurd (image refl)
plain_fault set (fault.Stuck waits) image sink = inl tt
plain_fault set (fault.LinkFault kind class index) image sink = inl tt

plain_ending : (set : Linked) (ending : Ending) → (status_of_ending set ending ≡ status.ImageFault → ⊥)
    → (status_of_ending set ending ≡ status.SinkFault → ⊥) → IsPlainOrFull (status_of_ending set ending)
plain_ending set (Fault f) image sink = plain_fault set f image sink
plain_ending set (Uncaught t class) image sink = inl tt
plain_ending set Finished image sink = inl tt

-- ---- an image that suits a set isn't refused for it

module _ (set : Linked) (start : Told) (admits : Admits set start) where
  as_it_stands : IsLeftBy start admits.some.words start
  as_it_stands = record { size = refl; telling = admits.some.telling; read = admits.some.read }

  not_bad : (line : ℕ) (reason : BadReason) (now : Linked) (after : Told)
      → IsUnopened start after set now (unopened.BadImage line reason) → ⊥
  not_bad line reason now after is =
      not_bad_so start admits.some.words start as_it_stands admits.some.graph admits.some.stands line reason set now after is

  not_changed : (name : List ℕ) (now : Linked) (after : Told) → IsUnopened start after set now (unopened.ShapeChanged name) → ⊥
  not_changed name now after (inl (unattached, same)) =
      let cause : IsAttachFault start (unopened.ShapeChanged name) = unattached.cause in absurd cause
  not_changed name now after (inr (inl (unrecovered, same))) =
      let cause : IsRecoveryFault unrecovered.before unrecovered.memory (unopened.ShapeChanged name) = unrecovered.cause in absurd cause
  not_changed name now after (inr (inr unprepared)) =
      let cause : IsUnfit set now unprepared.directory (unopened.ShapeChanged name) = unprepared.cause in
      let found = unprepared.left.found in
      let first = cause.0.first in
      first.other (admits.agree (shown unprepared.left.before) (entries_in unprepared.directory) found.attached.shows found.found_is
      cause.0.at first.there)

-- ---- one whose directory has too little room

room_lacks : (set : Linked) (start after : Told) (full : Full) (now : Linked) → IsUnopened start after set now (unopened.Full full)
    → LacksEntryRoom set start after full
room_lacks set start after full now (inl (unattached, same)) =
    let cause : IsAttachFault start (unopened.Full full) = unattached.cause in absurd cause
room_lacks set start after full now (inr (inl (unrecovered, same))) =
    let cause : IsRecoveryFault unrecovered.before unrecovered.memory (unopened.Full full) = unrecovered.cause in absurd cause
room_lacks set start after full now (inr (inr unprepared)) =
    let cause : IsUnfit set now unprepared.directory (unopened.Full full) = unprepared.cause in
    record {
      found = unprepared.directory;
      stood = unprepared.graph;
      left = unprepared.left;
      agree = cause.0;
      numbered = now;
      numbered_is = cause.2;
      lacks = cause.1;
    }

-- ---- directories

-- what reads give of an image that stands for a graph spells one directory
pub read_directory : (image : Told) → IsTelling image.trace → (words : Words) → AreRead image words → (graph : Graph)
    → StandsFor image.size words graph → (directory : Directory) → IsDirectoryIn words directory
    → (others : Words) → AreRead image others → (other : Directory) → IsDirectoryIn others other → directory ≡ other
read_directory image telling words read graph stands directory spells others other_read other other_spells =
    let has : HasDirectory image.size words directory = standing_has image.size words graph directory stands spells in
    let same : (l w : ℕ) → l < image.size → others l w ≡ words l w = λ l w there.
    one_read image.trace telling l w (words l w) (others l w) (read l w there) (other_read l w there) in
    one_directory others directory other
    (has_spells image.size others directory
    (has_by_lines image.size words others directory (sized image.size words graph stands).0 has same)) other_spells

-- and so tells whether it suits a set
pub admits_so : (set : Linked) (image : Told) → IsTelling image.trace → (words : Words) → AreRead image words → (graph : Graph)
    → StandsFor image.size words graph → (directory : Directory) → IsDirectoryIn words directory
    → AllAgree (facts_of set) directory.shapes → Admits set image
admits_so set image telling words read graph stands directory spells agree =
    record {
      some = record { telling = telling; words = words; read = read; graph = graph; stands = stands };
      agree = λ others other other_read other_spells n below.
          subst (λ (d : Directory). AllAgree (facts_of set) d.shapes)
          (read_directory image telling words read graph stands directory spells others other_read other other_spells) agree n below;
    }

-- what reads give of an image that stands for a graph fails no check
pub some_not_bad : (image : Told) → StandsForSome image → (line : ℕ) (reason : BadReason) (words : Words) → AreRead image words
    → meaning image.size words ≡ Err (line, reason) → ⊥
some_not_bad image some line reason words read fails =
    not_both (meaning image.size words) some.graph (line, reason)
    (stands_alike image.size some.words words some.graph some.stands (λ l w below.
    one_read image.trace some.telling l w (some.words l w) (words l w) (some.read l w below) (read l w below)))
    fails

-- ---- what the run comes to

module _ (set : Linked) (name : List ℕ) (limits : Limits) (start : Told) (takes : ℕ → ℕ → Option ℕ) (opening : Graph) (acts : List Recorded) (after : Told)
    (how : Status) (admits : Admits set start) (image : how ≡ status.ImageFault → ⊥) (sink : how ≡ status.SinkFault → ⊥) where
  abbrev Complete : Type 0
  Complete = EndsComplete set name limits start takes opening acts how ⊎ (how ≡ status.OutOfMemory)
      ⊎ ((full : Full) × (how ≡ status.Full full) × MeetsLimit set name limits start takes opening acts after full)

  cannot_open : acts ≡ [] → (why : Unopened) (now : Linked) → how ≡ status_of_unopened why → IsUnopened start after set now why → Complete
  cannot_open none (unopened.BadImage line reason) now is cannot = absurd (not_bad set start admits line reason now after cannot)
  cannot_open none (unopened.ShapeChanged shape) now is cannot = absurd (not_changed set start admits shape now after cannot)
  cannot_open none (unopened.Full full) now is cannot = inr (inr (full, is, inl (none, room_lacks set start after full now cannot)))
  cannot_open none unopened.ImageFailed now is cannot = absurd (image is)
  cannot_open none unopened.OutOfMemory now is cannot = inr (inl is)

  numbered_for : (begins : CannotBegin set name limits start after how) → IsNumberedFor set begins.numbered start
  numbered_for begins =
      let found = begins.left.left.found in
      record {
        words = shown begins.left.left.before;
        read = found.attached.shows;
        directory = entries_in begins.left.found;
        directory_is = found.found_is;
        is = begins.left.fitted.set_is;
      }

  unbegun : acts ≡ [] → CannotBegin set name limits start after how → Complete
  unbegun none begins = elim begins.cause [
    | inl lacks ↦ inr (inr (
      lacks.full,
      lacks.is,
      inr (inl (
        none,
        begins.numbered,
        numbered_for begins,
        subst (λ (s : Status). LacksFirstWords begins.numbered limits s) lacks.is lacks,
      )),
    ))
    | inr rest ↦ elim rest [
      | inl missing ↦ inl (inl (none, begins.numbered, numbered_for begins, missing))
      | inr memory ↦ inr (inl memory)
    ]
  ]

  ended : HasEndedSo set name limits start takes opening acts how → Complete
  ended ran =
      let is = ran.ends.is in
      let ending = ran.ends.ending in
      ⊎_elim
      (λ (plain : IsOfPlainRun (status_of_ending ran.of.numbered ending)). inl (inr (ran, subst IsOfPlainRun (sym is) plain)))
      (λ (met : (full : Full) × (status_of_ending ran.of.numbered ending ≡ status.Full full)). inr (inr (
        met.0,
        is ∙ met.1,
        inr (inr (subst (λ (s : Status). HasEndedSo set name limits start takes opening acts s) (is ∙ met.1) ran)),
      )))
      (plain_ending ran.of.numbered ending (λ e. image (is ∙ e)) (λ e. sink (is ∙ e)))

  pub ends_complete : SetEnds set name limits start takes opening acts after how → Complete
  ends_complete (inl (none, inl cannot)) = cannot_open none cannot.why cannot.numbered cannot.is cannot.unopened
  ends_complete (inl (none, inr (inl begins))) = unbegun none begins
  ends_complete (inl (none, inr (inr (inl appends)))) = absurd (image appends.is)
  ends_complete (inl (none, inr (inr (inr lacks)))) = inr (inl lacks.is)
  ends_complete (inr ran) = ended ran
