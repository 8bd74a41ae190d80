-- An image that suits a set isn't refused for it, and one that was opened for a set suits it.
use Rattle.std.proofs.Common.{◌≡◌, inl, inr, ⊎_elim, ℕ, ◌<◌, ◌≤◌, List, Option, Some, None, Err, refl, sym, ap, ◌∙◌, subst, arith}
use Rattle.std.specs.Prelude.{nat_le}
use Rattle.std.proofs.lemmas.Bool.{and_parts, leb-true}
use Rattle.graph_model.specs.declared.types.Graph.{Graph}
use Rattle.line_image.specs.Told.{Told}
use Rattle.line_image.specs.Trace.{Trace}
use Rattle.line_memory.specs.Memory.{IsTelling, Memory, ReadsWord, shown}
use Rattle.image_meaning.specs.Appending.{with_all_too}
use Rattle.image_meaning.specs.Checks.{Bad, Words}
use Rattle.image_meaning.specs.Directories.{Directory}
use Rattle.image_meaning.specs.Meaning.{StandsFor, meaning}
use Rattle.image_meaning.proofs.Standing.{standing-sized}
use Rattle.image_meaning.proofs.Standings.{stands-within}
use Rattle.directories.specs.Planning.{lacking}
use Rattle.image_recovery.specs.Recovered.{entries_in}
use Rattle.class_set.specs.Linked.{Linked}
use Rattle.set_opening.specs.Arrays.{with_arrays_of}
use Rattle.set_opening.specs.Attached.{IsAttached}
use Rattle.set_opening.specs.Fitted.{IsUnfit}
use Rattle.set_opening.specs.Unopened.{IsAttachFault, IsRecoveryFault, IsUnbegun, IsUnopened}
use Rattle.set_opening.specs.declared.unopened.Unopened.{Unopened}
use Rattle.set_opening.specs.declared.unopened.Unopened.TheVariants as unopened
use Rattle.set_opening.proofs.Again.{refused_so, same_directory}
use Rattle.set_opening.proofs.Recovered.{standing_has}
use Rattle.set_opening.proofs.Room.{full_so, ready_had_room}
use Rattle.statuses.specs.declared.status.Status.{Status}
use Rattle.audit_call.specs.Audits.{CannotOpen, status_of_unopened}
use Rattle.audit_call.specs.Laws.{IsFailure, IsGraphFor, OpenedImagesSuit, Suits}
use Rattle.audit_call.proofs.Found.{graph_grown}

-- reads of an image that tells give one word
one_read : (o : Option Trace) → IsTelling o → (l w u v : ℕ) → ReadsWord o l w u → ReadsWord o l w v → v ≡ u
one_read None telling l w u v a b = absurd telling
one_read (Some h) telling l w u v a b = b ∙ sym a

one_graph : (size : ℕ) (words : Words) (a b : Graph) → StandsFor size words a → StandsFor size words b → a ≡ b
one_graph size words a b stands too = cc

never_bad : (size : ℕ) (words : Words) (graph : Graph) (bad : Bad) → StandsFor size words graph → meaning size words ≡ Err bad → ⊥
never_bad size words graph bad stands fails = cc

module _ (set : Linked) (image : Told) (suits : Suits set image) where
  range : (32768 ≤ image.size) × (image.size ≤ 4194304)
  range =
      let parts = and_parts (nat_le 32768 image.size) (nat_le image.size 4194304)
      (standing-sized image.size suits.holds.words suits.graph suits.holds.stands) in
      (leb-true 32768 image.size parts.0, leb-true image.size 4194304 parts.1)

  -- what was attached stands for the graph
  attached_stands : (before : Memory) → IsAttached image before → StandsFor before.size (shown before) suits.graph
  attached_stands before at =
      let holds = suits.holds in
      subst (λ (n : ℕ). StandsFor n (shown before) suits.graph) (sym at.size)
      (stands-within image.size holds.words (shown before) suits.graph range.0 range.1 holds.stands
      (λ l w below.
      one_read image.trace holds.telling l w (holds.words l w) (shown before l w) (holds.read l w below) (at.shows l w below)))

  -- its directory is what is found
  directory_so : (after : Told) (now : Linked) (begun : IsUnbegun image after set now) → entries_in begun.found ≡ suits.directory
  directory_so after now begun =
      let found = begun.left.found in
      same_directory image.size suits.directory image suits.graph suits.holds begun.left.before found.attached (entries_in begun.found) found.found_is

  -- the set gets the numbers for which it asks
  pub numbered_so : (after : Told) (now : Linked) → IsUnbegun image after set now → now ≡ with_arrays_of set suits.directory.shapes
  numbered_so after now begun =
      begun.fitted.set_is ∙ ap (λ (d : Directory). with_arrays_of set d.shapes) (directory_so after now begun)

  -- and it is opened with its graph for the set
  pub graph_so : (after : Told) (now : Linked) (begun : IsUnbegun image after set now) → IsGraphFor set image suits begun.graph
  graph_so after now begun =
      let before = begun.left.before in
      let found = begun.left.found in
      let entries = begun.fitted.planned.entries in
      let same = one_graph before.size (shown before) begun.stood suits.graph found.stands (attached_stands before found.attached) in
      record {
        numbered = now;
        numbered_is = numbered_so after now begun;
        entries = entries;
        are_its = begun.fitted.planned.are_its;
        graph_is =
            graph_grown image set now before begun.left.memory begun.found begun.directory begun.stood begun.graph begun.left.lines
            begun.left.free found begun.fitted
            ∙ ap (λ (d : Directory). with_all_too begun.stood (lacking d entries)) (directory_so after now begun)
            ∙ ap (λ (g : Graph). with_all_too g (lacking suits.directory entries)) same;
      }

  refused : (why : Unopened) (now : Linked) (after : Told) → IsUnopened image after set now why → IsFailure (status_of_unopened why)
  refused (unopened.BadImage line reason) now after (inl (unattached, same)) =
      let cause : IsAttachFault image (unopened.BadImage line reason) = unattached.cause in
      let r = range in
      ⊎_elim
      (λ (few : image.size < 32768). let low = r.0 in omega (arith, few, low))
      (λ (many : 4194304 < image.size). let high = r.1 in omega (arith, many, high))
      cause.2
  refused (unopened.BadImage line reason) now after (inr (inl (unrecovered, same))) =
      let before = unrecovered.before in
      let cause : IsRecoveryFault before unrecovered.memory (unopened.BadImage line reason) = unrecovered.cause in
      never_bad before.size (shown before) suits.graph (line, reason) (attached_stands before unrecovered.left.attached) cause.0
  refused (unopened.BadImage line reason) now after (inr (inr unprepared)) =
      let cause : IsUnfit set now unprepared.directory (unopened.BadImage line reason) = unprepared.cause in
      cause
  refused (unopened.ShapeChanged name) now after cannot =
      let other = refused_so image.size suits.directory image suits.graph suits.holds set after now name cannot in
      other.first.other (suits.agree other.at other.first.there)
  refused (unopened.Full full) now after cannot =
      suits.room full.which (full_so image.size suits.directory image suits.graph suits.holds set after now full cannot)
  refused unopened.ImageFailed now after cannot = tt
  refused unopened.OutOfMemory now after cannot = tt

  pub only_fails : (after : Told) (how : Status) (takes takes' : Option (List ℕ)) → CannotOpen set image after how takes takes' → IsFailure how
  only_fails after how takes takes' cannot =
      subst IsFailure (sym cannot.is) (refused cannot.why cannot.numbered after cannot.unopened)

-- one that was opened for a set suits it
pub opened_suits : OpenedImagesSuit
opened_suits set numbered image after begun tells =
    let left = begun.left in
    let found = left.found in
    let words = shown left.before in
    let stands : StandsFor image.size words begun.stood = subst (λ (n : ℕ). StandsFor n words begun.stood) found.attached.size found.stands in
    record {
      directory = entries_in begun.found;
      graph = begun.stood;
      holds = record {
        size_is = refl;
        telling = tells;
        words = words;
        read = found.attached.shows;
        has = standing_has image.size words begun.stood (entries_in begun.found) stands found.found_is;
        stands = stands;
      };
      agree = begun.fitted.agree;
      room = λ which lacks.
          ready_had_room image left.before left.memory begun.found begun.directory begun.stood begun.graph left.lines left.free found set numbered
          begun.fitted which lacks;
    }
