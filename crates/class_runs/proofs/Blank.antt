-- A blank image suits each class set.
use Rattle.std.proofs.Common.{◌≡◌, ℕ, ◌<◌, List, [], refl, sym, ap, ◌∙◌, subst, arith}
use Rattle.graph_model.specs.declared.types.Shape.{Shape}
use Rattle.image_layout.specs.Places.{IsBlank}
use Rattle.image_meaning.specs.Checks.{Words}
use Rattle.image_meaning.specs.Directories.{Directory, no_entries}
use Rattle.image_meaning.specs.Entries.{DirectoryEntry}
use Rattle.image_meaning.specs.Meaning.{StandsFor, empty_graph}
use Rattle.image_meaning.proofs.Order.{blank-stands}
use Rattle.image_recovery.specs.Recovered.{entries_in}
use Rattle.line_image.specs.Told.{Told}
use Rattle.line_memory.specs.Memory.{IsTelling, shown}
use Rattle.run_types.specs.declared.fault.Full.{Full}
use Rattle.class_set.specs.Facts.{facts_of}
use Rattle.class_set.specs.Linked.{Linked}
use Rattle.class_set.specs.Sets.{made_of}
use Rattle.directories.specs.ClassSets.{LacksRoomFor}
use Rattle.directories.specs.Kept.{Kept}
use Rattle.directories.specs.declared.stepping.Progress.{Progress}
use Rattle.directories.specs.declared.stepping.Progress.TheVariants as stage
use Rattle.durable_launch.specs.Passed.{AreRead, IsDirectoryIn, with_arrays_of}
use Rattle.class_runs.specs.Complete.{Admits, LacksEntryRoom, nothing_kept}
use Rattle.class_runs.proofs.Complete.{admits_so}
use Rattle.class_runs.proofs.Reading.{one_read, sized}

the_kept : List Shape → List (List ℕ) → List DirectoryEntry → ℕ → Progress → Kept
the_kept shapes roots left used progress = record { shapes = shapes; roots = roots; left = left; used = used; progress = progress }

-- a directory that has no entry and plans none
nothing_found : (found : Kept) → entries_in found ≡ no_entries → found.left ≡ [] → found.used ≡ 0 → found.progress ≡ stage.Words 0
    → found ≡ nothing_kept
unfolding the_kept
nothing_found found none unplanned used begins =
    ap (λ (ss : List Shape). the_kept ss found.roots found.left found.used found.progress) (ap (λ (d : Directory). d.shapes) none)
    ∙ ap (λ (rs : List (List ℕ)). the_kept [] rs found.left found.used found.progress) (ap (λ (d : Directory). d.roots) none)
    ∙ ap (λ (entries : List DirectoryEntry). the_kept [] [] entries found.used found.progress) unplanned
    ∙ ap (λ (n : ℕ). the_kept [] [] [] n found.progress) used
    ∙ ap (λ (p : Progress). the_kept [] [] [] 0 p) begins

module _ (set : Linked) (image : Told) (telling : IsTelling image.trace) (words : Words) (read : AreRead image words)
    (blank : IsBlank (words 0) image.size) where
  stands : StandsFor image.size words empty_graph
  stands = blank-stands image.size words blank

  spells : IsDirectoryIn words no_entries
  spells = (λ zero. refl, λ used. absurd (used blank.1))

  pub blank_admits : Admits set image
  blank_admits = admits_so set image telling words read empty_graph stands no_entries spells (λ n below. absurd (omega (arith, below)))

  pub blank_room : (after : Told) (full : Full) → LacksEntryRoom set image after full
      → LacksRoomFor (facts_of set) (made_of set) nothing_kept full
  blank_room after full lacks =
      let left = lacks.left in
      let found = left.found in
      let lines = (sized image.size words empty_graph stands).0 in
      let zero : shown left.before 0 0 ≡ 0 =
      one_read image.trace telling 0 0 (words 0 0) (shown left.before 0 0) (read 0 0 (omega (arith, lines)))
      (found.attached.shows 0 0 (omega (arith, lines))) ∙ blank.1 in
      let is : lacks.found ≡ nothing_kept =
      nothing_found lacks.found (found.found_is.0 zero) found.unplanned (found.used ∙ (found.recovered.blank zero).used) found.begins in
      let same : lacks.numbered ≡ set = lacks.numbered_is ∙ ap (λ (kept : Kept). with_arrays_of set kept.shapes) is in
      subst (λ (kept : Kept). LacksRoomFor (facts_of set) (made_of set) kept full) is
      (subst (λ (now : Linked). LacksRoomFor (facts_of now) (made_of now) lacks.found full) same lacks.lacks)
