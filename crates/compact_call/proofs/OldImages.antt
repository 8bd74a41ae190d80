-- What comes of the old image.
use Rattle.std.proofs.Common.{◌≡◌, ⊎_elim, ℕ, refl, sym, subst}
use Rattle.ap_base.specs.Causes.{IsCauseOf}
use Rattle.graph_model.specs.declared.types.Graph.{Graph}
use Rattle.line_image.specs.Told.{Told}
use Rattle.image_opening.specs.declared.not_opened.NotOpened.{NotOpened}
use Rattle.image_opening.specs.declared.not_opened.NotOpened.TheVariants as opening
use Rattle.image_opening.specs.Attached.{IsSettled}
use Rattle.image_opening.specs.Stops.{KeepsItsGraph, IsGivenBack}
use Rattle.image_opening.specs.Unopened.{IsBadThere, IsUnopened}
use Rattle.dense_image.specs.Graphs.{CanBeStoodFor}
use Rattle.dense_image.specs.Laws.{StandingGraphsCanBeStoodFor}
use Rattle.image_compact.proofs.Outcomes.{passed_on}
use Rattle.compact_call.specs.declared.fault.CompactFault.{CompactFault}
use Rattle.compact_call.specs.declared.fault.CompactFault.TheVariants.{ImageFailed}
use Rattle.compact_call.specs.Faults.{IsOfOpening}
use Rattle.compact_call.specs.Outcomes.{StoodFor, IsOldFault}

pub stood_for : (start after : Told) (graph : Graph) → IsGivenBack start after graph → StoodFor start graph
stood_for start after graph given = record { words = given.words; read = given.read; stands = given.stood }

pub can_be_written : StandingGraphsCanBeStoodFor → (start after : Told) (graph : Graph) → IsGivenBack start after graph → CanBeStoodFor graph
can_be_written law start after graph given = law start.size given.words graph given.stood

pub old_fault : (start : Told) (fault : NotOpened) (why : CompactFault) → IsOfOpening fault why → IsBadThere start fault → IsOldFault start why
old_fault start (opening.BadImage line reason) why is bad = subst (λ (y : CompactFault). IsOldFault start y) (sym is) bad
old_fault start opening.ImageFailed why is bad = subst (λ (y : CompactFault). IsOldFault start y) (sym is) tt
old_fault start opening.OutOfMemory why is bad = subst (λ (y : CompactFault). IsOldFault start y) (sym is) tt

pub unopened_size : (start after : Told) (why : NotOpened) → IsUnopened start after why → after.size ≡ start.size
unopened_size start after why is = ⊎_elim (λ one. one.size) (λ other. other.size) is

failed_opening : (fault : NotOpened) (why : CompactFault) → IsOfOpening fault why → why ≡ ImageFailed → fault ≡ opening.ImageFailed
failed_opening (opening.BadImage line reason) why is failed = cc
failed_opening opening.ImageFailed why is failed = refl
failed_opening opening.OutOfMemory why is failed = cc

opening_failed : (fault : NotOpened) (why : CompactFault) → IsOfOpening fault why → fault ≡ opening.ImageFailed → why ≡ ImageFailed
opening_failed fault why is failed = subst (λ (f : NotOpened). IsOfOpening f why) failed is

-- only a failure is told as one
pub opening_cause : (fault : NotOpened) (why : CompactFault) (before now : ℕ) → IsOfOpening fault why
    → IsCauseOf opening.ImageFailed fault before now → IsCauseOf ImageFailed why before now
opening_cause fault why before now is cause =
    passed_on opening.ImageFailed fault ImageFailed why before now (opening_failed fault why is) (failed_opening fault why is) cause

-- the image that is given back is the one that was opened
pub still_kept : (start back kept : Told) → back ≡ kept → (IsSettled start → KeepsItsGraph start kept)
    → IsSettled start → KeepsItsGraph start back
still_kept start back kept told stops settled = subst (λ (t : Told). KeepsItsGraph start t) (sym told) (stops settled)
