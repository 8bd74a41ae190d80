-- What stops leave of an image that an audit gives back.
use Rattle.std.proofs.Common.{◌≡◌, inl, inr, ℕ, zero, suc, List, [], take, refl, sym, subst}
use Rattle.graph_model.specs.declared.types.Graph.{Graph}
use Rattle.line_image.specs.Told.{Told}
use Rattle.line_image.specs.Trace.{LeavesNow, Outcome}
use Rattle.line_memory.specs.Memory.{Memory, shown}
use Rattle.line_memory.proofs.Chain.{goes_nowhere}
use Rattle.image_meaning.specs.Appending.{with_all_too}
use Rattle.image_meaning.specs.Directories.{Directory}
use Rattle.image_meaning.specs.Entries.{DirectoryEntry}
use Rattle.image_meaning.specs.Meaning.{StandsFor}
use Rattle.word_changes.proofs.Changing.{stops_weaker}
use Rattle.image_opening.specs.Stops.{StopsStandFor}
use Rattle.image_opening.proofs.Stops.{since_attached, stood, untouched}
use Rattle.class_set.specs.Linked.{Linked}
use Rattle.set_opening.specs.declared.unopened.Unopened.{Unopened}
use Rattle.set_opening.specs.Opened.{StandsWithFirst}
use Rattle.set_opening.specs.Unopened.{IsLeft, IsUnbegun, IsUnopened}
use Rattle.set_opening.proofs.Recovered.{standing_spells}
use Rattle.audit_call.specs.Audits.{IsKept}

abbrev none : List DirectoryEntry
none = []

take_none : (k : ℕ) → take k none ≡ none
take_none zero = refl
take_none (suc k) = refl

without : (size : ℕ) (found : Directory) (graph : Graph) (c : Outcome) → StandsWithFirst size found graph none c → StandsFor size c graph
without size found graph c so =
    subst (λ (added : List DirectoryEntry). StandsFor size c (with_all_too graph added)) (take_none so.count) so.stands

module _ (start after : Told) where
  -- nothing was appended to it
  pub left_kept : (before m : Memory) → IsLeft start after before m none → IsKept start after
  left_kept before m left = record {
    size = left.size;
    stops = λ settled words graph read stands.
        let there = stood start settled words graph read stands before m left.attached in
        let spelled = standing_spells before.size (shown before) graph there in
        subst (λ (t : Told). StopsStandFor start t graph) (sym left.told)
        (since_attached start settled words graph read stands before m left.attached
        (stops_weaker before m (StandsWithFirst before.size spelled.0 graph none) (λ c. StandsFor before.size c graph)
        (left.stops settled.0 graph spelled.0 there spelled.1)
        (without before.size spelled.0 graph)));
  }

  -- it was found for a set
  pub unbegun_kept : (old set : Linked) → IsUnbegun start after old set → IsKept start after
  unbegun_kept old set is = left_kept is.left.before is.left.memory is.left.left

  -- it couldn't be opened for one
  pub unopened_kept : (old set : Linked) (why : Unopened) → IsUnopened start after old set why → IsKept start after
  unopened_kept old set why (inl (is, same)) = record {
    size = is.size;
    stops = λ settled words graph read stands. untouched start settled words graph read stands after is.trace is.moments;
  }
  unopened_kept old set why (inr (inl (is, same))) = left_kept is.before is.memory is.left
  unopened_kept old set why (inr (inr is)) = left_kept is.left.before is.left.memory is.left.left

-- nothing was done to it
pub same_kept : (start : Told) → IsKept start start
same_kept start = record {
  size = refl;
  stops = λ settled words graph read stands.
      untouched start settled words graph read stands start refl (goes_nowhere start (LeavesNow start.trace));
}
