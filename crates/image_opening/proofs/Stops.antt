-- What stops leave of an image, from its attaching on.
use Rattle.std.proofs.Common.{◌≡◌, ℕ, ◌≤◌, inr, List, Option, Some, None, sym, ◌∙◌, subst}
use Rattle.std.proofs.lemmas.Bool.{and_parts, leb-true}
use Rattle.std.specs.Prelude.{true, nat_le}
use Rattle.graph_model.specs.declared.types.Graph.{Graph}
use Rattle.line_image.specs.Told.{Told}
use Rattle.line_image.specs.Trace.{Trace, Outcome, IsAllFenced, LeavesNow}
use Rattle.line_memory.specs.Memory.{Memory, ReadsWord, IsTelling, shown}
use Rattle.line_memory.specs.Moments.{Goes}
use Rattle.line_memory.proofs.Chain.{goes_on}
use Rattle.image_layout.specs.Places.{has_size, max_lines, min_lines}
use Rattle.image_meaning.specs.Checks.{Words}
use Rattle.image_meaning.specs.Meaning.{StandsFor}
use Rattle.image_meaning.proofs.Standing.{standing-sized}
use Rattle.image_meaning.proofs.Standings.{stands-within}
use Rattle.word_changes.specs.Changes.{StopsLeave}
use Rattle.image_opening.specs.declared.not_opened.NotOpened.{NotOpened}
use Rattle.image_opening.specs.Attached.{AreRead, IsAttached, IsSettled}
use Rattle.directories.specs.Kept.{Kept}
use Rattle.image_recovery.specs.Recoveries.{StopsKeepTheGraph}
use Rattle.image_opening.specs.Opened.{IsOpenImage}
use Rattle.image_opening.specs.Stops.{IsGivenBack, KeepsItsGraph, StopsStandFor}
use Rattle.image_opening.specs.Unopened.{IsUnattached}
use Rattle.image_opening.proofs.Fenced.{attached_durable, attached_written}

-- what a stop leaves of an image with nothing unfenced is what reads give
fenced_as_read : (o : Option Trace) → IsTelling o → IsAllFenced o → (c : Outcome) → LeavesNow o c
    → (l w v : ℕ) → ReadsWord o l w v → c l w ≡ v
fenced_as_read None telling settled c left l w v reads = absurd telling
fenced_as_read (Some h) telling settled c left l w v reads = settled l w (c l w) (left l w) ∙ sym reads

-- reads of an image that tells give one value
one_read : (o : Option Trace) → IsTelling o → (l w u v : ℕ) → ReadsWord o l w u → ReadsWord o l w v → v ≡ u
one_read None telling l w u v a b = absurd telling
one_read (Some h) telling l w u v a b = b ∙ sym a

-- ---- lines enough

both : (size : ℕ) → has_size size ≡ true → (min_lines ≤ size) × (size ≤ max_lines)
both size is =
    let parts = and_parts (nat_le min_lines size) (nat_le size max_lines) is in
    (leb-true min_lines size parts.0, leb-true size max_lines parts.1)

module _ (start : Told) (settled : IsSettled start) (words : Words) (graph : Graph) (read : AreRead start words)
    (stands : StandsFor start.size words graph) where
  range : (min_lines ≤ start.size) × (start.size ≤ max_lines)
  range = both start.size (standing-sized start.size words graph stands)

  -- what a stop at the start leaves
  pub still : (c : Outcome) → LeavesNow start.trace c → StandsFor start.size c graph
  still c left =
      stands-within start.size words c graph range.0 range.1 stands
      (λ l w below. fenced_as_read start.trace settled.0 settled.1 c left l w (words l w) (read l w below))

  pub untouched : (after : Told) → after.trace ≡ start.trace → Goes start after (LeavesNow start.trace)
      → StopsStandFor start after graph
  untouched after same moments = record {
    within = record {
      later = moments.later;
      before = moments.before;
      during = λ n gt le lt c left. still c (moments.during n gt le lt c left);
    };
    now = λ c left. still c (subst (λ (o : Option Trace). LeavesNow o c) same left);
  }

  module _ (before m : Memory) (at : IsAttached start before) where
    sized : (c : Outcome) → StandsFor before.size c graph → StandsFor start.size c graph
    sized c so = subst (λ (n : ℕ). StandsFor n c graph) at.size so

    -- what is shown stands for the same graph
    pub stood : StandsFor before.size (shown before) graph
    stood = subst (λ (n : ℕ). StandsFor n (shown before) graph) (sym at.size)
        (stands-within start.size words (shown before) graph range.0 range.1 stands
        (λ l w below. one_read start.trace settled.0 l w (words l w) (shown before l w) (read l w below)
        (at.shows l w below)))

    pub since_attached : StopsLeave before m (λ c. StandsFor before.size c graph) → StopsStandFor start m.image graph
    since_attached stops = record {
      within =
          goes_on start before.image m.image (LeavesNow start.trace) (λ c. StandsFor before.size c graph)
          (λ c. StandsFor start.size c graph) at.moments stops.within still sized;
      now = λ c left. sized c (stops.after c (λ l w. inr (left l w)));
    }

-- ---- whatever came of it

module _ (start after : Told) where
  pub kept_untouched : (why : NotOpened) → IsUnattached start after why → IsSettled start → KeepsItsGraph start after
  kept_untouched why is settled words graph read stands =
      untouched start settled words graph read stands after is.trace is.moments

  pub kept : (before m : Memory) → IsAttached start before → StopsKeepTheGraph before m → after ≡ m.image → IsSettled start
      → KeepsItsGraph start after
  kept before m at stops told settled words graph read stands =
      subst (λ (t : Told). StopsStandFor start t graph) (sym told)
      (since_attached start settled words graph read stands before m at
      (stops (at.telling settled.0) (attached_durable start before at) (attached_written start before at) graph
      (stood start settled words graph read stands before m at)))

-- ---- an image that is given back

pub given_back : (start after : Told) (before m : Memory) (version : ℕ) (directory : Kept) (graph : Graph) (lines : List ℕ)
    (free undone : ℕ) → IsOpenImage start before m version directory graph lines free undone
    → after.size ≡ m.size → after ≡ m.image → IsGivenBack start after graph
given_back start after before m version directory graph lines free undone is sized_as told =
    let at = is.attached in
    let stood_so : StandsFor start.size (shown before) graph =
    subst (λ (n : ℕ). StandsFor n (shown before) graph) at.size is.stands in
    record {
      size = sized_as ∙ is.goes_on.size ∙ at.size;
      words = shown before;
      read = at.shows;
      stood = stood_so;
      stops = λ settled. subst (λ (t : Told). StopsStandFor start t graph) (sym told)
          (since_attached start settled (shown before) graph at.shows stood_so before m at (is.stops settled.0));
    }
