-- An image that is left as it was found has the directory that it had.
use Rattle.std.proofs.Common.{◌⊎◌, inr, ⊎_elim, ℕ, ◌+◌, ◌-◌, ◌^◌, ◌<◌, ◌≤◌, sym, ◌∙◌, subst, arith}
use Rattle.std.proofs.lemmas.Bool.{cases_lt}
use Rattle.graph_model.specs.declared.types.Graph.{Graph}
use Rattle.line_image.specs.Trace.{IsAllFenced, LeavesNow, LeftWithin, Outcome}
use Rattle.line_image.specs.Told.{Told}
use Rattle.line_memory.specs.Memory.{IsTelling, Memory, shown}
use Rattle.line_memory.specs.Moments.{Goes}
use Rattle.line_memory.proofs.Chain.{goes_on}
use Rattle.image_meaning.specs.Checks.{Words}
use Rattle.image_meaning.specs.Laws.{Opens}
use Rattle.image_meaning.specs.Meaning.{StandsFor}
use Rattle.image_meaning.proofs.Standings.{stands-within}
use Rattle.image_recovery.specs.Recovered.{entries_in}
use Rattle.image_recovery.proofs.Directories.{has_by_lines, opens_by_lines}
use Rattle.word_changes.specs.Changes.{StopsLeave}
use Rattle.directories.specs.Kept.{Kept}
use Rattle.durable_launch.specs.Passed.{HasDirectory, IsLeftAsFound}
use Rattle.durable_launch.proofs.Passed.{standing_has, stops_both}
use Rattle.class_runs.specs.Sets.{HasItsDirectory}
use Rattle.class_runs.proofs.SetStops.{as_shown}

module _ (start : Told) (telling : IsTelling start.trace) (after : Told) (directory : Kept) (graph : Graph)
    (is : IsLeftAsFound start after directory graph) where
  abbrev before : Memory
  before = is.before

  abbrev m : Memory
  m = is.memory

  abbrev Stands : Outcome → Type 0
  Stands c = StandsFor before.size c graph

  abbrev Has : Outcome → Type 0
  Has c = HasDirectory before.size c (entries_in directory)

  abbrev Same : Outcome → Type 0
  Same c = Stands c × Has c

  -- each stop since the fence leaves the graph and the directory
  stops : StopsLeave before m Same
  stops = stops_both before m Stands Has (is.found.stops telling) (is.found.directory_stays telling)

  still : IsAllFenced start.trace → (c : Outcome) → LeavesNow start.trace c → Same c
  still fenced c left =
      let attached = is.found.attached in
      let shows = as_shown start (telling, fenced) before attached c left in
      let stood = is.found.stands in (
        stands-within before.size (shown before) c graph attached.enough attached.most stood shows,
        has_by_lines before.size (shown before) c (entries_in directory) attached.enough
            (standing_has before.size (shown before) graph (entries_in directory) stood is.found.found_is) shows,
      )

  since : IsAllFenced start.trace → Goes start m.image Same
  since fenced =
      goes_on start before.image m.image (LeavesNow start.trace) Same Same is.found.attached.moments stops.within (still fenced)
      (λ c so. so)

  sized : (words : Words) → StandsFor before.size words graph → StandsFor start.size words graph
  sized words so = subst (λ (n : ℕ). StandsFor n words graph) is.found.attached.size so

  sized_both : (c : Outcome) → Same c → StandsFor start.size c graph × HasDirectory start.size c (entries_in directory)
  sized_both c so =
      subst (λ (n : ℕ). StandsFor n c graph × HasDirectory n c (entries_in directory)) is.found.attached.size so

  opened : (c : Outcome) → LeavesNow m.image.trace c → Opens start.size c (entries_in directory)
  opened c left =
      let attached = is.found.attached in
      let enough = attached.enough in
      let size = is.found.goes_on.size in
      subst (λ (n : ℕ). Opens n c (entries_in directory)) (is.found.goes_on.size ∙ attached.size)
      (opens_by_lines m.size (shown m) c (entries_in directory) (omega (arith, enough, size)) is.found.opens
      (λ l w below. is.found.durable l w below (c l w) (inr (left l w))))

  during : (n : ℕ) → 0 < n → start.calls + n ≤ m.image.calls → start.calls + n < 2 ^ 64 - 1
      → (n ≤ start.size + 1 → IsAllFenced start.trace) → (c : Outcome) → LeftWithin m.image.trace (start.calls + n) c → Same c
  during n some le lt fenced c left = ⊎_elim
      (λ (late : start.size + 1 < n).
      let counts = is.found.attached.counts in let calls = is.found.attached.calls in
      stops.within.during (start.calls + n) (omega (arith, late, counts, calls)) le lt c left)
      (λ (first : n ≤ start.size + 1). (since (fenced first)).during (start.calls + n) (omega (arith, some)) le lt c left)
      (cases_lt (start.size + 1) n)

  had : HasItsDirectory start m.image
  had = record {
    words = shown before;
    read = is.found.attached.shows;
    directory = entries_in directory;
    had = is.found.found_is;
    graph = graph;
    stood = sized (shown before) is.found.stands;
    within = λ n some le lt fenced c left. sized_both c (during n some le lt fenced c left);
    now = λ c left. sized c ((is.found.stops telling).after c (λ l w. inr (left l w)));
    opens = opened;
  }

  pub its_directory : HasItsDirectory start after
  its_directory = subst (λ (t : Told). HasItsDirectory start t) (sym is.left.told) had
