-- A run whose events end by no fault stays within its limits.
use Rattle.std.specs.Prelude.{◌≡◌, ℕ, ◌+◌, ◌<◌, ◌≤◌, max, List, ◌∷◌, ◌++◌, length, None}
use Rattle.run_types.specs.declared.limits.Limits.{Limits}
use Rattle.graph_model.specs.declared.types.Graph.{Graph}
use Rattle.run_history.specs.Recorded.{Recorded}
use Rattle.run_history.specs.Worlds.{World}
use Rattle.run_history.specs.Knowing.{Knowledge, known_after}
use Rattle.plain_model.specs.Facts.{SetFacts}
use Rattle.plain_model.specs.First.{first_heap}
use Rattle.plain_model.specs.Limits.{most_threads, most_monitors, most_log_entries, words_taken, acts_left, guards_of}
use Rattle.plain_model.specs.Codes.{Code}
use Rattle.plain_model.specs.Runs.{IsPlainRun, known_of}
use Rattle.plain_model.specs.Ends.{fault_after}

-- Each act leaves one mark, so that a history has as many acts as marks.
abbrev pub EachActLeavesAMark : Type 0
EachActLeavesAMark = (known : Knowledge) (acts : List Recorded)
    → length (known_after known acts).marks ≡ length known.marks + length acts

-- Before each of these acts the history had room, and by what acts tell the act's thread ended the run by no fault.
abbrev pub HaveNoFault : (set : SetFacts) (main : ℕ) (opening : Graph) {Frames : Type 0} → Code set main opening Frames
    → Limits → ℕ → List Recorded → Type 0
HaveNoFault set main opening code limits lines acts =
    (front : List Recorded) (a : Recorded) (rest : List Recorded) → acts ≡ front ++ a ∷ rest
    → (0 < acts_left limits (known_of set main opening code front))
    × (fault_after set main opening code limits lines front a.act.thread ≡ None)

pub record IsWorldWithin (set : SetFacts) (opening : Graph) (limits : Limits) (world : World) : Type 0 where
  pub words : words_taken opening world.heap ≤ max limits.heap_words (words_taken opening (first_heap set opening))
  pub monitors : length world.monitors ≤ most_monitors
  pub threads : length world.threads ≤ most_threads

abbrev pub RunsStayWithin : Type 0 → Type 0
RunsStayWithin Frames = (set : SetFacts) (main : ℕ) (opening : Graph) (code : Code set main opening Frames)
    (limits : Limits) (lines : ℕ) (acts : List Recorded) → IsPlainRun set main opening code acts
    → HaveNoFault set main opening code limits lines acts
    → let known = known_of set main opening code acts in
    IsWorldWithin set opening limits known.world × (length known.marks ≤ limits.acts)
    × ((t : ℕ) → length (guards_of known.guards t) ≤ most_log_entries)
