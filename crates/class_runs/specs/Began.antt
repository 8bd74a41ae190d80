-- The statuses of a run that doesn't begin, and of one by how it ended; and what a run leaves.
use Rattle.std.specs.Prelude.{◌≡◌, ◌≢◌, ◌≤◌, ℕ, List, [], Some, None, Option}
use Rattle.graph_model.specs.declared.types.Graph.{Graph}
use Rattle.line_image.specs.Told.{Told}
use Rattle.image_meaning.specs.Meaning.{empty_graph}
use Rattle.run_history.specs.Recorded.{Recorded}
use Rattle.run_types.specs.declared.limits.Limits.{Limits}
use Rattle.plain_model.specs.First.{first_heap}
use Rattle.plain_model.specs.Limits.{words_taken}
use Rattle.class_set.specs.Linked.{Linked}
use Rattle.class_set.specs.Facts.{facts_of}
use Rattle.durable_launch.specs.Passed.{Opening, memory_of}
use Rattle.durable_launch.specs.Passed.{Shared}
use Rattle.durable_launch.specs.Passed.{EachPrintsItsShare, EndsBy}
use Rattle.durable_launch.specs.Passed.{RunEnd}
use Rattle.durable_launch.specs.Passed.{Ended, Over}
use Rattle.durable_launch.specs.Passed.{NoLaunch}
use Rattle.durable_launch.specs.NoLaunches as no_launch
use Rattle.statuses.specs.Names.{fault_status, uncaught_in}
use Rattle.statuses.specs.declared.status.Status.{Status}
use Rattle.statuses.specs.declared.status.Status.TheVariants as status

-- The first objects of the set find room within the limits, whichever graph the image stands for.
abbrev pub FindsRoom : Linked → Limits → Type 0
FindsRoom set limits = (graph : Graph) → words_taken graph (first_heap (facts_of set) graph) ≤ limits.heap_words

abbrev pub status_of_unlaunched : NoLaunch → Status
status_of_unlaunched (no_launch.Full full) = status.Full full
status_of_unlaunched no_launch.OutOfMemory = status.OutOfMemory

-- the least thread that a throwable ended, and its class, or none
abbrev pub status_of_end : Linked → RunEnd → Status
status_of_end set (Ended None) = status.Ok
status_of_end set (Ended (Some thrown)) = uncaught_in set thrown.0 thrown.1
status_of_end set (Over fault) = fault_status set fault

-- The run of this opening ended so, and its acts, its image and its status are these. Each print took its share, by what the sink took
-- as it began.
pub record RanBy (o : Opening) (first : ℕ) (set : Linked) (graph : Graph) (takes : ℕ → ℕ → Option ℕ) (opening : Graph) (acts : List Recorded)
    (after : Told) (how : Status) : Type 0 where
  pub end : RunEnd
  pub shared : Shared
  pub ends : EndsBy o first end shared
  pub acts_are : acts ≡ shared.history.acts
  pub shares : EachPrintsItsShare o.launch takes [] acts
  pub image : after ≡ (memory_of shared.machine).image
  pub size : after.size ≡ (memory_of shared.machine).size
  pub is : how ≡ status_of_end set end
  pub none : acts ≡ [] → opening ≡ empty_graph
  pub some : acts ≢ [] → opening ≡ graph
