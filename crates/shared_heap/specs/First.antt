-- A shared heap with which a run begins.
use Rattle.std.specs.Prelude.{ℕ, zero, suc, List, [], ◌∷◌, ◌++◌, replicate}
use Rattle.shared_objects.specs.declared.rest.Rest.{Rest}
use Rattle.two_spaces.specs.Seen.{Spaces}
use Rattle.first_spaces.specs.Laws.{first_queues}
use Rattle.region_log.specs.Log.{Log}
use Rattle.store_barrier.specs.Passed.{Nothing}
use Rattle.store_barrier.specs.Passed.{empty_log}
use Rattle.shared_heap.specs.Notes.{no_notes}
use Rattle.shared_heap.specs.Shared.{Shared}

-- the empty logs of the first n threads
abbrev pub logs_to : ℕ → List Log
logs_to zero = []
logs_to (suc n) = logs_to n ++ empty_log n ∷ []

-- of all 64
abbrev pub empty_logs : List Log
empty_logs = logs_to 64

-- No act was made, nothing asked or claimed, nothing logged, and nothing noted. There is room for so many acts, and to name an
-- object for each line; the first line that is left is this one.
abbrev pub first_shared : Spaces → (free : ℕ) → Rest → (acts : ℕ) → Shared
first_shared spaces free rest acts =
    let lines = spaces.twin.memory.size in record {
      machine = record {
        acts = [];
        spaces = spaces;
        queue = first_queues lines;
        free = free;
        rest = rest;
        doing = replicate 64 Nothing;
        logs = empty_logs;
      };
      history = record { acts = []; named = []; limit = acts; room = lines };
      lines = lines;
      notes = no_notes;
    }
