-- Waits in a row, over what a plain run knows and what its threads ask.
use Rattle.std.specs.Prelude.{◌≡◌, ℕ, Bool, List, Option, Some, is_some, IsSome}
use Rattle.run_types.specs.declared.wait.On.{On}
use Rattle.run_types.specs.declared.limits.Limits.{Limits}
use Rattle.run_types.specs.declared.fault.RunFault.TheVariants as fault
use Rattle.graph_model.specs.declared.types.Graph.{Graph}
use Rattle.twin_forms.specs.Table.{Entry}
use Rattle.convert_words.specs.Scenes.{Scene, AgreesAt}
use Rattle.run_history.specs.Knowing.{Knowledge}
use Rattle.plain_model.specs.Facts.{SetFacts}
use Rattle.plain_model.specs.Limits.{most_threads}
use Rattle.plain_model.specs.Requests.{PlainRequest}
use Rattle.plain_model.specs.Ends.{waits_of, waits_from, fault_of_waiting}
use Rattle.plain_model.specs.Causes.{IsStuck}
use Rattle.convert_waits.specs.Rows.{Why, InRow}
use Rattle.convert_waits.specs.Stuck.{IsFull, IsPlain, IsRecord, IsStuckAt, recorded_of}

-- a thread lives that asks something
abbrev pub asks_some : (ℕ → Option PlainRequest) → ℕ → Bool
asks_some requests t = is_some (requests t)

abbrev pub PlainWaitsAreNoConversions : Type 0
PlainWaitsAreNoConversions =
    (set : SetFacts) (known : Knowledge) (requests : ℕ → Option PlainRequest) (t : ℕ) (on : On)
    → waits_of set known requests t ≡ Some on → IsPlain on

-- The plain run is stuck, with each thread's wait, and that is the fault of an event that waits.
pub record EndsStuck (set : SetFacts) (opening : Graph) (limits : Limits) (known : Knowledge)
    (requests : ℕ → Option PlainRequest) : Type 0 where
  pub stuck : IsStuck (waits_of set known requests) requests
      (fault.Stuck (waits_from (waits_of set known requests) 0 most_threads))
  pub fault_is : fault_of_waiting set opening limits known requests
      ≡ Some (fault.Stuck (waits_from (waits_of set known requests) 0 most_threads))

-- At the last event of a full row the plain run is stuck.
abbrev pub FullRowsEndRuns : Type 0
FullRowsEndRuns =
    (set : SetFacts) (opening : Graph) (limits : Limits) (known : Knowledge) (requests : ℕ → Option PlainRequest)
    (s : Scene) (es : List Entry) (waited : ℕ → Option Why) (t : ℕ) → InRow (waits_of set known requests) s es waited
    → IsFull (asks_some requests) es waited → IsSome (requests t) → EndsStuck set opening limits known requests

-- What the row's threads waited for is what the plain run tells of each that lives.
abbrev pub FullRowsTellWaits : Type 0
FullRowsTellWaits = (set : SetFacts) (known : Knowledge) (requests : ℕ → Option PlainRequest) (s : Scene)
    (es : List Entry) (waited : ℕ → Option Why) (t : ℕ) → InRow (waits_of set known requests) s es waited
    → IsFull (asks_some requests) es waited → IsSome (requests t)
    → recorded_of waited t ≡ waits_of set known requests t

-- The same of any record of waits that all hold.
abbrev pub StuckRunsEnd : Type 0
StuckRunsEnd =
    (set : SetFacts) (opening : Graph) (limits : Limits) (known : Knowledge) (requests : ℕ → Option PlainRequest)
    (s : Scene) (es : List Entry) (recorded : ℕ → Option On) (t : ℕ) → AgreesAt s es
    → IsRecord (waits_of set known requests) (asks_some requests) es recorded
    → IsStuckAt (waits_of set known requests) (asks_some requests) s es recorded → IsSome (requests t)
    → EndsStuck set opening limits known requests

abbrev pub StuckRunsTellWaits : Type 0
StuckRunsTellWaits = (set : SetFacts) (known : Knowledge) (requests : ℕ → Option PlainRequest) (s : Scene)
    (es : List Entry) (recorded : ℕ → Option On) (t : ℕ) → AgreesAt s es
    → IsRecord (waits_of set known requests) (asks_some requests) es recorded
    → IsStuckAt (waits_of set known requests) (asks_some requests) s es recorded → IsSome (requests t)
    → recorded t ≡ waits_of set known requests t
