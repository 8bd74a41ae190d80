-- What an audit answers of a history, an output and a graph, which are those of a plain run of a class set from an opening graph.
use Rattle.std.specs.Prelude.{◌≡◌, ◌≢◌, ℕ, suc, ◌<◌, List, length, take}
use Rattle.graph_model.specs.declared.types.Graph.{Graph}
use Rattle.graph_model.specs.Canon.{canon_of}
use Rattle.run_history.specs.Recorded.{Recorded}
use Rattle.run_history.specs.Worlds.{heap_after}
use Rattle.run_history.specs.Knowing.{Knowledge, known_after}
use Rattle.plain_model.specs.Facts.{SetFacts}
use Rattle.plain_model.specs.First.{first_known}
use Rattle.plain_model.specs.Codes.{Code}
use Rattle.plain_model.specs.Runs.{IsAllowed, IsPlainRun, output_of}
use Rattle.audit_verdicts.specs.Picked.{kept_by}
use Rattle.audit_verdicts.specs.declared.verdict.Verdict.{Verdict}
use Rattle.audit_verdicts.specs.declared.verdict.Verdict.TheVariants.{Yes, Act, Output, Image}

-- the canonical graph of the heap after the kept list that the word picks: bit t keeps the store of thread t that isn't
-- fenced, or its closing region
abbrev pub graph_kept : Knowledge → List Recorded → ℕ → Graph
graph_kept first acts keep = canon_of (heap_after first.world.heap (kept_by keep (known_after first acts).marks))

module _ (set : SetFacts) (main : ℕ) (opening : Graph) {Frames : Type 0} (code : Code set main opening Frames) where
  abbrev pub IsVerdict : List Recorded → (keep : ℕ) → (output : List ℕ) → (after : Graph) → Verdict → Type 0
  IsVerdict acts keep output after Yes =
      IsPlainRun set main opening code acts × (output_of acts ≡ output) × (after ≡ graph_kept (first_known set opening) acts keep)
  IsVerdict acts keep output after (Act n) = (n < length acts)
      × IsPlainRun set main opening code (take n acts) × (IsPlainRun set main opening code (take (suc n) acts) → ⊥)
  IsVerdict acts keep output after Output = IsPlainRun set main opening code acts × (output_of acts ≢ output)
  IsVerdict acts keep output after Image =
      IsPlainRun set main opening code acts × (output_of acts ≡ output) × (after ≢ graph_kept (first_known set opening) acts keep)

-- At most one verdict is right.
abbrev pub VerdictsExcludeEachOther : Type 0 → Type 0
VerdictsExcludeEachOther Frames = (set : SetFacts) (main : ℕ) (opening : Graph) (code : Code set main opening Frames)
    (acts : List Recorded) (keep : ℕ) (output : List ℕ) (after : Graph) (v w : Verdict)
    → IsVerdict set main opening code acts keep output after v → IsVerdict set main opening code acts keep output after w → v ≡ w

-- It can't be that none is.
abbrev pub SomeVerdictIsRight : Type 0 → Type 0
SomeVerdictIsRight Frames = (set : SetFacts) (main : ℕ) (opening : Graph) (code : Code set main opening Frames)
    (acts : List Recorded) (keep : ℕ) (output : List ℕ) (after : Graph)
    → ((v : Verdict) → IsVerdict set main opening code acts keep output after v → ⊥) → ⊥

-- Where the verdict is Yes, a stop after these acts may leave the graph.
abbrev pub YesMeansAllowed : Type 0 → Type 0
YesMeansAllowed Frames = (set : SetFacts) (main : ℕ) (opening : Graph) (code : Code set main opening Frames)
    (acts : List Recorded) (keep : ℕ) (output : List ℕ) (after : Graph)
    → IsVerdict set main opening code acts keep output after Yes → IsAllowed set opening acts after
