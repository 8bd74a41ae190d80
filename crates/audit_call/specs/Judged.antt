-- What comes of the records of a run between the graph from which it began and the one that it left: the main class, the history, and the
-- verdict. Want of memory may stand in place of any answer.
use Rattle.std.specs.Prelude.{◌≡◌, ◌⊎◌, ℕ, List, Option, Ok, Err}
use Rattle.graph_model.specs.declared.types.Graph.{Graph}
use Rattle.run_types.specs.declared.fault.LinkKind.{LinkKind}
use Rattle.run_types.specs.declared.fault.LinkKind.TheVariants.{MissingClass, MissingMethod}
use Rattle.run_history.specs.Recorded.{Recorded}
use Rattle.history_file.specs.Reading.{history_in}
use Rattle.plain_model.specs.Runs.{IsAllowed}
use Rattle.class_set.specs.Linked.{Linked}
use Rattle.class_set.specs.Facts.{facts_of}
use Rattle.audit_verdicts.specs.declared.verdict.Verdict.{Verdict}
use Rattle.audit_verdicts.specs.declared.verdict.Verdict.TheVariants.{Yes}
use Rattle.audit_runs.specs.Audits.{IsRight}
use Rattle.audit_runs.specs.Passed.{Class, Main, Method, NoMain, main_of}
use Rattle.statuses.specs.Names.{main_text, shortened}
use Rattle.statuses.specs.declared.status.Status.{Status}
use Rattle.statuses.specs.declared.status.Status.TheVariants as status
use Rattle.audit_call.specs.Printing.{IsPut}
use Rattle.audit_call.specs.declared.records.Records.{Records}

-- ---- the verdict

-- It is right of the history's acts, the output and the image's graph, by the runs of the set from this `main` and opening graph: that of a
-- Yes means that a stop after these acts may leave the graph. Its line was put.
pub record IsJudged (set : Linked) (main : Main) (opening after : Graph) (history output : List ℕ) (how : Status)
    (takes takes' : Option (List ℕ)) : Type 0 where
  pub acts : List Recorded
  pub keep : ℕ
  pub told : history_in history ≡ Ok (acts, keep)
  pub verdict : Verdict
  pub right : IsRight set main opening acts keep output after verdict
  pub allowed : verdict ≡ Yes → IsAllowed (facts_of set) opening acts after
  pub put : IsPut verdict how takes takes'

-- This word of the history is the first that has no continuation.
abbrev pub IsBadHistory : (history : List ℕ) → Status → Type 0
IsBadHistory history how = (word : ℕ) × (history_in history ≡ Err word) × (how ≡ status.BadHistory word)

-- There is no verdict, and nothing was put: the history is bad, or memory ran out.
pub record IsUnjudged (history : List ℕ) (how : Status) (takes takes' : Option (List ℕ)) : Type 0 where
  pub cause : IsBadHistory history how ⊎ (how ≡ status.OutOfMemory)
  pub quiet : takes' ≡ takes

-- ---- the main class

abbrev pub kind_of : NoMain → LinkKind
kind_of Class = MissingClass
kind_of Method = MissingMethod

-- the set has no class of this name, or it finds no static `main` from it on
pub record IsMissing (set : Linked) (name : List ℕ) (how : Status) : Type 0 where
  pub none : NoMain
  pub missing : main_of set name ≡ Err none
  pub is : how ≡ status.LinkFault (kind_of none) (shortened (main_text (kind_of none) name))

-- It is missing, or memory ran out. Nothing was put.
pub record LacksMain (set : Linked) (name : List ℕ) (how : Status) (takes takes' : Option (List ℕ)) : Type 0 where
  pub cause : IsMissing set name how ⊎ (how ≡ status.OutOfMemory)
  pub quiet : takes' ≡ takes

-- It is there.
pub record HasMain (set : Linked) (name : List ℕ) (opening after : Graph) (records : Records) (how : Status)
    (takes takes' : Option (List ℕ)) : Type 0 where
  pub main : Main
  pub found : main_of set name ≡ Ok main
  pub ends : IsUnjudged records.history how takes takes'
      ⊎ IsJudged set main opening after records.history records.output how takes takes'

-- What comes of the two graphs.
abbrev pub GraphsEnd : Linked → (name : List ℕ) → (opening after : Graph) → Records → Status → (takes takes' : Option (List ℕ)) → Type 0
GraphsEnd set name opening after records how takes takes' =
    LacksMain set name how takes takes' ⊎ HasMain set name opening after records how takes takes'
