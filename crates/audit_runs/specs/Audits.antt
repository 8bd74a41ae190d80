-- What an audit of a class set speaks of: the plain runs of its code from the `main` that a class has.
use Rattle.std.specs.Prelude.{◌≡◌, ◌≢◌, ℕ, List, Some, Ok}
use Rattle.graph_model.specs.declared.types.Graph.{Graph}
use Rattle.run_history.specs.Recorded.{Recorded}
use Rattle.run_history.specs.Knowing.{Knowledge}
use Rattle.plain_model.specs.Codes.{Code}
use Rattle.plain_model.specs.Runs.{output_of}
use Rattle.plain_frames.specs.Codes.{code_of}
use Rattle.plain_frames.specs.Methods.{plain_natives}
use Rattle.run_forms.specs.Views.{PlainFrames}
use Rattle.class_set.specs.Linked.{Linked}
use Rattle.class_set.specs.Facts.{facts_of}
use Rattle.program_launch.specs.declared.mains.Main.{Main}
use Rattle.program_launch.specs.Launches.{set_program}
use Rattle.program_launch.specs.Mains.{main_from}
use Rattle.audit_verdicts.specs.declared.verdict.Verdict.{Verdict}
use Rattle.audit_verdicts.specs.declared.verdict.Verdict.TheVariants.{Yes, Act, Output, Image}
use Rattle.audit_verdicts.specs.Verdicts.{IsVerdict, graph_kept}
use Rattle.kept_lists.specs.declared.doubts.Doubts.{Doubts}
use Rattle.kept_lists.specs.Doubts.{StandsFor}
use Rattle.kept_lists.specs.Fitting.{AreOfStores, FitEach, ops_of}

-- the decoded code of the set, which begins with this `main`
abbrev pub code_from : (set : Linked) (main : Main) (opening : Graph)
    → Code (facts_of set) main.class opening PlainFrames
code_from set main opening =
    code_of (facts_of set) opening (set_program set) (plain_natives (facts_of set)) main.method main.class

-- this is what the look-up of a static `main([Ljava/lang/String;)V` from the class on finds
abbrev pub IsMainOf : Linked → ℕ → Main → Type 0
IsMainOf set class main = main_from set (Some class) ≡ Ok main

-- The verdict is right of these acts, bytes and graph, by the runs of the set from this `main` and opening graph.
abbrev pub IsRight : Linked → Main → (opening : Graph) → List Recorded → (keep : ℕ) → (output : List ℕ)
    → (after : Graph) → Verdict → Type 0
IsRight set main opening acts keep output after v =
    IsVerdict (facts_of set) main.class opening (code_from set main opening) acts keep output after v

-- ---- once the acts are a plain run

-- the doubts of these acts, each of which fitted the heap before it
pub record HasDoubts (first : Knowledge) (acts : List Recorded) (d : Doubts) : Type 0 where
  pub doubts : StandsFor first acts d
  pub stores : AreOfStores acts d.doubts.items
  pub fit : FitEach first.world.heap (ops_of acts)

-- the verdict is right of the bytes and the graph
abbrev pub IsLeft : Knowledge → List Recorded → (keep : ℕ) → (output : List ℕ) → (after : Graph) → Verdict → Type 0
IsLeft first acts keep output after Yes = (output_of acts ≡ output) × (after ≡ graph_kept first acts keep)
IsLeft first acts keep output after (Act n) = ⊥
IsLeft first acts keep output after Output = output_of acts ≢ output
IsLeft first acts keep output after Image = (output_of acts ≡ output) × (after ≢ graph_kept first acts keep)
