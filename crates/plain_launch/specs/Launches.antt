-- The launch of a plain run in code.
use Rattle.std.specs.Prelude.{ℕ, List, length, map}
use Rattle.ap_base.specs.declared.reference.Ref.{Ref}
use Rattle.ap_base.specs.declared.reference.Ref.TheVariants.{Volatile}
use Rattle.run_types.specs.declared.limits.Limits.{Limits}
use Rattle.graph_model.specs.declared.types.Graph.{Graph}
use Rattle.plain_model.specs.Facts.{SetFacts}
use Rattle.plain_model.specs.First.{literal_number, numbers_to}
use Rattle.class_set.specs.Linked.{Linked}
use Rattle.class_set.specs.Facts.{facts_of}
use Rattle.program_host.specs.Literals.{literal_in}
use Rattle.program_launch.specs.declared.mains.Main.{Main}
use Rattle.program_launch.specs.Launches.{set_program}
use Rattle.run_forms.specs.Standing.{Launch}

-- the references of the objects of so many literals, each at its number
abbrev pub references_to : SetFacts → Graph → ℕ → List Ref
references_to set opening count = map (λ k. Volatile (literal_number set opening k)) (numbers_to count)

-- The run of this set with its decoded code, this main class and method, and this opening graph. Each
-- literal's reference is at the number of its object.
abbrev pub launch_of : Linked → Main → Graph → Limits → Launch
launch_of set main opening limits = record {
  set = facts_of set;
  program = set_program set;
  main = main.class;
  method = main.method;
  opening = opening;
  literal = literal_in (references_to (facts_of set) opening (length (facts_of set).literals));
  limits = limits;
}
