use Rattle.shared_steps.proofs.Lasting.{heap_kept, classes_kept, counts_kept, agrees_kept}
use Rattle.shared_steps.proofs.laws.a_step_leaves_what_agrees.Goals as goal

pub returns-clause-heap : goal.returns-clause-heap
returns-clause-heap c set t request before rest result now rest_now step heap =
    heap_kept set t request before rest now rest_now result step.fit step.is heap

pub returns-clause-classes : goal.returns-clause-classes
returns-clause-classes c set t request before rest result now rest_now step =
    classes_kept set t request before rest now rest_now result step.fit step.is

pub returns-clause-counts : goal.returns-clause-counts
returns-clause-counts c set t request before rest result now rest_now acts step most =
    counts_kept set t request before rest now rest_now result step.fit step.is acts most

pub returns-clause-agrees : goal.returns-clause-agrees
returns-clause-agrees c set t request before rest result now rest_now acts step agrees most few =
    agrees_kept set t request before rest now rest_now result step.fit step.is acts agrees most few
