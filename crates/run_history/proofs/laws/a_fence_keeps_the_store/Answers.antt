-- A fence makes its thread's single stores sure.
use Rattle.run_history.proofs.StoreLaws.{fence_allows, fence_leaves_no_single}
use Rattle.run_history.proofs.laws.a_fence_keeps_the_store.Goals as goal

pub returns-clause-keeps : goal.returns-clause-keeps
returns-clause-keeps c = fence_allows

pub returns-clause-leaves_none : goal.returns-clause-leaves_none
returns-clause-leaves_none c = fence_leaves_no_single
