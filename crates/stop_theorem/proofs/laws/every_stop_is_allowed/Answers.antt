use Rattle.stop_theorem.proofs.Running.{allowed_stops, run_starts, keeps, every_stop}
use Rattle.stop_theorem.proofs.laws.every_stop_is_allowed.Goals as goal

pub returns-clause-start : goal.returns-clause-start
returns-clause-start c = run_starts

pub returns-clause-event : goal.returns-clause-event
returns-clause-event c first size directory begin start old new enough event runs =
    keeps first size directory begin start old new enough event runs

pub returns-clause-events : goal.returns-clause-events
returns-clause-events c = every_stop

pub returns-clause-running : goal.returns-clause-running
returns-clause-running c first size directory begin start s runs =
    allowed_stops first size directory begin start s runs

pub returns-clause-told : goal.returns-clause-told
returns-clause-told c first size directory begin start old new enough event runs tells =
    keeps first size directory begin start old new enough (event tells) (runs tells)
