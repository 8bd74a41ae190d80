use Rattle.plain_model.specs.Runs.{known_of, wants_of, request_after}
use Rattle.plain_model.proofs.Sticking.{stuck_does_nothing}
use Rattle.plain_model.proofs.run_laws.stuck_threads_do_nothing.Goals as goal

pub returns : goal.returns
returns g c set main opening code acts a f stuck may =
    stuck_does_nothing set (known_of set main opening code acts) (request_after set main opening code acts) f stuck
    (wants_of set main opening code acts) a may
