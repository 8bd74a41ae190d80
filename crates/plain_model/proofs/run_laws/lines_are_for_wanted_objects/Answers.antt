use Rattle.plain_model.specs.Runs.{known_of, wants_of}
use Rattle.plain_model.proofs.Limits.{lines_are_for_wanted}
use Rattle.plain_model.proofs.run_laws.lines_are_for_wanted_objects.Goals as goal

pub returns : goal.returns
returns g c set main opening code lines acts t f fills =
    lines_are_for_wanted opening lines (known_of set main opening code acts) (wants_of set main opening code acts) t f fills
