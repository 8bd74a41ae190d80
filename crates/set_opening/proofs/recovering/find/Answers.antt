use Rattle.set_opening.proofs.Causes.{opening_cause}
use Rattle.set_opening.proofs.Recovered.{is_found, unfound}
use Rattle.set_opening.proofs.recovering.find.Goals as goal

pub returns-in-Ok-clause-found : goal.returns-in-Ok-clause-found
returns-in-Ok-clause-found g c =
    let r = c.in-Ok.recovered in
    let opened = c.in-Ok.ensures.opened in (
      opened.0,
      is_found (g.I.Image.told c.args.image) opened.0 r.memory r.version r.directory r.graph r.lines r.free r.undone opened.1
          c.a_run_can_begin_over_recovered_images.ensures.found c.a_run_can_begin_over_recovered_images.ensures.empty,
    )

pub returns-in-Err-clause-unfound : goal.returns-in-Err-clause-unfound
returns-in-Err-clause-unfound g c =
    unfound (g.I.Image.told c.args.image) (g.I.Image.told c.in-Err.image) c.in-Err.fault c.of_opening.result
    c.of_opening.ensures c.in-Err.ensures.unopened

pub returns-in-Err-clause-cause : goal.returns-in-Err-clause-cause
returns-in-Err-clause-cause g c =
    opening_cause c.in-Err.fault c.of_opening.result (g.I.Image.faults c.args.image) (g.I.Image.faults c.in-Err.image)
    c.of_opening.ensures c.in-Err.ensures.cause
