use Rattle.image_opening.proofs.Stops.{given_back}
use Rattle.image_opening.proofs.giving.give_back.Goals as goal

pub returns-clause-given : goal.returns-clause-given
returns-clause-given g c start before is =
    let f = c.args.found in
    given_back start (g.I.Image.told c.into_image.result) before f.memory f.version f.directory f.graph f.lines f.free f.undone
    is c.into_image.ensures.size c.into_image.ensures.told
