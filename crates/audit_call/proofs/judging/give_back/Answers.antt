use Rattle.std.proofs.Common.{refl}
use Rattle.audit_call.proofs.Found.{found_opens, unbegun}
use Rattle.audit_call.proofs.judging.give_back.Goals as goal

pub returns-clause-given : goal.returns-clause-given
returns-clause-given g c start old set is =
    let f = c.args.found in (
      unbegun start old set f.memory f.directory f.lines f.graph f.free is (g.I.Image.told c.into_image.result)
          c.into_image.ensures.size c.into_image.ensures.told,
      refl,
    )

pub returns-clause-opening : goal.returns-clause-opening
returns-clause-opening g c start old set is =
    let f = c.args.found in
    found_opens start old set f.memory f.directory f.lines f.graph f.free is c.a_run_can_begin_over_recovered_images.ensures.appended
