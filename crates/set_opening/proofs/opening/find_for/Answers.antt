use Rattle.std.proofs.Common.{◌∙◌, inr}
use Rattle.line_image.specs.Told.{Told}
use Rattle.set_opening.proofs.Causes.{unfit_cause}
use Rattle.set_opening.proofs.Opened.{found_left, found_roots, found_shapes}
use Rattle.set_opening.proofs.opening.find_for.Goals as goal

pub prepare-requires-clause-shapes : goal.prepare-requires-clause-shapes
prepare-requires-clause-shapes g c =
    let r = c.in-Ok.recovered in
    let found = c.in-Ok.ensures.found in
    found_shapes (g.I.Image.told c.args.image) found.0 r.memory r.directory r.graph r.lines r.free found.1

pub prepare-requires-clause-roots : goal.prepare-requires-clause-roots
prepare-requires-clause-roots g c =
    let r = c.in-Ok.recovered in
    let found = c.in-Ok.ensures.found in
    found_roots (g.I.Image.told c.args.image) found.0 r.memory r.directory r.graph r.lines r.free found.1

pub returns-in-Err-prepare-clause-unopened : goal.returns-in-Err-prepare-clause-unopened
returns-in-Err-prepare-clause-unopened g c =
    let start : Told = g.I.Image.told c.args.image in
    let r = c.in-Ok.recovered in
    let found = c.in-Ok.ensures.found in
    inr (inr (record {
      directory = r.directory;
      graph = r.graph;
      left = found_left start found.0 r.memory r.directory r.graph r.lines r.free found.1 (g.I.Image.told
          c.into_image.result) c.into_image.ensures.size c.into_image.ensures.told;
      cause = c.in-Err-prepare.ensures.unfit;
    }))

pub returns-in-Ok-prepare-clause-found : goal.returns-in-Ok-prepare-clause-found
returns-in-Ok-prepare-clause-found g c =
    let r = c.in-Ok.recovered in
    let found = c.in-Ok.ensures.found in record {
      before = found.0;
      found = r.directory;
      stood = r.graph;
      found_is = found.1;
      fitted = c.in-Ok-prepare.ensures.fitted;
      continues = c.in-Ok-prepare.ensures.continues;
    }

pub returns-in-Err-prepare-clause-cause : goal.returns-in-Err-prepare-clause-cause
returns-in-Err-prepare-clause-cause g c =
    unfit_cause c.args.set.now c.prepare.new.set c.in-Ok.recovered.directory c.in-Err-prepare.why (g.I.Image.faults c.args.image)
    (g.I.Image.faults c.into_image.result) c.in-Err-prepare.ensures.unfit (c.into_image.ensures.faults ∙ c.in-Ok.ensures.spared)
