-- A wait is noted where it is put.
use Rattle.std.proofs.Common.{◌∙◌, ap, map}
use Rattle.std.proofs.lemmas.List.{map-set}
use Rattle.std.specs.Prelude.{Some, slice_set}
use Rattle.run_types.specs.Waits.{on_of}
use Rattle.run_types.proofs.wait.Waits.set.Goals as goal

pub returns : goal.returns
returns c =
    let waits = map on_of c.self.inside.threads in
    record {
      set = map-set on_of c.self.inside.threads c.number.result c.wait_for.result
          ∙ ap (λ wait. slice_set waits c.number.result wait) c.wait_for.ensures
          ∙ ap (λ t. slice_set waits t (Some c.args.on)) c.number.ensures.same
          ∙ ap (λ all. slice_set all c.args.thread (Some c.args.on)) c.self.view_is;
    }
