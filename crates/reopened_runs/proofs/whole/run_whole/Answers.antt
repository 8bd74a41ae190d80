use Rattle.std.proofs.Common.{refl}
use Rattle.command_words.specs.Commands.{texts}
use Rattle.reopened_runs.proofs.EndsWhole.{ends_whole}
use Rattle.reopened_runs.proofs.whole.run_whole.Goals as goal

pub returns : goal.returns
returns g c = record {
  whole = ends_whole (texts c.args.words.now.items) _ _ _ _ _ c.autopersist.ensures.complete c.args.source.left refl c.args.image
      c.autopersist.result.image refl refl c.requires.untouched c.args.sink c.autopersist.result.sink refl refl refl;
  failed = c.autopersist.ensures.meets.image_fault;
  unfailed = c.autopersist.ensures.meets.image_spared;
}
