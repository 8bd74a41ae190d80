use Rattle.std.proofs.Common.{drop}
use Rattle.live_view.proofs.Tied.{publishes}
use Rattle.live_view.proofs.writer.publish.Goals as goal

pub publish_as-requires : goal.publish_as-requires
publish_as-requires g c next is =
    publishes _ _ c.args.writer.desk.shown.value next (drop c.args.writer.behind c.args.writer.log.items) c.requires is
