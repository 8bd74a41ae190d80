use Rattle.std.proofs.Common.{ap, length}
use Rattle.program_launch.proofs.Progress.{progress_filled}
use Rattle.plain_launch.proofs.tables.first_progress.Goals as goal

pub returns : goal.returns
returns c opening =
    progress_filled c.args.set.now c.new-classes.result.items c.resize.new.self.items c.resize-2.new.self.items
    _ _ _ _ c.new-classes.ensures.items c.new-classes.ensures.len c.in_ok-resize.ensures.items
    c.in_ok-resize.ensures.len c.in_ok-resize-2.ensures.items
    (ap length c.files.ensures) c.type_count.ensures.count
