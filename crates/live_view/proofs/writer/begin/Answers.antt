use Rattle.std.proofs.Common.{◌∙◌, List, ap, fold}
use Rattle.live_view.specs.declared.shown.Entry.{Entry}
use Rattle.live_view.specs.Entries.{with_entry}
use Rattle.live_view.proofs.Tied.{begins}
use Rattle.live_view.proofs.writer.begin.Goals as goal

pub publish_as-writer-requires : goal.publish_as-writer-requires
publish_as-writer-requires g c next is =
    let now = c.args.writer.desk.shown.value in
    begins _ _ now next c.requires.empty (is ∙ ap (λ (es : List Entry). fold with_entry now es) c.requires.pending)
