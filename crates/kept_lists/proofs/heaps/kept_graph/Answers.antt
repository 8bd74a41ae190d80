use Rattle.std.proofs.Common.{◌≡◌, subst, sym}
use Rattle.graph_model.specs.Heaps.{IsSound}
use Rattle.audit_verdicts.specs.Picked.{kept_by}
use Rattle.kept_lists.specs.Doubts.{marks_from}
use Rattle.kept_lists.proofs.Fits.{fitting-sound}
use Rattle.kept_lists.proofs.heaps.kept_graph.Goals as goal

pub canon-requires : goal.canon-requires
canon-requires c = record {
  sound = subst IsSound (sym c.in_ok-do_kept.ensures) (fitting-sound c.args.first
      (kept_by c.args.keep (marks_from c.args.doubts.now.lasts.items 0 c.args.acts.now.acts c.args.doubts.now.doubts.items)) c.requires.sound c.requires.fit);
}
