use Rattle.std.proofs.Common.{sym, ◌∙◌}
use Rattle.mirror_image.proofs.Exits.{on_done}
use Rattle.mirror_image.proofs.Writes.{failed_is}
use Rattle.mirror_image.proofs.Halfway.{yields_low, yields_fence_lost, yields_marked, yields_unmarked}
use Rattle.mirror_image.proofs.pairing.follow.Goals as goal

pub returns-in_err-copy_lines-clause-yields : goal.returns-in_err-copy_lines-clause-yields
returns-in_err-copy_lines-clause-yields g c = yields_low c.args.line _ _ _ c.copy_lines.ensures.low

pub returns-in_err-fence-clause-yields : goal.returns-in_err-fence-clause-yields
returns-in_err-fence-clause-yields g c = yields_fence_lost c.args.line _ _ _ _ c.copy_lines.ensures.low c.in_err-fence.ensures.failed

pub returns-then-is_err-clause-yields : goal.returns-then-is_err-clause-yields
returns-then-is_err-clause-yields g c = yields_unmarked c.args.line c.args.generation _ _ _ _ _ (g.O.Image.told c.fence.new.self) _ c.copy_lines.ensures.low c.in_ok-copy_lines.ensures.alike c.in_ok-fence.ensures.fenced (failed_is c.mark.result (sym c.is_err.ensures.value ∙ c.if-is_err.true) c.mark.ensures.unmarked).1

pub returns-clause-yields : goal.returns-clause-yields
returns-clause-yields g c = yields_marked c.args.line c.args.generation _ _ _ _ (g.O.Image.told c.fence.new.self) _ c.copy_lines.ensures.low c.in_ok-copy_lines.ensures.alike c.in_ok-fence.ensures.fenced (on_done c.mark.result (sym c.is_err.ensures.value ∙ c.if-is_err.false) c.mark.ensures.marked)
