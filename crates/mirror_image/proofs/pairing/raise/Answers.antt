use Rattle.std.proofs.Common.{sym, ◌∙◌}
use Rattle.mirror_image.proofs.Exits.{on_done}
use Rattle.mirror_image.proofs.Writes.{failed_is}
use Rattle.mirror_image.proofs.Halfway.{keeps_lead_marked, keeps_lead_unmarked, keeps_low_marked, keeps_low_unmarked}
use Rattle.mirror_image.proofs.pairing.raise.Goals as goal

pub returns-then-is_err-clause-low : goal.returns-then-is_err-clause-low
returns-then-is_err-clause-low g c = keeps_low_unmarked c.args.line _ _ _ (failed_is c.mark.result (sym c.is_err.ensures.value ∙ c.if-is_err.true) c.mark.ensures.unmarked).1

pub returns-then-is_err-2-clause-leading : goal.returns-then-is_err-2-clause-leading
returns-then-is_err-2-clause-leading g c = keeps_lead_unmarked c.args.line c.args.generation _ _ _ (failed_is c.mark-2.result (sym c.is_err-2.ensures.value ∙ c.if-is_err-2.true) c.mark-2.ensures.unmarked).1

pub returns-then-is_err-2-clause-low : goal.returns-then-is_err-2-clause-low
returns-then-is_err-2-clause-low g c = keeps_low_marked c.args.line _ _ (on_done c.mark.result (sym c.is_err.ensures.value ∙ c.if-is_err.false) c.mark.ensures.marked)

pub returns-clause-leading : goal.returns-clause-leading
returns-clause-leading g c = keeps_lead_marked c.args.line c.args.generation _ _ (on_done c.mark-2.result (sym c.is_err-2.ensures.value ∙ c.if-is_err-2.false) c.mark-2.ensures.marked)

pub returns-clause-low : goal.returns-clause-low
returns-clause-low g c = keeps_low_marked c.args.line _ _ (on_done c.mark.result (sym c.is_err.ensures.value ∙ c.if-is_err.false) c.mark.ensures.marked)
