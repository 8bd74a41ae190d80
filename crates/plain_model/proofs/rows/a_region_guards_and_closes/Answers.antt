use Rattle.plain_model.proofs.Region.{region_done, without_closing_refused, without_guarded_refused, closing_early_refused}
use Rattle.plain_model.proofs.rows.a_region_guards_and_closes.Goals as goal

pub returns : goal.returns
returns c = record {
  run = region_done;
  without_closing = without_closing_refused;
  without_guarded = without_guarded_refused;
  closing_early = closing_early_refused;
}
