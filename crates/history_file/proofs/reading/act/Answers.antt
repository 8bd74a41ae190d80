use Rattle.std.proofs.Common.{ℕ, List, ◌++◌, ◌∷◌, [], refl, sym, ap, ◌∙◌}
use Rattle.parsing.specs.Results.{many_from}
use Rattle.run_history.specs.Recorded.{Recorded, History}
use Rattle.history_file.specs.Reading.{number_at}
use Rattle.history_file.proofs.KindsRead.{added}
use Rattle.history_file.proofs.reading.act.Goals as goal

pub returns-in-Ok-push-clause-none : goal.returns-in-Ok-push-clause-none
returns-in-Ok-push-clause-none c =
    let named = ap (λ (k : ℕ). many_from number_at k c.in-Ok-op.read.1.now) (sym c.named_count-count.ensures)
    ∙ c.in_ok-rest.ensures.read in
    let all = added c.args.bytes.now (c.in-Ok.read.0, c.in-Ok.read.1.now) (c.in_ok-at.at, c.in_ok-at.rest.now)
    (c.in-Ok-op.read.0, c.in-Ok-op.read.1.now) (c.names.new.acts.named, c.in_ok-rest.rest.now) c.names.new.acts
    c.in-Ok.ensures.read c.in_ok-at.ensures c.in-Ok-op.ensures named refl in
    ap (λ (h : History). h.named) c.in-Ok-push.ensures.pushed ∙ all.1

pub returns-in-Ok-push-clause-read : goal.returns-in-Ok-push-clause-read
returns-in-Ok-push-clause-read c =
    let named = ap (λ (k : ℕ). many_from number_at k c.in-Ok-op.read.1.now) (sym c.named_count-count.ensures)
    ∙ c.in_ok-rest.ensures.read in
    let all = added c.args.bytes.now (c.in-Ok.read.0, c.in-Ok.read.1.now) (c.in_ok-at.at, c.in_ok-at.rest.now)
    (c.in-Ok-op.read.0, c.in-Ok-op.read.1.now) (c.names.new.acts.named, c.in_ok-rest.rest.now) c.names.new.acts
    c.in-Ok.ensures.read c.in_ok-at.ensures c.in-Ok-op.ensures named refl in
    let r = all.0.0 in
    let same = c.in_ok-rest.ensures.acts ∙ ap (λ (h : History). h.acts) c.in_ok-reserve.ensures.ok in (
      r,
      all.0.1,
      ap (λ (h : History). h.acts) c.in-Ok-push.ensures.pushed ∙ all.0.2 ∙ ap (λ
          (before : List Recorded). before ++ r ∷ []) same,
    )
