use Rattle.std.proofs.Common.{sym, ◌∙◌, ap, subst}
use Rattle.std.specs.Prelude.{◌<◌, IfSome, is_some}
use Rattle.ap_base.specs.declared.place.Spot.{Spot}
use Rattle.region_log.specs.Guarding.{IsGuarded}
use Rattle.store_barrier.specs.Regions.{IsOtherGuard, log_in}
use Rattle.store_barrier.proofs.Spots.{no_guard, own_guard, some_guard}
use Rattle.store_barrier.proofs.barrier.other_guard.Goals as goal

pub returns-in_default-guard_of-clause-none : goal.returns-in_default-guard_of-clause-none
returns-in_default-guard_of-clause-none c = λ _ other g.
    let logs = c.args.logs.now.logs in
    no_guard logs c.args.t other c.in-Some.spot (c.guard_of.ensures.none.0 (ap is_some c.in_default-guard_of.is))
    (subst (λ o. IsOtherGuard logs c.args.t o other) c.in-Some.is g)

pub returns-then-number-clause-none : goal.returns-then-number-clause-none
returns-then-number-clause-none c = λ _ other g.
    let logs = c.args.logs.now.logs in
    let within = subst (λ o. IfSome o (λ (x : Spot). x.line < c.args.logs.now.lines)) c.in-Some.is c.requires.inside in
    let same = sym c.number.ensures.same ∙ c.if-number.true ∙ c.number-2.ensures.same in
    own_guard logs c.args.t other c.in-Some.spot
    (λ x y a d. c.stand_apart.ensures.one_guard c.in-Some.spot x y within a d)
    (subst (λ u. IsGuarded (log_in logs u) c.in-Some.spot) same c.in-Some-guard_of.ensures.some)
    (subst (λ o. IsOtherGuard logs c.args.t o other) c.in-Some.is g)

pub returns-clause-some : goal.returns-clause-some
returns-clause-some c =
    let logs = c.args.logs.now.logs in
    subst (λ o. IsOtherGuard logs c.args.t o c.in-Some-guard_of.other) (sym c.in-Some.is)
    (some_guard logs c.args.t c.in-Some-guard_of.other c.in-Some.spot
    (λ same. c.if-number.false (c.number.ensures.same ∙ same ∙ sym c.number-2.ensures.same))
    c.in-Some-guard_of.ensures.some)
