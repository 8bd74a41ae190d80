use Rattle.std.proofs.Common.{◌≡◌, ◌∙◌, [], ap, sym, subst}
use Rattle.std.specs.Prelude.{Ok, Some}
use Rattle.run_types.specs.declared.limits.Limits.{Limits}
use Rattle.class_code.specs.declared.refusal.DecodeRefusal.{DecodeRefusal}
use Rattle.class_set.specs.Facts.{facts_of}
use Rattle.plain_model.specs.Duties.{IsClass}
use Rattle.plain_model.specs.First.{first_known}
use Rattle.plain_launch.specs.Launches.{launch_of}
use Rattle.program_host.specs.Hosts.{setting_in}
use Rattle.program_launch.specs.declared.mains.Main.{Main}
use Rattle.audit_steps.specs.Audits.{IsAt}
use Rattle.audit_verdicts.specs.declared.verdict.Verdict.TheVariants.{Act}
use Rattle.audit_runs.specs.Audits.{HasDoubts, IsRight}
use Rattle.audit_runs.proofs.FoundMain.{found-main, main-class}
use Rattle.audit_runs.proofs.Judging.{allowed, one-main, right-end, right-stop}
use Rattle.audit_runs.proofs.audits.audit_run.Goals as goal

-- no limit is looked at
limits : Limits
limits = record { heap_words = 0; acts = 0 }

pub begin-requires-clause-main : goal.begin-requires-clause-main
begin-requires-clause-main c =
    let set = c.args.set.now in
    let found = found-main set c.args.main_class c.main_from-main.result c.main_from-main.ensures in
    subst (λ n. IsClass (facts_of set) n) (sym (ap (λ (m : Main). m.class) found.is))
    (main-class set c.args.main_class found.method found.found)

pub follow-requires : goal.follow-requires
follow-requires c =
    let set = c.args.set.now in
    let opening = c.args.opening.now in
    let acts = c.args.acts.now.acts in
    let main = c.main_from-main.result in
    let launch = launch_of set main opening limits in
    let at = subst (λ s. IsAt launch [] (facts_of s) (setting_in c.in_ok-begun.begun.host) c.in_ok-begun.begun.audit)
    (sym c.of-types.ensures.types) (c.in_ok-begun.ensures.at limits) in
    record { at = (launch, at) }

pub returns-in-Some-clause-right : goal.returns-in-Some-clause-right
returns-in-Some-clause-right c other is =
    let set = c.args.set.now in
    let opening = c.args.opening.now in
    let acts = c.args.acts.now.acts in
    let main = c.main_from-main.result in
    let launch = launch_of set main opening limits in
    let at = subst (λ s. IsAt launch [] (facts_of s) (setting_in c.in_ok-begun.begun.host) c.in_ok-begun.begun.audit)
    (sym c.of-types.ensures.types) (c.in_ok-begun.ensures.at limits) in
    let one = one-main set c.args.main_class main other c.main_from-main.ensures is in
    subst (λ m. IsRight set m opening acts c.args.keep c.args.output.now c.args.after.now (Act c.in-Some.n)) one
    (right-stop set main opening limits acts c.args.keep c.args.output.now c.args.after.now c.follow.result c.in-Some.n
    (c.in_ok-n.was ∙ ap Ok c.in-Some.is) (c.follow.ensures.stops launch at))

pub judge_end-requires-clause-doubts : goal.judge_end-requires-clause-doubts
judge_end-requires-clause-doubts c =
    let set = c.args.set.now in
    let opening = c.args.opening.now in
    let acts = c.args.acts.now.acts in
    let main = c.main_from-main.result in
    let launch = launch_of set main opening limits in
    let at = subst (λ s. IsAt launch [] (facts_of s) (setting_in c.in_ok-begun.begun.host) c.in_ok-begun.begun.audit)
    (sym c.of-types.ensures.types) (c.in_ok-begun.ensures.at limits) in
    let now = c.follow.ensures.whole launch at (c.in_ok-n.was ∙ ap Ok c.in_default.is) in
    subst (HasDoubts (first_known (facts_of set) opening) acts) (sym c.into_doubts-doubts.ensures)
    (record { doubts = now.kept.doubts; stores = now.kept.stores; fit = now.kept.fit })

pub returns-clause-right : goal.returns-clause-right
returns-clause-right c other is =
    let set = c.args.set.now in
    let opening = c.args.opening.now in
    let acts = c.args.acts.now.acts in
    let main = c.main_from-main.result in
    let launch = launch_of set main opening limits in
    let at = subst (λ s. IsAt launch [] (facts_of s) (setting_in c.in_ok-begun.begun.host) c.in_ok-begun.begun.audit)
    (sym c.of-types.ensures.types) (c.in_ok-begun.ensures.at limits) in
    let now = c.follow.ensures.whole launch at (c.in_ok-n.was ∙ ap Ok c.in_default.is) in
    let one = one-main set c.args.main_class main other c.main_from-main.ensures is in
    let verdict = c.in_ok-judge_end.field-0 in
    subst (λ m. IsRight set m opening acts c.args.keep c.args.output.now c.args.after.now verdict) one
    (right-end set main opening limits acts c.args.keep c.args.output.now c.args.after.now verdict now.stands.stands.run
    c.in_ok-judge_end.ensures)

pub returns-clause-allowed : goal.returns-clause-allowed
returns-clause-allowed c said_so =
    let set = c.args.set.now in
    let opening = c.args.opening.now in
    let acts = c.args.acts.now.acts in
    let main = c.main_from-main.result in
    let launch = launch_of set main opening limits in
    let at = subst (λ s. IsAt launch [] (facts_of s) (setting_in c.in_ok-begun.begun.host) c.in_ok-begun.begun.audit)
    (sym c.of-types.ensures.types) (c.in_ok-begun.ensures.at limits) in
    let now = c.follow.ensures.whole launch at (c.in_ok-n.was ∙ ap Ok c.in_default.is) in
    let verdict = c.in_ok-judge_end.field-0 in
    allowed {E = DecodeRefusal} set main opening acts c.args.keep c.args.output.now c.args.after.now (Ok verdict)
    (right-end set main opening limits acts c.args.keep c.args.output.now c.args.after.now verdict now.stands.stands.run
    c.in_ok-judge_end.ensures) said_so
