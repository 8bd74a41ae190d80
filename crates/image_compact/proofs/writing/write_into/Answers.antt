use Rattle.std.proofs.Common.{◌≡◌, ℕ, None, subst}
use Rattle.std.proofs.lemmas.Result.{err_from_is_err_and}
use Rattle.line_memory.specs.Memory.{Memory}
use Rattle.dense_image.specs.Written.{HasRoom, no_room}
use Rattle.image_compact.specs.declared.fault.WriteFault.TheVariants.{NotBlank, ImageFailed}
use Rattle.image_compact.proofs.Outcomes.{next_by, by_this, by_other, unwritten, unplanned, broken_off, written}
use Rattle.image_compact.proofs.writing.write_into.Goals as goal

pub returns-in_err-is_blank-clause-fails : goal.returns-in_err-is_blank-clause-fails
returns-in_err-is_blank-clause-fails g c =
    let p = err_from_is_err_and c.from_residual.result c.from_residual.ensures.1 in
    let a : Memory = c.args.memory.now in
    let b : Memory = c.is_blank.new.memory in
    let look = c.is_blank.ensures in
    rw (p.1, p.2) (unwritten c.args.graph.now a b c.requires.enough c.requires.most look.changes look.goes_on ImageFailed tt
    (by_this ImageFailed a.faults b.faults look.cause.later
    (next_by c.is_blank.result c.in_err-is_blank.field-0.0 a.faults b.faults c.in_err-is_blank.was look.cause)))

pub returns-then-not-branch-clause-fails : goal.returns-then-not-branch-clause-fails
returns-then-not-branch-clause-fails g c =
    let a : Memory = c.args.memory.now in
    let b : Memory = c.is_blank.new.memory in
    let look = c.is_blank.ensures in
    unwritten c.args.graph.now a b c.requires.enough c.requires.most look.changes look.goes_on NotBlank
    ((λ known zero. let yes = (c.in_ok-is_blank.ensures.blank known).1 zero in let no = c.if-not-branch.true in cc), look.changes)
    (by_other ImageFailed NotBlank a.faults b.faults (λ is. cc) c.in_ok-is_blank.ensures.cause.spared)

pub returns-in_err-plan-clause-fails : goal.returns-in_err-plan-clause-fails
returns-in_err-plan-clause-fails g c =
    let p = err_from_is_err_and c.from_residual-in_err-plan.result c.from_residual-in_err-plan.ensures.1 in
    let a : Memory = c.args.memory.now in
    let b : Memory = c.is_blank.new.memory in
    let look = c.is_blank.ensures in
    rw (p.1, p.2) (unplanned c.args.graph.now a b c.requires.enough c.requires.most look.changes look.goes_on c.in_err-plan.field-0.0
    c.in_ok-is_blank.ensures.cause.spared
    (λ known. (c.in_ok-is_blank.ensures.blank known).0 c.if-not-branch.false)
    (rw c.lines.ensures at c.in_err-plan.ensures.want))

pub returns-in_err-write_planned-clause-fails : goal.returns-in_err-write_planned-clause-fails
returns-in_err-write_planned-clause-fails g c =
    let p = err_from_is_err_and c.from_residual-in_err-write_planned.result c.from_residual-in_err-write_planned.ensures.1 in
    let a : Memory = c.args.memory.now in
    let b : Memory = c.is_blank.new.memory in
    let d : Memory = c.write_planned.new.memory in
    let look = c.is_blank.ensures in
    let wrote = c.write_planned.ensures in
    rw (p.1, p.2) (broken_off c.args.graph.now a b c.requires.enough c.requires.most look.changes look.goes_on c.in_ok-is_blank.ensures.cause.spared d
    (λ known. (c.in_ok-is_blank.ensures.blank known).0 c.if-not-branch.false) wrote.stops wrote.goes_on wrote.cause.later
    (next_by c.write_planned.result c.in_err-write_planned.field-0.0 b.faults d.faults c.in_err-write_planned.was wrote.cause))

pub returns-clause-writes : goal.returns-clause-writes
returns-clause-writes g c =
    let a : Memory = c.args.memory.now in
    let b : Memory = c.is_blank.new.memory in
    let d : Memory = c.write_planned.new.memory in
    let look = c.is_blank.ensures in
    let wrote = c.write_planned.ensures in
    let done = c.in_ok-write_planned.ensures in
    let room : HasRoom b.size c.args.graph.now = subst (λ (n : ℕ). HasRoom n c.args.graph.now) c.lines.ensures c.in_ok-plan.ensures.plan.room in
    let none : no_room b.size c.args.graph.now ≡ None =
    subst (λ (n : ℕ). no_room n c.args.graph.now ≡ None) c.lines.ensures c.in_ok-plan.ensures.room in
    written c.args.graph.now a b c.requires.enough c.requires.most look.changes look.goes_on c.in_ok-is_blank.ensures.cause.spared d
    (λ known. (c.in_ok-is_blank.ensures.blank known).0 c.if-not-branch.false) wrote.stops wrote.goes_on
    c.requires.graph room none
    wrote.changes done.wrote done.fixed done.cause.spared
