use Rattle.std.proofs.Common.{false, sym, ◌∙◌}
use Rattle.line_image.specs.declared.effect.Done.TheVariants.{Wrote}
use Rattle.mirror_image.proofs.Pushed.{not_label}
use Rattle.mirror_image.proofs.Exits.{on_ok, on_err}
use Rattle.mirror_image.proofs.Safety.{dead_exit, exact, may_have}
use Rattle.mirror_image.proofs.Calls.{first_wrote_exit, first_write_exit, second_wrote_exit, second_write_exit}
use Rattle.mirror_image.proofs.Using.{first_alone, none_used, second_alone, uses_first_lost, uses_first_ok, uses_none, uses_second_lost, uses_second_ok}
use Rattle.mirror_image.proofs.halves.Halves.write_line.Goals as goal

pub invariant_of-self : goal.invariant_of-self
invariant_of-self g c =
    let e = exact (may_have (Wrote c.args.line c.args.words.now) (dead_exit _ c.args.self.now.generation (g.A.Image.told c.args.self.now.a) (g.B.Image.told c.args.self.now.b) _ _ _ _ _ c.if-not-self.true c.args.self.now.sound c.args.self.now.safe c.saturating_add-self.ensures)) in
    record { sound = e.sound; safe = e.safe }

pub returns-then-not-self-clause-failed : goal.returns-then-not-self-clause-failed
returns-then-not-self-clause-failed g c = (exact (may_have (Wrote c.args.line c.args.words.now) (dead_exit _ c.args.self.now.generation (g.A.Image.told c.args.self.now.a) (g.B.Image.told c.args.self.now.b) _ _ _ _ _ c.if-not-self.true c.args.self.now.sound c.args.self.now.safe c.saturating_add-self.ensures))).call

pub invariant_of-self-then-is_ok : goal.invariant_of-self-then-is_ok
invariant_of-self-then-is_ok g c =
    let e = exact (first_wrote_exit _ c.args.self.now.generation (g.A.Image.told c.args.self.now.a) (g.B.Image.told c.args.self.now.b) (g.A.Image.told c.write_line.new.self) _ _ c.args.self.now.alive _ _ c.in-First.is c.if-not-self.false c.args.self.now.sound c.args.self.now.safe (g.met.A.Image.in_order c.args.self.now.a) c.write_line.ensures.size c.write_line.ensures.counted c.args.line c.args.words.now (not_label _ c.args.line c.args.words.now c.requires) (on_ok c.write_line.result (sym c.is_ok.ensures.value ∙ c.if-is_ok.true) c.write_line.ensures.written)) in
    record { sound = e.sound; safe = e.safe }

pub returns-then-is_ok-clause-wrote : goal.returns-then-is_ok-clause-wrote
returns-then-is_ok-clause-wrote g c = (exact (first_wrote_exit _ c.args.self.now.generation (g.A.Image.told c.args.self.now.a) (g.B.Image.told c.args.self.now.b) (g.A.Image.told c.write_line.new.self) _ _ c.args.self.now.alive _ _ c.in-First.is c.if-not-self.false c.args.self.now.sound c.args.self.now.safe (g.met.A.Image.in_order c.args.self.now.a) c.write_line.ensures.size c.write_line.ensures.counted c.args.line c.args.words.now (not_label _ c.args.line c.args.words.now c.requires) (on_ok c.write_line.result (sym c.is_ok.ensures.value ∙ c.if-is_ok.true) c.write_line.ensures.written))).call

pub invariant_of-self-in-First : goal.invariant_of-self-in-First
invariant_of-self-in-First g c =
    let e = exact (first_write_exit _ c.args.self.now.generation (g.A.Image.told c.args.self.now.a) (g.B.Image.told c.args.self.now.b) (g.A.Image.told c.write_line.new.self) _ _ false _ _ c.in-First.is c.if-not-self.false c.args.self.now.sound c.args.self.now.safe (g.met.A.Image.in_order c.args.self.now.a) c.write_line.ensures.size c.write_line.ensures.counted c.args.line c.args.words.now (not_label _ c.args.line c.args.words.now c.requires) (on_err c.write_line.result (sym c.is_ok.ensures.value ∙ c.if-is_ok.false) c.write_line.ensures.failed)) in
    record { sound = e.sound; safe = e.safe }

pub returns-else-is_ok-clause-failed : goal.returns-else-is_ok-clause-failed
returns-else-is_ok-clause-failed g c = (exact (first_write_exit _ c.args.self.now.generation (g.A.Image.told c.args.self.now.a) (g.B.Image.told c.args.self.now.b) (g.A.Image.told c.write_line.new.self) _ _ false _ _ c.in-First.is c.if-not-self.false c.args.self.now.sound c.args.self.now.safe (g.met.A.Image.in_order c.args.self.now.a) c.write_line.ensures.size c.write_line.ensures.counted c.args.line c.args.words.now (not_label _ c.args.line c.args.words.now c.requires) (on_err c.write_line.result (sym c.is_ok.ensures.value ∙ c.if-is_ok.false) c.write_line.ensures.failed))).call

pub invariant_of-self-then-is_ok-2 : goal.invariant_of-self-then-is_ok-2
invariant_of-self-then-is_ok-2 g c =
    let e = exact (second_wrote_exit _ c.args.self.now.generation (g.A.Image.told c.args.self.now.a) (g.B.Image.told c.args.self.now.b) (g.B.Image.told c.write_line-in-Second.new.self) _ _ _ _ _ c.in-Second.is c.if-not-self.false c.args.self.now.sound c.args.self.now.safe (g.met.B.Image.in_order c.args.self.now.b) c.saturating_add-self-in-Second.ensures c.write_line-in-Second.ensures.size c.write_line-in-Second.ensures.counted c.args.self.now.alive c.args.line c.args.words.now (not_label _ c.args.line c.args.words.now c.requires) (on_ok c.write_line-in-Second.result (sym c.is_ok-in-Second.ensures.value ∙ c.if-is_ok-2.true) c.write_line-in-Second.ensures.written)) in
    record { sound = e.sound; safe = e.safe }

pub returns-then-is_ok-2-clause-wrote : goal.returns-then-is_ok-2-clause-wrote
returns-then-is_ok-2-clause-wrote g c = (exact (second_wrote_exit _ c.args.self.now.generation (g.A.Image.told c.args.self.now.a) (g.B.Image.told c.args.self.now.b) (g.B.Image.told c.write_line-in-Second.new.self) _ _ _ _ _ c.in-Second.is c.if-not-self.false c.args.self.now.sound c.args.self.now.safe (g.met.B.Image.in_order c.args.self.now.b) c.saturating_add-self-in-Second.ensures c.write_line-in-Second.ensures.size c.write_line-in-Second.ensures.counted c.args.self.now.alive c.args.line c.args.words.now (not_label _ c.args.line c.args.words.now c.requires) (on_ok c.write_line-in-Second.result (sym c.is_ok-in-Second.ensures.value ∙ c.if-is_ok-2.true) c.write_line-in-Second.ensures.written))).call

pub invariant_of-self-in-Second : goal.invariant_of-self-in-Second
invariant_of-self-in-Second g c =
    let e = exact (second_write_exit _ c.args.self.now.generation (g.A.Image.told c.args.self.now.a) (g.B.Image.told c.args.self.now.b) (g.B.Image.told c.write_line-in-Second.new.self) _ _ _ _ _ c.in-Second.is c.if-not-self.false c.args.self.now.sound c.args.self.now.safe (g.met.B.Image.in_order c.args.self.now.b) c.saturating_add-self-in-Second.ensures c.write_line-in-Second.ensures.size c.write_line-in-Second.ensures.counted false c.args.line c.args.words.now (not_label _ c.args.line c.args.words.now c.requires) (on_err c.write_line-in-Second.result (sym c.is_ok-in-Second.ensures.value ∙ c.if-is_ok-2.false) c.write_line-in-Second.ensures.failed)) in
    record { sound = e.sound; safe = e.safe }

pub returns-else-is_ok-2-clause-failed : goal.returns-else-is_ok-2-clause-failed
returns-else-is_ok-2-clause-failed g c = (exact (second_write_exit _ c.args.self.now.generation (g.A.Image.told c.args.self.now.a) (g.B.Image.told c.args.self.now.b) (g.B.Image.told c.write_line-in-Second.new.self) _ _ _ _ _ c.in-Second.is c.if-not-self.false c.args.self.now.sound c.args.self.now.safe (g.met.B.Image.in_order c.args.self.now.b) c.saturating_add-self-in-Second.ensures c.write_line-in-Second.ensures.size c.write_line-in-Second.ensures.counted false c.args.line c.args.words.now (not_label _ c.args.line c.args.words.now c.requires) (on_err c.write_line-in-Second.result (sym c.is_ok-in-Second.ensures.value ∙ c.if-is_ok-2.false) c.write_line-in-Second.ensures.failed))).call

pub returns-in-Both-clause-wrote : goal.returns-in-Both-clause-wrote
returns-in-Both-clause-wrote g c = c.write_both.ensures.wrote

pub returns-in-Both-clause-failed : goal.returns-in-Both-clause-failed
returns-in-Both-clause-failed g c = c.write_both.ensures.failed

pub returns-then-not-self-clause-uses : goal.returns-then-not-self-clause-uses
returns-then-not-self-clause-uses g c = uses_none c.args.self.now.left c.args.self.now.alive c.if-not-self.true

pub returns-then-is_ok-clause-uses : goal.returns-then-is_ok-clause-uses
returns-then-is_ok-clause-uses g c = uses_first_ok c.args.self.now.left c.args.self.now.alive c.in-First.is c.if-not-self.false (on_ok c.write_line.result (sym c.is_ok.ensures.value ∙ c.if-is_ok.true) c.write_line.ensures.cause.spared)

pub returns-else-is_ok-clause-uses : goal.returns-else-is_ok-clause-uses
returns-else-is_ok-clause-uses g c = uses_first_lost c.args.self.now.left c.args.self.now.alive c.in-First.is c.if-not-self.false (on_err c.write_line.result (sym c.is_ok.ensures.value ∙ c.if-is_ok.false) c.write_line.ensures.cause.failed)

pub returns-then-is_ok-2-clause-uses : goal.returns-then-is_ok-2-clause-uses
returns-then-is_ok-2-clause-uses g c = uses_second_ok c.args.self.now.left c.args.self.now.alive c.in-Second.is c.if-not-self.false (on_ok c.write_line-in-Second.result (sym c.is_ok-in-Second.ensures.value ∙ c.if-is_ok-2.true) c.write_line-in-Second.ensures.cause.spared)

pub returns-else-is_ok-2-clause-uses : goal.returns-else-is_ok-2-clause-uses
returns-else-is_ok-2-clause-uses g c = uses_second_lost c.args.self.now.left c.args.self.now.alive c.in-Second.is c.if-not-self.false (on_err c.write_line-in-Second.result (sym c.is_ok-in-Second.ensures.value ∙ c.if-is_ok-2.false) c.write_line-in-Second.ensures.cause.failed)

pub returns-in-Both-clause-uses : goal.returns-in-Both-clause-uses
returns-in-Both-clause-uses g c = c.write_both.ensures.uses

pub returns-then-not-self-clause-both : goal.returns-then-not-self-clause-both
returns-then-not-self-clause-both g c = none_used c.args.self.now.left c.args.self.now.alive c.if-not-self.true

pub returns-then-is_ok-clause-both : goal.returns-then-is_ok-clause-both
returns-then-is_ok-clause-both g c = first_alone c.args.self.now.left c.args.self.now.alive c.in-First.is

pub returns-else-is_ok-clause-both : goal.returns-else-is_ok-clause-both
returns-else-is_ok-clause-both g c = first_alone c.args.self.now.left false c.in-First.is

pub returns-then-is_ok-2-clause-both : goal.returns-then-is_ok-2-clause-both
returns-then-is_ok-2-clause-both g c = second_alone c.args.self.now.left c.args.self.now.alive c.in-Second.is

pub returns-else-is_ok-2-clause-both : goal.returns-else-is_ok-2-clause-both
returns-else-is_ok-2-clause-both g c = second_alone c.args.self.now.left false c.in-Second.is

pub returns-in-Both-clause-both : goal.returns-in-Both-clause-both
returns-in-Both-clause-both g c = c.write_both.ensures.both
