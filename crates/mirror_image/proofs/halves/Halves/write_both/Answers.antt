use Rattle.std.proofs.Common.{ℕ, false, ◌-◌, refl, sym, ◌∙◌, ap}
use Rattle.mirror_image.proofs.Pushed.{not_label}
use Rattle.mirror_image.proofs.Exits.{on_ok, on_err, on_done}
use Rattle.mirror_image.proofs.Writes.{on_failed, failed_is}
use Rattle.mirror_image.proofs.Safety.{exact}
use Rattle.mirror_image.proofs.Calls.{write_exit, write_left_exit, write_lost_exit, write_moved_exit, write_moved_lost_exit, write_unmarked_exit}
use Rattle.mirror_image.proofs.Using.{failed_after, none_used, uses_both_first, uses_both_lost, uses_both_ok, uses_both_second}
use Rattle.mirror_image.proofs.halves.Halves.write_both.Goals as goal

pub invariant_of-self : goal.invariant_of-self
invariant_of-self g c =
    let e = exact (write_lost_exit _ c.args.self.now.generation (g.A.Image.told c.args.self.now.a) (g.B.Image.told c.args.self.now.b) _ _ _ _ c.requires.both c.requires.alive c.args.self.now.sound c.args.self.now.safe (g.met.A.Image.in_order c.args.self.now.a) c.args.line c.args.words.now (not_label _ c.args.line c.args.words.now c.requires.line) (g.A.Image.told c.write_line.new.self) (g.B.Image.told c.mark.new.half) _ _ c.write_line.ensures.size c.write_line.ensures.counted (on_failed c.write_line.result (sym c.is_err.ensures.value ∙ c.if-is_err.true) c.write_line.ensures.failed) (ap (λ (n : ℕ). n - 1) (c.lines.ensures.size ∙ c.write_line.ensures.size)) (failed_is c.mark.result (sym c.is_err-then-is_err.ensures.value ∙ c.if-is_err-2.true) c.mark.ensures.unmarked).1) in
    record { sound = e.sound; safe = e.safe }

pub returns-then-is_err-2-clause-failed : goal.returns-then-is_err-2-clause-failed
returns-then-is_err-2-clause-failed g c = (exact (write_lost_exit _ c.args.self.now.generation (g.A.Image.told c.args.self.now.a) (g.B.Image.told c.args.self.now.b) _ _ _ _ c.requires.both c.requires.alive c.args.self.now.sound c.args.self.now.safe (g.met.A.Image.in_order c.args.self.now.a) c.args.line c.args.words.now (not_label _ c.args.line c.args.words.now c.requires.line) (g.A.Image.told c.write_line.new.self) (g.B.Image.told c.mark.new.half) _ _ c.write_line.ensures.size c.write_line.ensures.counted (on_failed c.write_line.result (sym c.is_err.ensures.value ∙ c.if-is_err.true) c.write_line.ensures.failed) (ap (λ (n : ℕ). n - 1) (c.lines.ensures.size ∙ c.write_line.ensures.size)) (failed_is c.mark.result (sym c.is_err-then-is_err.ensures.value ∙ c.if-is_err-2.true) c.mark.ensures.unmarked).1)).call

pub invariant_of-self-then-is_ok : goal.invariant_of-self-then-is_ok
invariant_of-self-then-is_ok g c =
    let e = exact (write_moved_exit _ c.args.self.now.generation (g.A.Image.told c.args.self.now.a) (g.B.Image.told c.args.self.now.b) _ _ _ _ c.requires.both c.requires.alive c.args.self.now.sound c.args.self.now.safe (g.met.A.Image.in_order c.args.self.now.a) c.args.line c.args.words.now (not_label _ c.args.line c.args.words.now c.requires.line) (g.A.Image.told c.write_line.new.self) (g.B.Image.told c.mark.new.half) (g.B.Image.told c.write_line-then-is_err.new.self) _ (g.met.B.Image.in_order c.args.self.now.b) c.write_line.ensures.size c.write_line.ensures.counted (on_failed c.write_line.result (sym c.is_err.ensures.value ∙ c.if-is_err.true) c.write_line.ensures.failed) (ap (λ (n : ℕ). n - 1) (c.lines.ensures.size ∙ c.write_line.ensures.size)) (on_done c.mark.result (sym c.is_err-then-is_err.ensures.value ∙ c.if-is_err-2.false) c.mark.ensures.marked) c.write_line-then-is_err.ensures.size c.write_line-then-is_err.ensures.counted (on_ok c.write_line-then-is_err.result (sym c.is_ok.ensures.value ∙ c.if-is_ok.true) c.write_line-then-is_err.ensures.written)) in
    record { sound = e.sound; safe = e.safe }

pub returns-then-is_ok-clause-wrote : goal.returns-then-is_ok-clause-wrote
returns-then-is_ok-clause-wrote g c = (exact (write_moved_exit _ c.args.self.now.generation (g.A.Image.told c.args.self.now.a) (g.B.Image.told c.args.self.now.b) _ _ _ _ c.requires.both c.requires.alive c.args.self.now.sound c.args.self.now.safe (g.met.A.Image.in_order c.args.self.now.a) c.args.line c.args.words.now (not_label _ c.args.line c.args.words.now c.requires.line) (g.A.Image.told c.write_line.new.self) (g.B.Image.told c.mark.new.half) (g.B.Image.told c.write_line-then-is_err.new.self) _ (g.met.B.Image.in_order c.args.self.now.b) c.write_line.ensures.size c.write_line.ensures.counted (on_failed c.write_line.result (sym c.is_err.ensures.value ∙ c.if-is_err.true) c.write_line.ensures.failed) (ap (λ (n : ℕ). n - 1) (c.lines.ensures.size ∙ c.write_line.ensures.size)) (on_done c.mark.result (sym c.is_err-then-is_err.ensures.value ∙ c.if-is_err-2.false) c.mark.ensures.marked) c.write_line-then-is_err.ensures.size c.write_line-then-is_err.ensures.counted (on_ok c.write_line-then-is_err.result (sym c.is_ok.ensures.value ∙ c.if-is_ok.true) c.write_line-then-is_err.ensures.written))).call

pub invariant_of-self-then-is_err : goal.invariant_of-self-then-is_err
invariant_of-self-then-is_err g c =
    let e = exact (write_moved_lost_exit _ c.args.self.now.generation (g.A.Image.told c.args.self.now.a) (g.B.Image.told c.args.self.now.b) _ _ _ _ c.requires.both c.requires.alive c.args.self.now.sound c.args.self.now.safe (g.met.A.Image.in_order c.args.self.now.a) c.args.line c.args.words.now (not_label _ c.args.line c.args.words.now c.requires.line) (g.A.Image.told c.write_line.new.self) (g.B.Image.told c.mark.new.half) (g.B.Image.told c.write_line-then-is_err.new.self) _ (g.met.B.Image.in_order c.args.self.now.b) c.write_line.ensures.size c.write_line.ensures.counted (on_failed c.write_line.result (sym c.is_err.ensures.value ∙ c.if-is_err.true) c.write_line.ensures.failed) (ap (λ (n : ℕ). n - 1) (c.lines.ensures.size ∙ c.write_line.ensures.size)) (on_done c.mark.result (sym c.is_err-then-is_err.ensures.value ∙ c.if-is_err-2.false) c.mark.ensures.marked) c.write_line-then-is_err.ensures.size c.write_line-then-is_err.ensures.counted (on_err c.write_line-then-is_err.result (sym c.is_ok.ensures.value ∙ c.if-is_ok.false) c.write_line-then-is_err.ensures.failed)) in
    record { sound = e.sound; safe = e.safe }

pub returns-then-is_err-clause-failed : goal.returns-then-is_err-clause-failed
returns-then-is_err-clause-failed g c = (exact (write_moved_lost_exit _ c.args.self.now.generation (g.A.Image.told c.args.self.now.a) (g.B.Image.told c.args.self.now.b) _ _ _ _ c.requires.both c.requires.alive c.args.self.now.sound c.args.self.now.safe (g.met.A.Image.in_order c.args.self.now.a) c.args.line c.args.words.now (not_label _ c.args.line c.args.words.now c.requires.line) (g.A.Image.told c.write_line.new.self) (g.B.Image.told c.mark.new.half) (g.B.Image.told c.write_line-then-is_err.new.self) _ (g.met.B.Image.in_order c.args.self.now.b) c.write_line.ensures.size c.write_line.ensures.counted (on_failed c.write_line.result (sym c.is_err.ensures.value ∙ c.if-is_err.true) c.write_line.ensures.failed) (ap (λ (n : ℕ). n - 1) (c.lines.ensures.size ∙ c.write_line.ensures.size)) (on_done c.mark.result (sym c.is_err-then-is_err.ensures.value ∙ c.if-is_err-2.false) c.mark.ensures.marked) c.write_line-then-is_err.ensures.size c.write_line-then-is_err.ensures.counted (on_err c.write_line-then-is_err.result (sym c.is_ok.ensures.value ∙ c.if-is_ok.false) c.write_line-then-is_err.ensures.failed))).call

pub invariant_of-self-then-is_ok-2 : goal.invariant_of-self-then-is_ok-2
invariant_of-self-then-is_ok-2 g c =
    let e = exact (write_exit _ c.args.self.now.generation (g.A.Image.told c.args.self.now.a) (g.B.Image.told c.args.self.now.b) _ _ _ _ c.requires.both c.requires.alive c.args.self.now.sound c.args.self.now.safe (g.met.A.Image.in_order c.args.self.now.a) c.args.line c.args.words.now (not_label _ c.args.line c.args.words.now c.requires.line) (g.A.Image.told c.write_line.new.self) (g.B.Image.told c.write_line-2.new.self) (g.met.B.Image.in_order c.args.self.now.b) c.write_line.ensures.size c.write_line.ensures.counted (on_done c.write_line.result (sym c.is_err.ensures.value ∙ c.if-is_err.false) c.write_line.ensures.written) c.write_line-2.ensures.size c.write_line-2.ensures.counted (on_ok c.write_line-2.result (sym c.is_ok-2.ensures.value ∙ c.if-is_ok-2.true) c.write_line-2.ensures.written)) in
    record { sound = e.sound; safe = e.safe }

pub returns-then-is_ok-2-clause-wrote : goal.returns-then-is_ok-2-clause-wrote
returns-then-is_ok-2-clause-wrote g c = (exact (write_exit _ c.args.self.now.generation (g.A.Image.told c.args.self.now.a) (g.B.Image.told c.args.self.now.b) _ _ _ _ c.requires.both c.requires.alive c.args.self.now.sound c.args.self.now.safe (g.met.A.Image.in_order c.args.self.now.a) c.args.line c.args.words.now (not_label _ c.args.line c.args.words.now c.requires.line) (g.A.Image.told c.write_line.new.self) (g.B.Image.told c.write_line-2.new.self) (g.met.B.Image.in_order c.args.self.now.b) c.write_line.ensures.size c.write_line.ensures.counted (on_done c.write_line.result (sym c.is_err.ensures.value ∙ c.if-is_err.false) c.write_line.ensures.written) c.write_line-2.ensures.size c.write_line-2.ensures.counted (on_ok c.write_line-2.result (sym c.is_ok-2.ensures.value ∙ c.if-is_ok-2.true) c.write_line-2.ensures.written))).call

pub invariant_of-self-in-Err : goal.invariant_of-self-in-Err
invariant_of-self-in-Err g c =
    let e = exact (write_unmarked_exit _ c.args.self.now.generation (g.A.Image.told c.args.self.now.a) (g.B.Image.told c.args.self.now.b) _ _ _ _ c.requires.both c.requires.alive c.args.self.now.sound c.args.self.now.safe (g.met.A.Image.in_order c.args.self.now.a) c.args.line c.args.words.now (not_label _ c.args.line c.args.words.now c.requires.line) (g.A.Image.told c.write_line.new.self) (g.B.Image.told c.write_line-2.new.self) (g.A.Image.told c.mark-2.new.half) _ _ _ c.write_line-2.ensures.size c.write_line.ensures.size c.write_line.ensures.counted (on_done c.write_line.result (sym c.is_err.ensures.value ∙ c.if-is_err.false) c.write_line.ensures.written) (on_err c.write_line-2.result (sym c.is_ok-2.ensures.value ∙ c.if-is_ok-2.false) c.write_line-2.ensures.failed) (ap (λ (n : ℕ). n - 1) (c.lines-2.ensures.size ∙ c.write_line-2.ensures.size ∙ c.args.self.now.sound.sizes)) c.in-Err.ensures.unmarked) in
    record { sound = e.sound; safe = e.safe }

pub returns-in-Err-clause-failed : goal.returns-in-Err-clause-failed
returns-in-Err-clause-failed g c = (exact (write_unmarked_exit _ c.args.self.now.generation (g.A.Image.told c.args.self.now.a) (g.B.Image.told c.args.self.now.b) _ _ _ _ c.requires.both c.requires.alive c.args.self.now.sound c.args.self.now.safe (g.met.A.Image.in_order c.args.self.now.a) c.args.line c.args.words.now (not_label _ c.args.line c.args.words.now c.requires.line) (g.A.Image.told c.write_line.new.self) (g.B.Image.told c.write_line-2.new.self) (g.A.Image.told c.mark-2.new.half) _ _ _ c.write_line-2.ensures.size c.write_line.ensures.size c.write_line.ensures.counted (on_done c.write_line.result (sym c.is_err.ensures.value ∙ c.if-is_err.false) c.write_line.ensures.written) (on_err c.write_line-2.result (sym c.is_ok-2.ensures.value ∙ c.if-is_ok-2.false) c.write_line-2.ensures.failed) (ap (λ (n : ℕ). n - 1) (c.lines-2.ensures.size ∙ c.write_line-2.ensures.size ∙ c.args.self.now.sound.sizes)) c.in-Err.ensures.unmarked)).call

pub invariant_of-self-2 : goal.invariant_of-self-2
invariant_of-self-2 g c =
    let e = exact (write_left_exit _ c.args.self.now.generation (g.A.Image.told c.args.self.now.a) (g.B.Image.told c.args.self.now.b) _ _ _ _ c.requires.both c.requires.alive c.args.self.now.sound c.args.self.now.safe (g.met.A.Image.in_order c.args.self.now.a) c.args.line c.args.words.now (not_label _ c.args.line c.args.words.now c.requires.line) (g.A.Image.told c.write_line.new.self) (g.B.Image.told c.write_line-2.new.self) (g.A.Image.told c.mark-2.new.half) _ _ c.write_line.ensures.size c.write_line.ensures.counted (on_done c.write_line.result (sym c.is_err.ensures.value ∙ c.if-is_err.false) c.write_line.ensures.written) c.write_line-2.ensures.size (on_err c.write_line-2.result (sym c.is_ok-2.ensures.value ∙ c.if-is_ok-2.false) c.write_line-2.ensures.failed) (ap (λ (n : ℕ). n - 1) (c.lines-2.ensures.size ∙ c.write_line-2.ensures.size ∙ c.args.self.now.sound.sizes)) c.in_default.ensures.marked) in
    record { sound = e.sound; safe = e.safe }

pub returns-clause-wrote : goal.returns-clause-wrote
returns-clause-wrote g c = (exact (write_left_exit _ c.args.self.now.generation (g.A.Image.told c.args.self.now.a) (g.B.Image.told c.args.self.now.b) _ _ _ _ c.requires.both c.requires.alive c.args.self.now.sound c.args.self.now.safe (g.met.A.Image.in_order c.args.self.now.a) c.args.line c.args.words.now (not_label _ c.args.line c.args.words.now c.requires.line) (g.A.Image.told c.write_line.new.self) (g.B.Image.told c.write_line-2.new.self) (g.A.Image.told c.mark-2.new.half) _ _ c.write_line.ensures.size c.write_line.ensures.counted (on_done c.write_line.result (sym c.is_err.ensures.value ∙ c.if-is_err.false) c.write_line.ensures.written) c.write_line-2.ensures.size (on_err c.write_line-2.result (sym c.is_ok-2.ensures.value ∙ c.if-is_ok-2.false) c.write_line-2.ensures.failed) (ap (λ (n : ℕ). n - 1) (c.lines-2.ensures.size ∙ c.write_line-2.ensures.size ∙ c.args.self.now.sound.sizes)) c.in_default.ensures.marked)).call

pub returns-then-is_err-2-clause-uses : goal.returns-then-is_err-2-clause-uses
returns-then-is_err-2-clause-uses g c = uses_both_lost c.args.self.now.left c.args.self.now.left c.args.self.now.alive c.requires.both c.requires.alive (on_failed c.write_line.result (sym c.is_err.ensures.value ∙ c.if-is_err.true) c.write_line.ensures.cause.failed) (on_failed c.mark.result (sym c.is_err-then-is_err.ensures.value ∙ c.if-is_err-2.true) c.mark.ensures.cause.failed)

pub returns-then-is_ok-clause-uses : goal.returns-then-is_ok-clause-uses
returns-then-is_ok-clause-uses g c = uses_both_second c.args.self.now.left c.args.self.now.alive c.requires.both c.requires.alive (on_failed c.write_line.result (sym c.is_err.ensures.value ∙ c.if-is_err.true) c.write_line.ensures.cause.failed) (on_ok c.write_line-then-is_err.result (sym c.is_ok.ensures.value ∙ c.if-is_ok.true) c.write_line-then-is_err.ensures.cause.spared ∙ on_done c.mark.result (sym c.is_err-then-is_err.ensures.value ∙ c.if-is_err-2.false) c.mark.ensures.cause.spared) c.write_line.ensures.counted

pub returns-then-is_err-clause-uses : goal.returns-then-is_err-clause-uses
returns-then-is_err-clause-uses g c = uses_both_lost c.args.self.now.left _ c.args.self.now.alive c.requires.both c.requires.alive (on_failed c.write_line.result (sym c.is_err.ensures.value ∙ c.if-is_err.true) c.write_line.ensures.cause.failed) (failed_after (on_done c.mark.result (sym c.is_err-then-is_err.ensures.value ∙ c.if-is_err-2.false) c.mark.ensures.cause.spared) (on_err c.write_line-then-is_err.result (sym c.is_ok.ensures.value ∙ c.if-is_ok.false) c.write_line-then-is_err.ensures.cause.failed))

pub returns-then-is_ok-2-clause-uses : goal.returns-then-is_ok-2-clause-uses
returns-then-is_ok-2-clause-uses g c = uses_both_ok c.args.self.now.left c.args.self.now.alive c.requires.both c.requires.alive (on_done c.write_line.result (sym c.is_err.ensures.value ∙ c.if-is_err.false) c.write_line.ensures.cause.spared) (on_ok c.write_line-2.result (sym c.is_ok-2.ensures.value ∙ c.if-is_ok-2.true) c.write_line-2.ensures.cause.spared)

pub returns-in-Err-clause-uses : goal.returns-in-Err-clause-uses
returns-in-Err-clause-uses g c = uses_both_lost c.args.self.now.left c.args.self.now.left c.args.self.now.alive c.requires.both c.requires.alive (failed_after (on_done c.write_line.result (sym c.is_err.ensures.value ∙ c.if-is_err.false) c.write_line.ensures.cause.spared) c.in-Err.ensures.cause.failed) (on_err c.write_line-2.result (sym c.is_ok-2.ensures.value ∙ c.if-is_ok-2.false) c.write_line-2.ensures.cause.failed)

pub returns-clause-uses : goal.returns-clause-uses
returns-clause-uses g c = uses_both_first c.args.self.now.left c.args.self.now.alive c.requires.both c.requires.alive (c.in_default.ensures.cause.spared ∙ on_done c.write_line.result (sym c.is_err.ensures.value ∙ c.if-is_err.false) c.write_line.ensures.cause.spared) (on_err c.write_line-2.result (sym c.is_ok-2.ensures.value ∙ c.if-is_ok-2.false) c.write_line-2.ensures.cause.failed) c.write_line-2.ensures.counted

pub returns-then-is_err-2-clause-both : goal.returns-then-is_err-2-clause-both
returns-then-is_err-2-clause-both g c = none_used c.args.self.now.left false refl

pub returns-then-is_ok-2-clause-both : goal.returns-then-is_ok-2-clause-both
returns-then-is_ok-2-clause-both g c = λ used. (c.write_line.ensures.counted, c.write_line-2.ensures.counted)

pub returns-in-Err-clause-both : goal.returns-in-Err-clause-both
returns-in-Err-clause-both g c = none_used c.args.self.now.left false refl
