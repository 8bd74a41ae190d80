use Rattle.std.proofs.Common.{ℕ, ◌-◌, refl, sym, ◌∙◌, ap}
use Rattle.mirror_image.proofs.Exits.{on_ok, on_err, on_done, words_both, words_moved}
use Rattle.mirror_image.proofs.Writes.{failed_is, on_failed}
use Rattle.mirror_image.proofs.Safety.{exact}
use Rattle.mirror_image.proofs.Calls.{read_exit, read_lost_exit, read_moved_exit, read_moved_lost_exit}
use Rattle.mirror_image.proofs.Using.{asks_none, failed_after, uses_both_lost, uses_both_ok, uses_both_second}
use Rattle.mirror_image.proofs.halves.Halves.read_both.Goals as goal

pub invariant_of-self : goal.invariant_of-self
invariant_of-self g c =
    let e = exact (read_exit _ c.args.self.now.generation (g.A.Image.told c.args.self.now.a) (g.B.Image.told c.args.self.now.b) _ _ _ _ c.requires.both c.requires.alive c.args.self.now.sound c.args.self.now.safe (g.met.A.Image.in_order c.args.self.now.a) (g.A.Image.told c.read_line.new.self) c.read_line.ensures.size c.read_line.ensures.counted c.read_line.ensures.same) in
    record { sound = e.sound; safe = e.safe }

pub returns-then-is_ok-clause-call : goal.returns-then-is_ok-clause-call
returns-then-is_ok-clause-call g c = (exact (read_exit _ c.args.self.now.generation (g.A.Image.told c.args.self.now.a) (g.B.Image.told c.args.self.now.b) _ _ _ _ c.requires.both c.requires.alive c.args.self.now.sound c.args.self.now.safe (g.met.A.Image.in_order c.args.self.now.a) (g.A.Image.told c.read_line.new.self) c.read_line.ensures.size c.read_line.ensures.counted c.read_line.ensures.same)).call

pub invariant_of-self-then-is_err : goal.invariant_of-self-then-is_err
invariant_of-self-then-is_err g c =
    let e = exact (read_lost_exit _ c.args.self.now.generation (g.A.Image.told c.args.self.now.a) (g.B.Image.told c.args.self.now.b) _ _ _ _ c.requires.both c.requires.alive c.args.self.now.sound c.args.self.now.safe (g.met.A.Image.in_order c.args.self.now.a) (g.A.Image.told c.read_line.new.self) (g.B.Image.told c.mark.new.half) _ _ c.read_line.ensures.size c.read_line.ensures.counted c.read_line.ensures.same (ap (λ (n : ℕ). n - 1) (c.lines.ensures.size ∙ c.read_line.ensures.size)) (failed_is c.mark.result (sym c.is_err.ensures.value ∙ c.if-is_err.true) c.mark.ensures.unmarked).1) in
    record { sound = e.sound; safe = e.safe }

pub returns-then-is_err-clause-call : goal.returns-then-is_err-clause-call
returns-then-is_err-clause-call g c = (exact (read_lost_exit _ c.args.self.now.generation (g.A.Image.told c.args.self.now.a) (g.B.Image.told c.args.self.now.b) _ _ _ _ c.requires.both c.requires.alive c.args.self.now.sound c.args.self.now.safe (g.met.A.Image.in_order c.args.self.now.a) (g.A.Image.told c.read_line.new.self) (g.B.Image.told c.mark.new.half) _ _ c.read_line.ensures.size c.read_line.ensures.counted c.read_line.ensures.same (ap (λ (n : ℕ). n - 1) (c.lines.ensures.size ∙ c.read_line.ensures.size)) (failed_is c.mark.result (sym c.is_err.ensures.value ∙ c.if-is_err.true) c.mark.ensures.unmarked).1)).call

pub invariant_of-self-then-is_ok-2 : goal.invariant_of-self-then-is_ok-2
invariant_of-self-then-is_ok-2 g c =
    let e = exact (read_moved_exit _ c.args.self.now.generation (g.A.Image.told c.args.self.now.a) (g.B.Image.told c.args.self.now.b) _ _ _ _ c.requires.both c.requires.alive c.args.self.now.sound c.args.self.now.safe (g.met.A.Image.in_order c.args.self.now.a) (g.A.Image.told c.read_line.new.self) (g.B.Image.told c.mark.new.half) (g.B.Image.told c.read_line-2.new.self) _ (g.met.B.Image.in_order c.args.self.now.b) c.read_line.ensures.size c.read_line.ensures.counted c.read_line.ensures.same (ap (λ (n : ℕ). n - 1) (c.lines.ensures.size ∙ c.read_line.ensures.size)) (on_done c.mark.result (sym c.is_err.ensures.value ∙ c.if-is_err.false) c.mark.ensures.marked) c.read_line-2.ensures.size c.read_line-2.ensures.counted c.read_line-2.ensures.same) in
    record { sound = e.sound; safe = e.safe }

pub returns-then-is_ok-2-clause-call : goal.returns-then-is_ok-2-clause-call
returns-then-is_ok-2-clause-call g c = (exact (read_moved_exit _ c.args.self.now.generation (g.A.Image.told c.args.self.now.a) (g.B.Image.told c.args.self.now.b) _ _ _ _ c.requires.both c.requires.alive c.args.self.now.sound c.args.self.now.safe (g.met.A.Image.in_order c.args.self.now.a) (g.A.Image.told c.read_line.new.self) (g.B.Image.told c.mark.new.half) (g.B.Image.told c.read_line-2.new.self) _ (g.met.B.Image.in_order c.args.self.now.b) c.read_line.ensures.size c.read_line.ensures.counted c.read_line.ensures.same (ap (λ (n : ℕ). n - 1) (c.lines.ensures.size ∙ c.read_line.ensures.size)) (on_done c.mark.result (sym c.is_err.ensures.value ∙ c.if-is_err.false) c.mark.ensures.marked) c.read_line-2.ensures.size c.read_line-2.ensures.counted c.read_line-2.ensures.same)).call

pub invariant_of-self-2 : goal.invariant_of-self-2
invariant_of-self-2 g c =
    let e = exact (read_moved_lost_exit _ c.args.self.now.generation (g.A.Image.told c.args.self.now.a) (g.B.Image.told c.args.self.now.b) _ _ _ _ c.requires.both c.requires.alive c.args.self.now.sound c.args.self.now.safe (g.met.A.Image.in_order c.args.self.now.a) (g.A.Image.told c.read_line.new.self) (g.B.Image.told c.mark.new.half) (g.B.Image.told c.read_line-2.new.self) _ (g.met.B.Image.in_order c.args.self.now.b) c.read_line.ensures.size c.read_line.ensures.counted c.read_line.ensures.same (ap (λ (n : ℕ). n - 1) (c.lines.ensures.size ∙ c.read_line.ensures.size)) (on_done c.mark.result (sym c.is_err.ensures.value ∙ c.if-is_err.false) c.mark.ensures.marked) c.read_line-2.ensures.size c.read_line-2.ensures.counted c.read_line-2.ensures.same) in
    record { sound = e.sound; safe = e.safe }

pub returns-clause-call : goal.returns-clause-call
returns-clause-call g c = (exact (read_moved_lost_exit _ c.args.self.now.generation (g.A.Image.told c.args.self.now.a) (g.B.Image.told c.args.self.now.b) _ _ _ _ c.requires.both c.requires.alive c.args.self.now.sound c.args.self.now.safe (g.met.A.Image.in_order c.args.self.now.a) (g.A.Image.told c.read_line.new.self) (g.B.Image.told c.mark.new.half) (g.B.Image.told c.read_line-2.new.self) _ (g.met.B.Image.in_order c.args.self.now.b) c.read_line.ensures.size c.read_line.ensures.counted c.read_line.ensures.same (ap (λ (n : ℕ). n - 1) (c.lines.ensures.size ∙ c.read_line.ensures.size)) (on_done c.mark.result (sym c.is_err.ensures.value ∙ c.if-is_err.false) c.mark.ensures.marked) c.read_line-2.ensures.size c.read_line-2.ensures.counted c.read_line-2.ensures.same)).call

pub returns-then-is_ok-clause-words : goal.returns-then-is_ok-clause-words
returns-then-is_ok-clause-words g c =
    words_both _ (g.A.Image.told c.args.self.now.a) (g.B.Image.told c.args.self.now.b) _ c.args.line _ c.requires.both c.requires.line
    (on_ok c.read_line.result (sym c.is_ok.ensures.value ∙ c.if-is_ok.true) c.read_line.ensures.words)

pub returns-then-is_ok-2-clause-words : goal.returns-then-is_ok-2-clause-words
returns-then-is_ok-2-clause-words g c =
    words_moved _ (g.A.Image.told c.args.self.now.a) (g.B.Image.told c.args.self.now.b) (g.B.Image.told c.mark.new.half) _ _ _ _ _ c.args.self.now.generation c.args.line _
    c.requires.both c.requires.alive c.args.self.now.sound c.requires.line
    (ap (λ (n : ℕ). n - 1) (c.lines.ensures.size ∙ c.read_line.ensures.size))
    (on_done c.mark.result (sym c.is_err.ensures.value ∙ c.if-is_err.false) c.mark.ensures.marked)
    (on_ok c.read_line-2.result (sym c.is_ok-2.ensures.value ∙ c.if-is_ok-2.true) c.read_line-2.ensures.words)

pub returns-then-is_ok-clause-uses : goal.returns-then-is_ok-clause-uses
returns-then-is_ok-clause-uses g c = uses_both_ok c.args.self.now.left c.args.self.now.alive c.requires.both c.requires.alive (on_ok c.read_line.result (sym c.is_ok.ensures.value ∙ c.if-is_ok.true) c.read_line.ensures.cause.spared) refl

pub returns-then-is_err-clause-uses : goal.returns-then-is_err-clause-uses
returns-then-is_err-clause-uses g c = uses_both_lost c.args.self.now.left c.args.self.now.left c.args.self.now.alive c.requires.both c.requires.alive (on_err c.read_line.result (sym c.is_ok.ensures.value ∙ c.if-is_ok.false) c.read_line.ensures.cause.failed) (on_failed c.mark.result (sym c.is_err.ensures.value ∙ c.if-is_err.true) c.mark.ensures.cause.failed)

pub returns-then-is_ok-2-clause-uses : goal.returns-then-is_ok-2-clause-uses
returns-then-is_ok-2-clause-uses g c = uses_both_second c.args.self.now.left c.args.self.now.alive c.requires.both c.requires.alive (on_err c.read_line.result (sym c.is_ok.ensures.value ∙ c.if-is_ok.false) c.read_line.ensures.cause.failed) (on_ok c.read_line-2.result (sym c.is_ok-2.ensures.value ∙ c.if-is_ok-2.true) c.read_line-2.ensures.cause.spared ∙ on_done c.mark.result (sym c.is_err.ensures.value ∙ c.if-is_err.false) c.mark.ensures.cause.spared) c.read_line.ensures.counted

pub returns-clause-uses : goal.returns-clause-uses
returns-clause-uses g c = uses_both_lost c.args.self.now.left _ c.args.self.now.alive c.requires.both c.requires.alive (on_err c.read_line.result (sym c.is_ok.ensures.value ∙ c.if-is_ok.false) c.read_line.ensures.cause.failed) (failed_after (on_done c.mark.result (sym c.is_err.ensures.value ∙ c.if-is_err.false) c.mark.ensures.cause.spared) (on_err c.read_line-2.result (sym c.is_ok-2.ensures.value ∙ c.if-is_ok-2.false) c.read_line-2.ensures.cause.failed))

pub returns-then-is_err-clause-asks : goal.returns-then-is_err-clause-asks
returns-then-is_err-clause-asks g c = asks_none c.args.self.now.left
