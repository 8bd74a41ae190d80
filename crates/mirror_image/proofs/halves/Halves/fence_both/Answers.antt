use Rattle.std.proofs.Common.{ℕ, false, ◌-◌, refl, sym, ◌∙◌, ap}
use Rattle.mirror_image.proofs.Exits.{on_ok, on_err, on_done}
use Rattle.mirror_image.proofs.Writes.{on_failed, failed_is}
use Rattle.mirror_image.proofs.Safety.{exact}
use Rattle.mirror_image.proofs.Calls.{fence_exit, fence_left_exit, fence_left_lost_exit, fence_lost_exit, fence_moved_exit, fence_moved_lost_exit, fence_unmarked_exit}
use Rattle.mirror_image.proofs.Using.{failed_after, none_used, uses_both_first, uses_both_lost, uses_both_ok, uses_both_second}
use Rattle.mirror_image.proofs.halves.Halves.fence_both.Goals as goal

pub invariant_of-self : goal.invariant_of-self
invariant_of-self g c =
    let e = exact (fence_unmarked_exit _ c.args.self.now.generation (g.A.Image.told c.args.self.now.a) (g.B.Image.told c.args.self.now.b) _ _ _ _ c.requires.both c.requires.alive c.args.self.now.sound c.args.self.now.safe (g.met.A.Image.in_order c.args.self.now.a) (g.B.Image.told c.fence.new.self) (g.A.Image.told c.mark.new.half) _ _ c.fence.ensures.size (on_failed c.fence.result (sym c.is_err.ensures.value ∙ c.if-is_err.true) c.fence.ensures.failed) (ap (λ (n : ℕ). n - 1) (c.lines.ensures.size ∙ c.fence.ensures.size ∙ c.args.self.now.sound.sizes)) c.in-Err.ensures.unmarked) in
    record { sound = e.sound; safe = e.safe }

pub returns-in-Err-clause-failed : goal.returns-in-Err-clause-failed
returns-in-Err-clause-failed g c = (exact (fence_unmarked_exit _ c.args.self.now.generation (g.A.Image.told c.args.self.now.a) (g.B.Image.told c.args.self.now.b) _ _ _ _ c.requires.both c.requires.alive c.args.self.now.sound c.args.self.now.safe (g.met.A.Image.in_order c.args.self.now.a) (g.B.Image.told c.fence.new.self) (g.A.Image.told c.mark.new.half) _ _ c.fence.ensures.size (on_failed c.fence.result (sym c.is_err.ensures.value ∙ c.if-is_err.true) c.fence.ensures.failed) (ap (λ (n : ℕ). n - 1) (c.lines.ensures.size ∙ c.fence.ensures.size ∙ c.args.self.now.sound.sizes)) c.in-Err.ensures.unmarked)).call

pub invariant_of-self-then-is_ok : goal.invariant_of-self-then-is_ok
invariant_of-self-then-is_ok g c =
    let e = exact (fence_left_exit _ c.args.self.now.generation (g.A.Image.told c.args.self.now.a) (g.B.Image.told c.args.self.now.b) _ _ _ _ c.requires.both c.requires.alive c.args.self.now.sound c.args.self.now.safe (g.met.A.Image.in_order c.args.self.now.a) (g.B.Image.told c.fence.new.self) (g.A.Image.told c.mark.new.half) (g.A.Image.told c.fence-then-is_err.new.self) _ c.fence.ensures.size (on_failed c.fence.result (sym c.is_err.ensures.value ∙ c.if-is_err.true) c.fence.ensures.failed) (ap (λ (n : ℕ). n - 1) (c.lines.ensures.size ∙ c.fence.ensures.size ∙ c.args.self.now.sound.sizes)) c.in_default.ensures.marked c.fence-then-is_err.ensures.size c.fence-then-is_err.ensures.counted (on_ok c.fence-then-is_err.result (sym c.is_ok.ensures.value ∙ c.if-is_ok.true) c.fence-then-is_err.ensures.fenced)) in
    record { sound = e.sound; safe = e.safe }

pub returns-then-is_ok-clause-fenced : goal.returns-then-is_ok-clause-fenced
returns-then-is_ok-clause-fenced g c = (exact (fence_left_exit _ c.args.self.now.generation (g.A.Image.told c.args.self.now.a) (g.B.Image.told c.args.self.now.b) _ _ _ _ c.requires.both c.requires.alive c.args.self.now.sound c.args.self.now.safe (g.met.A.Image.in_order c.args.self.now.a) (g.B.Image.told c.fence.new.self) (g.A.Image.told c.mark.new.half) (g.A.Image.told c.fence-then-is_err.new.self) _ c.fence.ensures.size (on_failed c.fence.result (sym c.is_err.ensures.value ∙ c.if-is_err.true) c.fence.ensures.failed) (ap (λ (n : ℕ). n - 1) (c.lines.ensures.size ∙ c.fence.ensures.size ∙ c.args.self.now.sound.sizes)) c.in_default.ensures.marked c.fence-then-is_err.ensures.size c.fence-then-is_err.ensures.counted (on_ok c.fence-then-is_err.result (sym c.is_ok.ensures.value ∙ c.if-is_ok.true) c.fence-then-is_err.ensures.fenced))).call

pub invariant_of-self-then-is_err : goal.invariant_of-self-then-is_err
invariant_of-self-then-is_err g c =
    let e = exact (fence_left_lost_exit _ c.args.self.now.generation (g.A.Image.told c.args.self.now.a) (g.B.Image.told c.args.self.now.b) _ _ _ _ c.requires.both c.requires.alive c.args.self.now.sound c.args.self.now.safe (g.met.A.Image.in_order c.args.self.now.a) (g.B.Image.told c.fence.new.self) (g.A.Image.told c.mark.new.half) (g.A.Image.told c.fence-then-is_err.new.self) _ c.fence.ensures.size (on_failed c.fence.result (sym c.is_err.ensures.value ∙ c.if-is_err.true) c.fence.ensures.failed) (ap (λ (n : ℕ). n - 1) (c.lines.ensures.size ∙ c.fence.ensures.size ∙ c.args.self.now.sound.sizes)) c.in_default.ensures.marked c.fence-then-is_err.ensures.size c.fence-then-is_err.ensures.counted (on_err c.fence-then-is_err.result (sym c.is_ok.ensures.value ∙ c.if-is_ok.false) c.fence-then-is_err.ensures.failed)) in
    record { sound = e.sound; safe = e.safe }

pub returns-then-is_err-clause-failed : goal.returns-then-is_err-clause-failed
returns-then-is_err-clause-failed g c = (exact (fence_left_lost_exit _ c.args.self.now.generation (g.A.Image.told c.args.self.now.a) (g.B.Image.told c.args.self.now.b) _ _ _ _ c.requires.both c.requires.alive c.args.self.now.sound c.args.self.now.safe (g.met.A.Image.in_order c.args.self.now.a) (g.B.Image.told c.fence.new.self) (g.A.Image.told c.mark.new.half) (g.A.Image.told c.fence-then-is_err.new.self) _ c.fence.ensures.size (on_failed c.fence.result (sym c.is_err.ensures.value ∙ c.if-is_err.true) c.fence.ensures.failed) (ap (λ (n : ℕ). n - 1) (c.lines.ensures.size ∙ c.fence.ensures.size ∙ c.args.self.now.sound.sizes)) c.in_default.ensures.marked c.fence-then-is_err.ensures.size c.fence-then-is_err.ensures.counted (on_err c.fence-then-is_err.result (sym c.is_ok.ensures.value ∙ c.if-is_ok.false) c.fence-then-is_err.ensures.failed))).call

pub invariant_of-self-then-is_ok-2 : goal.invariant_of-self-then-is_ok-2
invariant_of-self-then-is_ok-2 g c =
    let e = exact (fence_exit _ c.args.self.now.generation (g.A.Image.told c.args.self.now.a) (g.B.Image.told c.args.self.now.b) _ _ _ _ c.requires.both c.requires.alive c.args.self.now.sound c.args.self.now.safe (g.met.A.Image.in_order c.args.self.now.a) (g.A.Image.told c.fence-2.new.self) (g.B.Image.told c.fence.new.self) (g.met.B.Image.in_order c.args.self.now.b) c.fence-2.ensures.size c.fence-2.ensures.counted (on_ok c.fence-2.result (sym c.is_ok-2.ensures.value ∙ c.if-is_ok-2.true) c.fence-2.ensures.fenced) c.fence.ensures.size c.fence.ensures.counted (on_done c.fence.result (sym c.is_err.ensures.value ∙ c.if-is_err.false) c.fence.ensures.fenced)) in
    record { sound = e.sound; safe = e.safe }

pub returns-then-is_ok-2-clause-fenced : goal.returns-then-is_ok-2-clause-fenced
returns-then-is_ok-2-clause-fenced g c = (exact (fence_exit _ c.args.self.now.generation (g.A.Image.told c.args.self.now.a) (g.B.Image.told c.args.self.now.b) _ _ _ _ c.requires.both c.requires.alive c.args.self.now.sound c.args.self.now.safe (g.met.A.Image.in_order c.args.self.now.a) (g.A.Image.told c.fence-2.new.self) (g.B.Image.told c.fence.new.self) (g.met.B.Image.in_order c.args.self.now.b) c.fence-2.ensures.size c.fence-2.ensures.counted (on_ok c.fence-2.result (sym c.is_ok-2.ensures.value ∙ c.if-is_ok-2.true) c.fence-2.ensures.fenced) c.fence.ensures.size c.fence.ensures.counted (on_done c.fence.result (sym c.is_err.ensures.value ∙ c.if-is_err.false) c.fence.ensures.fenced))).call

pub invariant_of-self-then-is_err-2 : goal.invariant_of-self-then-is_err-2
invariant_of-self-then-is_err-2 g c =
    let e = exact (fence_lost_exit _ c.args.self.now.generation (g.A.Image.told c.args.self.now.a) (g.B.Image.told c.args.self.now.b) _ _ _ _ c.requires.both c.requires.alive c.args.self.now.sound c.args.self.now.safe (g.met.A.Image.in_order c.args.self.now.a) (g.B.Image.told c.fence.new.self) (g.A.Image.told c.fence-2.new.self) (g.met.B.Image.in_order c.fence.new.self) (g.met.B.Image.in_order c.args.self.now.b) c.fence.ensures.size c.fence.ensures.counted (on_done c.fence.result (sym c.is_err.ensures.value ∙ c.if-is_err.false) c.fence.ensures.fenced) c.fence-2.ensures.size c.fence-2.ensures.counted (on_err c.fence-2.result (sym c.is_ok-2.ensures.value ∙ c.if-is_ok-2.false) c.fence-2.ensures.failed) (g.B.Image.told c.mark-2.new.half) _ _ (ap (λ (n : ℕ). n - 1) (c.lines-2.ensures.size ∙ c.fence-2.ensures.size)) (failed_is c.mark-2.result (sym c.is_err-2.ensures.value ∙ c.if-is_err-2.true) c.mark-2.ensures.unmarked).1) in
    record { sound = e.sound; safe = e.safe }

pub returns-then-is_err-2-clause-failed : goal.returns-then-is_err-2-clause-failed
returns-then-is_err-2-clause-failed g c = (exact (fence_lost_exit _ c.args.self.now.generation (g.A.Image.told c.args.self.now.a) (g.B.Image.told c.args.self.now.b) _ _ _ _ c.requires.both c.requires.alive c.args.self.now.sound c.args.self.now.safe (g.met.A.Image.in_order c.args.self.now.a) (g.B.Image.told c.fence.new.self) (g.A.Image.told c.fence-2.new.self) (g.met.B.Image.in_order c.fence.new.self) (g.met.B.Image.in_order c.args.self.now.b) c.fence.ensures.size c.fence.ensures.counted (on_done c.fence.result (sym c.is_err.ensures.value ∙ c.if-is_err.false) c.fence.ensures.fenced) c.fence-2.ensures.size c.fence-2.ensures.counted (on_err c.fence-2.result (sym c.is_ok-2.ensures.value ∙ c.if-is_ok-2.false) c.fence-2.ensures.failed) (g.B.Image.told c.mark-2.new.half) _ _ (ap (λ (n : ℕ). n - 1) (c.lines-2.ensures.size ∙ c.fence-2.ensures.size)) (failed_is c.mark-2.result (sym c.is_err-2.ensures.value ∙ c.if-is_err-2.true) c.mark-2.ensures.unmarked).1)).call

pub invariant_of-self-then-is_ok-3 : goal.invariant_of-self-then-is_ok-3
invariant_of-self-then-is_ok-3 g c =
    let e = exact (fence_moved_exit _ c.args.self.now.generation (g.A.Image.told c.args.self.now.a) (g.B.Image.told c.args.self.now.b) _ _ _ _ c.requires.both c.requires.alive c.args.self.now.sound c.args.self.now.safe (g.met.A.Image.in_order c.args.self.now.a) (g.B.Image.told c.fence.new.self) (g.A.Image.told c.fence-2.new.self) (g.met.B.Image.in_order c.fence.new.self) (g.met.B.Image.in_order c.args.self.now.b) c.fence.ensures.size c.fence.ensures.counted (on_done c.fence.result (sym c.is_err.ensures.value ∙ c.if-is_err.false) c.fence.ensures.fenced) c.fence-2.ensures.size c.fence-2.ensures.counted (on_err c.fence-2.result (sym c.is_ok-2.ensures.value ∙ c.if-is_ok-2.false) c.fence-2.ensures.failed) (g.B.Image.told c.mark-2.new.half) (g.B.Image.told c.fence-3.new.self) _ (ap (λ (n : ℕ). n - 1) (c.lines-2.ensures.size ∙ c.fence-2.ensures.size)) (on_done c.mark-2.result (sym c.is_err-2.ensures.value ∙ c.if-is_err-2.false) c.mark-2.ensures.marked) c.fence-3.ensures.size c.fence-3.ensures.counted (on_ok c.fence-3.result (sym c.is_ok-3.ensures.value ∙ c.if-is_ok-3.true) c.fence-3.ensures.fenced)) in
    record { sound = e.sound; safe = e.safe }

pub returns-then-is_ok-3-clause-fenced : goal.returns-then-is_ok-3-clause-fenced
returns-then-is_ok-3-clause-fenced g c = (exact (fence_moved_exit _ c.args.self.now.generation (g.A.Image.told c.args.self.now.a) (g.B.Image.told c.args.self.now.b) _ _ _ _ c.requires.both c.requires.alive c.args.self.now.sound c.args.self.now.safe (g.met.A.Image.in_order c.args.self.now.a) (g.B.Image.told c.fence.new.self) (g.A.Image.told c.fence-2.new.self) (g.met.B.Image.in_order c.fence.new.self) (g.met.B.Image.in_order c.args.self.now.b) c.fence.ensures.size c.fence.ensures.counted (on_done c.fence.result (sym c.is_err.ensures.value ∙ c.if-is_err.false) c.fence.ensures.fenced) c.fence-2.ensures.size c.fence-2.ensures.counted (on_err c.fence-2.result (sym c.is_ok-2.ensures.value ∙ c.if-is_ok-2.false) c.fence-2.ensures.failed) (g.B.Image.told c.mark-2.new.half) (g.B.Image.told c.fence-3.new.self) _ (ap (λ (n : ℕ). n - 1) (c.lines-2.ensures.size ∙ c.fence-2.ensures.size)) (on_done c.mark-2.result (sym c.is_err-2.ensures.value ∙ c.if-is_err-2.false) c.mark-2.ensures.marked) c.fence-3.ensures.size c.fence-3.ensures.counted (on_ok c.fence-3.result (sym c.is_ok-3.ensures.value ∙ c.if-is_ok-3.true) c.fence-3.ensures.fenced))).call

pub invariant_of-self-2 : goal.invariant_of-self-2
invariant_of-self-2 g c =
    let e = exact (fence_moved_lost_exit _ c.args.self.now.generation (g.A.Image.told c.args.self.now.a) (g.B.Image.told c.args.self.now.b) _ _ _ _ c.requires.both c.requires.alive c.args.self.now.sound c.args.self.now.safe (g.met.A.Image.in_order c.args.self.now.a) (g.B.Image.told c.fence.new.self) (g.A.Image.told c.fence-2.new.self) (g.met.B.Image.in_order c.fence.new.self) (g.met.B.Image.in_order c.args.self.now.b) c.fence.ensures.size c.fence.ensures.counted (on_done c.fence.result (sym c.is_err.ensures.value ∙ c.if-is_err.false) c.fence.ensures.fenced) c.fence-2.ensures.size c.fence-2.ensures.counted (on_err c.fence-2.result (sym c.is_ok-2.ensures.value ∙ c.if-is_ok-2.false) c.fence-2.ensures.failed) (g.B.Image.told c.mark-2.new.half) (g.B.Image.told c.fence-3.new.self) _ (ap (λ (n : ℕ). n - 1) (c.lines-2.ensures.size ∙ c.fence-2.ensures.size)) (on_done c.mark-2.result (sym c.is_err-2.ensures.value ∙ c.if-is_err-2.false) c.mark-2.ensures.marked) c.fence-3.ensures.size c.fence-3.ensures.counted (on_err c.fence-3.result (sym c.is_ok-3.ensures.value ∙ c.if-is_ok-3.false) c.fence-3.ensures.failed)) in
    record { sound = e.sound; safe = e.safe }

pub returns-clause-failed : goal.returns-clause-failed
returns-clause-failed g c = (exact (fence_moved_lost_exit _ c.args.self.now.generation (g.A.Image.told c.args.self.now.a) (g.B.Image.told c.args.self.now.b) _ _ _ _ c.requires.both c.requires.alive c.args.self.now.sound c.args.self.now.safe (g.met.A.Image.in_order c.args.self.now.a) (g.B.Image.told c.fence.new.self) (g.A.Image.told c.fence-2.new.self) (g.met.B.Image.in_order c.fence.new.self) (g.met.B.Image.in_order c.args.self.now.b) c.fence.ensures.size c.fence.ensures.counted (on_done c.fence.result (sym c.is_err.ensures.value ∙ c.if-is_err.false) c.fence.ensures.fenced) c.fence-2.ensures.size c.fence-2.ensures.counted (on_err c.fence-2.result (sym c.is_ok-2.ensures.value ∙ c.if-is_ok-2.false) c.fence-2.ensures.failed) (g.B.Image.told c.mark-2.new.half) (g.B.Image.told c.fence-3.new.self) _ (ap (λ (n : ℕ). n - 1) (c.lines-2.ensures.size ∙ c.fence-2.ensures.size)) (on_done c.mark-2.result (sym c.is_err-2.ensures.value ∙ c.if-is_err-2.false) c.mark-2.ensures.marked) c.fence-3.ensures.size c.fence-3.ensures.counted (on_err c.fence-3.result (sym c.is_ok-3.ensures.value ∙ c.if-is_ok-3.false) c.fence-3.ensures.failed))).call

pub returns-in-Err-clause-uses : goal.returns-in-Err-clause-uses
returns-in-Err-clause-uses g c = uses_both_lost c.args.self.now.left c.args.self.now.left c.args.self.now.alive c.requires.both c.requires.alive c.in-Err.ensures.cause.failed (on_failed c.fence.result (sym c.is_err.ensures.value ∙ c.if-is_err.true) c.fence.ensures.cause.failed)

pub returns-then-is_ok-clause-uses : goal.returns-then-is_ok-clause-uses
returns-then-is_ok-clause-uses g c = uses_both_first c.args.self.now.left c.args.self.now.alive c.requires.both c.requires.alive (on_ok c.fence-then-is_err.result (sym c.is_ok.ensures.value ∙ c.if-is_ok.true) c.fence-then-is_err.ensures.cause.spared ∙ c.in_default.ensures.cause.spared) (on_failed c.fence.result (sym c.is_err.ensures.value ∙ c.if-is_err.true) c.fence.ensures.cause.failed) c.fence.ensures.counted

pub returns-then-is_err-clause-uses : goal.returns-then-is_err-clause-uses
returns-then-is_err-clause-uses g c = uses_both_lost c.args.self.now.left _ c.args.self.now.alive c.requires.both c.requires.alive (failed_after c.in_default.ensures.cause.spared (on_err c.fence-then-is_err.result (sym c.is_ok.ensures.value ∙ c.if-is_ok.false) c.fence-then-is_err.ensures.cause.failed)) (on_failed c.fence.result (sym c.is_err.ensures.value ∙ c.if-is_err.true) c.fence.ensures.cause.failed)

pub returns-then-is_ok-2-clause-uses : goal.returns-then-is_ok-2-clause-uses
returns-then-is_ok-2-clause-uses g c = uses_both_ok c.args.self.now.left c.args.self.now.alive c.requires.both c.requires.alive (on_ok c.fence-2.result (sym c.is_ok-2.ensures.value ∙ c.if-is_ok-2.true) c.fence-2.ensures.cause.spared) (on_done c.fence.result (sym c.is_err.ensures.value ∙ c.if-is_err.false) c.fence.ensures.cause.spared)

pub returns-then-is_err-2-clause-uses : goal.returns-then-is_err-2-clause-uses
returns-then-is_err-2-clause-uses g c = uses_both_lost c.args.self.now.left c.args.self.now.left c.args.self.now.alive c.requires.both c.requires.alive (on_err c.fence-2.result (sym c.is_ok-2.ensures.value ∙ c.if-is_ok-2.false) c.fence-2.ensures.cause.failed) (failed_after (on_done c.fence.result (sym c.is_err.ensures.value ∙ c.if-is_err.false) c.fence.ensures.cause.spared) (on_failed c.mark-2.result (sym c.is_err-2.ensures.value ∙ c.if-is_err-2.true) c.mark-2.ensures.cause.failed))

pub returns-then-is_ok-3-clause-uses : goal.returns-then-is_ok-3-clause-uses
returns-then-is_ok-3-clause-uses g c = uses_both_second c.args.self.now.left c.args.self.now.alive c.requires.both c.requires.alive (on_err c.fence-2.result (sym c.is_ok-2.ensures.value ∙ c.if-is_ok-2.false) c.fence-2.ensures.cause.failed) (on_ok c.fence-3.result (sym c.is_ok-3.ensures.value ∙ c.if-is_ok-3.true) c.fence-3.ensures.cause.spared ∙ on_done c.mark-2.result (sym c.is_err-2.ensures.value ∙ c.if-is_err-2.false) c.mark-2.ensures.cause.spared ∙ on_done c.fence.result (sym c.is_err.ensures.value ∙ c.if-is_err.false) c.fence.ensures.cause.spared) c.fence-2.ensures.counted

pub returns-clause-uses : goal.returns-clause-uses
returns-clause-uses g c = uses_both_lost c.args.self.now.left _ c.args.self.now.alive c.requires.both c.requires.alive (on_err c.fence-2.result (sym c.is_ok-2.ensures.value ∙ c.if-is_ok-2.false) c.fence-2.ensures.cause.failed) (failed_after (on_done c.fence.result (sym c.is_err.ensures.value ∙ c.if-is_err.false) c.fence.ensures.cause.spared) (failed_after (on_done c.mark-2.result (sym c.is_err-2.ensures.value ∙ c.if-is_err-2.false) c.mark-2.ensures.cause.spared) (on_err c.fence-3.result (sym c.is_ok-3.ensures.value ∙ c.if-is_ok-3.false) c.fence-3.ensures.cause.failed)))

pub returns-in-Err-clause-both : goal.returns-in-Err-clause-both
returns-in-Err-clause-both g c = none_used c.args.self.now.left false refl

pub returns-then-is_ok-2-clause-both : goal.returns-then-is_ok-2-clause-both
returns-then-is_ok-2-clause-both g c = λ used. (c.fence-2.ensures.counted, c.fence.ensures.counted)

pub returns-then-is_err-2-clause-both : goal.returns-then-is_err-2-clause-both
returns-then-is_err-2-clause-both g c = none_used c.args.self.now.left false refl
