use Rattle.std.proofs.Common.{◌<◌, ◌+◌, ◌∙◌, List, ap, arith, length, sym}
use Rattle.run_history.specs.declared.act.Act.{Act}
use Rattle.run_forms.specs.Views.{ThreadFrames}
use Rattle.turnstile.specs.declared.view.Hand.{Hand}
use Rattle.turnstile.specs.Hands.{own_number}
use Rattle.turnstile.specs.Passes.{hands_of}
use Rattle.workers.proofs.Filling.{next-is}
use Rattle.workers.proofs.Seating.{first_with, rest-long, some-stock, split-number, split-rest}
use Rattle.workers.proofs.hall.seats_of.Goals as goal

pub split-pass-requires-clause-stock : goal.split-pass-requires-clause-stock
split-pass-requires-clause-stock g c κs within =
    let l = c.loop-n in
    let many = l.invariant.many in
    let below = c.loop-n-test.true in
    some-stock (hands_of l.first) c.remove-main.result l.n l.frames.items l.invariant.hands (omega (arith, many, below))

pub new-seat-requires-clause-number : goal.new-seat-requires-clause-number
new-seat-requires-clause-number g c κs within =
    let l = c.loop-n in
    let many = l.invariant.many in
    let below = c.loop-n-test.true in
    let some : 0 < length l.frames.items = omega (arith, many, below) in
    ap (λ (hands : List (Hand Act ThreadFrames)). own_number hands) c.split-pass.ensures.new
    ∙ split-number (hands_of l.first) c.remove-main.result l.n l.frames.items l.invariant.hands c.remove.result some c.remove.ensures.value
    ∙ sym (next-is c.new.result c.unwrap-thread.result l.n c.unwrap-thread.ensures c.new.ensures.same)

pub loop-n-preserved : goal.loop-n-preserved
loop-n-preserved g c =
    let l = c.loop-n in
    let many = l.invariant.many in
    let below = c.loop-n-test.true in
    let some : 0 < length l.frames.items = omega (arith, many, below) in
    let less = rest-long l.frames.items some in
    let left = ap (λ (ps : List ThreadFrames). length ps) c.remove.ensures.items in
    record {
      of = c.split-pass.ensures.of.0;
      idle = c.split-pass.ensures.idle.0;
      hands = c.split-pass.ensures.old
          ∙ split-rest (hands_of l.first) c.remove-main.result l.n l.frames.items l.invariant.hands c.remove.result some c.remove.ensures.value
          ∙ ap (λ (ps : List ThreadFrames). first_with c.remove-main.result (l.n + 1) ps) (sym c.remove.ensures.items);
      many = omega (arith, many, less, left);
    }
