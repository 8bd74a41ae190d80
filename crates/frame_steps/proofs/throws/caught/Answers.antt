use Rattle.std.proofs.Common.{◌≡◌, suc, ◌+◌, drop, ap, ◌∙◌, drop-cons, arith}
use Rattle.frames.specs.Tables.{caught_by}
use Rattle.frame_steps.proofs.throws.caught.Goals as goal

pub loop-handler-preserved : goal.loop-handler-preserved
loop-handler-preserved g c =
    let e = drop-cons c.args.handlers.now c.loop-handler.handler-index _ c.loop-handler-test.true in
    c.loop-handler.invariant ∙
    ap (λ hs. caught_by c.args.program.now hs c.args.at c.args.class) e ∙ c.in-Passes.ensures _ ∙
    ap (λ k. caught_by c.args.program.now (drop k c.args.handlers.now) c.args.at c.args.class)
    (let q : suc c.loop-handler.handler-index ≡ c.loop-handler.handler-index + 1 = omega arith in q)
