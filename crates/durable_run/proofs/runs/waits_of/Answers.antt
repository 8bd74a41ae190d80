use Rattle.std.proofs.Common.{◌+◌, List, Option, arith, subst, sym}
use Rattle.run_types.specs.declared.wait.On.{On}
use Rattle.durable_run.proofs.Places.{IsFilled, filled-is, fills-none, fills-one, next-is}
use Rattle.durable_run.proofs.runs.waits_of.Goals as goal

pub loop-n-init : goal.loop-n-init
loop-n-init g c = subst (λ (ws : List (Option On)). IsFilled ws c.args.heap.now.notes.waits 0) (sym c.none-waits.ensures.none)
    (fills-none c.args.heap.now.notes.waits)

pub note-requires : goal.note-requires
note-requires g c =
    let t_is = next-is c.new.result c.unwrap-t.result c.loop-n.n c.unwrap-t.ensures c.new.ensures.same in
    c.loop-n.invariant.none c.unwrap-t.result (omega (arith, t_is))

pub loop-n-preserved : goal.loop-n-preserved
loop-n-preserved g c =
    let t_is = next-is c.new.result c.unwrap-t.result c.loop-n.n c.unwrap-t.ensures c.new.ensures.same in
    subst (λ (ws : List (Option On)). IsFilled ws c.args.heap.now.notes.waits (c.loop-n.n + 1)) (sym c.note.ensures)
    (fills-one c.loop-n.waits c.args.heap.now.notes.waits c.loop-n.n c.unwrap-t.result c.waiting.result t_is
    c.loop-n-test.true c.waiting.ensures c.loop-n.invariant)

pub returns : goal.returns
returns g c = filled-is c.loop-n.waits c.args.heap.now.notes.waits c.loop-n.n c.requires c.loop-n-test.false
    c.loop-n.invariant
