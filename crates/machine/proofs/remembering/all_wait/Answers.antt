use Rattle.std.proofs.Common.{arith, refl, subst}
use Rattle.machine_threads.specs.Testing.{IsLive, WaitsStill}
use Rattle.shared_heap.specs.Notes.{asked_by, waits_on}
use Rattle.machine.proofs.StillWaiting.{live-below, wait-more}
use Rattle.machine.proofs.remembering.all_wait.Goals.{in-Some+else-not-waits_if_live, in_default}
use Rattle.machine.proofs.remembering.all_wait.Goals as goal

pub returns-then-not-waits_if_live : goal.returns-then-not-waits_if_live
returns-then-not-waits_if_live g c roots = (
  λ no. absurd (let e = no in cc),
  λ all. (let it = (c.waits_if_live.ensures roots).1 (all c.in-Some.u) in let not = c.if-not-waits_if_live.true in cc),
)

pub loop-n-preserved : goal.loop-n-preserved
loop-n-preserved g c = record {
  below = λ roots. wait-more (g.C.Types.facts c.args.set.now) c.args.heap.now roots c.loop-n.n
      (c.loop-n.invariant.below roots) (elim c.match-new.branch [
        | in-Some+else-not-waits_if_live w ↦
            subst (λ v. IsLive c.args.heap.now.machine v → WaitsStill (g.C.Types.facts c.args.set.now)
            c.args.heap.now.machine roots (asked_by c.args.heap.now.notes) (waits_on c.args.heap.now.notes) v)
            w.in-Some.ensures.same ((w.waits_if_live.ensures roots).0 w.if-not-waits_if_live.false)
        | in_default w ↦ (λ live. absurd (let past = w.in_default.ensures.none.0 refl in
            let below = c.loop-n-test.true in omega (arith, past, below)))
      ]);
}

pub returns : goal.returns
returns g c roots = (
  λ yes u live. c.loop-n.invariant.below roots u
      (let below = live-below (g.C.Types.facts c.args.set.now) c.args.heap.now c.requires.running u live in
      let last = c.loop-n-test.false in omega (arith, below, last)) live,
  λ all. refl,
)
