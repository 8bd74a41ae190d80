use Rattle.std.proofs.Common.{◌≡◌, refl, ◌∙◌, subst, arith}
use Rattle.twin_forms.specs.Sights.{sight}
use Rattle.converter.specs.Sealing.{AreSealedTo}
use Rattle.converter.proofs.seals.seal_threads.Goals as goal

pub loop-u-init : goal.loop-u-init
loop-u-init g c = record { sealed = λ v0 es0 es s. (es, s); memory = refl; kinds = refl; left = refl }

pub seal_thread-requires-clause-partly : goal.seal_thread-requires-clause-partly
seal_thread-requires-clause-partly g c = let p = c.requires.partly in let x = c.loop-u.invariant.sealed p.0 p.1 p.2 p.3 in (p.0, p.1, x.0, x.1)

pub loop-u-preserved : goal.loop-u-preserved
loop-u-preserved g c = record {
  sealed = λ v0 es0 es s. let x = c.loop-u.invariant.sealed v0 es0 es s in c.seal_thread.ensures.sealed v0 es0 x.0 x.1;
  memory = c.seal_thread.ensures.memory ∙ c.loop-u.invariant.memory;
  kinds = c.seal_thread.ensures.kinds ∙ c.loop-u.invariant.kinds;
  left = c.seal_thread.ensures.left ∙ c.loop-u.invariant.left;
}

pub returns-clause-sealed : goal.returns-clause-sealed
returns-clause-sealed g c = λ v0 es0 es s.
    let x = c.loop-u.invariant.sealed v0 es0 es s in
    let h = c.loop-u.heap in
    let last : c.loop-u.u ≡ 64 = omega arith in
    (x.0, subst (λ y. AreSealedTo c.args.queue.now v0 es0 c.args.set y 0 (sight h.space h.memory h.marks) x.0) last x.1)

pub returns-clause-memory : goal.returns-clause-memory
returns-clause-memory g c = c.loop-u.invariant.memory

pub returns-clause-kinds : goal.returns-clause-kinds
returns-clause-kinds g c = c.loop-u.invariant.kinds

pub returns-clause-left : goal.returns-clause-left
returns-clause-left g c = c.loop-u.invariant.left
