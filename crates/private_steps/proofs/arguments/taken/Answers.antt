use Rattle.std.proofs.Common.{◌≡◌, ◌∙◌, ◌∷◌, None, sym, arith, drop-cons}
use Rattle.code_form.specs.declared.ins.Sort.TheVariants as sort
use Rattle.private_steps.proofs.Parameters.{more-some, more-count, more-within, more-past, more-none}
use Rattle.std.proofs.lemmas.Grind.{common_steps}
use Rattle.private_steps.proofs.arguments.taken.Goals as goal

pub returns-then-depth-above : goal.returns-then-depth-above
returns-then-depth-above g c =
    let e = drop-cons c.args.parameters.now c.loop-sort.sort-index sort.Int c.loop-sort-test.true in
    more-past c.args.parameters.now c.loop-sort.sort-index _ e c.args.cells.now.own c.loop-sort.above _
    c.loop-sort.invariant.0.0 (omega (arith, c.if-depth-above.true, c.depth-depth.ensures.depth))
    c.loop-sort.invariant.0.1

pub loop-sort-preserved : goal.loop-sort-preserved
loop-sort-preserved g c =
    let ps = c.args.parameters.now in
    let i = c.loop-sort.sort-index in
    let e = drop-cons ps i _ c.loop-sort-test.true in
    let a = sym c.argument.ensures ∙ c.in-Some.is in (
      (
        c.in-Some._given ∷ c.loop-sort.invariant.0.0,
        more-some ps i _ e c.args.cells.now.own c.loop-sort.above _ c.loop-sort.invariant.0.0 c.in-Some._given
            c.width-above.result a c.width-above.ensures c.loop-sort.invariant.0.1,
      ),
      more-count ps i _ e _ c.loop-sort.above c.width-above.result c.width-above.ensures c.loop-sort.invariant.1,
      more-within ps i _ e c.args.cells.now.own c.loop-sort.above c.in-Some._given c.width-above.result a
          c.width-above.ensures,
    )

pub returns-in_default : goal.returns-in_default
returns-in_default g c =
    let e = drop-cons c.args.parameters.now c.loop-sort.sort-index _ c.loop-sort-test.true in
    let n : c.argument.result ≡ None = grind (arith, common_steps) in
    more-none c.args.parameters.now c.loop-sort.sort-index _ e c.args.cells.now.own c.loop-sort.above _
    c.loop-sort.invariant.0.0 (sym c.argument.ensures ∙ n) c.loop-sort.invariant.0.1
