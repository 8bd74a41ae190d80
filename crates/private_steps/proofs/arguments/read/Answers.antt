use Rattle.std.proofs.Common.{◌≡◌, ◌∙◌, ◌-◌, [], ◌∷◌, None, Some, take, drop, sym, ap, arith, drop-cons}
use Rattle.std.proofs.lemmas.List.{drop_all}
use Rattle.code_form.specs.declared.ins.Sort.TheVariants as sort
use Rattle.frames.specs.Calls.{arguments_on}
use Rattle.private_steps.proofs.Parameters.{more-some, more-within, more-past, more-none}
use Rattle.std.proofs.lemmas.Grind.{common_steps}
use Rattle.private_steps.proofs.arguments.read.Goals as goal

pub returns-then-depth-above-clause-arguments : goal.returns-then-depth-above-clause-arguments
returns-then-depth-above-clause-arguments g c arguments h =
    let v = c.loop-sort.invariant.0 in
    let e = drop-cons c.args.parameters.now c.loop-sort.sort-index sort.Int c.loop-sort-test.true in
    let n = more-past c.args.parameters.now c.loop-sort.sort-index _ e c.args.cells.now.own c.loop-sort.above _
    v.later (omega (arith, c.if-depth-above.true, c.depth-depth.ensures.depth)) v.are in
    let k : None ≡ Some arguments = sym n ∙ h in absurd (cc k)

pub keep-requires-clause-few : goal.keep-requires-clause-few
keep-requires-clause-few g c =
    omega (arith, c.loop-sort.invariant.1, c.loop-sort.invariant.0.to_read, c.loop-sort-test.true)

pub overflow_sub-left : goal.overflow_sub-left
overflow_sub-left g c = omega (arith, c.loop-sort.invariant.0.to_read, c.loop-sort-test.true)

pub loop-sort-preserved : goal.loop-sort-preserved
loop-sort-preserved g c =
    let ps = c.args.parameters.now in
    let i = c.loop-sort.sort-index in
    let left = c.loop-sort.left in
    let v = c.loop-sort.invariant.0 in
    let e = drop-cons ps i _ c.loop-sort-test.true in
    let a = sym c.argument.ensures ∙ c.in-Some.is in
    let m = more-some ps i _ e c.args.cells.now.own c.loop-sort.above _ v.later
    c.in-Some.given c.width-above.result a c.width-above.ensures v.are in
    let b = more-within ps i _ e c.args.cells.now.own c.loop-sort.above c.in-Some.given c.width-above.result a
    c.width-above.ensures in
    let n : 2 - left ≡ 1 - (left - 1) = omega (arith, v.to_read, c.loop-sort-test.true) in
    let k = v.kept ∙ ap (λ n. take n v.later) n in (
      record {
        later = c.in-Some.given ∷ v.later;
        are = m;
        kept = c.keep.ensures.items v.later k;
        to_read = omega (arith, v.to_read);
      },
      c.keep.ensures.few,
      b,
      c.keep.ensures.room ∙ c.loop-sort.invariant.3,
    )

pub returns-in_default-clause-arguments : goal.returns-in_default-clause-arguments
returns-in_default-clause-arguments g c arguments h =
    let v = c.loop-sort.invariant.0 in
    let e = drop-cons c.args.parameters.now c.loop-sort.sort-index _ c.loop-sort-test.true in
    let n : c.argument.result ≡ None = grind (arith, common_steps) in
    let k = more-none c.args.parameters.now c.loop-sort.sort-index _ e c.args.cells.now.own c.loop-sort.above _
    v.later (sym c.argument.ensures ∙ n) v.are in
    let q : None ≡ Some arguments = sym k ∙ h in absurd (cc q)

pub returns-clause-arguments : goal.returns-clause-arguments
returns-clause-arguments g c arguments h =
    let ps = c.args.parameters.now in
    let v = c.loop-sort.invariant.0 in
    let d : drop c.loop-sort.sort-index ps ≡ [] =
    drop_all c.loop-sort.sort-index ps (omega (arith, c.loop-sort-test.false)) in
    let s : Some v.later ≡ Some arguments =
    sym (v.are ∙ ap (λ ss. arguments_on ss (drop c.loop-sort.above c.args.cells.now.own.stack) v.later) d) ∙ h in
    let same : v.later ≡ arguments = cc s in
    let n : 2 - c.loop-sort.left ≡ 2 = omega (arith, v.to_read, c.loop-sort-test.false) in
    v.kept ∙ ap (λ n. take n v.later) n ∙ ap (take 2) same
