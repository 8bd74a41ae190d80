use Rattle.std.proofs.Common.{◌≤◌, ◌∙◌, List, None, ap, arith, length, refl}
use Rattle.run_history.specs.Recorded.{History, Recorded}
use Rattle.durable_run.specs.Passes.{fault_of_pass}
use Rattle.durable_run.proofs.Passing.{limit-same}
use Rattle.durable_run.proofs.Sharing.{shares-both, shares-nothing}
use Rattle.durable_run.proofs.Sparing.{spares-both, spares-nothing}
use Rattle.durable_run.proofs.Telling.{caused-since, none-more, told-both, told-nothing}
use Rattle.durable_run.proofs.Turns.{turns-both, turns-stand}
use Rattle.durable_run.proofs.runs.next_act.Goals as goal

pub passes-init : goal.passes-init
passes-init g c = record {
  ready = λ o first ready. ready;
  told = told-nothing c.args.run.now.heap.history.acts _ _;
  shares = λ o first ready. shares-nothing o.launch (g.S.Sink.takes c.args.run.now.sink)
      c.args.run.now.heap.history.acts;
  spares = λ o first ready. spares-nothing g.S.Sink.taken o.launch c.args.run.now.sink c.args.run.now.heap.history.acts;
  cause = (refl, refl);
  turns = turns-stand c.args.run.now.turns;
  none = refl;
  limit = refl;
}

pub pass_over-requires : goal.pass_over-requires
pass_over-requires g c =
    let r = c.requires.ready in record { ready = (r.0, r.1, c.passes.invariant.ready r.0 r.1 r.2) }

pub returns-in_default : goal.returns-in_default
returns-in_default g c =
    let isnt = c.in_default.not-Went in record {
      goes = λ o first ready. c.pass_over.ensures.goes o first (c.passes.invariant.ready o first ready);
      told = told-both _ _ _ _ _ _ _ _ _ c.passes.invariant.told c.pass_over.ensures.told;
      shares = λ o first ready. shares-both o.launch _ _ _ _ _ _ (c.passes.invariant.shares o first ready)
          (c.pass_over.ensures.shares o first (c.passes.invariant.ready o first ready));
      spares = λ o first ready. spares-both g.S.Sink.taken o.launch (fault_of_pass c.pass_over.new.run.heap c.pass_over.result) c.args.run.now.sink
          c.passes.run.sink c.pass_over.new.run.sink c.args.run.now.heap.history.acts c.passes.run.heap.history.acts
          c.pass_over.new.run.heap.history.acts (c.passes.invariant.spares o first ready)
          (c.pass_over.ensures.spares o first (c.passes.invariant.ready o first ready));
      cause = caused-since (fault_of_pass c.pass_over.new.run.heap c.pass_over.result) _ _ _ _ _ _
          c.passes.invariant.cause c.pass_over.ensures.cause;
      turns = turns-both _ _ _ c.passes.invariant.turns c.pass_over.ensures.turns;
      full = λ full went. isnt went;
      acts = λ went. absurd (isnt went);
    }

pub returns-then-len-before-clause-told : goal.returns-then-len-before-clause-told
returns-then-len-before-clause-told g c =
    told-both _ _ _ _ _ _ _ _ _ c.passes.invariant.told c.pass_over.ensures.told

pub returns-then-len-before-clause-turns : goal.returns-then-len-before-clause-turns
returns-then-len-before-clause-turns g c = turns-both _ _ _ c.passes.invariant.turns c.pass_over.ensures.turns

pub returns-then-len-before-clause-full : goal.returns-then-len-before-clause-full
returns-then-len-before-clause-full g c full went =
    let same = ap (λ (acts : List Recorded). length acts) c.passes.invariant.none in
    let limit = c.passes.invariant.limit in
    c.in-Went.ensures.full (omega (arith, full, same, limit)) refl

pub passes-preserved : goal.passes-preserved
passes-preserved g c =
    let r = c.requires.ready in
    let same = ap (λ (acts : List Recorded). length acts) c.passes.invariant.none in
    let before = ap (λ (h : History). length h.acts) c.acts.ensures in
    let now = ap (λ (h : History). length h.acts) c.acts-in-passes.ensures in
    let told = c.pass_over.ensures.told in
    let few : length c.pass_over.new.run.heap.history.acts ≤ length c.passes.run.heap.history.acts =
    omega (arith, same, before, now, c.len.ensures.len, c.len-before.ensures.len, c.if-len-before.false) in
    record {
      ready = λ o first ready. c.in-Went.ensures.goes o first (c.passes.invariant.ready o first ready);
      told = told-both _ _ _ _ _ _ _ _ _ c.passes.invariant.told c.pass_over.ensures.told;
      shares = λ o first ready. shares-both o.launch _ _ _ _ _ _ (c.passes.invariant.shares o first ready)
          (c.in-Went.ensures.shares o first (c.passes.invariant.ready o first ready));
      spares = λ o first ready. spares-both g.S.Sink.taken o.launch None c.args.run.now.sink
          c.passes.run.sink c.pass_over.new.run.sink c.args.run.now.heap.history.acts c.passes.run.heap.history.acts
          c.pass_over.new.run.heap.history.acts (c.passes.invariant.spares o first ready)
          (c.in-Went.ensures.spares o first (c.passes.invariant.ready o first ready));
      cause = caused-since None _ _ _ _ _ _ c.passes.invariant.cause c.in-Went.ensures.cause;
      turns = turns-both _ _ _ c.passes.invariant.turns c.pass_over.ensures.turns;
      none = none-more _ _ told.further told.acts few ∙ c.passes.invariant.none;
      limit = limit-same r.0 r.1 (g.C.Types.facts c.args.set.now) (g.H.Host.setting c.args.host.now)
          c.args.run.now.heap c.pass_over.new.run.heap c.args.run.now.frames.items c.pass_over.new.run.frames.items r.2
          (c.in-Went.ensures.goes r.0 r.1 (c.passes.invariant.ready r.0 r.1 r.2));
    }

pub returns-then-len-before-clause-shares : goal.returns-then-len-before-clause-shares
returns-then-len-before-clause-shares g c o first ready = shares-both o.launch _ _ _ _ _ _ (c.passes.invariant.shares o first ready)
    (c.in-Went.ensures.shares o first (c.passes.invariant.ready o first ready))

pub returns-then-len-before-clause-goes : goal.returns-then-len-before-clause-goes
returns-then-len-before-clause-goes g c o first ready =
    c.in-Went.ensures.goes o first (c.passes.invariant.ready o first ready)

pub returns-then-len-before-clause-spares : goal.returns-then-len-before-clause-spares
returns-then-len-before-clause-spares g c o first ready =
    spares-both g.S.Sink.taken o.launch None c.args.run.now.sink
    c.passes.run.sink c.pass_over.new.run.sink c.args.run.now.heap.history.acts c.passes.run.heap.history.acts
    c.pass_over.new.run.heap.history.acts (c.passes.invariant.spares o first ready)
    (c.in-Went.ensures.spares o first (c.passes.invariant.ready o first ready))
