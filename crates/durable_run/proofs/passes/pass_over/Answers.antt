use Rattle.std.proofs.Common.{◌≡◌, ◌+◌, ℕ, true, false, List, None, length, inr, refl, sym, ◌∙◌, ap, subst, arith}
use Rattle.shared_objects.specs.declared.threads.ThreadState.{ThreadState}
use Rattle.machine.specs.Passed.{asked_by}
use Rattle.durable_run.specs.Turning.{IsReady, asks_next, is_live}
use Rattle.durable_run.proofs.Passing.{IsGoing, all-ended, cause-on, dead-on, goes-less, goes-on, goes-past, has-frames, not-over, ready-on, room-so}
use Rattle.durable_run.proofs.Passing.{waits-begin}
use Rattle.durable_run.proofs.Places.{next-is}
use Rattle.durable_run.proofs.Sharing.{shares-both, shares-nothing}
use Rattle.durable_run.proofs.Sparing.{spares-both, spares-nothing, spares-on}
use Rattle.durable_run.proofs.Telling.{caused-since, told-both, told-nothing}
use Rattle.durable_run.proofs.Turns.{turns-stand, turns-stepped}
use Rattle.durable_run.proofs.passes.pass_over.Goals as goal

no-true : {P : Type 0} → false ≡ true → P
no-true e = absurd (let no : false ≡ true = e in cc)

pub threads-init : goal.threads-init
threads-init g c =
    let set = g.C.Types.facts c.args.set.now in
    let x = g.H.Host.setting c.args.host.now in record {
      ready = λ o first ready. ready;
      told = told-nothing c.args.run.now.heap.history.acts _ _;
      shares = λ o first ready. shares-nothing o.launch (g.S.Sink.takes c.args.run.now.sink)
          c.args.run.now.heap.history.acts;
      spares = λ o first ready. spares-nothing g.S.Sink.taken o.launch c.args.run.now.sink c.args.run.now.heap.history.acts;
      cause = (refl, refl);
      turns = turns-stand c.args.run.now.turns;
      going = inr (λ o first ready. waits-begin o first set x c.args.run.now.heap c.args.run.now.frames.items ready
          c.machines_end_stuck.ensures.begin c.passes_fill_rows.ensures.begin);
      dead = λ e u below. absurd (omega (arith, below));
      same = λ e. refl;
      room = λ e full. no-true e;
    }

pub threads-preserved-then-not-is_live : goal.threads-preserved-then-not-is_live
threads-preserved-then-not-is_live g c =
    let set = g.C.Types.facts c.args.set.now in
    let x = g.H.Host.setting c.args.host.now in
    let s = c.threads.run.heap in
    let t_is = next-is c.new.result c.unwrap-t.result c.threads.n c.unwrap-t.ensures c.new.ensures.same in
    let dead : is_live s.machine.rest.threads c.threads.n ≡ false
    = ap (is_live s.machine.rest.threads) (sym t_is)
    ∙ ap (λ (states : List ThreadState). is_live states c.unwrap-t.result) (sym c.threads-in-threads-2.ensures)
    ∙ sym c.is_live.ensures ∙ c.if-not-is_live.true in
    record {
      ready = c.threads.invariant.ready;
      told = c.threads.invariant.told;
      shares = c.threads.invariant.shares;
      spares = c.threads.invariant.spares;
      cause = c.threads.invariant.cause;
      turns = c.threads.invariant.turns;
      going = goes-past set x
          (λ o first. IsReady o first set x c.args.run.now.heap c.args.run.now.frames.items)
          c.args.run.now.heap s s c.threads.run.frames.items c.threads.run.frames.items c.threads.n c.threads.lived
          c.requires.ready c.threads.invariant.ready c.threads.invariant.going c.tested_waits_are_stuck.ensures.live
          c.passes_fill_rows.ensures.skip dead;
      dead = λ e. dead-on s.machine.rest.threads c.threads.n dead (c.threads.invariant.dead e);
      same = c.threads.invariant.same;
      room = c.threads.invariant.room;
    }

pub step-went-requires-clause-ready : goal.step-went-requires-clause-ready
step-went-requires-clause-ready g c =
    let r = c.requires.ready in (r.0, r.1, c.threads.invariant.ready r.0 r.1 r.2)

pub returns-in-Over-clause-goes : goal.returns-in-Over-clause-goes
returns-in-Over-clause-goes g c o first ready =
    let ended = c.in-Over.ensures.goes o first (c.threads.invariant.ready o first ready) in
    (ended.0, (c.unwrap-t.result, ended.1))

pub returns-in-Over-clause-told : goal.returns-in-Over-clause-told
returns-in-Over-clause-told g c =
    told-both _ _ _ _ _ _ _ _ _ c.threads.invariant.told c.step-went.ensures.told

pub threads-preserved : goal.threads-preserved
threads-preserved g c =
    let set = g.C.Types.facts c.args.set.now in
    let x = g.H.Host.setting c.args.host.now in
    let old = c.args.run.now.heap in
    let s = c.threads.run.heap in
    let new = c.step-went.new.run.heap in
    let went = c.step-went.result in
    let isnt = not-over went c.in_default.not-Over in
    let t = c.unwrap-t.result in
    let t_is = next-is c.new.result t c.threads.n c.unwrap-t.ensures c.new.ensures.same in
    let r = c.requires.ready in
    let count = c.count.ensures.count ∙ ap (λ (states : List ThreadState). length states) c.threads-in-threads.ensures in
    let within = c.threads-test.true in
    let fs = has-frames r.0 r.1 set x s c.threads.run.frames.items (c.threads.invariant.ready r.0 r.1 r.2) t
    (omega (arith, count, within, t_is)) in
    record {
      ready = λ o first ready. ready-on o first set x t went s new c.step-went.new.run.frames.items isnt
          (c.step-went.ensures.goes o first (c.threads.invariant.ready o first ready));
      told = told-both _ _ _ _ _ _ _ _ _ c.threads.invariant.told c.step-went.ensures.told;
      shares = λ o first ready. shares-both o.launch _ _ _ _ _ _ (c.threads.invariant.shares o first ready)
          (c.step-went.ensures.shares o first (c.threads.invariant.ready o first ready));
      spares = λ o first ready. spares-both g.S.Sink.taken o.launch None c.args.run.now.sink
          c.threads.run.sink c.step-went.new.run.sink old.history.acts s.history.acts new.history.acts
          (c.threads.invariant.spares o first ready)
          (spares-on g.S.Sink.taken o.launch new went c.threads.run.sink c.step-went.new.run.sink
          s.history.acts new.history.acts isnt
          (c.step-went.ensures.spares o first (c.threads.invariant.ready o first ready)));
      cause = caused-since None _ _ _ _ _ _ c.threads.invariant.cause
          (cause-on new went _ _ _ _ isnt c.step-went.ensures.cause);
      turns = turns-stepped _ t c.args.run.now.turns c.threads.run.turns c.step-went.new.run.turns
          c.threads.invariant.turns c.step-went.ensures.turns;
      going = subst (λ (n : ℕ). IsGoing
          (λ o first. IsReady o first set x c.args.run.now.heap c.args.run.now.frames.items) old new (n + 1) true) t_is
          (goes-on set x (λ o first. IsReady o first set x c.args.run.now.heap c.args.run.now.frames.items)
          old s new c.threads.run.frames.items c.step-went.new.run.frames.items t c.threads.lived
          c.requires.ready c.threads.invariant.ready
          (subst (λ (n : ℕ). IsGoing
          (λ o first. IsReady o first set x c.args.run.now.heap c.args.run.now.frames.items) old s n c.threads.lived)
          (sym t_is) c.threads.invariant.going) c.passes_fill_rows.ensures.on went isnt c.step-went.ensures.goes
          c.step-went.ensures.acts c.step-went.ensures.less
          (asks_next x (asked_by s.notes t) fs.0) (c.step-went.ensures.remembers fs.0 fs.1));
      dead = λ e. no-true (sym e);
      same = λ e. no-true (sym e);
      room = λ e. room-so c.threads.lived went old s _ isnt c.threads.invariant.room c.threads.invariant.same
          c.step-went.ensures.full;
    }

pub returns-then-lived-clause-less : goal.returns-then-lived-clause-less
returns-then-lived-clause-less g c e =
    let set = g.C.Types.facts c.args.set.now in
    let x = g.H.Host.setting c.args.host.now in
    let s = c.threads.run.heap in
    let count = c.count.ensures.count ∙ ap (λ (states : List ThreadState). length states) c.threads-in-threads.ensures in
    let past = c.threads-test.false in
    goes-less set x (λ o first. IsReady o first set x c.args.run.now.heap c.args.run.now.frames.items)
    c.args.run.now.heap s s c.threads.run.frames.items c.threads.run.frames.items c.threads.n c.threads.lived
    c.requires.ready c.threads.invariant.ready c.threads.invariant.going c.tested_waits_are_stuck.ensures.live
    c.passes_fill_rows.ensures.fill c.rows_begin_and_end.ensures.plain c.machines_end_stuck.ensures.live
    c.full_rows_end_runs.ensures.no_conversion c.if-lived.true (omega (arith, count, past))

pub returns-clause-goes : goal.returns-clause-goes
returns-clause-goes g c o first ready =
    let states = c.threads.run.heap.machine.rest.threads in
    let count = c.count.ensures.count ∙ ap (λ (ss : List ThreadState). length ss) c.threads-in-threads.ensures in
    let past = c.threads-test.false in (
      c.threads.invariant.ready o first ready,
      all-ended states (λ u below. c.threads.invariant.dead c.if-lived.false u (omega (arith, below, count, past))),
    )

pub returns-in-Over-clause-turns : goal.returns-in-Over-clause-turns
returns-in-Over-clause-turns g c =
    turns-stepped _ c.unwrap-t.result c.args.run.now.turns c.threads.run.turns c.step-went.new.run.turns
    c.threads.invariant.turns c.step-went.ensures.turns

pub returns-in-Over-clause-shares : goal.returns-in-Over-clause-shares
returns-in-Over-clause-shares g c o first ready =
    shares-both o.launch _ _ _ _ _ _ (c.threads.invariant.shares o first ready)
    (c.in-Over.ensures.shares o first (c.threads.invariant.ready o first ready))

pub returns-then-lived-clause-shares : goal.returns-then-lived-clause-shares
returns-then-lived-clause-shares g c = c.threads.invariant.shares

pub returns-clause-shares : goal.returns-clause-shares
returns-clause-shares g c = c.threads.invariant.shares

pub returns-in-Over-clause-spares : goal.returns-in-Over-clause-spares
returns-in-Over-clause-spares g c o first ready =
    spares-both g.S.Sink.taken o.launch _ c.args.run.now.sink c.threads.run.sink c.step-went.new.run.sink
    c.args.run.now.heap.history.acts c.threads.run.heap.history.acts c.step-went.new.run.heap.history.acts
    (c.threads.invariant.spares o first ready)
    (c.in-Over.ensures.spares o first (c.threads.invariant.ready o first ready))

pub returns-then-lived-clause-spares : goal.returns-then-lived-clause-spares
returns-then-lived-clause-spares g c = c.threads.invariant.spares

pub returns-clause-spares : goal.returns-clause-spares
returns-clause-spares g c = c.threads.invariant.spares
