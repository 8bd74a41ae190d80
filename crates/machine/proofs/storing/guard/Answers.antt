use Rattle.std.proofs.Common.{◌≡◌, false, true, sym, ◌∙◌}
use Rattle.machine.proofs.Guarding.{full-comes-to, guarded-comes-to, has-log-room, is-inside, lies-at}
use Rattle.machine.proofs.storing.guard.Goals as goal

pub returns-then-log_is_full : goal.returns-then-log_is_full
returns-then-log_is_full g c =
    full-comes-to c.laws.ensures c.args.heap.now c.args.t c.args.store.now c.requires.room c.requires.apart
    c.requires.follows c.args.spot c.requires.first
    (c.log_is_full.ensures.0 c.if-log_is_full.true)

pub guard-requires-clause-inside : goal.guard-requires-clause-inside
guard-requires-clause-inside g c =
    is-inside c.laws.ensures c.args.heap.now c.args.t c.args.store.now c.requires.room c.requires.apart
    c.requires.follows c.args.spot c.requires.first c.requires.planned

pub guard-requires-clause-place : goal.guard-requires-clause-place
guard-requires-clause-place g c =
    lies-at c.laws.ensures c.args.heap.now c.args.t c.args.store.now c.requires.room c.requires.apart
    c.requires.follows c.args.spot c.requires.first c.requires.planned

pub returns : goal.returns
returns g c =
    guarded-comes-to c.laws.ensures c.args.heap.now c.args.t c.args.store.now c.requires.room c.requires.apart
    c.requires.follows c.args.spot c.requires.first
    (has-log-room c.laws.ensures c.args.heap.now c.args.t c.args.store.now c.requires.room c.requires.apart
    c.requires.follows c.args.spot c.requires.first c.requires.planned
    (λ enough. let no : false ≡ true = sym c.if-log_is_full.false ∙ c.log_is_full.ensures.1
    enough in cc))
    c.guard.new.self
    c.guard.ensures.guarded
