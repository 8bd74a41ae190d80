use Rattle.std.proofs.Common.{◌≡◌, ◌≢◌, refl, sym, ◌∙◌}
use Rattle.monitors.specs.Held.{IsAt, IsFree}
use Rattle.monitors.proofs.Firsts.{held_free}
use Rattle.monitors.proofs.Becomes.{answer_held, answer_taken, set_entered, held_entered}
use Rattle.monitors.proofs.monitors.Monitors.enter.Goals as goal

pub take-requires : goal.take-requires
take-requires c =
    let free : IsFree c.args.self.now c.args.key = rw (← c.self.view_is, ← c.deref.ensures.value) (c.in_default.ensures.none refl) in
    record { free = held_free c.args.self.now c.args.key free }

pub returns-then-number-clause-answer : goal.returns-then-number-clause-answer
returns-then-number-clause-answer c =
    let at : IsAt c.self.inside.held.items c.args.key c.in-Some.at = rw (← c.deref.ensures.value) c.in-Some.ensures.found in
    let other : c.index-found.result.now.owner ≢ c.args.t = λ e. c.if-number.true (c.number.ensures.same ∙ e ∙ sym c.number-2.ensures.same) in
    rw (← c.self.view_is) (answer_held c.self.inside.held.items c.args.key c.args.t c.in-Some.at c.index-found.result.now c.self.invariant.sound at c.index-found.ensures other)

pub invariant_of-self : goal.invariant_of-self
invariant_of-self c =
    let at : IsAt c.self.inside.held.items c.args.key c.in-Some.at = rw (← c.deref.ensures.value) c.in-Some.ensures.found in
    held_entered c.self.inside.held.items c.args.key _ c.args.t c.in-Some.at c.saturating_add.result c.self.inside.index.latest.items
    c.self.inside.index.earlier.items c.index-found.result.now c.index_mut.result.now c.self.invariant at c.index-found.ensures c.index_mut.ensures.value
    c.saturating_add.ensures

pub returns-clause-answer : goal.returns-clause-answer
returns-clause-answer c =
    let at : IsAt c.self.inside.held.items c.args.key c.in-Some.at = rw (← c.deref.ensures.value) c.in-Some.ensures.found in
    let same : c.index-found.result.now.owner ≡ c.args.t = sym c.number.ensures.same ∙ c.if-number.false ∙ c.number-2.ensures.same in
    rw (← c.self.view_is) (answer_taken c.self.inside.held.items c.args.key c.args.t c.in-Some.at c.index-found.result.now c.self.invariant.sound at c.index-found.ensures same)

pub returns-clause-taken : goal.returns-clause-taken
returns-clause-taken c e =
    let at : IsAt c.self.inside.held.items c.args.key c.in-Some.at = rw (← c.deref.ensures.value) c.in-Some.ensures.found in
    rw (← c.self.view_is) (set_entered c.self.inside.held.items c.args.key c.args.t c.in-Some.at c.saturating_add.result c.index-found.result.now
    c.index_mut.result.now c.self.invariant.sound at c.index-found.ensures c.index_mut.ensures.value c.saturating_add.ensures)
