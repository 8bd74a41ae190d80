use Rattle.std.proofs.Common.{◌≡◌, ◌≢◌, refl, sym, ◌∙◌, arith}
use Rattle.monitors.specs.Held.{IsAt, IsFree}
use Rattle.monitors.specs.Indexed.{IsIndex}
use Rattle.monitors.proofs.Becomes.{owner_none, owner_other, owner_is, remove_exited, set_exited, held_exited, held_removed}
use Rattle.monitors.proofs.Becomes.{count_some, index_removed}
use Rattle.monitors.proofs.monitors.Monitors.exit.Goals as goal

pub returns-in_default-clause-owner : goal.returns-in_default-clause-owner
returns-in_default-clause-owner c =
    let free : IsFree c.args.self.now c.args.key = rw (← c.self.view_is, ← c.deref.ensures.value) (c.in_default.ensures.none refl) in
    owner_none c.args.self.now c.args.key c.args.t free

pub returns-then-number-clause-owner : goal.returns-then-number-clause-owner
returns-then-number-clause-owner c =
    let at : IsAt c.self.inside.held.items c.args.key c.in-Some.at = rw (← c.deref.ensures.value) c.in-Some.ensures.found in
    let other : c.index.result.now.owner ≢ c.args.t = λ e. c.if-number.true (c.number.ensures.same ∙ e ∙ sym c.number-2.ensures.same) in
    rw (← c.self.view_is) (owner_other c.self.inside.held.items c.args.key c.args.t c.in-Some.at c.index.result.now c.self.invariant.sound at c.index.ensures other)

pub link_from-requires-clause-before : goal.link_from-requires-clause-before
link_from-requires-clause-before c =
    let at : IsAt c.self.inside.held.items c.args.key c.in-Some.at = rw (← c.deref.ensures.value) c.in-Some.ensures.found in
    let before : IsIndex c.self.inside.held.items c.unlink_from.new.self.latest.items c.unlink_from.new.self.earlier.items c.in-Some.at
    = rw (← c.deref-then-count-eq1.ensures.value) c.unlink_from.ensures.unlinked in
    rw (c.deref-then-count-eq1-2.ensures.value, c.remove.ensures.items)
    (index_removed c.self.inside.held.items c.unlink_from.new.self.latest.items c.unlink_from.new.self.earlier.items c.in-Some.at at.is_in before)

pub invariant_of-self : goal.invariant_of-self
invariant_of-self c =
    let at : IsAt c.self.inside.held.items c.args.key c.in-Some.at = rw (← c.deref.ensures.value) c.in-Some.ensures.found in
    held_removed c.self.inside.held.items c.remove.new.self.items c.args.key _ c.in-Some.at c.link_from.new.self.latest.items
    c.link_from.new.self.earlier.items c.index.result.now c.self.invariant.sound c.self.invariant.few
    (omega (arith, c.self.invariant.fit, c.remove.ensures.capacity)) at c.index.ensures c.if-count-eq1.true c.remove.ensures.items
    (rw (← c.deref-then-count-eq1-2.ensures.value) c.link_from.ensures.linked)

pub overflow_sub-index_mut : goal.overflow_sub-index_mut
overflow_sub-index_mut c =
    let at : IsAt c.self.inside.held.items c.args.key c.in-Some.at = rw (← c.deref.ensures.value) c.in-Some.ensures.found in
    count_some c.self.inside.held.items c.in-Some.at c.index_mut.result.now c.self.invariant.sound at.is_in c.index_mut.ensures.value

pub invariant_of-self-else-count-eq1 : goal.invariant_of-self-else-count-eq1
invariant_of-self-else-count-eq1 c =
    let at : IsAt c.self.inside.held.items c.args.key c.in-Some.at = rw (← c.deref.ensures.value) c.in-Some.ensures.found in
    held_exited c.self.inside.held.items c.args.key _ c.in-Some.at c.self.inside.index.latest.items c.self.inside.index.earlier.items
    c.index.result.now c.index_mut.result.now c.self.invariant at c.index.ensures c.index_mut.ensures.value c.if-count-eq1.false

pub returns-then-count-eq1-clause-owner : goal.returns-then-count-eq1-clause-owner
returns-then-count-eq1-clause-owner c =
    let at : IsAt c.self.inside.held.items c.args.key c.in-Some.at = rw (← c.deref.ensures.value) c.in-Some.ensures.found in
    let same : c.index.result.now.owner ≡ c.args.t = sym c.number.ensures.same ∙ c.if-number.false ∙ c.number-2.ensures.same in
    rw (← c.self.view_is) (owner_is c.self.inside.held.items c.args.key c.args.t c.in-Some.at c.index.result.now c.self.invariant.sound at c.index.ensures same)

pub returns-then-count-eq1-clause-left : goal.returns-then-count-eq1-clause-left
returns-then-count-eq1-clause-left c e =
    let at : IsAt c.self.inside.held.items c.args.key c.in-Some.at = rw (← c.deref.ensures.value) c.in-Some.ensures.found in
    rw (← c.self.view_is) (c.remove.ensures.items
    ∙ remove_exited c.self.inside.held.items c.args.key c.in-Some.at c.index.result.now c.self.invariant.sound at c.index.ensures c.if-count-eq1.true)

pub returns-else-count-eq1-clause-owner : goal.returns-else-count-eq1-clause-owner
returns-else-count-eq1-clause-owner c =
    let at : IsAt c.self.inside.held.items c.args.key c.in-Some.at = rw (← c.deref.ensures.value) c.in-Some.ensures.found in
    let same : c.index.result.now.owner ≡ c.args.t = sym c.number.ensures.same ∙ c.if-number.false ∙ c.number-2.ensures.same in
    rw (← c.self.view_is) (owner_is c.self.inside.held.items c.args.key c.args.t c.in-Some.at c.index.result.now c.self.invariant.sound at c.index.ensures same)

pub returns-else-count-eq1-clause-left : goal.returns-else-count-eq1-clause-left
returns-else-count-eq1-clause-left c e =
    let at : IsAt c.self.inside.held.items c.args.key c.in-Some.at = rw (← c.deref.ensures.value) c.in-Some.ensures.found in
    rw (← c.self.view_is) (set_exited c.self.inside.held.items c.args.key c.in-Some.at c.index.result.now c.index_mut.result.now
    c.self.invariant.sound at c.index.ensures c.index_mut.ensures.value c.if-count-eq1.false)
