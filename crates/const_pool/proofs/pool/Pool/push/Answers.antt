use Rattle.std.proofs.Common.{◌+◌, ◌++◌, ◌^◌, ◌<◌, length, Some, ap, sym, ◌∙◌, subst, arith}
use Rattle.const_pool.specs.Pool.{Slots, Names, Refers, slots_of}
use Rattle.const_pool.proofs.Lookups.{IsPool-push, Names-append}
use Rattle.const_pool.proofs.pool.Pool.push.Goals as goal

pub invariant_of-self-2 : goal.invariant_of-self-2
invariant_of-self-2 c =
    let slots = c.self.inside.slots in
    let named = subst (λ (s : Slots). Refers s (Some c.args.entry)) (sym c.self.view_is) c.requires.named in
    let room : length slots.items + length (slots_of c.args.entry) < 2 ^ 16 = omega (arith, slots.ok) in
    rw c.in_ok-push_entry.ensures.items (IsPool-push slots.items c.args.entry c.self.invariant c.requires.fits named room)

pub returns-clause-kept : goal.returns-clause-kept
returns-clause-kept c index tag named =
    let more = slots_of c.args.entry in
    let new = c.in_ok-push_entry.ensures.items ∙ ap (λ (s : Slots). s ++ more) c.self.view_is in
    subst (λ (s : Slots). Names s (index, tag)) (sym new) (Names-append c.args.self.now more (index, tag) named)
