use Rattle.std.proofs.Common.{◌≡◌, ◌+◌, ◌-◌, ◌++◌, [], ◌∷◌, suc, length, ap, sym, ◌∙◌, arith, append_assoc}
use Rattle.class_set.specs.Members.{superclasses_in}
use Rattle.class_set.proofs.Chains.{chain_ends, chain_next}
use Rattle.class_set.proofs.supers.superclasses.Goals as goal

pub loop-preserved : goal.loop-preserved
loop-preserved c =
    let supers = c.args.supers.now in
    let left = length supers - c.loop.counter in
    let next = length supers - (c.loop.counter + 1) in
    let more : left ≡ suc next = omega arith in
    record {
      count = c.loop.invariant.count;
      rest = ap (λ xs. xs ++ superclasses_in supers next c.in-Some.above) c.in_ok-push.ensures.items
          ∙ append_assoc c.loop.chain.items (c.loop.at ∷ []) (superclasses_in supers next c.in-Some.above)
          ∙ ap (λ ns. c.loop.chain.items ++ ns) (sym (chain_next supers next left c.loop.at c.in-Some.above more (sym c.super_at.ensures ∙ c.in-Some.is)))
          ∙ c.loop.invariant.rest;
    }

pub returns-in_default : goal.returns-in_default
returns-in_default c =
    let supers = c.args.supers.now in
    let left = length supers - c.loop.counter in
    let more : left ≡ suc (length supers - (c.loop.counter + 1)) = omega arith in
    c.in_ok-push.ensures.items
    ∙ ap (λ ns. c.loop.chain.items ++ ns)
    (sym (chain_ends supers (length supers - (c.loop.counter + 1)) left c.loop.at more (sym c.super_at.ensures ∙ c.in_default.is)))
    ∙ c.loop.invariant.rest
