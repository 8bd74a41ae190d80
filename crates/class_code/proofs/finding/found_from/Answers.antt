use Rattle.std.proofs.Common.{rules, ◌≡◌, ◌+◌, ◌-◌, ◌++◌, List, Option, length, take, drop, sym, ◌∙◌, subst, arith}
use Rattle.plain_model.specs.Facts.{classes_of, superclasses_of}
use Rattle.class_set.specs.Facts.{facts_of}
use Rattle.frames.specs.declared.program.Target.{Target}
use Rattle.class_code.specs.declared.declared.Declared.{Declared}
use Rattle.class_code.specs.Declarations.{IsFilled, declared_by, found_along, found_among}
use Rattle.class_code.proofs.Filling.{last, next, topmost, whole}
use Rattle.class_code.proofs.finding.found_from.Goals as goal

pub loop-preserved : goal.loop-preserved
loop-preserved c =
    let set = c.args.set.now in
    let left = c.named_count-end.result - c.loop.counter in
    let more = c.named_count-end.result - (c.loop.counter + 1) in
    let old = c.loop.found.items in
    let part = c.add_methods.new.found in
    let new = take c.loop.found.len (part ++ drop (length part) old) in
    let inv = c.loop.invariant in
    let given : c.deref_mut.result.now ≡ old = search rules in
    let made = subst (λ (ds : List Declared). IsFilled c.deref_mut.result.now part (λ n. found_among n ds)) c.declared_by.ensures c.add_methods.ensures in
    let among = subst (λ (xs : List (Option Target)). IsFilled xs part (λ n. found_among n (declared_by set c.loop.at))) given made in
    let size : c.loop.found.len ≡ length part = omega (arith, c.loop.found.ok.0, among.count) in
    let filled = subst (λ (xs : List (Option Target)). IsFilled old xs (λ n. found_among n (declared_by set c.loop.at)))
    (sym (whole c.loop.found.len part (drop (length part) old) size)) among in
    record {
      count = inv.count;
      size = filled.count ∙ inv.size;
      rest = λ n l. next set n (classes_of (facts_of set)) left more c.loop.at c.in-Some.superclass old new
          (found_along set n (superclasses_of (facts_of set) c.args.class)) (omega arith) (sym c.superclass.ensures ∙ c.in-Some.is)
          (omega (arith, l, inv.size)) filled (inv.rest n l);
    }

pub returns-in_default-clause-found : goal.returns-in_default-clause-found
returns-in_default-clause-found c = λ n l.
    let set = c.args.set.now in
    let left = c.named_count-end.result - c.loop.counter in
    let more = c.named_count-end.result - (c.loop.counter + 1) in
    let old = c.loop.found.items in
    let part = c.add_methods.new.found in
    let new = take c.loop.found.len (part ++ drop (length part) old) in
    let inv = c.loop.invariant in
    let given : c.deref_mut.result.now ≡ old = search rules in
    let made = subst (λ (ds : List Declared). IsFilled c.deref_mut.result.now part (λ n. found_among n ds)) c.declared_by.ensures c.add_methods.ensures in
    let among = subst (λ (xs : List (Option Target)). IsFilled xs part (λ n. found_among n (declared_by set c.loop.at))) given made in
    let size : c.loop.found.len ≡ length part = omega (arith, c.loop.found.ok.0, among.count) in
    let filled = subst (λ (xs : List (Option Target)). IsFilled old xs (λ n. found_among n (declared_by set c.loop.at)))
    (sym (whole c.loop.found.len part (drop (length part) old) size)) among in
    topmost set n (classes_of (facts_of set)) left more c.loop.at old new
    (found_along set n (superclasses_of (facts_of set) c.args.class)) (omega arith) (sym c.superclass.ensures ∙ c.in_default.is)
    (omega (arith, l, inv.size)) filled (inv.rest n l)

pub returns-clause-found : goal.returns-clause-found
returns-clause-found c = λ n l.
    let set = c.args.set.now in
    let left = c.named_count-end.result - c.loop.counter in
    let old = c.loop.found.items in
    let part = c.add_methods-2.new.found in
    let new = take c.loop.found.len (part ++ drop (length part) old) in
    let inv = c.loop.invariant in
    let given : c.deref_mut-2.result.now ≡ old = search rules in
    let made = subst (λ (ds : List Declared). IsFilled c.deref_mut-2.result.now part (λ n. found_among n ds)) c.declared_by-2.ensures c.add_methods-2.ensures in
    let among = subst (λ (xs : List (Option Target)). IsFilled xs part (λ n. found_among n (declared_by set c.loop.at))) given made in
    let size : c.loop.found.len ≡ length part = omega (arith, c.loop.found.ok.0, among.count) in
    let filled = subst (λ (xs : List (Option Target)). IsFilled old xs (λ n. found_among n (declared_by set c.loop.at)))
    (sym (whole c.loop.found.len part (drop (length part) old) size)) among in
    last set n (classes_of (facts_of set)) left c.loop.at old new
    (found_along set n (superclasses_of (facts_of set) c.args.class)) (omega arith)
    (omega (arith, l, inv.size)) filled (inv.rest n l)
