use Rattle.std.proofs.Common.{◌-◌, ◌+◌, sym, ◌∙◌, arith}
use Rattle.plain_model.specs.Facts.{classes_of}
use Rattle.class_set.specs.Facts.{facts_of}
use Rattle.class_set.specs.Lookups.{own_method}
use Rattle.class_set.proofs.Above.{here_some, next_super, none_own}
use Rattle.class_set.proofs.set.ClassSet.find_method.Goals as goal

pub returns-then-is_some : goal.returns-then-is_some
returns-then-is_some c =
    let set = c.args.self.now in
    let left = c.named_count-end.result - c.loop.counter in
    sym (c.loop.invariant.rest
    ∙ here_some (own_method set c.args.name.now c.args.descriptor.now) (classes_of (facts_of set)) (left - 1) left c.loop.at
    c.own_method-found.result (omega arith) (sym c.own_method-found.ensures) (sym c.is_some.ensures ∙ c.if-is_some.true))

pub loop-preserved : goal.loop-preserved
loop-preserved c =
    let set = c.args.self.now in
    let left = c.named_count-end.result - c.loop.counter in
    let next = c.named_count-end.result - (c.loop.counter + 1) in
    record {
      count = c.loop.invariant.count;
      rest = c.loop.invariant.rest
          ∙ next_super (own_method set c.args.name.now c.args.descriptor.now) (classes_of (facts_of set)) next left c.loop.at c.in_ok-at.at
          (omega arith) (none_own (own_method set c.args.name.now c.args.descriptor.now c.loop.at)
          c.own_method-found.result (sym c.own_method-found.ensures) (sym c.is_some.ensures ∙ c.if-is_some.false))
          (sym c.superclass.ensures ∙ c.in_ok-at.was);
    }
