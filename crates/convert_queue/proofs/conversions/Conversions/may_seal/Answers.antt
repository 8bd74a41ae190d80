use Rattle.std.proofs.Common.{ℕ, false, refl, sym, subst, ◌∙◌}
use Rattle.std.proofs.lemmas.Bool.{both_ways}
use Rattle.convert_queue.specs.Queues.{IsSettled, IsLeastUnsettled}
use Rattle.convert_queue.proofs.conversions.Conversions.may_seal.Goals as goal

pub returns-then-not-is_settled-clause-unready : goal.returns-then-not-is_settled-clause-unready
returns-then-not-is_settled-clause-unready c =
    let q = c.args.self.now in
    let set = c.group-set.result in
    subst (λ (u : ℕ). IsLeastUnsettled q c.args.t u) (sym c.thread-then-not-is_settled.ensures) (record {
      set = set;
      group = c.group-set.ensures.group;
      member = sym c.member.ensures ∙ c.if-member.true;
      unsettled = λ s.
          both_ways false refl (sym c.if-not-is_settled.true ∙ c.is_settled.ensures.settled.1 (subst (λ (u : ℕ). IsSettled q u) (sym c.thread.ensures) s));
      least = λ w lt h. c.loop-u.invariant.settled w lt h;
    })
