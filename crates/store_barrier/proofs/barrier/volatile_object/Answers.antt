use Rattle.std.proofs.Common.{sym, ◌∙◌, subst}
use Rattle.std.proofs.lemmas.Bool.{false≢true}
use Rattle.ap_base.specs.References.{reference_word}
use Rattle.twin_forms.specs.Table.{Names, entry}
use Rattle.machine_forms.specs.Passed.{IsItem}
use Rattle.store_barrier.proofs.Holders.{same_ref, to_object}
use Rattle.store_barrier.proofs.barrier.volatile_object.Goals as goal

pub returns-then-in_p : goal.returns-then-in_p
returns-then-in_p g c = record {
  some = λ _ _ _. tt;
  none = λ es h _ object v.
      (let same = same_ref object c.in-Ref.object (sym v.reference ∙ c.in-Ref.is) in
      v.asked.outside ((c.in_p.ensures.durable es v.number h v.asked.there
      (subst (λ r. Names (entry es v.number) (reference_word r)) same v.asked.names)).0 c.if-in_p.true));
}

pub returns-else-in_p : goal.returns-else-in_p
returns-else-in_p g c = record {
  some = λ es h to.
      (let found = to_object es c.in-Ref.object (subst (IsItem es) c.in-Ref.is to)
      c.in_default-object.not-Null in
      record {
        reference = c.in-Ref.is;
        number = found.0;
        asked = record {
          there = found.1;
          names = found.2;
          outside = λ p. false≢true (sym c.if-in_p.false
              ∙ (c.in_p.ensures.durable es found.0 h found.1 found.2).1 p);
        };
      });
  none = λ es h e object v. false≢true (sym e);
}
