use Rattle.std.proofs.Common.{rules, ◌≡◌, Some, ap, subst}
use Rattle.plain_model.specs.Facts.{array_at}
use Rattle.class_set.specs.Facts.{facts_of}
use Rattle.class_set.specs.Tables.{AreElements, array_now, innermost_now}
use Rattle.class_set.proofs.ElementTypes.{array_elements}
use Rattle.class_set.proofs.set.ClassSet.elements_of.Goals as goal

pub returns-in-Objects-clause-of_class : goal.returns-in-Objects-clause-of_class
returns-in-Objects-clause-of_class c =
    let at : array_at (facts_of c.args.self.now) c.args.n ≡ Some (array_now c.in-Some.array.now) = search rules in
    let of : AreElements (facts_of c.args.self.now) (array_now c.in-Some.array.now).innermost =
    array_elements c.args.self.now c.args.n (array_now c.in-Some.array.now) at in
    subst (AreElements (facts_of c.args.self.now)) (ap innermost_now c.in-Objects.is) of
