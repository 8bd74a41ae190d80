use Rattle.std.proofs.Common.{length, ap, ◌∙◌, arith}
use Rattle.class_set.specs.Linked.{Linked, names_of}
use Rattle.class_set.proofs.set.ClassSet.type_count.Goals as goal

pub returns-clause-count : goal.returns-clause-count
returns-clause-count c =
    c.len.ensures ∙ ap length c.self.invariant.0.named ∙ ap (λ (s : Linked). length (names_of s)) c.self.view_is

pub returns-clause-few : goal.returns-clause-few
returns-clause-few c =
    let same = c.len.ensures ∙ ap length c.self.invariant.0.named ∙ ap (λ (s : Linked). length (names_of s)) c.self.view_is in
    omega (arith, same)
