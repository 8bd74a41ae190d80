use Rattle.std.proofs.Common.{rules, ◌≡◌, Some, None, ap, sym, ◌∙◌}
use Rattle.plain_model.specs.Facts.{array_named}
use Rattle.text_table.specs.Texts.{place_of}
use Rattle.class_set.specs.Linked.{Linked}
use Rattle.class_set.specs.Facts.{facts_of}
use Rattle.class_set.specs.Tables.{linked_of}
use Rattle.class_set.proofs.Above.{names_counted}
use Rattle.class_set.proofs.Places.{array_at_end, array_at_place}
use Rattle.class_set.proofs.set.ClassSet.array_named.Goals as goal

pub returns-in-Some : goal.returns-in-Some
returns-in-Some c =
    let set = linked_of c.self.inside.files.items c.self.inside.names in
    let t = c.args.descriptor.now in
    let found : place_of c.self.inside.names t ≡ Some c.in-Some.number = search rules in
    array_at_place set t c.in-Some.number c.self.invariant.0.small c.requires.array (ap (λ ns. place_of ns t) (sym c.self.invariant.0.named) ∙ found)
    ∙ ap (λ (s : Linked). array_named (facts_of s) t) c.self.view_is

pub returns-in-None : goal.returns-in-None
returns-in-None c =
    let set = linked_of c.self.inside.files.items c.self.inside.names in
    let t = c.args.descriptor.now in
    let none : place_of c.self.inside.names t ≡ None = search rules in
    c.len.ensures
    ∙ names_counted c.self.inside.files.items c.self.inside.names c.self.invariant.0.named
    ∙ array_at_end set t c.self.invariant.0.small c.requires.array (ap (λ ns. place_of ns t) (sym c.self.invariant.0.named) ∙ none)
    ∙ ap (λ (s : Linked). array_named (facts_of s) t) c.self.view_is
