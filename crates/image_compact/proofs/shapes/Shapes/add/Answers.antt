use Rattle.std.proofs.Common.{◌≡◌, ◌∙◌, ℕ, List, Option, Some, None, ap, map, sym, subst}
use Rattle.std.proofs.lemmas.Result.{on_ok_weaker, IfOk-weaker}
use Rattle.graph_model.specs.declared.types.Shape.{Shape}
use Rattle.text_table.specs.Texts.{place_of, with_text}
use Rattle.image_meaning.specs.Entries.{ShapeEntry}
use Rattle.image_compact.specs.Planning.{Lists, NumberIn}
use Rattle.image_compact.proofs.Plans.{shape_there, lists_more, number_there, number_added, none_unless}
use Rattle.image_compact.proofs.shapes.Shapes.add.Goals as goal

pub returns-in-Some-clause-lists : goal.returns-in-Some-clause-lists
returns-in-Some-clause-lists c shapes lists =
    let is : place_of c.args.self.now.names c.args.shape.now.name ≡ Some c.in-Some.number =
    cc (c.in-Some.ensures, c.as_slice-name.ensures.same) in
    subst (λ (all : List Shape). Lists all c.args.self.now)
    (sym (shape_there shapes c.args.self.now c.args.shape.now c.in-Some.number lists is)) lists

pub returns-in-Some-clause-number : goal.returns-in-Some-clause-number
returns-in-Some-clause-number c shapes lists =
    let is : place_of c.args.self.now.names c.args.shape.now.name ≡ Some c.in-Some.number =
    cc (c.in-Some.ensures, c.as_slice-name.ensures.same) in
    number_there shapes c.args.self.now c.args.shape.now c.in-Some.number lists is

pub returns-clause-lists : goal.returns-clause-lists
returns-clause-lists c shapes lists =
    let none : place_of c.args.self.now.names c.args.shape.now.name ≡ None =
    none_unless (place_of c.args.self.now.names c.args.shape.now.name)
    (λ k is. c.in_default.not-Some k (cc (c.place.ensures, c.as_slice-name.ensures.same, is))) in
    on_ok_weaker c.add.result
    (λ (added : c.add.new.self ≡ with_text c.args.self.now.names c.as_slice-name.result.now).
    lists_more shapes c.args.self.now (record { names = c.add.new.self; words = c.add_shape.new.self }) c.args.shape.now lists none
    (added ∙ ap (with_text c.args.self.now.names) c.as_slice-name.ensures.same)
    (c.in_ok-add_shape.ensures (map ShapeEntry shapes) lists.words))
    c.add.ensures.added

pub returns-clause-number : goal.returns-clause-number
returns-clause-number c shapes lists =
    let none : place_of c.args.self.now.names c.args.shape.now.name ≡ None =
    none_unless (place_of c.args.self.now.names c.args.shape.now.name)
    (λ k is. c.in_default.not-Some k (cc (c.place.ensures, c.as_slice-name.ensures.same, is))) in
    number_added shapes c.args.self.now c.args.shape.now c.add.new.self c.as_slice-name.result.now c.add.result lists none
    c.as_slice-name.ensures.same c.add.ensures.added c.add.ensures.place
