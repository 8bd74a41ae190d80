use Rattle.std.proofs.Common.{rules, ◌≡◌, false, length, ap, ◌∙◌, arith}
use Rattle.std.specs.Prelude.{is_some}
use Rattle.text_table.specs.Texts.{place_of, with_text}
use Rattle.class_set.specs.Linked.{Linked, with_array}
use Rattle.class_set.specs.Tables.{AreNames, linked_of}
use Rattle.class_set.proofs.Above.{supers_counted}
use Rattle.class_set.proofs.Added.{array_added, named_after, on_err, on_ok}
use Rattle.class_set.proofs.Grown.{arrays_grown, linked_grown, shapes_grown}
use Rattle.class_set.proofs.set.ClassSet.number_array.Goals as goal

pub overflow_cast-classes : goal.overflow_cast-classes
overflow_cast-classes c =
    let size : c.len-classes.result ≡ length c.self.inside.supers.items = search rules in
    omega (arith, size, ap length c.self.invariant.0.above, supers_counted c.self.inside.files.items, c.self.invariant.0.few)

pub invariant_of-self : goal.invariant_of-self
invariant_of-self c =
    let r = c.push_array.result in
    let files = c.self.inside.files.items in
    let names = c.self.inside.names in
    let new = c.push_array.new.names in
    let text = c.args.descriptor.now in
    let named = c.self.invariant.0.named in
    let added = c.push_array.ensures.names in
    let unnamed = c.push_array.ensures.same_names in
    let size : c.len-classes.result ≡ length c.self.inside.supers.items = search rules in
    let are : AreNames files names c.len-classes.result =
    record { listed = named; count = size ∙ ap length c.self.invariant.0.above ∙ supers_counted files } in
    let none : is_some (place_of names text) ≡ false = search rules in (
      record {
        few = c.self.invariant.0.few;
        small = c.self.invariant.0.small;
        named = named_after r files names new text named added unnamed;
        above = c.self.invariant.0.above;
        texts = c.self.invariant.0.texts;
        starts = c.self.invariant.0.starts;
      },
      record {
        shapes_listed = shapes_grown r files names new text c.self.inside.shapes.items c.push_array.new.shapes.items named none
            c.self.invariant.1.shapes_listed added unnamed (c.push_array.ensures.shapes files are) c.push_array.ensures.same_shapes;
        arrays_listed = arrays_grown r files names new text c.self.inside.arrays.items c.push_array.new.arrays.items named none
            c.self.invariant.1.arrays_listed added unnamed (c.push_array.ensures.arrays files are) c.push_array.ensures.same_arrays;
        made_listed = c.self.invariant.1.made_listed;
      },
      c.self.invariant.2,
      linked_grown r files names new text named c.requires.array c.self.invariant.3 added unnamed,
    )

pub returns-clause-numbered : goal.returns-clause-numbered
returns-clause-numbered c =
    let files = c.self.inside.files.items in
    let names = c.self.inside.names in
    let text = c.args.descriptor.now in
    on_ok c.push_array.result
    (λ (e : c.push_array.new.names ≡ with_text names text). ap (linked_of files) e
    ∙ array_added files names text c.self.invariant.0.named
    ∙ ap (λ (s : Linked). with_array s text) c.self.view_is) c.push_array.ensures.names

pub returns-clause-same : goal.returns-clause-same
returns-clause-same c =
    let files = c.self.inside.files.items in
    on_err c.push_array.result
    (λ (e : c.push_array.new.names ≡ c.self.inside.names). ap (linked_of files) e ∙ c.self.view_is) c.push_array.ensures.same_names
