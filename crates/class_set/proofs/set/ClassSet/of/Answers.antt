use Rattle.std.proofs.Common.{◌≡◌, ◌+◌, List, map, length, ap, sym, ◌∙◌, arith, subst}
use Rattle.class_file.specs.declared.class.ClassFile.{ClassFile}
use Rattle.graph_walks.specs.Order.{visits}
use Rattle.plain_model.specs.Facts.{shapes_of}
use Rattle.plain_model.specs.First.{numbers_to}
use Rattle.text_table.specs.Texts.{with_texts}
use Rattle.class_set.specs.declared.arrays.Listed.TheVariants.{Made, Needed}
use Rattle.class_set.specs.Linked.{class_names, names_of}
use Rattle.class_set.specs.Literals.{texts_of}
use Rattle.class_set.specs.Members.{first_static, interface_edges, supers_of}
use Rattle.class_set.specs.ArrayTypes.{array_type, listed_arrays}
use Rattle.class_set.specs.Facts.{facts_of, statics_from}
use Rattle.class_set.specs.Lookups.{class_edges}
use Rattle.class_set.specs.Tables.{linked_of, reached_above, static_now}
use Rattle.class_set.specs.Sets.{IsLinked}
use Rattle.class_set.proofs.Above.{supers_counted}
use Rattle.class_set.proofs.Consistency.{linked_is}
use Rattle.class_set.proofs.Made.{AreLinked, linked_same, names_linked, names_named, types_behind}
use Rattle.class_set.proofs.set.ClassSet.of.Goals as goal

pub types-requires-clause-names : goal.types-requires-clause-names
types-requires-clause-names c =
    let files = c.args.files.items in
    let linked : AreLinked files c.add_all.new.self =
    names_linked files c.add_all.new.self c.requires.small (c.in_ok-add_all.ensures.added
    ∙ ap (λ ns. with_texts ns c.in_ok-needed.needed) (c.in_ok-names.ensures ∙ ap class_names c.as_slice.ensures.value)
    ∙ ap (with_texts (class_names files)) (c.in_ok-needed.ensures ∙ ap (listed_arrays Needed) c.as_slice-5.ensures.value)) in
    names_named files c.add_all.new.self linked ∙ ap (λ fs. names_of (linked_of fs c.add_all.new.self)) (sym c.as_slice-7.ensures.value)

pub types-requires-clause-arrays : goal.types-requires-clause-arrays
types-requires-clause-arrays c =
    let files = c.args.files.items in
    let linked : AreLinked files c.add_all.new.self =
    names_linked files c.add_all.new.self c.requires.small (c.in_ok-add_all.ensures.added
    ∙ ap (λ ns. with_texts ns c.in_ok-needed.needed) (c.in_ok-names.ensures ∙ ap class_names c.as_slice.ensures.value)
    ∙ ap (with_texts (class_names files)) (c.in_ok-needed.ensures ∙ ap (listed_arrays Needed) c.as_slice-5.ensures.value)) in
    let count : length c.as_slice-8.result.now ≡ length files + 28 =
    ap length (c.as_slice-8.ensures.value ∙ c.in_ok-supers.ensures ∙ ap supers_of c.as_slice-2.ensures.value) ∙ supers_counted files in
    types_behind files c.add_all.new.self (length c.as_slice-8.result.now) linked count

pub types-requires-clause-few : goal.types-requires-clause-few
types-requires-clause-few c =
    let files = c.args.files.items in
    let count : length c.as_slice-8.result.now ≡ length files + 28 =
    ap length (c.as_slice-8.ensures.value ∙ c.in_ok-supers.ensures ∙ ap supers_of c.as_slice-2.ensures.value) ∙ supers_counted files in
    omega (arith, count, c.requires.few)

pub invariant_of-result : goal.invariant_of-result
invariant_of-result c =
    let files = c.args.files.items in
    let linked : AreLinked files c.add_all.new.self =
    names_linked files c.add_all.new.self c.requires.small (c.in_ok-add_all.ensures.added
    ∙ ap (λ ns. with_texts ns c.in_ok-needed.needed) (c.in_ok-names.ensures ∙ ap class_names c.as_slice.ensures.value)
    ∙ ap (with_texts (class_names files)) (c.in_ok-needed.ensures ∙ ap (listed_arrays Needed) c.as_slice-5.ensures.value)) in
    let new = c.add_all.new.self in (
      record {
        few = c.requires.few;
        small = c.requires.small;
        named = names_named files new linked;
        above = c.in_ok-supers.ensures ∙ ap supers_of c.as_slice-2.ensures.value;
        texts = c.in_ok-literals.ensures ∙ ap texts_of c.as_slice-9.ensures.value;
        starts = c.in_ok-indices.ensures;
      },
      record {
        shapes_listed = c.in_ok-shapes.ensures.shapes ∙ ap (λ fs. shapes_of (facts_of (linked_of fs new))) c.as_slice-7.ensures.value;
        arrays_listed = c.in_ok-shapes.ensures.arrays ∙ ap (λ fs. map (array_type fs) (linked_of fs new).arrays) c.as_slice-7.ensures.value;
        made_listed = c.in_ok-made.ensures ∙ ap (listed_arrays Made) c.as_slice-6.ensures.value;
      },
      record {
        orders_listed = c.in_ok-orders.ensures.orders
            ∙ ap (λ (fs : List ClassFile). map (visits (class_edges fs)) (numbers_to (length fs + 28))) c.as_slice-3.ensures.value;
        above_listed = c.in_ok-orders.ensures.above
            ∙ ap (λ (fs : List ClassFile). map (reached_above (interface_edges fs) (supers_of fs)) (numbers_to (length fs + 28))) c.as_slice-3.ensures.value;
        statics_listed = subst (λ fs. map (static_now fs) c.in_ok-statics.statics.items ≡ statics_from fs 0 fs) c.as_slice-10.ensures.value
            c.in_ok-statics.ensures.statics;
        few_statics = c.in_ok-statics.ensures.few;
        firsts_listed = c.in_ok-statics.ensures.firsts
            ∙ ap (λ (fs : List ClassFile). map (first_static fs) (numbers_to (length fs))) c.as_slice-10.ensures.value;
      },
      subst IsLinked (sym (linked_same files new linked)) (linked_is files c.requires.readable c.requires.links),
    )

pub returns : goal.returns
returns c =
    let files = c.args.files.items in
    let linked : AreLinked files c.add_all.new.self =
    names_linked files c.add_all.new.self c.requires.small (c.in_ok-add_all.ensures.added
    ∙ ap (λ ns. with_texts ns c.in_ok-needed.needed) (c.in_ok-names.ensures ∙ ap class_names c.as_slice.ensures.value)
    ∙ ap (with_texts (class_names files)) (c.in_ok-needed.ensures ∙ ap (listed_arrays Needed) c.as_slice-5.ensures.value)) in
    linked_same files c.add_all.new.self linked
