use Rattle.std.proofs.Common.{◌∙◌, ◌+◌, ap, sym, map, take, get_or, subst, List}
use Rattle.std.proofs.lemmas.List.{take_all}
use Rattle.class_set.specs.Tables.{static_now}
use Rattle.text_table.specs.Texts.{with_text}
use Rattle.plain_model.specs.Facts.{StaticFacts}
use Rattle.first_heap.specs.Roots.{AreRootNames}
use Rattle.first_heap.proofs.Lists.{at_itself}
use Rattle.first_heap.proofs.Named.{root_name_added, root_name_passed}
use Rattle.first_heap.proofs.roots.root_names.Goals as goal
use Rattle.first_heap.proofs.roots.root_names.Goals.{then-field+in_ok-name+in_ok-add_name, else-field}

pub loop-field-preserved : goal.loop-field-preserved
loop-field-preserved c =
    let files = c.args.set.now.files in
    let items = c.statics-field-items.result.now in
    let index = c.loop-field.field-index in
    let names = c.loop-field.names in
    elim c.if-field.branch [
      | then-field+in_ok-name+in_ok-add_name w ↦
          subst (AreRootNames (map (static_now files) (take (index + 1) items))) (sym w.names-is)
          (root_name_added (static_now files) items (get_or items index _) index c.loop-field-test.true
          (at_itself items index _ c.loop-field-test.true)
          names c.loop-field.invariant w.add_name.new.names w.if-field.true
          (w.in_ok-add_name.ensures ∙ ap (with_text names) (w.as_slice.ensures.same ∙ w.in_ok-name.ensures)))
      | else-field w ↦
          subst (AreRootNames (map (static_now files) (take (index + 1) items))) (sym w.names-is)
          (root_name_passed (static_now files) items (get_or items index _) index c.loop-field-test.true
          (at_itself items index _ c.loop-field-test.true)
          names c.loop-field.invariant w.if-field.false)
    ]

pub returns : goal.returns
returns c =
    let files = c.args.set.now.files in
    let items = c.statics-field-items.result.now in
    subst (λ (ss : List StaticFacts). AreRootNames ss c.loop-field.names)
    (ap (map (static_now files)) (take_all c.loop-field.field-index items c.loop-field-test.false)
    ∙ c.statics-field-items.ensures)
    c.loop-field.invariant
