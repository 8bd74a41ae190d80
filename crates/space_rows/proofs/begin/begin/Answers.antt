use Rattle.std.proofs.Common.{◌≡◌, [], ◌∷◌, ◌++◌, map, length, sym, ◌∙◌, ap, subst, rules}
use Rattle.ap_base.specs.declared.reference.Ref.TheVariants.{Persistent}
use Rattle.class_set.specs.Facts.{facts_of}
use Rattle.twin_forms.specs.Sights.{sight}
use Rattle.twin_forms.specs.Table.{Lies}
use Rattle.twin_heap.specs.Here.{kinds_of, opening}
use Rattle.two_spaces.specs.Seen.{Spaces}
use Rattle.two_spaces.specs.Starts.{AreSame}
use Rattle.space_rows.specs.Beginnings.{HasArray, HasInts, IsFirst}
use Rattle.space_rows.specs.Worlds.{HoldsOf}
use Rattle.space_rows.proofs.Beginning.{first_holds, opens}
use Rattle.space_rows.proofs.begin.begin.Goals as goal

pub new-requires-clause-opening : goal.new-requires-clause-opening
new-requires-clause-opening c =
    opens c.in_ok-memory.memory c.shapes-shapes.result.now c.in-Some.shape c.in_ok-memory.ensures
    (subst (λ xs. HasInts xs c.in-Some.shape) (sym c.shapes-shapes.ensures.shapes) c.in-Some.ensures)

pub returns : goal.returns
returns c =
    let set = facts_of c.args.classes.now.set in
    let heap = c.in-Ok.heap in
    let copied = c.in_ok-copied.ensures in
    let s : Spaces = record {
      twin = record { space = heap.space; memory = heap.memory; marks = heap.marks };
      shapes = c.in_ok-copied.field-0;
      classes = c.in_ok-same.field-0.items;
      numbers = c.in_ok-same-2.field-0.items;
      statics = c.in_ok-statics.field-0.items;
    } in
    let first : IsFirst set s c.in_ok-rest.field-0 c.in-Some.shape = record {
      consistent = c.linked_sets_are_consistent.ensures.consistent c.args.classes.now.set c.shapes-shapes.ensures.linked;
      shapes = copied ∙ c.shapes-shapes.ensures.shapes;
      kinds = c.in-Ok.ensures.kinds ∙ ap (map kinds_of) (sym copied);
      classes = subst (λ n. AreSame n c.in_ok-same.field-0.items) (ap length (sym copied)) c.in_ok-same.ensures;
      numbers = subst (λ n. AreSame n c.in_ok-same-2.field-0.items) (ap length (sym copied)) c.in_ok-same-2.ensures;
      valid = subst (λ m. Lies (sight heap.space heap.memory heap.marks) (opening m (20577 ∷ [])))
          (sym c.in-Ok.ensures.memory) c.in-Ok.ensures.valid;
      array = subst (λ m. HasArray m c.in-Some.shape) (sym c.in-Ok.ensures.memory) c.in_ok-memory.ensures;
      ints = subst (λ xs. HasInts xs c.in-Some.shape) (sym (copied ∙ c.shapes-shapes.ensures.shapes)) c.in-Some.ensures;
      statics = c.in_ok-statics.ensures;
      kept = c.has_statics.ensures (search (rules, c.if-not-has_statics.false));
      rested = c.in_ok-rest.ensures;
    } in
    let refs : c.push.new.self.items ≡ Persistent 20577 ∷ [] =
    c.in_ok-push.ensures.items ∙ ap (λ xs. xs ++ Persistent 20577 ∷ []) c.new-refs.ensures.items in
    subst (λ xs. HoldsOf set s c.in_ok-rest.field-0 xs 20579 0 0) (sym refs)
    (first_holds set s c.in_ok-rest.field-0 c.in-Some.shape first)
