use Rattle.std.proofs.Common.{List, ◌≡◌, arith, ◌+◌, ◌/◌, ℕ, length, sym, subst, slice_set}
use Rattle.std.proofs.lemmas.List.{with_items_is}
use Rattle.convert_queue.specs.declared.line_marks.Note.{Note}
use Rattle.convert_queue.specs.Notes.{IsTree, IsTreeBut}
use Rattle.convert_queue.proofs.TreeLemmas.{leaf_changed}
use Rattle.convert_queue.proofs.line_marks.replace.Goals as goal

pub mend-requires-clause-others : goal.mend-requires-clause-others
mend-requires-clause-others c =
    let notes = c.args.notes.now.items in
    let tree = c.args.tree.now.items in
    let line = c.args.line in
    subst (λ (ns : List Note). IsTreeBut ns c.deref_mut.result.now ((length c.deref_mut.result.now + line) / 2)) (sym c.deref.ensures.value)
    (subst (λ (ts : List ℕ). IsTreeBut (slice_set notes line c.args.note) ts ((length ts + line) / 2)) (sym c.deref_mut.ensures.value)
    (leaf_changed notes tree line c.args.note c.requires.tree))

pub returns-clause-tree : goal.returns-clause-tree
returns-clause-tree c =
    let ws = c.mend.new.tree in
    let long : length ws ≡ c.args.tree.now.len = omega arith in
    subst (λ (ts : List ℕ). IsTree (slice_set c.args.notes.now.items c.args.line c.args.note) ts) (sym (with_items_is c.args.tree.now ws long))
    (subst (λ (ns : List Note). IsTree ns ws) c.deref.ensures.value c.mend.ensures.tree)
