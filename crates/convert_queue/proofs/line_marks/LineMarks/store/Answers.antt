use Rattle.std.proofs.Common.{◌<◌, List, length, arith, sym, subst, ap, ◌∙◌}
use Rattle.std.proofs.lemmas.List.{length-map}
use Rattle.convert_queue.specs.declared.line_marks.Note.{Note}
use Rattle.convert_queue.specs.declared.line_marks.Note.TheVariants.{Stored}
use Rattle.convert_queue.specs.Marks.{Mark, MayNote, mark_at, with_store}
use Rattle.convert_queue.specs.Notes.{AreNotes, IsTree, mark_of, marks_of}
use Rattle.convert_queue.proofs.NoteLemmas.{notes_stored, marks_set}
use Rattle.convert_queue.proofs.line_marks.LineMarks.store.Goals as goal

pub invariant_of-self : goal.invariant_of-self
invariant_of-self c =
    let notes = c.self.inside.notes.items in
    let fences = c.self.inside.fences in
    let e = c.replace.ensures in
    let lt : c.args.line < length notes = omega (arith, c.requires.below, length-map notes (mark_of fences), ap length c.self.view_is) in
    let tree' = c.replace.new.tree.items in
    subst (λ (ns : List Note). AreNotes ns tree' c.self.inside.levels fences c.self.inside.unfenced) (sym e.notes)
    (notes_stored notes c.self.inside.tree.items tree' c.self.inside.levels fences c.self.inside.unfenced c.args.t c.args.line c.self.invariant lt
    (subst (λ (ms : List Mark). MayNote c.args.t (mark_at ms c.args.line)) (sym c.self.view_is) c.requires.alone) e.size
    (subst (λ (ns : List Note). IsTree ns tree') e.notes e.tree))

pub returns : goal.returns
returns c = record {
  noted = ap (marks_of c.self.inside.fences) c.replace.ensures.notes
      ∙ marks_set c.self.inside.fences c.self.inside.notes.items c.args.line (Stored c.args.t)
      ∙ ap (λ (ms : List Mark). with_store ms c.args.t c.args.line) c.self.view_is;
}
