use Rattle.std.proofs.Common.{List, sym, subst, ap, ◌∙◌}
use Rattle.convert_queue.specs.declared.line_marks.Note.{Note}
use Rattle.convert_queue.specs.Marks.{with_fence}
use Rattle.convert_queue.specs.Notes.{AreNotes, marks_of}
use Rattle.convert_queue.proofs.NoteLemmas.{notes_fenced, notes_forgotten, fenced_view, forgotten_view}
use Rattle.convert_queue.proofs.line_marks.LineMarks.fence.Goals as goal

pub invariant_of-self : goal.invariant_of-self
invariant_of-self c =
    subst (λ (ns : List Note). AreNotes ns c.self.inside.tree.items c.self.inside.levels 0 0) (sym c.forget_writes.ensures.forgotten)
    (notes_forgotten c.self.inside.notes.items c.self.inside.tree.items c.self.inside.levels c.self.inside.fences c.self.inside.unfenced c.self.invariant)

pub returns-then-self : goal.returns-then-self
returns-then-self c = record {
  noted = ap (marks_of 0) c.forget_writes.ensures.forgotten ∙ forgotten_view c.self.inside.fences c.self.inside.notes.items ∙ ap with_fence c.self.view_is;
}

pub invariant_of-self-2 : goal.invariant_of-self-2
invariant_of-self-2 c =
    notes_fenced c.self.inside.notes.items c.self.inside.tree.items c.self.inside.levels c.self.inside.fences c.self.inside.unfenced c.self.invariant

pub returns : goal.returns
returns c = record {
  noted = fenced_view c.self.inside.fences c.self.inside.notes.items c.self.invariant.before ∙ ap with_fence c.self.view_is;
}
