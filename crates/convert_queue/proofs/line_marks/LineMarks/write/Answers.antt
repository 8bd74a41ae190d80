use Rattle.std.proofs.Common.{ℕ, ◌≡◌, ◌<◌, List, length, arith, sym, subst, ap, ◌∙◌}
use Rattle.std.specs.Int.{bit_at}
use Rattle.std.proofs.lemmas.List.{length-map, get_or_default}
use Rattle.convert_queue.specs.declared.line_marks.Note.{Note}
use Rattle.convert_queue.specs.declared.line_marks.Note.TheVariants.{Clean, Stored}
use Rattle.convert_queue.specs.Marks.{Mark, MayNote, mark_at, with_write}
use Rattle.convert_queue.specs.Notes.{AreNotes, IsTree, mark_of, marks_of, note_at}
use Rattle.convert_queue.proofs.NoteLemmas.{notes_written, written_view}
use Rattle.convert_queue.proofs.line_marks.LineMarks.write.Goals as goal

pub invariant_of-self : goal.invariant_of-self
invariant_of-self c =
    let notes = c.self.inside.notes.items in
    let fences = c.self.inside.fences in
    let line = c.args.line in
    let e = c.replace.ensures in
    let lt : line < length notes = omega (arith, c.requires.below, length-map notes (mark_of fences), ap length c.self.view_is) in
    let may = subst (λ (ms : List Mark). MayNote c.args.t (mark_at ms line)) (sym c.self.view_is) c.requires.alone in
    let tree' = c.replace.new.tree.items in
    let bits = c.with_member-self-inside.result in
    subst (λ (ns : List Note). AreNotes ns tree' c.self.inside.levels fences bits) (sym e.notes)
    (notes_written notes c.self.inside.tree.items tree' c.self.inside.levels fences c.self.inside.unfenced bits c.args.t line c.self.invariant lt may e.size
    (subst (λ (ns : List Note). IsTree ns tree') e.notes e.tree)
    (subst (λ (k : ℕ). bit_at bits k ≡ 1) c.number.ensures.same c.with_member-self-inside.ensures.here)
    (λ u ne. c.with_member-self-inside.ensures.others u (λ h. ne (h ∙ c.number.ensures.same))))

pub returns-in-Stored : goal.returns-in-Stored
returns-in-Stored c =
    let notes = c.self.inside.notes.items in
    let fences = c.self.inside.fences in
    let line = c.args.line in
    let e = c.replace.ensures in
    let lt : line < length notes = omega (arith, c.requires.below, length-map notes (mark_of fences), ap length c.self.view_is) in
    let may = subst (λ (ms : List Mark). MayNote c.args.t (mark_at ms line)) (sym c.self.view_is) c.requires.alone in
    let note : note_at notes line ≡ Stored c.in-Stored.field-0 = sym (c.index.ensures ∙ get_or_default notes line c.index.result.now Clean lt) ∙ c.in-Stored.is in
    record {
      noted = ap (marks_of fences) e.notes ∙ written_view notes fences c.args.t c.in-Stored.field-0 line note may
          ∙ ap (λ (ms : List Mark). with_write ms line) c.self.view_is;
    }
