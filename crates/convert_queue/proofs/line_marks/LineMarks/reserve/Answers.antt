use Rattle.std.proofs.Common.{rules, ◌≡◌, ◌^◌, List, ℕ, sym, subst, ap, ◌∙◌, replicate}
use Rattle.convert_queue.specs.declared.line_marks.Note.{Note}
use Rattle.convert_queue.specs.declared.line_marks.Note.TheVariants.{Clean}
use Rattle.convert_queue.specs.Notes.{AreNotes, marks_of}
use Rattle.convert_queue.proofs.NoteLemmas.{notes_begin, map_replicate, empty_tree, zeros, length-zeros}
use Rattle.convert_queue.proofs.line_marks.LineMarks.reserve.Goals as goal

pub invariant_of-result : goal.invariant_of-result
invariant_of-result c =
    let levels = c.levels_for-levels.result in
    let notes : c.in_ok-vec.field-0.items ≡ replicate c.args.lines Clean = c.in_ok-vec.ensures.items_if_clones_equal (λ y e. search rules) in
    let tree : c.in_ok-vec-2.field-0.items ≡ zeros (2 ^ levels) = search rules in
    subst (λ (ns : List Note). AreNotes ns c.in_ok-vec-2.field-0.items levels 0 0) (sym notes)
    (subst (λ (ts : List ℕ). AreNotes (replicate c.args.lines Clean) ts levels 0 0) (sym tree)
    (notes_begin c.args.lines (zeros (2 ^ levels)) levels (length-zeros (2 ^ levels)) c.levels_for-levels.ensures.few c.levels_for-levels.ensures.room
    (empty_tree c.args.lines (2 ^ levels))))

pub returns : goal.returns
returns c =
    let notes : c.in_ok-vec.field-0.items ≡ replicate c.args.lines Clean = c.in_ok-vec.ensures.items_if_clones_equal (λ y e. search rules) in
    record { all_clean = ap (marks_of 0) notes ∙ map_replicate c.args.lines 0 }
