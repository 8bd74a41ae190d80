use Rattle.std.proofs.Common.{◌≡◌, ◌<◌, ◌∙◌, ℕ, List, [], length, get_or, ap, subst}
use Rattle.std.proofs.lemmas.List.{get_or_read}
use Rattle.line_image.specs.Told.{IsCounted}
use Rattle.line_memory.specs.Memory.{Memory, line_shown}
use Rattle.line_memory.proofs.Stops.{either_write}
use Rattle.line_memory.proofs.Keeps.{write_keeps}
use Rattle.line_memory.proofs.memory.LineMemory.write_back.Goals as goal

pub returns-clause-keeps : goal.returns-clause-keeps
unfolding line_shown
returns-clause-keeps g c =
    let old : Memory = c.args.self.now in
    let inside = c.self.inside in
    let lines : inside.lines.items ≡ old.lines = ap (λ (m : Memory). m.lines) c.self.view_is in
    let told : (g.I.Image.told inside.image).trace ≡ old.image.trace = ap (λ (m : Memory). m.image.trace) c.self.view_is in
    let calls : (g.I.Image.told inside.image).calls ≡ old.image.calls = ap (λ (m : Memory). m.image.calls) c.self.view_is in
    let size : length inside.lines.items ≡ old.size = c.self.invariant ∙ ap (λ (m : Memory). m.size) c.self.view_is in
    let below : c.args.line < length inside.lines.items = rw size c.requires.in_range in
    let words : c.index.result.now ≡ line_shown old c.args.line =
    get_or_read inside.lines.items c.args.line _ below c.index.ensures [] ∙ ap (λ (all : List (List ℕ)). get_or all c.args.line []) lines in
    let counted = subst IsCounted (ap (λ (m : Memory). m.image) c.self.view_is)
    (g.met.I.Image.in_order inside.image) in
    write_keeps old _ lines (c.write_line.ensures.size ∙ ap (λ (m : Memory). m.size) c.self.view_is) counted
    (rw calls at c.write_line.ensures.counted) c.args.line
    (either_write c.write_line.result (rw (told, words) at c.write_line.ensures.written) (rw (told, words) at c.write_line.ensures.failed))
