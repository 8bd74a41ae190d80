use Rattle.std.proofs.Common.{◌≡◌, ◌+◌, refl, sym, ◌∙◌, subst, arith}
use Rattle.line_memory.specs.Memory.{IsResident}
use Rattle.twin_forms.specs.Table.{entry}
use Rattle.twin_forms.specs.Sights.{Twin}
use Rattle.twin_forms.specs.Moves.{ChangesLine}
use Rattle.convert_queue.specs.Marks.{mark_at, MayNote}
use Rattle.convert_queue.specs.Queues.{place_of}
use Rattle.convert_words.specs.Scenes.{Scene, scene}
use Rattle.converter.proofs.Calling.{known_stored}
use Rattle.converter.proofs.Doing.{may_store, to_copy, copies_here, copy_is}
use Rattle.converter.proofs.copies.copy_resident.Goals as goal

pub copy_line-requires-clause-copy : goal.copy_line-requires-clause-copy
copy_line-requires-clause-copy g c =
    let h = c.args.heap.now in
    let q = c.requires.agrees in
    let s : Scene = scene h.space h.memory h.marks c.args.queue.now q.0 q.1 in
    (q.2, q.4.n, q.3.lies, q.4.copying.is.claimed.0, to_copy s q.2 c.args.t c.args.object c.args.line q.4)

pub copy_line-requires-clause-here : goal.copy_line-requires-clause-here
copy_line-requires-clause-here g c =
    let h = c.args.heap.now in
    let q = c.requires.agrees in
    let s : Scene = scene h.space h.memory h.marks c.args.queue.now q.0 q.1 in
    λ es n k ln may. subst (IsResident h.memory) (sym (copies_here s q.2 c.args.t c.args.object c.args.line q.3 q.4 es n k ln may)) c.requires.resident

pub dirty-requires-clause-below : goal.dirty-requires-clause-below
dirty-requires-clause-below g c =
    let h = c.args.heap.now in
    let q = c.requires.agrees in let w = q.4 in
    let s : Scene = scene h.space h.memory h.marks c.args.queue.now q.0 q.1 in
    let left = w.left in let first = w.copying.first in let here = w.here in
    let may = may_store s q.2 c.args.t (place_of c.args.queue.now c.args.t).0 w.n (entry q.2 w.n).copied q.3 w.copying.is (omega (arith, left)) in
    let below = may.0 in
    omega (arith, below, first, here)

pub dirty-requires-clause-alone : goal.dirty-requires-clause-alone
dirty-requires-clause-alone g c =
    let h = c.args.heap.now in
    let q = c.requires.agrees in let w = q.4 in
    let s : Scene = scene h.space h.memory h.marks c.args.queue.now q.0 q.1 in
    let left = w.left in let first = w.copying.first in let here = w.here in
    let may = may_store s q.2 c.args.t (place_of c.args.queue.now c.args.t).0 w.n (entry q.2 w.n).copied q.3 w.copying.is (omega (arith, left)) in
    let same : (entry q.2 w.n).line + (entry q.2 w.n).copied ≡ c.args.line = omega (arith, first, here) in
    subst (λ l. MayNote c.args.t (mark_at c.args.queue.now.marks l)) same may.1

pub returns-clause-converts : goal.returns-clause-converts
returns-clause-converts g c = λ free keys es a w.
    let h = c.args.heap.now in
    let s : Scene = scene h.space h.memory h.marks c.args.queue.now free keys in
    let at : c.copy_line.result ≡ c.args.line = c.copy_line.ensures.answer es w.n a.lies w.copying.is.claimed.0 (to_copy s es c.args.t c.args.object c.args.line w)
    ∙ copies_here s es c.args.t c.args.object c.args.line a w es w.n a.lies w.copying.is.claimed.0 (to_copy s es c.args.t c.args.object c.args.line w) in
    let new : Twin = record { space = c.copy_line.new.self.space; memory = c.copy_line.new.self.memory; marks = c.copy_line.new.self.marks } in
    copy_is s new c.dirty.new.self es c.args.t c.args.object c.args.line c.args.line a w c.copy_line.ensures.copied refl
    (subst (λ l. ChangesLine l h.memory c.copy_line.new.self.memory) at c.copy_line.ensures.line) c.copy_line.ensures.space c.copy_line.ensures.kinds c.dirty.ensures.noted

pub returns-clause-known : goal.returns-clause-known
returns-clause-known g c = known_stored c.args.heap.now.memory c.copy_line.new.self.memory c.copy_line.result c.copy_line.ensures.line c.requires.known

pub returns-clause-faults : goal.returns-clause-faults
returns-clause-faults g c = c.copy_line.ensures.line.same.faults
