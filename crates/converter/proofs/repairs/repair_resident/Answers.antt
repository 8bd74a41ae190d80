use Rattle.std.proofs.Common.{◌≡◌, ◌+◌, ℕ, refl, sym, ◌∙◌, ap, subst, arith}
use Rattle.line_memory.specs.Memory.{IsResident}
use Rattle.volatile_space.specs.Spaces.{Space}
use Rattle.twin_forms.specs.Sights.{Twin, Marks}
use Rattle.twin_forms.specs.Moves.{ChangesLine}
use Rattle.convert_queue.specs.Marks.{mark_at, MayNote}
use Rattle.convert_queue.specs.Queues.{Queues, place_of}
use Rattle.convert_words.specs.Scenes.{Scene, scene}
use Rattle.converter.proofs.Calling.{known_stored}
use Rattle.converter.proofs.Doing.{may_store, to_repair, repairs_here, repair_is}
use Rattle.converter.proofs.repairs.repair_resident.Goals as goal

pub repair_line-requires-clause-repair : goal.repair_line-requires-clause-repair
repair_line-requires-clause-repair g c =
    let h = c.args.heap.now in
    let q = c.requires.agrees in let w = q.4 in
    let s : Scene = scene h.space h.memory h.marks c.args.queue.now q.0 q.1 in
    (q.2, w.n, q.3.lies, w.is.claimed.0, to_repair s q.2 c.args.t c.args.object c.args.first c.args.c q.3 w q.5)

pub repair_line-requires-clause-here : goal.repair_line-requires-clause-here
repair_line-requires-clause-here g c =
    let h = c.args.heap.now in
    let q = c.requires.agrees in let w = q.4 in
    let s : Scene = scene h.space h.memory h.marks c.args.queue.now q.0 q.1 in
    λ es n k ln may. subst (IsResident h.memory) (sym (repairs_here s q.2 c.args.t c.args.object c.args.first c.args.c q.3 w es n k ln may.0 may.1)) c.requires.resident

pub dirty-requires-clause-below : goal.dirty-requires-clause-below
dirty-requires-clause-below g c =
    let h = c.args.heap.now in
    let q = c.requires.agrees in let w = q.4 in
    let s : Scene = scene h.space h.memory h.marks c.args.queue.now q.0 q.1 in
    let line = w.line in
    let below = (may_store s q.2 c.args.t (place_of c.args.queue.now c.args.t).0 w.n c.args.c q.3 w.is w.within).0 in
    omega (arith, below, line)

pub dirty-requires-clause-alone : goal.dirty-requires-clause-alone
dirty-requires-clause-alone g c =
    let h = c.args.heap.now in
    let q = c.requires.agrees in let w = q.4 in
    let s : Scene = scene h.space h.memory h.marks c.args.queue.now q.0 q.1 in
    subst (λ l. MayNote c.args.t (mark_at c.args.queue.now.marks (l + c.args.c))) w.line
    (may_store s q.2 c.args.t (place_of c.args.queue.now c.args.t).0 w.n c.args.c q.3 w.is w.within).1

pub returns-clause-converts : goal.returns-clause-converts
returns-clause-converts g c = λ free keys es a w lacks.
    let h = c.args.heap.now in
    let s : Scene = scene h.space h.memory h.marks c.args.queue.now free keys in
    let may = to_repair s es c.args.t c.args.object c.args.first c.args.c a w lacks in
    let at : c.repair_line.result ≡ c.args.first + c.args.c = c.repair_line.ensures.answer es w.n a.lies w.is.claimed.0 may ∙ ap (λ l. l + c.args.c) w.line in
    let new : Twin = record { space = c.repair_line.new.self.space; memory = c.repair_line.new.self.memory; marks = c.repair_line.new.self.marks } in
    let same : new ≡ record { space = h.space; memory = new.memory; marks = h.marks } =
    ap (λ (x : Space). record { space = x; memory = new.memory; marks = new.marks }) c.repair_line.ensures.space
    ∙ ap (λ (x : Marks). record { space = h.space; memory = new.memory; marks = x }) c.repair_line.ensures.marks in
    let place = ap (λ (x : ℕ × ℕ). x.0) c.place-n.ensures.place in
    let same_place : c.place-n.result.0 ≡ (place_of c.args.queue.now c.args.t).0 = place ∙ ap (λ (q : Queues). (place_of q c.args.t).0) c.dirty.ensures.noted in
    repair_is s new c.dirty.new.self c.go_to.new.queue es c.args.t c.args.object c.args.first c.args.c
    (c.args.first + c.args.c) c.place-n.result.0 a w lacks c.repair_line.ensures.repaired c.repair_line.ensures.clean
    refl
    (subst (λ l. ChangesLine l h.memory c.repair_line.new.self.memory) at c.repair_line.ensures.line) same c.dirty.ensures.noted same_place c.go_to.ensures.goes

pub returns-clause-known : goal.returns-clause-known
returns-clause-known g c = known_stored c.args.heap.now.memory c.repair_line.new.self.memory c.repair_line.result c.repair_line.ensures.line c.requires.known

pub returns-clause-faults : goal.returns-clause-faults
returns-clause-faults g c = c.repair_line.ensures.line.same.faults
