use Rattle.std.proofs.Common.{refl, sym, subst, arith}
use Rattle.convert_queue.specs.Marks.{MayNote}
use Rattle.convert_queue.specs.Queues.{Queues}
use Rattle.convert_words.specs.declared.step.ConvertStep.TheVariants as step
use Rattle.convert_words.specs.Converting.{Converts}
use Rattle.convert_words.specs.Scenes.{Scene, scene}
use Rattle.convert_words.proofs.StepKinds.{write_converts, call_fails}
use Rattle.converter.proofs.Events.{on_err}
use Rattle.converter.proofs.Calling.{known_kept}
use Rattle.converter.proofs.flush.write_resident.Goals as goal

pub wrote-requires-clause-below : goal.wrote-requires-clause-below
wrote-requires-clause-below g c = let q = c.requires.agrees in let long = q.4.sizes.marks in let lt = c.requires.within in omega (arith, long, lt)

pub wrote-requires-clause-alone : goal.wrote-requires-clause-alone
wrote-requires-clause-alone g c = subst (MayNote c.args.t) (sym c.requires.stored) refl

pub returns-in_err-write_back-clause-failed : goal.returns-in_err-write_back-clause-failed
returns-in_err-write_back-clause-failed g c = on_err c.from_residual.result _ (λ free keys es a.
    let h = c.args.heap.now in
    let w = c.write_back.ensures in
    call_fails (scene h.space h.memory h.marks c.args.queue.now free keys) c.write_back.new.self es c.requires.known
    (known_kept h.memory c.write_back.new.self w.keeps w.resident.kept c.requires.known) w.keeps w.count a)

pub returns-in_err-write_back-clause-known : goal.returns-in_err-write_back-clause-known
returns-in_err-write_back-clause-known g c = let w = c.write_back.ensures in known_kept c.args.heap.now.memory c.write_back.new.self w.keeps w.resident.kept c.requires.known

pub returns-clause-known : goal.returns-clause-known
returns-clause-known g c = let w = c.write_back.ensures in known_kept c.args.heap.now.memory c.write_back.new.self w.keeps w.resident.kept c.requires.known

pub returns-clause-converts : goal.returns-clause-converts
returns-clause-converts g c = λ free keys es a.
    let h = c.args.heap.now in
    let w = c.write_back.ensures in
    let s : Scene = scene h.space h.memory h.marks c.args.queue.now free keys in
    let lt = c.requires.within in
    let size = w.keeps.size in
    let done = write_converts s c.write_back.new.self c.args.line es c.args.t c.requires.known (known_kept h.memory c.write_back.new.self w.keeps w.resident.kept c.requires.known) w.keeps w.count
    c.requires.phase c.requires.stored (omega (arith, lt, size)) c.in_ok-write_back.ensures.wrote c.in_ok-write_back.ensures.written w.resident a in
    subst (λ (y : Queues). Converts c.args.t step.WroteBack s (scene h.space c.write_back.new.self h.marks y free keys) es es) (sym c.wrote.ensures.noted) done
