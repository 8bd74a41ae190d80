use Rattle.std.proofs.Common.{◌≡◌, ℕ, List, refl, sym, ◌∙◌, ap, arith}
use Rattle.line_memory.specs.Memory.{Memory}
use Rattle.twin_forms.specs.Table.{Entry}
use Rattle.convert_queue.specs.Queues.{Queues}
use Rattle.convert_words.specs.declared.step.ConvertStep.{ConvertStep}
use Rattle.convert_words.specs.Converting.{Converts, Fails}
use Rattle.convert_words.specs.Scenes.{Scene, scene, AgreesAt}
use Rattle.converter.specs.Stepping.{keys_of, Event, FailedEvent, IsOther}
use Rattle.converter.specs.Working.{IsToCopy, IsToRepair}
use Rattle.converter.proofs.Calling.{known_same}
use Rattle.converter.proofs.Events.{ok_both, ok_on, err_on, either, event_of, event_claim, event_forward, fails_of}
use Rattle.converter.proofs.convert.convert_next.Goals as goal

pub next_work-requires : goal.next_work-requires
next_work-requires g c =
    let q = c.requires.agrees in
    let lines = c.requires.lines in let within = c.requires.within in
    record { agrees = (c.args.space.now.free, keys_of c.args.monitors.now, q.0, omega (arith, lines, within), q.1) }

pub claim_next-requires-clause-agrees : goal.claim_next-requires-clause-agrees
claim_next-requires-clause-agrees g c =
    let q = c.requires.agrees in
    let keys = keys_of c.args.monitors.now in
    let free = c.args.space.now.free in
    (keys, q.0, (c.next_work.ensures.goes_on free keys q.0 q.1).agrees, c.in-Claim.ensures.work free keys q.0 q.1)

pub returns-in-Claim-clause-converts : goal.returns-in-Claim-clause-converts
returns-in-Claim-clause-converts g c = λ es a.
    let h = c.args.heap.now in
    let ms = c.args.monitors.now in
    let free = c.args.space.now.free in
    let s : Scene = scene h.space h.memory h.marks c.args.queue.now free (keys_of ms) in
    let at : Scene = scene h.space h.memory h.marks c.next_work.new.queue free (keys_of ms) in
    let n = c.claim_next.new in
    let on = c.next_work.ensures.goes_on free (keys_of ms) es a in
    let x = c.claim_next.ensures.converts (keys_of ms) es on.agrees (c.in-Claim.ensures.work free (keys_of ms) es a) in
    event_claim c.args.t c.claim_next.result s at (scene n.heap.space n.heap.memory n.heap.marks n.queue n.space.free (keys_of ms)) es x.0 ms on
    (ap (λ (y : Queues). scene h.space h.memory h.marks y free (keys_of ms)) (c.in-Claim.ensures.claim c.in-Claim.object refl)) x.1 c.claim_next.ensures.other

pub returns-in-Claim-clause-lines : goal.returns-in-Claim-clause-lines
returns-in-Claim-clause-lines g c = c.claim_next.ensures.lines ∙ c.requires.lines ∙ sym (ap (λ (m : Memory). m.size) c.claim_next.ensures.memory)

pub returns-in-Claim-clause-known : goal.returns-in-Claim-clause-known
returns-in-Claim-clause-known g c = known_same c.args.heap.now.memory c.claim_next.new.heap.memory c.claim_next.ensures.memory c.requires.known

pub forward_next-requires-clause-agrees : goal.forward_next-requires-clause-agrees
forward_next-requires-clause-agrees g c =
    let q = c.requires.agrees in
    let keys = keys_of c.args.monitors.now in
    let free = c.args.space.now.free in
    let lines = c.requires.lines in let within = c.requires.within in
    (free, q.0, omega (arith, lines, within), (c.next_work.ensures.goes_on free keys q.0 q.1).agrees, c.in-Forward.ensures.work free keys q.0 q.1)

pub returns-in-Forward-clause-converts : goal.returns-in-Forward-clause-converts
returns-in-Forward-clause-converts g c = λ es a.
    let h = c.args.heap.now in
    let ms = c.args.monitors.now in
    let free = c.args.space.now.free in
    let s : Scene = scene h.space h.memory h.marks c.args.queue.now free (keys_of ms) in
    let at : Scene = scene h.space h.memory h.marks c.next_work.new.queue free (keys_of ms) in
    let n = c.forward_next.new in
    let on = c.next_work.ensures.goes_on free (keys_of ms) es a in
    let w = c.in-Forward.ensures.work free (keys_of ms) es a in
    let x = c.forward_next.ensures.converts free es on.agrees w in
    event_forward c.args.t c.in-Forward.object c.in-Forward.line s at
    (scene n.heap.space n.heap.memory n.heap.marks n.queue free (keys_of n.monitors)) es x.0 ms n.monitors on w x.1
    c.forward_next.ensures.monitors

pub returns-in-Forward-clause-lines : goal.returns-in-Forward-clause-lines
returns-in-Forward-clause-lines g c = c.requires.lines ∙ sym (ap (λ (m : Memory). m.size) c.forward_next.ensures.memory)

pub returns-in-Forward-clause-known : goal.returns-in-Forward-clause-known
returns-in-Forward-clause-known g c = known_same c.args.heap.now.memory c.forward_next.new.heap.memory c.forward_next.ensures.memory c.requires.known

pub copy_next-requires-clause-agrees : goal.copy_next-requires-clause-agrees
copy_next-requires-clause-agrees g c =
    let q = c.requires.agrees in
    let keys = keys_of c.args.monitors.now in
    let free = c.args.space.now.free in
    (free, keys, q.0, (c.next_work.ensures.goes_on free keys q.0 q.1).agrees, c.in-Copy.ensures.work free keys q.0 q.1)

pub returns-in-Copy-clause-converts : goal.returns-in-Copy-clause-converts
returns-in-Copy-clause-converts g c =
    let h = c.args.heap.now in
    let ms = c.args.monitors.now in
    let keys = keys_of ms in
    let free = c.args.space.now.free in
    let s : Scene = scene h.space h.memory h.marks c.args.queue.now free keys in
    let at : Scene = scene h.space h.memory h.marks c.next_work.new.queue free keys in
    let n = c.copy_next.new in
    let s' : Scene = scene n.heap.space n.heap.memory n.heap.marks n.queue free keys in
    ok_both c.copy_next.result
    (λ (y : ConvertStep). (f : ℕ) (k : List ℕ) (es : List Entry) → AgreesAt
    (scene h.space h.memory h.marks c.next_work.new.queue f k) es → IsToCopy
    (scene h.space h.memory h.marks c.next_work.new.queue f k) es c.args.t c.in-Copy.object c.in-Copy.line →
    (es' : List Entry) × Converts c.args.t y (scene h.space h.memory h.marks c.next_work.new.queue f k)
    (scene n.heap.space n.heap.memory n.heap.marks n.queue f k) es es')
    IsOther
    (λ (y : ConvertStep). (es : List Entry) → AgreesAt s es → Event c.args.t y s s' es ms ms)
    c.copy_next.ensures.converts c.copy_next.ensures.other
    (λ y p other es a. let on = c.next_work.ensures.goes_on free keys es a in let x = p free keys es on.agrees
    (c.in-Copy.ensures.work free keys es a) in event_of c.args.t y s at s' es x.0 ms ms on x.1 other refl)

pub returns-in-Copy-clause-failed : goal.returns-in-Copy-clause-failed
returns-in-Copy-clause-failed g c =
    let h = c.args.heap.now in
    let ms = c.args.monitors.now in
    let keys = keys_of ms in
    let free = c.args.space.now.free in
    let s : Scene = scene h.space h.memory h.marks c.args.queue.now free keys in
    let at : Scene = scene h.space h.memory h.marks c.next_work.new.queue free keys in
    let n = c.copy_next.new in
    let s' : Scene = scene n.heap.space n.heap.memory n.heap.marks n.queue free keys in
    err_on c.copy_next.result
    ((f : ℕ) (k : List ℕ) (es : List Entry) → AgreesAt (scene h.space h.memory h.marks c.next_work.new.queue f k) es →
    Fails (scene h.space h.memory h.marks c.next_work.new.queue f k)
    (scene n.heap.space n.heap.memory n.heap.marks n.queue f k) es)
    ((es : List Entry) → AgreesAt s es → FailedEvent c.args.t s s' es ms ms)
    c.copy_next.ensures.failed
    (λ p es a. let on = c.next_work.ensures.goes_on free keys es a in fails_of c.args.t s at s' es ms ms on (p free keys es on.agrees) refl)

pub returns-in-Copy-clause-lines : goal.returns-in-Copy-clause-lines
returns-in-Copy-clause-lines g c =
    let h = c.args.heap.now in
    let ms = c.args.monitors.now in
    let keys = keys_of ms in
    let free = c.args.space.now.free in
    let s : Scene = scene h.space h.memory h.marks c.args.queue.now free keys in
    let at : Scene = scene h.space h.memory h.marks c.next_work.new.queue free keys in
    let n = c.copy_next.new in
    let s' : Scene = scene n.heap.space n.heap.memory n.heap.marks n.queue free keys in
    let q = c.requires.agrees in
    let on = c.next_work.ensures.goes_on free keys q.0 q.1 in
    let size : n.heap.memory.size ≡ h.memory.size = either c.copy_next.result (n.heap.memory.size ≡ h.memory.size)
    (ok_on c.copy_next.result
    (λ (y : ConvertStep). (f : ℕ) (k : List ℕ) (es : List Entry) → AgreesAt
    (scene h.space h.memory h.marks c.next_work.new.queue f k) es → IsToCopy
    (scene h.space h.memory h.marks c.next_work.new.queue f k) es c.args.t c.in-Copy.object c.in-Copy.line →
    (es' : List Entry) × Converts c.args.t y (scene h.space h.memory h.marks c.next_work.new.queue f k)
    (scene n.heap.space n.heap.memory n.heap.marks n.queue f k) es es') (λ _. n.heap.memory.size ≡ h.memory.size)
    c.copy_next.ensures.converts (λ y p. let x = p free keys q.0 on.agrees (c.in-Copy.ensures.work free keys q.0 q.1)
    in x.1.size))
    (err_on c.copy_next.result
    ((f : ℕ) (k : List ℕ) (es : List Entry) → AgreesAt (scene h.space h.memory h.marks c.next_work.new.queue f k) es →
    Fails (scene h.space h.memory h.marks c.next_work.new.queue f k)
    (scene n.heap.space n.heap.memory n.heap.marks n.queue f k) es) (n.heap.memory.size ≡ h.memory.size)
    c.copy_next.ensures.failed (λ p. (p free keys q.0 on.agrees).keeps.size)) in
    c.requires.lines ∙ sym size

pub repair_next-requires-clause-agrees : goal.repair_next-requires-clause-agrees
repair_next-requires-clause-agrees g c =
    let q = c.requires.agrees in
    let keys = keys_of c.args.monitors.now in
    let free = c.args.space.now.free in
    (free, keys, q.0, (c.next_work.ensures.goes_on free keys q.0 q.1).agrees, c.in-Repair.ensures.work free keys q.0 q.1)

pub returns-in-Repair-clause-converts : goal.returns-in-Repair-clause-converts
returns-in-Repair-clause-converts g c =
    let h = c.args.heap.now in
    let ms = c.args.monitors.now in
    let keys = keys_of ms in
    let free = c.args.space.now.free in
    let s : Scene = scene h.space h.memory h.marks c.args.queue.now free keys in
    let at : Scene = scene h.space h.memory h.marks c.next_work.new.queue free keys in
    let n = c.repair_next.new in
    let s' : Scene = scene n.heap.space n.heap.memory n.heap.marks n.queue free keys in
    ok_both c.repair_next.result
    (λ (y : ConvertStep). (f : ℕ) (k : List ℕ) (es : List Entry) → AgreesAt
    (scene h.space h.memory h.marks c.next_work.new.queue f k) es → IsToRepair
    (scene h.space h.memory h.marks c.next_work.new.queue f k) es c.args.t c.in-Repair.object c.in-Repair.first
    c.in-Repair.c → Converts c.args.t y (scene h.space h.memory h.marks c.next_work.new.queue f k)
    (scene n.heap.space n.heap.memory n.heap.marks n.queue f k) es es)
    IsOther
    (λ (y : ConvertStep). (es : List Entry) → AgreesAt s es → Event c.args.t y s s' es ms ms)
    c.repair_next.ensures.converts c.repair_next.ensures.other
    (λ y p other es a. let on = c.next_work.ensures.goes_on free keys es a in let x = p free keys es on.agrees
    (c.in-Repair.ensures.work free keys es a) in event_of c.args.t y s at s' es es ms ms on x other refl)

pub returns-in-Repair-clause-failed : goal.returns-in-Repair-clause-failed
returns-in-Repair-clause-failed g c =
    let h = c.args.heap.now in
    let ms = c.args.monitors.now in
    let keys = keys_of ms in
    let free = c.args.space.now.free in
    let s : Scene = scene h.space h.memory h.marks c.args.queue.now free keys in
    let at : Scene = scene h.space h.memory h.marks c.next_work.new.queue free keys in
    let n = c.repair_next.new in
    let s' : Scene = scene n.heap.space n.heap.memory n.heap.marks n.queue free keys in
    err_on c.repair_next.result
    ((f : ℕ) (k : List ℕ) (es : List Entry) → AgreesAt (scene h.space h.memory h.marks c.next_work.new.queue f k) es →
    Fails (scene h.space h.memory h.marks c.next_work.new.queue f k)
    (scene n.heap.space n.heap.memory n.heap.marks n.queue f k) es)
    ((es : List Entry) → AgreesAt s es → FailedEvent c.args.t s s' es ms ms)
    c.repair_next.ensures.failed
    (λ p es a. let on = c.next_work.ensures.goes_on free keys es a in fails_of c.args.t s at s' es ms ms on (p free keys es on.agrees) refl)

pub returns-in-Repair-clause-lines : goal.returns-in-Repair-clause-lines
returns-in-Repair-clause-lines g c =
    let h = c.args.heap.now in
    let ms = c.args.monitors.now in
    let keys = keys_of ms in
    let free = c.args.space.now.free in
    let s : Scene = scene h.space h.memory h.marks c.args.queue.now free keys in
    let at : Scene = scene h.space h.memory h.marks c.next_work.new.queue free keys in
    let n = c.repair_next.new in
    let s' : Scene = scene n.heap.space n.heap.memory n.heap.marks n.queue free keys in
    let q = c.requires.agrees in
    let on = c.next_work.ensures.goes_on free keys q.0 q.1 in
    let size : n.heap.memory.size ≡ h.memory.size = either c.repair_next.result (n.heap.memory.size ≡ h.memory.size)
    (ok_on c.repair_next.result
    (λ (y : ConvertStep). (f : ℕ) (k : List ℕ) (es : List Entry) → AgreesAt
    (scene h.space h.memory h.marks c.next_work.new.queue f k) es → IsToRepair
    (scene h.space h.memory h.marks c.next_work.new.queue f k) es c.args.t c.in-Repair.object c.in-Repair.first
    c.in-Repair.c → Converts c.args.t y (scene h.space h.memory h.marks c.next_work.new.queue f k)
    (scene n.heap.space n.heap.memory n.heap.marks n.queue f k) es es) (λ _. n.heap.memory.size ≡ h.memory.size)
    c.repair_next.ensures.converts
    (λ y p. let x = p free keys q.0 on.agrees (c.in-Repair.ensures.work free keys q.0 q.1) in x.size))
    (err_on c.repair_next.result
    ((f : ℕ) (k : List ℕ) (es : List Entry) → AgreesAt (scene h.space h.memory h.marks c.next_work.new.queue f k) es →
    Fails (scene h.space h.memory h.marks c.next_work.new.queue f k)
    (scene n.heap.space n.heap.memory n.heap.marks n.queue f k) es) (n.heap.memory.size ≡ h.memory.size)
    c.repair_next.ensures.failed (λ p. (p free keys q.0 on.agrees).keeps.size)) in
    c.requires.lines ∙ sym size

pub flush_next-requires-clause-agrees : goal.flush_next-requires-clause-agrees
flush_next-requires-clause-agrees g c =
    let q = c.requires.agrees in
    let keys = keys_of c.args.monitors.now in
    let free = c.args.space.now.free in
    let lines = c.requires.lines in let within = c.requires.within in
    (free, keys, q.0, omega (arith, lines, within), (c.next_work.ensures.goes_on free keys q.0 q.1).agrees)

pub flush_next-requires-clause-phase : goal.flush_next-requires-clause-phase
flush_next-requires-clause-phase g c = let q = c.requires.agrees in c.in-Flush.ensures.work c.args.space.now.free (keys_of c.args.monitors.now) q.0 q.1

pub returns-in-Flush-clause-converts : goal.returns-in-Flush-clause-converts
returns-in-Flush-clause-converts g c =
    let h = c.args.heap.now in
    let ms = c.args.monitors.now in
    let keys = keys_of ms in
    let free = c.args.space.now.free in
    let s : Scene = scene h.space h.memory h.marks c.args.queue.now free keys in
    let at : Scene = scene h.space h.memory h.marks c.next_work.new.queue free keys in
    let n = c.flush_next.new in
    let s' : Scene = scene n.heap.space n.heap.memory n.heap.marks n.queue free keys in
    ok_both c.flush_next.result
    (λ (y : ConvertStep). (f : ℕ) (k : List ℕ) (es : List Entry) → AgreesAt
    (scene h.space h.memory h.marks c.next_work.new.queue f k) es → (es' : List Entry) × Converts c.args.t y
    (scene h.space h.memory h.marks c.next_work.new.queue f k)
    (scene n.heap.space n.heap.memory n.heap.marks n.queue f k) es es')
    IsOther
    (λ (y : ConvertStep). (es : List Entry) → AgreesAt s es → Event c.args.t y s s' es ms ms)
    c.flush_next.ensures.converts c.flush_next.ensures.other
    (λ y p other es a. let on = c.next_work.ensures.goes_on free keys es a in let x = p free keys es on.agrees in event_of c.args.t y s at s' es x.0 ms ms on x.1 other refl)

pub returns-in-Flush-clause-failed : goal.returns-in-Flush-clause-failed
returns-in-Flush-clause-failed g c =
    let h = c.args.heap.now in
    let ms = c.args.monitors.now in
    let keys = keys_of ms in
    let free = c.args.space.now.free in
    let s : Scene = scene h.space h.memory h.marks c.args.queue.now free keys in
    let at : Scene = scene h.space h.memory h.marks c.next_work.new.queue free keys in
    let n = c.flush_next.new in
    let s' : Scene = scene n.heap.space n.heap.memory n.heap.marks n.queue free keys in
    err_on c.flush_next.result
    ((f : ℕ) (k : List ℕ) (es : List Entry) → AgreesAt (scene h.space h.memory h.marks c.next_work.new.queue f k) es →
    Fails (scene h.space h.memory h.marks c.next_work.new.queue f k)
    (scene n.heap.space n.heap.memory n.heap.marks n.queue f k) es)
    ((es : List Entry) → AgreesAt s es → FailedEvent c.args.t s s' es ms ms)
    c.flush_next.ensures.failed
    (λ p es a. let on = c.next_work.ensures.goes_on free keys es a in fails_of c.args.t s at s' es ms ms on (p free keys es on.agrees) refl)

pub returns-in-Flush-clause-lines : goal.returns-in-Flush-clause-lines
returns-in-Flush-clause-lines g c =
    let h = c.args.heap.now in
    let ms = c.args.monitors.now in
    let keys = keys_of ms in
    let free = c.args.space.now.free in
    let s : Scene = scene h.space h.memory h.marks c.args.queue.now free keys in
    let at : Scene = scene h.space h.memory h.marks c.next_work.new.queue free keys in
    let n = c.flush_next.new in
    let s' : Scene = scene n.heap.space n.heap.memory n.heap.marks n.queue free keys in
    let q = c.requires.agrees in
    let on = c.next_work.ensures.goes_on free keys q.0 q.1 in
    let size : n.heap.memory.size ≡ h.memory.size = either c.flush_next.result (n.heap.memory.size ≡ h.memory.size)
    (ok_on c.flush_next.result
    (λ (y : ConvertStep). (f : ℕ) (k : List ℕ) (es : List Entry) → AgreesAt
    (scene h.space h.memory h.marks c.next_work.new.queue f k) es → (es' : List Entry) × Converts c.args.t y
    (scene h.space h.memory h.marks c.next_work.new.queue f k)
    (scene n.heap.space n.heap.memory n.heap.marks n.queue f k) es es') (λ _. n.heap.memory.size ≡ h.memory.size)
    c.flush_next.ensures.converts (λ y p. let x = p free keys q.0 on.agrees in x.1.size))
    (err_on c.flush_next.result
    ((f : ℕ) (k : List ℕ) (es : List Entry) → AgreesAt (scene h.space h.memory h.marks c.next_work.new.queue f k) es →
    Fails (scene h.space h.memory h.marks c.next_work.new.queue f k)
    (scene n.heap.space n.heap.memory n.heap.marks n.queue f k) es) (n.heap.memory.size ≡ h.memory.size)
    c.flush_next.ensures.failed (λ p. (p free keys q.0 on.agrees).keeps.size)) in
    c.requires.lines ∙ sym size
