use Rattle.std.proofs.Common.{◌≡◌, ◌<◌, List, inl, [], ◌∷◌, refl, subst, sym}
use Rattle.convert_queue.specs.Queues.{Queued}
use Rattle.machine.specs.Ended.{StoreComesTo}
use Rattle.machine.proofs.Leaving.{converts-now}
use Rattle.machine.proofs.Needed.{then-apart, then-begun, then-converting, then-first, then-history, then-planned, then-room}
use Rattle.machine.proofs.Needing.{after-need}
use Rattle.machine.proofs.Refusing.{claimed-comes-to, needs-of, refused-comes-to}
use Rattle.machine.proofs.converting.begin.Goals as goal

none-queued : (xs : List Queued) → ((xs ≡ [] → ⊥) → ⊥) → xs ≡ []
none-queued [] none = refl
none-queued (x ∷ xs) none = absurd (none (λ is. let no = is in cc))

pub begin_converting-requires-clause-converts : goal.begin_converting-requires-clause-converts
begin_converting-requires-clause-converts g c =
    let (o, first, set, es, threads, fs, request, h) = c.requires.planned in
    let convert = c.requires.first es h.due.running.keeps.heap.whole in (
      es,
      convert.item.number,
      converts-now c.laws.ensures o first set c.args.heap.now es threads c.args.t fs request h.due,
      convert.item.asked,
    )

pub begin_converting-requires-clause-empty : goal.begin_converting-requires-clause-empty
begin_converting-requires-clause-empty g c = none-queued _ (λ some. c.requires.idle (inl some))

pub step-requires-clause-planned : goal.step-requires-clause-planned
step-requires-clause-planned g c =
    then-planned c.laws.ensures c.args.heap.now c.begin_converting.new.self c.args.t c.args.store.now c.args.object
    c.requires.apart c.requires.room c.requires.doing c.requires.idle c.requires.first c.in-Needs.other
    c.in-Needs.ensures.begins c.requires.planned

pub step-requires-clause-room : goal.step-requires-clause-room
step-requires-clause-room g c =
    then-room c.laws.ensures c.args.heap.now c.begin_converting.new.self c.args.t c.args.store.now c.args.object
    c.requires.apart c.requires.room c.requires.doing c.requires.idle c.requires.first c.in-Needs.other
    c.in-Needs.ensures.begins c.requires.planned

pub step-requires-clause-apart : goal.step-requires-clause-apart
step-requires-clause-apart g c =
    then-apart c.laws.ensures c.args.heap.now c.begin_converting.new.self c.args.t c.args.store.now c.args.object
    c.requires.apart c.requires.room c.requires.doing c.requires.idle c.requires.first c.in-Needs.other
    c.in-Needs.ensures.begins c.requires.planned

pub step-requires-clause-doing : goal.step-requires-clause-doing
step-requires-clause-doing g c =
    then-converting c.laws.ensures c.args.heap.now c.begin_converting.new.self c.args.t c.args.store.now c.args.object
    c.requires.apart c.requires.room c.requires.doing c.requires.idle c.requires.first c.in-Needs.other
    c.in-Needs.ensures.begins c.requires.planned

pub step-requires-clause-begun : goal.step-requires-clause-begun
step-requires-clause-begun g c =
    then-begun c.laws.ensures c.args.heap.now c.begin_converting.new.self c.args.t c.args.store.now c.args.object
    c.requires.apart c.requires.room c.requires.doing c.requires.idle c.requires.first c.in-Needs.other
    c.in-Needs.ensures.begins c.requires.planned
    (subst (λ n. n < 64) c.number-other.ensures.same c.number-other.ensures.below)

pub step-requires-clause-first : goal.step-requires-clause-first
step-requires-clause-first g c =
    then-first c.laws.ensures c.args.heap.now c.begin_converting.new.self c.args.t c.args.store.now c.args.object
    c.requires.apart c.requires.room c.requires.doing c.requires.idle c.requires.first c.in-Needs.other
    c.in-Needs.ensures.begins c.requires.planned

pub returns-in-Claimed : goal.returns-in-Claimed
returns-in-Claimed g c =
    claimed-comes-to c.laws.ensures c.args.heap.now c.begin_converting.new.self c.args.t c.args.store.now c.args.object
    c.requires.apart c.requires.room c.requires.doing c.requires.idle c.requires.first c.in-Claimed.ensures.begins
    c.requires.planned

pub returns-in-Needs : goal.returns-in-Needs
returns-in-Needs g c =
    after-need c.args.heap.now c.begin_converting.new.self c.step.new.heap c.args.t c.args.store.now c.step.result
    (needs-of c.laws.ensures c.args.heap.now c.begin_converting.new.self c.args.t c.args.store.now c.args.object
    c.requires.apart c.requires.room c.requires.doing c.requires.idle c.requires.first c.in-Needs.other
    c.in-Needs.ensures.begins)
    (then-history c.laws.ensures c.args.heap.now c.begin_converting.new.self c.args.t c.args.store.now c.args.object
    c.requires.apart c.requires.room c.requires.doing c.requires.idle c.requires.first c.in-Needs.other
    c.in-Needs.ensures.begins c.requires.planned)
    c.step.ensures

pub returns-in-Full : goal.returns-in-Full
returns-in-Full g c =
    subst (λ result. StoreComesTo c.args.t c.args.store.now result c.args.heap.now c.begin_converting.new.self)
    (sym c.lacks_lines.ensures)
    (refused-comes-to c.laws.ensures c.args.heap.now c.begin_converting.new.self c.args.t c.args.store.now c.args.object
    c.requires.apart c.requires.room c.requires.doing c.requires.idle c.requires.first c.in-Full.need c.in-Full.left
    c.in-Full.ensures.begins c.requires.planned)
