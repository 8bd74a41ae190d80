use Rattle.std.proofs.Common.{refl, arith}
use Rattle.converter.proofs.next.line_or_forward.Goals as goal

pub slots_at-requires : goal.slots_at-requires
slots_at-requires g c = let q = c.requires.object in let f = q.2 in
    record { object = (q.0, q.1, f.lies, f.there, ((let y = f.young in omega (arith, y)), f.at)) }

pub overflow_add-result : goal.overflow_add-result
overflow_add-result g c = let q = c.requires.object in let f = q.2 in
    let y = f.young in
    let slots = c.slots_at.ensures.slots q.0 q.1 f.lies f.there (omega (arith, y), f.at) in
    let count = c.count_of-count.ensures.count in
    let left = c.if-copied-count.true in
    let room = (f.lies.table.copy_in q.1 f.there (omega (arith, y))).1 in
    let few = f.lies.table.few_lines in
    let line = f.line in
    omega (arith, slots, count, left, room, few, line)

pub returns-then-copied-count-clause-work : goal.returns-then-copied-count-clause-work
returns-then-copied-count-clause-work g c = λ es n f.
    let y = f.young in
    let slots = c.slots_at.ensures.slots es n f.lies f.there (omega (arith, y), f.at) in
    let count = c.count_of-count.ensures.count in
    let left = c.if-copied-count.true in
    (refl, refl, omega (arith, slots, count, left))

pub returns-clause-work : goal.returns-clause-work
returns-clause-work g c = λ es n f.
    let y = f.young in
    let slots = c.slots_at.ensures.slots es n f.lies f.there (omega (arith, y), f.at) in
    let count = c.count_of-count.ensures.count in
    let past = c.if-copied-count.false in
    (refl, refl, omega (arith, slots, count, past))
