use Rattle.std.proofs.Common.{◌+◌, sym, ap, subst, arith}
use Rattle.line_memory.specs.Memory.{IsResident}
use Rattle.twin_forms.specs.Table.{entry}
use Rattle.twin_heap.proofs.Moving.{bounds_of, head_at, line_is, odd_in, repair_is, clean_is, repair_filled}
use Rattle.twin_heap.proofs.heap.TwinHeap.repair_line.Goals as goal

pub repair_words-requires-clause-resident : goal.repair_words-requires-clause-resident
repair_words-requires-clause-resident g c =
    let s = c.args.self.now.space in let m = c.args.self.now.memory in let k = c.args.self.now.marks in
    let q = c.requires.repair in
    let may = q.4 in
    let first = line_is s m k q.0 q.1 c.args.object c.line_at.result q.2 q.3 may.0 (omega (arith, may.1)) (omega (arith, may.1)) c.line_at.ensures.line in
    subst (λ l. IsResident m (l + c.args.c)) (sym first) (c.requires.here q.0 q.1 q.2 q.3 may)

pub repair_words-requires-clause-space : goal.repair_words-requires-clause-space
repair_words-requires-clause-space g c = λ w lo hi one odd.
    let s = c.args.self.now.space in let m = c.args.self.now.memory in let k = c.args.self.now.marks in
    let q = c.requires.repair in
    let may = q.4 in
    let first = line_is s m k q.0 q.1 c.args.object c.line_at.result q.2 q.3 may.0 (omega (arith, may.1)) (omega (arith, may.1)) c.line_at.ensures.line in
    let head = head_at s m k q.0 q.1 c.args.object c.word.result q.2 q.3 may.0 (omega (arith, may.1)) c.word.ensures.word in
    let parts = c.head_parts-shape.ensures.only (entry q.0 q.1).shape (entry q.0 q.1).slots head.0 head.1 in
    let bounds = bounds_of c.args.c (entry q.0 q.1).slots c.saturating_sub-from.result c.min-to.result
    (omega (arith, c.saturating_sub-from.ensures)) may.2 (omega (arith, c.min-to.ensures, parts.1)) in
    odd_in s m k q.0 q.1 (c.line_at.result + c.args.c) c.head_parts-shape.result.0 c.args.c c.saturating_sub-from.result
    c.min-to.result w q.2 q.3 (omega (arith, may.1)) (ap (λ l. l + c.args.c) first) parts.0 bounds lo hi one odd

pub returns-clause-repaired : goal.returns-clause-repaired
returns-clause-repaired g c = λ es n h ln may.
    let s = c.args.self.now.space in let m = c.args.self.now.memory in let k = c.args.self.now.marks in
    let first = line_is s m k es n c.args.object c.line_at.result h ln may.0 (omega (arith, may.1)) (omega (arith, may.1)) c.line_at.ensures.line in
    let head = head_at s m k es n c.args.object c.word.result h ln may.0 (omega (arith, may.1)) c.word.ensures.word in
    let parts = c.head_parts-shape.ensures.only (entry es n).shape (entry es n).slots head.0 head.1 in
    let bounds = bounds_of c.args.c (entry es n).slots c.saturating_sub-from.result c.min-to.result (omega (arith, c.saturating_sub-from.ensures)) may.2 (omega (arith, c.min-to.ensures, parts.1)) in
    repair_is s m c.repair_words.new.memory k es n c.args.object (c.line_at.result + c.args.c) c.head_parts-shape.result.0
    c.args.c c.saturating_sub-from.result c.min-to.result h ln may (ap (λ l. l + c.args.c) first) parts.0 bounds
    c.repair_words.ensures.filled

pub returns-clause-clean : goal.returns-clause-clean
returns-clause-clean g c = λ es n h ln may.
    let s = c.args.self.now.space in let m = c.args.self.now.memory in let k = c.args.self.now.marks in
    let first = line_is s m k es n c.args.object c.line_at.result h ln may.0 (omega (arith, may.1)) (omega (arith, may.1)) c.line_at.ensures.line in
    let head = head_at s m k es n c.args.object c.word.result h ln may.0 (omega (arith, may.1)) c.word.ensures.word in
    let parts = c.head_parts-shape.ensures.only (entry es n).shape (entry es n).slots head.0 head.1 in
    let bounds = bounds_of c.args.c (entry es n).slots c.saturating_sub-from.result c.min-to.result (omega (arith, c.saturating_sub-from.ensures)) may.2 (omega (arith, c.min-to.ensures, parts.1)) in
    clean_is s m c.repair_words.new.memory k es n c.args.object (c.line_at.result + c.args.c) c.head_parts-shape.result.0
    c.args.c c.saturating_sub-from.result c.min-to.result h ln may (ap (λ l. l + c.args.c) first) parts.0 bounds
    c.repair_words.ensures.filled

pub returns-clause-answer : goal.returns-clause-answer
returns-clause-answer g c = λ es n h ln may.
    let s = c.args.self.now.space in let m = c.args.self.now.memory in let k = c.args.self.now.marks in
    ap (λ l. l + c.args.c) (line_is s m k es n c.args.object c.line_at.result h ln may.0 (omega (arith, may.1)) (omega (arith, may.1)) c.line_at.ensures.line)

pub returns-clause-filled : goal.returns-clause-filled
returns-clause-filled g c = λ es n h ln may.
    let s = c.args.self.now.space in let m = c.args.self.now.memory in let k = c.args.self.now.marks in
    let head = head_at s m k es n c.args.object c.word.result h ln may.0 (omega (arith, may.1)) c.word.ensures.word in
    let parts = c.head_parts-shape.ensures.only (entry es n).shape (entry es n).slots head.0 head.1 in
    repair_filled s m c.repair_words.new.memory k (entry es n) (c.line_at.result + c.args.c) c.head_parts-shape.result.0 c.args.c c.saturating_sub-from.result c.min-to.result parts.0
    (omega (arith, c.saturating_sub-from.ensures)) (omega (arith, c.min-to.ensures, parts.1)) c.repair_words.ensures.filled
