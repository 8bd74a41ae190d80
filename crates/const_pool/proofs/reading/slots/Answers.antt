use Rattle.std.proofs.Common.{◌≡◌, ℕ, ◌+◌, ◌<◌, ◌≤◌, ◌∷◌, [], ◌++◌, length, None, Ok, Err, ◌⊎◌, ap, subst, ◌∙◌, arith, vec_len}
use Rattle.std.proofs.Common.{length-append}
use Rattle.std.proofs.lemmas.Result.{err_from_is_err_and}
use Rattle.const_pool.specs.declared.refusal.PoolRefusal.TheVariants.{OutOfMemory}
use Rattle.const_pool.specs.Pool.{Slots, slots_of}
use Rattle.const_pool.specs.Reading.{counted_slots, entry_from}
use Rattle.const_pool.proofs.Slots.{begins, goes_on, ends, is_done, length-slots_of}
use Rattle.const_pool.proofs.reading.slots.Goals as goal

pub entries-init : goal.entries-init
entries-init c =
    let items : c.push.new.self.items ≡ None ∷ [] = c.in_ok-push.ensures.items ∙ ap (λ (s : Slots). s ++ None ∷ []) c.new-slots.ensures.items in
    let one : vec_len c.push.new.self ≡ 1 = omega (arith, c.in_ok-push.ensures.len, c.new-slots.ensures.len) in
    record { within = omega arith; so_far = rw (items, one) (begins c.args.count c.args.file.now c.requires) }

pub returns-in_err-entry-clause-read : goal.returns-in_err-entry-clause-read
returns-in_err-entry-clause-read c =
    let r = c.from_residual-in_err-entry in
    let p = err_from_is_err_and r.result r.ensures.1 in
    let slots = c.entries.slots in
    let lt : vec_len slots < c.args.count = omega arith in
    let e = c.in_err-entry.field-0.0 in
    let refused = subst (λ (i : ℕ). (e ≡ OutOfMemory) ⊎ (entry_from i c.args.count c.entries.file ≡ Err e)) c.len-in-entries.ensures c.in_err-entry.ensures in
    rw (p.1, p.2) (ends e slots.items c.args.count (vec_len slots) c.entries.file (counted_slots c.args.count c.args.file.now) lt refused c.entries.invariant.so_far)

pub entries-preserved : goal.entries-preserved
entries-preserved c =
    let e = c.in_ok-entry.entry in
    let slots = c.entries.slots in
    let lt : vec_len slots < c.args.count = omega arith in
    let more = c.in_ok-push_entry.ensures.items in
    let len : vec_len c.push_entry.new.slots ≡ vec_len slots + length (slots_of e) = omega (arith, ap length more, length-append slots.items (slots_of e), c.push_entry.new.slots.ok, slots.ok) in
    let read = subst (λ (i : ℕ). entry_from i c.args.count c.entries.file ≡ Ok (e, c.entry.new.file)) c.len-in-entries.ensures c.in_ok-entry.ensures in
    let room = length-slots_of c.args.count (vec_len slots) c.entries.file e c.entry.new.file lt read in
    let next = goes_on slots.items c.args.count (vec_len slots) c.entries.file e c.entry.new.file (counted_slots c.args.count c.args.file.now) lt read c.entries.invariant.so_far in
    record { within = omega arith; so_far = rw (more, len) next }

pub returns-clause-read : goal.returns-clause-read
returns-clause-read c =
    let le : c.args.count ≤ vec_len c.entries.slots = omega arith in
    is_done c.entries.slots.items c.args.count (vec_len c.entries.slots) c.entries.file (counted_slots c.args.count c.args.file.now) le c.entries.invariant.so_far
