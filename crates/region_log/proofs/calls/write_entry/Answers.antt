use Rattle.std.proofs.Common.{◌≡◌, ◌⊎◌, ◌+◌, [], Result, Ok, Err, OnErr, inr, rules}
use Rattle.line_memory.specs.Memory.{Memory, shown, IsResident}
use Rattle.image_layout.specs.Places.{log_entry_line, log_entry_word}
use Rattle.image_meaning.specs.Logs.{Logged}
use Rattle.region_log.specs.Log.{logged_of}
use Rattle.region_log.specs.Made.{PutsThenCalls, entry_words}
use Rattle.region_log.proofs.Puts.{puts, puts_entry, writes_entry}
use Rattle.region_log.proofs.calls.write_entry.Goals as goal

on_err : {T E A : Type 0} (r : Result T E) → A → OnErr r A
on_err (Ok x) a = tt
on_err (Err e) a = a

pub returns-in_err-write_back-clause-failed : goal.returns-in_err-write_back-clause-failed
returns-in_err-write_back-clause-failed g c =
    let ready : Memory = c.is_ready.new.memory in
    let one : Memory = c.store.new.self in
    let two : Memory = c.store-2.new.self in
    let new : Memory = c.write_back.new.self in
    let spot = c.unwrap-place.result in
    let e : Logged = logged_of c.args.entry in
    let is_ready : ready ≡ c.args.memory.now = search rules in
    let line : spot.line ≡ log_entry_line c.args.thread c.args.n = search rules in
    let word : spot.word ≡ log_entry_word c.args.n = search rules in
    let place : shown one spot.line spot.word ≡ e.place = rw (← c.from.ensures, ← c.from-2.ensures)
    c.store.ensures.here in
    let both : PutsThenCalls (entry_words c.args.thread c.args.n e) c.args.memory.now new =
    puts_entry c.args.memory.now ready one two new c.args.thread c.args.n spot.line spot.word e line word
    is_ready
    (puts ready one c.store.ensures.size c.store.ensures.same spot.line spot.word e.place place
    c.store.ensures.others)
    (puts one two c.store-2.ensures.size c.store-2.ensures.same spot.line (spot.word + 1) e.old
    c.store-2.ensures.here c.store-2.ensures.others)
    c.write_back.ensures.keeps in
    let either : PutsThenCalls [] c.args.memory.now new ⊎ PutsThenCalls
    (entry_words c.args.thread c.args.n e) c.args.memory.now new = inr both in
    on_err c.from_residual-in_err-write_back.result either

pub returns-clause-written : goal.returns-clause-written
returns-clause-written g c made =
    let ready : Memory = c.is_ready.new.memory in
    let one : Memory = c.store.new.self in
    let two : Memory = c.store-2.new.self in
    let new : Memory = c.write_back.new.self in
    let spot = c.unwrap-place.result in
    let e : Logged = logged_of c.args.entry in
    let is_ready : ready ≡ c.args.memory.now = search rules in
    let line : spot.line ≡ log_entry_line c.args.thread c.args.n = search rules in
    let word : spot.word ≡ log_entry_word c.args.n = search rules in
    let place : shown one spot.line spot.word ≡ e.place = rw (← c.from.ensures, ← c.from-2.ensures)
    c.store.ensures.here in
    let first = puts ready one c.store.ensures.size c.store.ensures.same spot.line spot.word e.place place
    c.store.ensures.others in
    let second = puts one two c.store-2.ensures.size c.store-2.ensures.same spot.line (spot.word + 1) e.old
    c.store-2.ensures.here c.store-2.ensures.others in
    let there : IsResident c.args.memory.now spot.line = search rules in (
      puts_entry c.args.memory.now ready one two new c.args.thread c.args.n spot.line spot.word e line word
          is_ready first second c.write_back.ensures.keeps,
      writes_entry c.args.memory.now ready one two new c.args.thread c.args.n spot.line spot.word e line word
          is_ready first second c.write_back.ensures.keeps
          there c.store.ensures.resident c.store-2.ensures.resident c.write_back.ensures.resident
          c.in_ok-write_back.ensures.written,
    )
