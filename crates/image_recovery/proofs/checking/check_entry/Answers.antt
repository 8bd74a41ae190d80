use Rattle.std.proofs.Common.{◌≡◌, ◌<◌, ℕ, ◌∙◌, ap, arith}
use Rattle.line_memory.specs.Memory.{Memory, shown}
use Rattle.image_layout.specs.Places.{log_entry_line}
use Rattle.image_meaning.specs.Logs.{logged_at, logs_below}
use Rattle.image_recovery.proofs.Checks.{places_more, looked}
use Rattle.image_recovery.proofs.checking.check_entry.Goals as goal

pub returns-clause-places : goal.returns-clause-places
returns-clause-places g c first known looks has =
    let t = c.args.thread in
    let n = c.args.n in
    let m : Memory = c.args.memory.now in
    let spot = c.entry_spot-spot.result in
    let below : spot.line < first.size =
    omega (arith, c.entry_spot-spot.ensures.line, c.requires.enough, c.requires.thread, c.requires.entry, looks.changes.size) in
    let key : c.in_ok-place.place ≡ (logged_at (shown first) t n).place =
    looked first m spot.line spot.word c.in_ok-place.place known looks below (c.in_ok-place.ensures.shown (looks.changes.known known))
    ∙ ap (λ (l : ℕ). shown first l spot.word) c.entry_spot-spot.ensures.line
    ∙ ap (λ (w : ℕ). shown first (log_entry_line t n) w) c.entry_spot-spot.ensures.word in
    places_more (shown first) t n c.in_ok-place.place (logs_below (shown first) t) c.args.places.now c.insert.new.self key
    c.in_ok-insert.ensures.updates has
