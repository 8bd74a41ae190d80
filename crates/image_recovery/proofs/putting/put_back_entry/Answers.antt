use Rattle.line_memory.proofs.Residence.{every_line_is_resident}
use Rattle.std.proofs.Common.{◌≡◌, ◌<◌, ◌≤◌, ◌+◌, ◌/◌, ◌%◌, ◌∷◌, ℕ, false, None, OnOk, sym, ◌∙◌, ap, subst, arith}
use Rattle.line_memory.specs.Memory.{Memory, shown}
use Rattle.image_layout.specs.Places.{min_lines, log_entry_line}
use Rattle.image_meaning.specs.Logs.{Logged, logged_at, logs_fault, is_log_line}
use Rattle.image_recovery.specs.Putting.{LogsSay, IsPutting}
use Rattle.image_recovery.proofs.PutSteps.{nothing_put, entry_facts, loaded, same_logged}
use Rattle.image_recovery.proofs.putting.put_back_entry.Goals as goal

pub returns-in_err-fetch_line-clause-changes : goal.returns-in_err-fetch_line-clause-changes
returns-in_err-fetch_line-clause-changes g c words first done pass below so_far =
    (nothing_put words done first c.args.memory.now c.fetch_line.new.memory c.fetch_line.ensures.changes so_far).changes

pub returns-clause-puts : goal.returns-clause-puts
returns-clause-puts g c words first done pass below so_far =
    let a : Memory = c.fetch_line.new.memory in
    let t = c.args.thread in
    let n = c.args.n in
    let so = nothing_put words done first c.args.memory.now a c.fetch_line.ensures.changes so_far in
    let size : a.size ≡ c.args.memory.now.size = c.fetch_line.ensures.changes.size in
    let enough : min_lines ≤ a.size = omega (arith, size, c.requires.enough) in
    let read = loaded words done first a t n enough c.requires.thread c.requires.entry so in
    let entry = logged_at words t n in
    let spot = c.entry_spot-spot.ensures in
    let place : c.load-place.result ≡ entry.place =
    c.load-place.ensures ∙ ap (λ (l : ℕ). shown a l c.entry_spot-spot.result.word) spot.line
    ∙ ap (λ (w : ℕ). shown a (log_entry_line t n) w) spot.word ∙ read.0 in
    let old : c.load-old.result ≡ entry.old =
    c.load-old.ensures ∙ ap (λ (l : ℕ). shown a l (c.entry_spot-spot.result.word + 1)) spot.line
    ∙ ap (λ (w : ℕ). shown a (log_entry_line t n) (w + 1)) spot.word ∙ read.1 in
    let facts = entry_facts a.size words t n enough (subst (λ (s : ℕ). logs_fault s words ≡ None) (sym size) pass) c.requires.thread below in
    let low : c.load-place.result / 8 < a.size = subst (λ (p : ℕ). p / 8 < a.size) (sym place) facts.0 in
    let outside : is_log_line (c.load-place.result / 8) ≡ false = subst (λ (p : ℕ). is_log_line (p / 8) ≡ false) (sym place) facts.1 in
    let says : LogsSay words (c.load-place.result / 8) (c.load-place.result % 8) c.load-old.result =
    subst (λ (p : ℕ). LogsSay words (p / 8) (p % 8) c.load-old.result) (sym place)
    (subst (λ (v : ℕ). LogsSay words (entry.place / 8) (entry.place % 8) v) (sym old) facts.2) in
    subst (λ (e : Logged). OnOk c.put_back_word.result (IsPutting words (e ∷ done) first c.put_back_word.new.memory))
    (same_logged c.load-place.result entry.place c.load-old.result entry.old place old)
    (c.put_back_word.ensures.puts words first done low outside says so)

pub returns-clause-changes : goal.returns-clause-changes
returns-clause-changes g c words first done pass below so_far =
    let a : Memory = c.fetch_line.new.memory in
    let t = c.args.thread in
    let n = c.args.n in
    let so = nothing_put words done first c.args.memory.now a c.fetch_line.ensures.changes so_far in
    let size : a.size ≡ c.args.memory.now.size = c.fetch_line.ensures.changes.size in
    let enough : min_lines ≤ a.size = omega (arith, size, c.requires.enough) in
    let read = loaded words done first a t n enough c.requires.thread c.requires.entry so in
    let entry = logged_at words t n in
    let spot = c.entry_spot-spot.ensures in
    let place : c.load-place.result ≡ entry.place =
    c.load-place.ensures ∙ ap (λ (l : ℕ). shown a l c.entry_spot-spot.result.word) spot.line
    ∙ ap (λ (w : ℕ). shown a (log_entry_line t n) w) spot.word ∙ read.0 in
    let old : c.load-old.result ≡ entry.old =
    c.load-old.ensures ∙ ap (λ (l : ℕ). shown a l (c.entry_spot-spot.result.word + 1)) spot.line
    ∙ ap (λ (w : ℕ). shown a (log_entry_line t n) (w + 1)) spot.word ∙ read.1 in
    let facts = entry_facts a.size words t n enough (subst (λ (s : ℕ). logs_fault s words ≡ None) (sym size) pass) c.requires.thread below in
    let low : c.load-place.result / 8 < a.size = subst (λ (p : ℕ). p / 8 < a.size) (sym place) facts.0 in
    let outside : is_log_line (c.load-place.result / 8) ≡ false = subst (λ (p : ℕ). is_log_line (p / 8) ≡ false) (sym place) facts.1 in
    let says : LogsSay words (c.load-place.result / 8) (c.load-place.result % 8) c.load-old.result =
    subst (λ (p : ℕ). LogsSay words (p / 8) (p % 8) c.load-old.result) (sym place)
    (subst (λ (v : ℕ). LogsSay words (entry.place / 8) (entry.place % 8) v) (sym old) facts.2) in
    c.put_back_word.ensures.changes words first done low outside says so

pub returns-in_err-fetch_line-clause-calls : goal.returns-in_err-fetch_line-clause-calls
returns-in_err-fetch_line-clause-calls g c =
    let below : c.entry_spot-spot.result.line < c.args.memory.now.size =
    omega (arith, c.requires.enough, c.requires.thread, c.requires.entry, c.entry_spot-spot.ensures.line) in
    let same = (c.fetch_line.ensures.at_once (every_line_is_resident c.args.memory.now c.entry_spot-spot.result.line below)).1 in
    omega (arith, same.calls)

pub returns-clause-calls : goal.returns-clause-calls
returns-clause-calls g c =
    let below : c.entry_spot-spot.result.line < c.args.memory.now.size =
    omega (arith, c.requires.enough, c.requires.thread, c.requires.entry, c.entry_spot-spot.ensures.line) in
    let same = (c.fetch_line.ensures.at_once (every_line_is_resident c.args.memory.now c.entry_spot-spot.result.line below)).1 in
    omega (arith, same.calls, c.put_back_word.ensures.calls)
