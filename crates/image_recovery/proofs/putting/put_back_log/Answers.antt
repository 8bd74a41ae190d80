use Rattle.line_memory.proofs.Residence.{every_line_is_resident}
use Rattle.std.proofs.Common.{◌≡◌, ◌<◌, ◌≤◌, ◌-◌, ◌++◌, ◌∷◌, ℕ, suc, List, None, drop, sym, ◌∙◌, ap, subst, arith}
use Rattle.line_memory.specs.Memory.{Memory, shown}
use Rattle.image_layout.specs.Places.{log_head_line, log_entries}
use Rattle.image_meaning.specs.Logs.{Logged, log_count, logged_at, log_of, logs_below, logs_fault}
use Rattle.image_recovery.specs.Putting.{IsPutting}
use Rattle.word_changes.proofs.Going.{goes_more, goes_by_fetch}
use Rattle.word_changes.specs.Changes.{Nothing}
use Rattle.image_recovery.proofs.PutSteps.{nothing_put, head_in, counted_few, log_end, log_step}
use Rattle.image_recovery.proofs.putting.put_back_log.Goals as goal

pub returns-in_err-fetch_line-clause-changes : goal.returns-in_err-fetch_line-clause-changes
returns-in_err-fetch_line-clause-changes g c words first pass so_far =
    (nothing_put words (logs_below words c.args.thread) first c.args.memory.now c.fetch_line.new.memory c.fetch_line.ensures.changes so_far).changes

pub loop-left-init : goal.loop-left-init
loop-left-init g c =
    let a : Memory = c.fetch_line.new.memory in
    let t = c.args.thread in
    let head = c.head_spot-head.ensures in
    let below : c.head_spot-head.result.line < c.args.memory.now.size = omega (arith, c.requires.enough, c.requires.thread, head.line) in
    let same = (c.fetch_line.ensures.at_once (every_line_is_resident c.args.memory.now c.head_spot-head.result.line below)).1 in
    record {
      few = c.counted-left.ensures.few;
      puts = λ words first pass so_far.
          let so = nothing_put words (logs_below words t) first c.args.memory.now a c.fetch_line.ensures.changes so_far in
          let low : log_head_line t < a.size = omega (arith, c.requires.enough, c.requires.thread, c.fetch_line.ensures.changes.size) in
          let count : c.load.result ≡ log_count words t =
          c.load.ensures ∙ ap (λ (l : ℕ). shown a l c.head_spot-head.result.word) head.line
          ∙ ap (λ (w : ℕ). shown a (log_head_line t) w) head.word ∙ so.logs (log_head_line t) 0 low (head_in t c.requires.thread) in
          let few : log_count words t ≤ log_entries = counted_few c.args.memory.now.size words t pass c.requires.thread in
          let left : c.counted-left.result ≡ log_count words t = c.counted-left.ensures.same (omega (arith, count, few)) ∙ count in (
            omega (arith, left),
            subst (λ (l : List Logged). IsPutting words (l ++ logs_below words t) first a)
                (sym (log_end words t c.counted-left.result (omega (arith, left)))) so,
          );
      goes_on = goes_by_fetch Nothing c.args.memory.now a c.fetch_line.ensures.changes c.fetch_line.ensures.counts c.fetch_line.ensures.calls;
      calls = omega (arith, same.calls);
      spared = c.in_ok-fetch_line.ensures.cause.spared;
    }

pub loop-left-preserved : goal.loop-left-preserved
loop-left-preserved g c =
    let before : Memory = c.loop-left.memory in
    let after : Memory = c.put_back_entry.new.memory in
    let t = c.args.thread in
    let left = c.loop-left.left in
    let n = left - 1 in
    let inv = c.loop-left.invariant in
    let some : 0 < left = omega arith in
    record {
      few = omega (arith, inv.few);
      puts = λ words first pass so_far.
          let had = inv.puts words first pass so_far in
          let under : n < log_count words t = omega (arith, had.0, some) in
          let here : logs_fault before.size words ≡ None = subst (λ (s : ℕ). logs_fault s words ≡ None) (sym inv.goes_on.size) pass in
          let next : suc n ≡ left = omega (arith, some) in
          let step : drop n (log_of words t) ≡ logged_at words t n ∷ drop left (log_of words t) =
          log_step words t n under ∙ ap (λ (k : ℕ). logged_at words t n ∷ drop k (log_of words t)) next in (
            omega (arith, had.0),
            subst (λ (l : List Logged). IsPutting words (l ++ logs_below words t) first after) (sym step)
                (c.in_ok-put_back_entry.ensures.puts words first (drop left (log_of words t) ++ logs_below words t) here under had.1),
          );
      goes_on = goes_more c.args.memory.now before after inv.goes_on c.put_back_entry.ensures.goes_on;
      calls = omega (arith, some, inv.few, inv.calls, c.put_back_entry.ensures.calls);
      spared = c.in_ok-put_back_entry.ensures.cause.spared ∙ inv.spared;
    }

pub returns-in_err-put_back_entry-clause-changes : goal.returns-in_err-put_back_entry-clause-changes
returns-in_err-put_back_entry-clause-changes g c words first pass so_far =
    let t = c.args.thread in
    let left = c.loop-left.left in
    let inv = c.loop-left.invariant in
    let some : 0 < left = omega arith in
    let had = inv.puts words first pass so_far in
    let under : left - 1 < log_count words t = omega (arith, had.0, some) in
    let here : logs_fault c.loop-left.memory.size words ≡ None = subst (λ (s : ℕ). logs_fault s words ≡ None) (sym inv.goes_on.size) pass in
    c.put_back_entry.ensures.changes words first (drop left (log_of words t) ++ logs_below words t) here under had.1

pub returns-clause-puts : goal.returns-clause-puts
returns-clause-puts g c words first pass so_far =
    let t = c.args.thread in
    let had = c.loop-left.invariant.puts words first pass so_far in
    let none : c.loop-left.left ≡ 0 = omega arith in
    subst (λ (k : ℕ). IsPutting words (drop k (log_of words t) ++ logs_below words t) first c.loop-left.memory) none had.1

pub returns-clause-changes : goal.returns-clause-changes
returns-clause-changes g c words first pass so_far = (c.loop-left.invariant.puts words first pass so_far).1.changes

pub returns-in_err-fetch_line-clause-calls : goal.returns-in_err-fetch_line-clause-calls
returns-in_err-fetch_line-clause-calls g c =
    let below : c.head_spot-head.result.line < c.args.memory.now.size =
    omega (arith, c.requires.enough, c.requires.thread, c.head_spot-head.ensures.line) in
    let same = (c.fetch_line.ensures.at_once (every_line_is_resident c.args.memory.now c.head_spot-head.result.line below)).1 in
    omega (arith, same.calls)

pub returns-in_err-put_back_entry-clause-calls : goal.returns-in_err-put_back_entry-clause-calls
returns-in_err-put_back_entry-clause-calls g c =
    let inv = c.loop-left.invariant in
    let some : 0 < c.loop-left.left = omega arith in
    omega (arith, some, inv.few, inv.calls, c.put_back_entry.ensures.calls)

pub returns-clause-calls : goal.returns-clause-calls
returns-clause-calls g c =
    omega (arith, c.loop-left.invariant.few, c.loop-left.invariant.calls)
