use Rattle.std.proofs.Common.{◌≡◌, ◌<◌, ℕ, List, [], None, refl, sym, ◌∙◌, subst, arith}
use Rattle.std.proofs.lemmas.Result.{on_ok_weaker}
use Rattle.line_memory.specs.Memory.{Memory, shown}
use Rattle.image_meaning.specs.Logs.{Logged, logs_below, logs_fault}
use Rattle.image_meaning.proofs.Order.{put_back-each}
use Rattle.word_changes.proofs.Changing.{changes_more, changes_nowhere, telling_knows}
use Rattle.image_recovery.specs.Putting.{IsPutBack, AllWritten, IsPutting, PutsBack}
use Rattle.word_changes.proofs.Going.{goes_more, goes_nowhere}
use Rattle.image_recovery.proofs.PutSteps.{none_put, logs_none, logs_more, nothing_put, nothing_written, all_durable}
use Rattle.image_recovery.proofs.PutSteps.{at_success}
use Rattle.image_recovery.proofs.putting.put_back_logs.Goals as goal

pub loop-thread-init : goal.loop-thread-init
loop-thread-init g c =
    let m : Memory = c.args.memory.now in
    record {
      puts = λ first known looks pass.
          subst (λ (l : List Logged). IsPutting (shown first) l first m) (sym (logs_none (shown first)))
          (nothing_put (shown first) [] first first m looks.changes (none_put first known));
      goes_on = goes_nowhere m;
      calls = omega arith;
      spared = refl;
    }

pub loop-thread-preserved : goal.loop-thread-preserved
loop-thread-preserved g c =
    let entry : Memory = c.args.memory.now in
    let before : Memory = c.loop-thread.memory in
    let after : Memory = c.put_back_log.new.memory in
    let t = c.loop-thread.thread in
    let inv = c.loop-thread.invariant in
    record {
      puts = λ first known looks pass.
          let here : logs_fault before.size (shown first) ≡ None =
          subst (λ (s : ℕ). logs_fault s (shown first) ≡ None) (sym (inv.goes_on.size ∙ looks.changes.size)) pass in
          subst (λ (l : List Logged). IsPutting (shown first) l first after) (sym (logs_more (shown first) t))
          (c.in_ok-put_back_log.ensures.puts (shown first) first here (inv.puts first known looks pass));
      goes_on = goes_more entry before after inv.goes_on c.put_back_log.ensures.goes_on;
      calls = omega (arith, inv.calls, c.put_back_log.ensures.calls);
      spared = c.in_ok-put_back_log.ensures.cause.spared ∙ inv.spared;
    }

pub returns-in_err-put_back_log-clause-changes : goal.returns-in_err-put_back_log-clause-changes
returns-in_err-put_back_log-clause-changes g c first known looks pass =
    let inv = c.loop-thread.invariant in
    let here : logs_fault c.loop-thread.memory.size (shown first) ≡ None =
    subst (λ (s : ℕ). logs_fault s (shown first) ≡ None) (sym (inv.goes_on.size ∙ looks.changes.size)) pass in
    c.put_back_log.ensures.changes (shown first) first here (inv.puts first known looks pass)

pub returns-clause-shows : goal.returns-clause-shows
returns-clause-shows g c first known looks pass =
    let before : Memory = c.loop-thread.memory in
    let new : Memory = c.make_fence.new.memory in
    let all : c.loop-thread.thread ≡ 64 = omega arith in
    let so : IsPutting (shown first) (logs_below (shown first) 64) first before =
    subst (λ (t : ℕ). IsPutting (shown first) (logs_below (shown first) t) first before) all (c.loop-thread.invariant.puts first known looks pass) in
    let size : before.size ≡ first.size = c.loop-thread.invariant.goes_on.size ∙ looks.changes.size in
    at_success c.make_fence.result (PutsBack first new) record {
      size = c.make_fence.ensures.changes.size ∙ size;
      words = λ l w below outside.
          let under : l < before.size = omega (arith, below, size) in
          c.make_fence.ensures.changes.shows so.known l w under (λ v none. none)
          ∙ so.shows l w under ∙ sym (put_back-each (shown first) l w outside);
      logs = λ l w below inside.
          let under : l < before.size = omega (arith, below, size) in
          c.make_fence.ensures.changes.shows so.known l w under (λ v none. none) ∙ so.logs l w under inside;
    }

pub returns-clause-changes : goal.returns-clause-changes
returns-clause-changes g c first known looks pass =
    let so = c.loop-thread.invariant.puts first known looks pass in
    changes_more (IsPutBack (shown first)) first c.loop-thread.memory c.make_fence.new.memory so.changes
    (changes_nowhere (IsPutBack (shown first)) c.loop-thread.memory c.make_fence.new.memory c.make_fence.ensures.changes)

pub returns-clause-written : goal.returns-clause-written
returns-clause-written g c first tells all looks pass =
    let before : Memory = c.loop-thread.memory in
    let new : Memory = c.make_fence.new.memory in
    let so = c.loop-thread.invariant.puts first (telling_knows first tells) looks pass in
    at_success c.make_fence.result (AllWritten new)
    (nothing_written before new c.make_fence.ensures.changes (so.changes.telling tells) (so.written tells all))

pub returns-clause-durable : goal.returns-clause-durable
returns-clause-durable g c first tells all looks pass =
    let before : Memory = c.loop-thread.memory in
    let new : Memory = c.make_fence.new.memory in
    let so = c.loop-thread.invariant.puts first (telling_knows first tells) looks pass in
    on_ok_weaker c.make_fence.result
    (λ durable. all_durable before new c.make_fence.ensures.changes durable (so.written tells all))
    c.make_fence.ensures.durable

pub returns-in_err-put_back_log-clause-calls : goal.returns-in_err-put_back_log-clause-calls
returns-in_err-put_back_log-clause-calls g c =
    omega (arith, c.loop-thread.invariant.calls, c.put_back_log.ensures.calls)

pub returns-clause-calls : goal.returns-clause-calls
returns-clause-calls g c =
    omega (arith, c.loop-thread.invariant.calls, c.make_fence.ensures.count.calls)
