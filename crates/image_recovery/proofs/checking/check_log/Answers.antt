use Rattle.std.proofs.Common.{◌≡◌, ◌<◌, ◌≤◌, ℕ, ◌∙◌, ap, arith, subst}
use Rattle.line_memory.specs.Memory.{Memory, shown}
use Rattle.image_layout.specs.Places.{log_head_line, log_entries}
use Rattle.image_meaning.specs.Logs.{log_count, entry_fault, log_fault}
use Rattle.image_walk.specs.Walking.{IsFault}
use Rattle.image_walk.proofs.Looking.{looks_more}
use Rattle.image_walk.proofs.Checking.{checks_none, passes_more, fault_of}
use Rattle.image_walk.proofs.Reading.{err_is}
use Rattle.image_recovery.proofs.Checks.{looked, entries_fail}
use Rattle.image_recovery.proofs.checking.check_log.Goals as goal

pub loop-n-init : goal.loop-n-init
loop-n-init g c =
    record {
      looks = c.in_ok-word.ensures.looks;
      spared = c.in_ok-word.ensures.cause.spared;
      passes = λ first known looks has. checks_none (entry_fault first.size (shown first) c.args.thread);
      places = λ first known looks has place. has place;
    }

pub returns-in_err-check_entry-clause-looks : goal.returns-in_err-check_entry-clause-looks
returns-in_err-check_entry-clause-looks g c =
    looks_more c.args.memory.now c.loop-n.memory c.check_entry.new.memory c.loop-n.invariant.looks c.check_entry.ensures.looks

pub loop-n-preserved : goal.loop-n-preserved
loop-n-preserved g c =
    let inv = c.loop-n.invariant in
    let entry : Memory = c.args.memory.now in
    record {
      looks = looks_more entry c.loop-n.memory c.check_entry.new.memory inv.looks c.check_entry.ensures.looks;
      spared = c.in_ok-check_entry.ensures.cause ∙ inv.spared;
      passes = λ first known looks has.
          passes_more (entry_fault first.size (shown first) c.args.thread) c.loop-n.n (inv.passes first known looks has)
          (c.in_ok-check_entry.ensures.passes first known (looks_more first entry c.loop-n.memory looks inv.looks) (inv.places first known looks has));
      places = λ first known looks has.
          c.in_ok-check_entry.ensures.places first known (looks_more first entry c.loop-n.memory looks inv.looks) (inv.places first known looks has);
    }

pub returns-in_err-check_entry-clause-bad : goal.returns-in_err-check_entry-clause-bad
returns-in_err-check_entry-clause-bad g c first known looks has =
    let inv = c.loop-n.invariant in
    let entry : Memory = c.args.memory.now in
    let t = c.args.thread in
    let head = c.head_spot-head.result in
    let below : head.line < first.size =
    omega (arith, c.head_spot-head.ensures.line, c.requires.enough, c.requires.thread, looks.changes.size) in
    let count : c.in_ok-count.count ≡ log_count (shown first) t =
    c.in_ok-count.ensures.same
    ∙ looked first entry head.line head.word c.in_ok-word.word known looks below (c.in_ok-word.ensures.shown (looks.changes.known known))
    ∙ ap (λ (l : ℕ). shown first l head.word) c.head_spot-head.ensures.line
    ∙ ap (λ (w : ℕ). shown first (log_head_line t) w) c.head_spot-head.ensures.word in
    let few : log_count (shown first) t ≤ log_entries = subst (λ (k : ℕ). k ≤ log_entries) count c.in_ok-count.ensures.few in
    let under : c.loop-n.n < log_count (shown first) t = subst (λ (k : ℕ). c.loop-n.n < k) count c.loop-n-test.true in
    err_is c.from_residual-in_err-check_entry.result c.in_err-check_entry.field-0.0
    (IsFault (log_fault first.size (shown first) t)) c.from_residual-in_err-check_entry.ensures.1
    (entries_fail first.size (shown first) t c.in_err-check_entry.field-0.0 few
    (fault_of (entry_fault first.size (shown first) t) c.loop-n.n (log_count (shown first) t) c.in_err-check_entry.field-0.0
    (inv.passes first known looks has) under
    (c.in_err-check_entry.ensures.bad first known (looks_more first entry c.loop-n.memory looks inv.looks) (inv.places first known looks has))))
