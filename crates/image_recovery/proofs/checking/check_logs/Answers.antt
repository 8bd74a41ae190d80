use Rattle.std.proofs.Common.{◌≡◌, ◌+◌, ◌==◌, not, ℕ, List, None, length, ◌∙◌, ap, arith, subst, sym, refl, if◌then◌else◌}
use Rattle.std.specs.Prelude.{filter}
use Rattle.std.specs.List.{range_with_len, list_any}
use Rattle.std.specs.Ordering.{nat_cmp, is_eq}
use Rattle.line_memory.specs.Memory.{Memory, shown}
use Rattle.image_layout.specs.Places.{logs}
use Rattle.image_meaning.specs.Checks.{first_fault}
use Rattle.image_meaning.specs.Logs.{log_count, log_fault, logs_fault}
use Rattle.image_walk.specs.Walking.{IsFault}
use Rattle.image_walk.proofs.Looking.{looks_more, looks_nowhere}
use Rattle.image_walk.proofs.Checking.{checks_none, passes_more, fault_of}
use Rattle.image_walk.proofs.Reading.{err_is}
use Rattle.image_recovery.specs.Checked.{HasPlaces}
use Rattle.image_recovery.proofs.Checks.{undone_more, at_most_one}
use Rattle.image_recovery.proofs.PutSteps.{logs_none, logs_more}
use Rattle.image_recovery.proofs.checking.check_logs.Goals as goal

pub loop-thread-init : goal.loop-thread-init
loop-thread-init g c =
    record {
      looks = looks_nowhere c.args.memory.now;
      spared = refl;
      passes = λ first known looks. checks_none (log_fault first.size (shown first));
      places = λ first known looks place. rw (logs_none (shown first)) (ap (λ (ks : List ℕ). list_any (λ k. is_eq (nat_cmp place k)) ks) c.new-places.ensures.empty);
      undone = λ first known looks. refl;
      few = omega arith;
    }

pub returns-in_err-count-clause-looks : goal.returns-in_err-count-clause-looks
returns-in_err-count-clause-looks g c =
    looks_more c.args.memory.now c.loop-thread.memory c.check_log.new.memory c.loop-thread.invariant.looks c.check_log.ensures.looks

pub loop-thread-preserved : goal.loop-thread-preserved
loop-thread-preserved g c =
    let inv = c.loop-thread.invariant in
    let entry : Memory = c.args.memory.now in
    let t = c.loop-thread.thread in
    record {
      looks = looks_more entry c.loop-thread.memory c.check_log.new.memory inv.looks c.check_log.ensures.looks;
      spared = c.in_ok-count.ensures.cause ∙ inv.spared;
      passes = λ first known looks.
          passes_more (log_fault first.size (shown first)) t (inv.passes first known looks)
          (c.in_ok-count.ensures.passes first known (looks_more first entry c.loop-thread.memory looks inv.looks) (inv.places first known looks));
      places = λ first known looks.
          subst (HasPlaces c.check_log.new.places) (sym (logs_more (shown first) t))
          (c.in_ok-count.ensures.places first known (looks_more first entry c.loop-thread.memory looks inv.looks) (inv.places first known looks));
      undone = λ first known looks.
          let count : c.in_ok-count.count ≡ log_count (shown first) t =
          c.in_ok-count.ensures.count first known (looks_more first entry c.loop-thread.memory looks inv.looks) in
          ap (λ (k : ℕ). k + c.one_if_some-undone.result) (inv.undone first known looks)
          ∙ ap (λ (k : ℕ). length (filter (λ j. not (log_count (shown first) j == 0)) (range_with_len 0 t)) + k)
          (c.one_if_some-undone.ensures ∙ ap (λ (k : ℕ). if k == 0 then 0 else 1) count)
          ∙ sym (undone_more (shown first) t);
      few = omega (arith, inv.few, at_most_one c.in_ok-count.count c.one_if_some-undone.result c.one_if_some-undone.ensures);
    }

pub returns-in_err-count-clause-bad : goal.returns-in_err-count-clause-bad
unfolding logs_fault
returns-in_err-count-clause-bad g c first known looks =
    let inv = c.loop-thread.invariant in
    let entry : Memory = c.args.memory.now in
    err_is c.from_residual.result c.in_err-count.field-0.0 (IsFault (first_fault (log_fault first.size (shown first)) logs)) c.from_residual.ensures.1
    (fault_of (log_fault first.size (shown first)) c.loop-thread.thread logs c.in_err-count.field-0.0 (inv.passes first known looks)
    c.loop-thread-test.true
    (c.in_err-count.ensures.bad first known (looks_more first entry c.loop-thread.memory looks inv.looks) (inv.places first known looks)))

pub returns-clause-passes : goal.returns-clause-passes
unfolding logs_fault
returns-clause-passes g c first known looks =
    let all : c.loop-thread.thread ≡ logs = omega arith in
    subst (λ (n : ℕ). first_fault (log_fault first.size (shown first)) n ≡ None) all (c.loop-thread.invariant.passes first known looks)

pub returns-clause-undone : goal.returns-clause-undone
returns-clause-undone g c first known looks =
    let all : c.loop-thread.thread ≡ logs = omega arith in
    c.loop-thread.invariant.undone first known looks
    ∙ ap (λ (n : ℕ). length (filter (λ t. not (log_count (shown first) t == 0)) (range_with_len 0 n))) all
