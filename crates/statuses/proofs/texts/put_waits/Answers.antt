use Rattle.std.proofs.Common.{◌≡◌, ℕ, ◌++◌, List, Option, Some, None, ap, sym, ◌∙◌, arith}
use Rattle.std.specs.Prelude.{slice_get}
use Rattle.std.specs.List.{flat_map, range_with_len}
use Rattle.run_types.specs.declared.wait.On.{On}
use Rattle.statuses.specs.Statuses.{wait_text, wait_of}
use Rattle.statuses.proofs.Ranges.{range_put}
use Rattle.statuses.proofs.texts.put_waits.Goals as goal

found : (waits : List (Option On)) (thread : ℕ) (on : Option On) → slice_get waits thread ≡ Some on → on ≡ wait_of waits thread
found waits thread on h = sym (ap (λ (o : Option (Option On)). elim o as (λ x. Option On) [ None ↦ None | Some wait ↦ wait ]) h)

pub loop-number-preserved : goal.loop-number-preserved
loop-number-preserved c =
    let waits = c.args.waits.now in
    let was = c.loop-number.out.items in
    let t = c.thread-thread.result in
    range_put (λ (n : ℕ). wait_text n (wait_of waits n)) c.loop-number.number c.args.out.now.items was c.put_wait.new.out.items
    c.loop-number.invariant
    (c.in_ok-put_wait.ensures
    ∙ ap (λ (o : Option On). was ++ wait_text t o) (found waits t c.get.result c.get.ensures.found)
    ∙ ap (λ (n : ℕ). was ++ wait_text n (wait_of waits n)) c.thread-thread.ensures)

pub returns : goal.returns
returns c =
    let waits = c.args.waits.now in
    let all : c.loop-number.number ≡ 64 = omega (arith, c.loop-number.auto.number-end, c.loop-number-test.false) in
    c.loop-number.invariant
    ∙ ap (λ (n : ℕ). c.args.out.now.items ++ flat_map (λ (k : ℕ). wait_text k (wait_of waits k)) (range_with_len 0 n)) all
