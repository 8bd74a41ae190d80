use Rattle.std.proofs.Common.{◌≡◌, ◌≤◌, refl, sym, subst, arith}
use Rattle.store_barrier.specs.Passed.{Fencing}
use Rattle.store_barrier.specs.Passed.{doing_of, memory_of}
use Rattle.shared_heap.specs.Shared.{Shared, Failed}
use Rattle.shared_heap.proofs.Calling.{fence_act, failed_call, failed_from, fenced_call, fences_from, told_by, on_err}
use Rattle.shared_heap.proofs.heap.SharedHeap.fence.Goals as goal

pub returns-in_err-fence-clause-failed : goal.returns-in_err-fence-clause-failed
returns-in_err-fence-clause-failed g c =
    let x = c.self.view_is in
    let few = c.calls-calls.type_inv in let is = c.calls-calls.ensures in
    on_err c.from_residual.result (Failed c.args.self.now _)
    (failed_from _ c.args.self.now _ x (failed_call _ c.fence.new.self record {
      resident = c.every_line_is_resident.ensures;
      keeps = c.in_err-fence.ensures.keeps;
      one = c.in_err-fence.ensures.count;
      few = omega (arith, few, is);
      long = subst (λ (s : Shared). 33 ≤ (memory_of s.machine).size) (sym x) c.requires.long;
    }))

pub returns-clause-fenced : goal.returns-clause-fenced
returns-clause-fenced g c =
    let x = c.self.view_is in
    let few = c.calls-calls.type_inv in let is = c.calls-calls.ensures in
    fences_from c.args.t _ c.args.self.now _ x
    (fenced_call _ _ c.fence.new.self c.fenced.new.self c.args.t c.number.result
    record {
      resident = c.every_line_is_resident.ensures;
      keeps = c.in_ok-fence.ensures.keeps;
      one = c.in_ok-fence.ensures.count;
      few = omega (arith, few, is);
      long = subst (λ (s : Shared). 33 ≤ (memory_of s.machine).size) (sym x) c.requires.long;
    }
    c.number.ensures.same
    (subst (λ (s : Shared). doing_of s.machine c.args.t ≡ Fencing) (sym x) c.requires.doing)
    c.in_ok-fence.ensures.fenced
    c.in_ok-fence.ensures.durable
    refl
    c.fenced.ensures.noted
    (told_by _ c.tell.new.self _ (fence_act c.args.t c.fence.new.self) c.self-2.view_is record {
      told = c.tell.ensures.told;
      machine = c.tell.ensures.machine;
      lines = c.tell.ensures.lines;
      notes = c.tell.ensures.notes;
    }))
