use Rattle.std.proofs.Common.{◌≡◌, ◌<◌, ◌≤◌, sym, subst, arith}
use Rattle.store_barrier.specs.Passed.{Writing}
use Rattle.store_barrier.specs.Passed.{doing_of, memory_of}
use Rattle.shared_heap.specs.Shared.{Shared, Failed}
use Rattle.shared_heap.proofs.Calling.{failed_call, failed_from, written_call, writes_from, on_err}
use Rattle.shared_heap.proofs.heap.SharedHeap.write_back.Goals as goal

pub returns-in_err-write_back-clause-failed : goal.returns-in_err-write_back-clause-failed
returns-in_err-write_back-clause-failed g c =
    let x = c.self.view_is in
    let few = c.calls-calls.type_inv in let is = c.calls-calls.ensures in
    on_err c.from_residual.result (Failed c.args.self.now _)
    (failed_from _ c.args.self.now _ x (failed_call _ c.write_back.new.self record {
      resident = c.every_line_is_resident.ensures;
      keeps = c.in_err-write_back.ensures.keeps;
      one = c.in_err-write_back.ensures.count;
      few = omega (arith, few, is);
      long = subst (λ (s : Shared). 33 ≤ (memory_of s.machine).size) (sym x) c.requires.long;
    }))

pub returns-clause-wrote : goal.returns-clause-wrote
returns-clause-wrote g c =
    let x = c.self.view_is in
    let few = c.calls-calls.type_inv in let is = c.calls-calls.ensures in
    writes_from c.args.t _ c.args.self.now _ x
    (written_call _ c.write_back.new.self c.args.t c.number.result c.args.line
    record {
      resident = c.every_line_is_resident.ensures;
      keeps = c.in_ok-write_back.ensures.keeps;
      one = c.in_ok-write_back.ensures.count;
      few = omega (arith, few, is);
      long = subst (λ (s : Shared). 33 ≤ (memory_of s.machine).size) (sym x) c.requires.long;
    }
    c.number.ensures.same
    (subst (λ (s : Shared). doing_of s.machine c.args.t ≡ Writing c.args.line) (sym x) c.requires.doing)
    (subst (λ (s : Shared). c.args.line < (memory_of s.machine).size) (sym x) c.requires.inside)
    c.in_ok-write_back.ensures.written)
