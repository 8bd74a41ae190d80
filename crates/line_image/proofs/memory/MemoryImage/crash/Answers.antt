use Rattle.std.proofs.Common.{◌≡◌, ℕ, List, [], Some, Result, Ok, Err, IfOk, get_or, slice_index, sym, subst, IsTrue}
use Rattle.line_image.specs.declared.effect.Effect.{Effect}
use Rattle.line_image.specs.declared.memory.MemoryImage.{MemoryImage}
use Rattle.line_image.specs.Trace.{Trace, LeavesNow, is_within}
use Rattle.line_image.specs.Crash.{first_word}
use Rattle.line_image.specs.Memory.{trace_of, size_of}
use Rattle.line_image.proofs.Versions.{lines_left, All-reverse}
use Rattle.line_image.proofs.memory.MemoryImage.crash.Goals as goal

-- an image that began as these lines
began_as : {E : Type 0} (r : Result MemoryImage E) (h : Trace) (lines : List (List ℕ)) → IfOk r (λ image. trace_of image ≡ record { first = lines; done = [] })
    → LeavesNow (Some h) (λ l w. slice_index (get_or lines l []) w) → IfOk r (λ image. LeavesNow (Some h) (first_word (trace_of image)))
began_as (Ok image) h lines is leaves = subst (λ (k : Trace). LeavesNow (Some h) (first_word k)) (sym is) leaves
began_as (Err e) h lines is leaves = tt

pub returns-clause-outcome : goal.returns-clause-outcome
returns-clause-outcome c =
    let image = c.args.self.now in
    let lines = c.in_ok-first.first.items in
    let size = rw c.deref.ensures.value at c.in_ok-first.ensures.size in
    let picked = rw (c.deref.ensures.value, c.deref-3.ensures.value) at c.in_ok-first.ensures.picked in
    let within = All-reverse (λ (effect : Effect). IsTrue (is_within (size_of image) effect.done)) image.done.items image.in_range in
    began_as c.of_lines.result (trace_of image) lines c.of_lines.ensures.fresh
    (lines_left c.args.pick (trace_of image) lines size image.eights c.in_ok-first.ensures.eights within picked)
