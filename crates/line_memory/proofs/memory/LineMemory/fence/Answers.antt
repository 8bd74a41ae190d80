use Rattle.std.proofs.Common.{◌≡◌, ◌∙◌, ap, subst}
use Rattle.line_image.specs.Told.{IsCounted}
use Rattle.line_memory.specs.Memory.{Memory}
use Rattle.line_memory.proofs.Stops.{either_fence, fence_leaves, fence_same_reads}
use Rattle.line_memory.proofs.Chain.{fence_within}
use Rattle.line_memory.proofs.Keeps.{fence_keeps}
use Rattle.line_memory.proofs.memory.LineMemory.fence.Given.{Over}
use Rattle.line_memory.proofs.memory.LineMemory.fence.Goals.{After-fence}
use Rattle.line_memory.proofs.memory.LineMemory.fence.Goals as goal

pub returns-clause-keeps : goal.returns-clause-keeps
returns-clause-keeps g c =
    let old : Memory = c.args.self.now in
    let inside = c.self.inside in
    let lines : inside.lines.items ≡ old.lines = ap (λ (m : Memory). m.lines) c.self.view_is in
    let told : (g.I.Image.told inside.image).trace ≡ old.image.trace = ap (λ (m : Memory). m.image.trace) c.self.view_is in
    let calls : (g.I.Image.told inside.image).calls ≡ old.image.calls = ap (λ (m : Memory). m.image.calls) c.self.view_is in
    let counted = subst IsCounted (ap (λ (m : Memory). m.image) c.self.view_is)
    (g.met.I.Image.in_order inside.image) in
    fence_keeps old _ lines (c.fence.ensures.size ∙ ap (λ (m : Memory). m.size) c.self.view_is) counted
    (rw calls at c.fence.ensures.counted)
    (either_fence c.fence.result (rw told at c.fence.ensures.fenced) (rw told at c.fence.ensures.failed))

-- the memory as it was, over the image after the call
abbrev after : (g : Over) → After-fence g → Memory
after g c = record c.args.self.now { image = g.I.Image.told c.fence.new.self }

pub returns-clause-unwritten : goal.returns-clause-unwritten
returns-clause-unwritten g c =
    let old : Memory = c.args.self.now in
    let told : (g.I.Image.told c.self.inside.image).trace ≡ old.image.trace = ap (λ (m : Memory). m.image.trace) c.self.view_is in
    fence_leaves old (after g c) (either_fence c.fence.result (rw told at c.fence.ensures.fenced) (rw told at c.fence.ensures.failed))

pub returns-clause-same_reads : goal.returns-clause-same_reads
returns-clause-same_reads g c =
    let old : Memory = c.args.self.now in
    let told : (g.I.Image.told c.self.inside.image).trace ≡ old.image.trace = ap (λ (m : Memory). m.image.trace) c.self.view_is in
    fence_same_reads old (after g c) (either_fence c.fence.result (rw told at c.fence.ensures.fenced) (rw told at c.fence.ensures.failed))

pub returns-clause-within : goal.returns-clause-within
returns-clause-within g c =
    let old : Memory = c.args.self.now in
    let told : (g.I.Image.told c.self.inside.image).trace ≡ old.image.trace = ap (λ (m : Memory). m.image.trace) c.self.view_is in
    let calls : (g.I.Image.told c.self.inside.image).calls ≡ old.image.calls = ap (λ (m : Memory). m.image.calls) c.self.view_is in
    let counted = subst IsCounted (ap (λ (m : Memory). m.image) c.self.view_is)
    (g.met.I.Image.in_order c.self.inside.image) in
    fence_within old (after g c) counted (rw calls at c.fence.ensures.counted)
    (either_fence c.fence.result (rw told at c.fence.ensures.fenced) (rw told at c.fence.ensures.failed))
