use Rattle.std.proofs.Common.{◌≤◌, ℕ, IsTrue, All, sym, subst, arith, length}
use Rattle.std.proofs.lemmas.List.Elements.{All-push}
use Rattle.line_image.specs.Trace.{is_within}
use Rattle.line_image.specs.declared.effect.Effect.{Effect}
use Rattle.line_image.proofs.Effects.{reads_pushed, All-pushed, trace_pushed}
use Rattle.line_image.proofs.memory.MemoryImage.add.Goals as goal

pub invariant_of-self-clause-reads : goal.invariant_of-self-clause-reads
invariant_of-self-clause-reads c =
    let image = c.args.self.now in
    let effect : Effect = record { at = image.calls; done = c.args.done } in
    let within =
    subst (λ (n : ℕ). IsTrue (is_within n c.args.done)) (sym image.same_size) c.requires.within in
    reads_pushed image.first.items image.latest.items c.change_lines.new.lines.items image.done.items
    c.push_reserved.new.self.items effect c.push_reserved.ensures.items c.change_lines.ensures within
    image.reads

pub invariant_of-self-clause-in_range : goal.invariant_of-self-clause-in_range
invariant_of-self-clause-in_range c =
    let image = c.args.self.now in
    let effect : Effect = record { at = image.calls; done = c.args.done } in
    let InRange = λ (one : Effect). IsTrue (is_within (length image.first.items) one.done) in
    subst (All InRange) (sym c.push_reserved.ensures.items)
    (All-push InRange image.done.items effect image.in_range c.requires.within)

pub invariant_of-self-clause-so_far : goal.invariant_of-self-clause-so_far
invariant_of-self-clause-so_far c =
    let image = c.args.self.now in
    let effect : Effect = record { at = image.calls; done = c.args.done } in
    All-pushed (λ (one : Effect). one.at ≤ image.calls) image.done.items c.push_reserved.new.self.items effect
    c.push_reserved.ensures.items (omega arith) image.so_far

pub returns-clause-trace : goal.returns-clause-trace
returns-clause-trace c =
    let image = c.args.self.now in
    let effect : Effect = record { at = image.calls; done = c.args.done } in
    trace_pushed image.first.items image.done.items c.push_reserved.new.self.items effect
    c.push_reserved.ensures.items
