use Rattle.std.proofs.Common.{◌∙◌, ℕ, ap, sym}
use Rattle.durable_run.specs.Apart.{after_event, with_next}
use Rattle.durable_run.specs.declared.steps.Stepped.{Stepped}
use Rattle.durable_run.proofs.FramesApart.{next-is, unacted}
use Rattle.durable_run.proofs.steps.begin_after.Goals as goal

pub returns-in-Acted : goal.returns-in-Acted
returns-in-Acted g c = record {
  begun = λ old count.
      next-is c.args.before c.args.heap.now c.args.frames.now.items c.begin_next.new.frames.items c.begin_next.ensures.begun
      c.begin_next.ensures.none
      ∙ ap (λ (n : ℕ). with_next n c.args.heap.now c.args.frames.now.items) count
      ∙ ap (λ (went : Stepped). after_event went old c.args.heap.now c.args.frames.now.items) (sym c.in-Acted.is);
}

pub returns-in_default : goal.returns-in_default
returns-in_default g c = record {
  begun = λ old count. unacted c.args.went.now old c.args.heap.now c.args.frames.now.items c.in_default.not-Acted;
}
