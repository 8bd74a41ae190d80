use Rattle.std.proofs.Common.{◌≡◌, ◌∙◌, ℕ, List, [], None, length, ap, sym, subst, arith}
use Rattle.std.proofs.lemmas.List.{length-map}
use Rattle.run_history.specs.declared.acts.Acts.{Acts}
use Rattle.run_forms.specs.Views.{ThreadFrames}
use Rattle.workers.specs.Held.{Knows, held}
use Rattle.workers.specs.Shared.{desked, entries_from, values_of}
use Rattle.workers.proofs.Frames.{entries-none, none-begins}
use Rattle.workers.proofs.locked.Locked+J+I+S+W.new.Goals as goal

pub invariant_of-result : goal.invariant_of-result
invariant_of-result g c =
    let vals = values_of c.args.notes.items in
    let all = none-begins 64 vals (length-map c.args.notes.items _ ∙ c.requires.many) in
    let from : c.len.result ≡ length c.args.heap.history.acts =
    c.len.ensures.len ∙ ap (λ (h : Acts). length h.acts) c.acts.ensures in (
      subst (λ (frames : List ThreadFrames). Knows g.J.Naming.entry (held c.args.heap frames (g.W.Watcher.seen c.args.watcher)
          (g.S.Sink.taken c.args.sink) (g.S.Sink.faults c.args.sink) None) (g.S.Sink.takes c.args.sink)) (sym all) c.requires.knows,
      omega (arith, from),
      c.requires.sink,
    )

pub returns : goal.returns
returns g c =
    let vals = values_of c.args.notes.items in
    let all = none-begins 64 vals (length-map c.args.notes.items _ ∙ c.requires.many) in
    let from : c.len.result ≡ length c.args.heap.history.acts =
    c.len.ensures.len ∙ ap (λ (h : Acts). length h.acts) c.acts.ensures in
    let none : entries_from c.len.result c.args.heap.history.acts ≡ [] =
    ap (λ (n : ℕ). entries_from n c.args.heap.history.acts) from ∙ entries-none c.args.heap.history.acts in
    record {
      new = λ i. desked (held c.args.heap (all i) (g.W.Watcher.seen c.args.watcher) (g.S.Sink.taken c.args.sink)
          (g.S.Sink.faults c.args.sink) None) vals (none i);
    }
