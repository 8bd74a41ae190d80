use Rattle.std.proofs.Common.{◌∙◌, List, None, length, ap, refl, sym}
use Rattle.std.proofs.lemmas.List.{length-map}
use Rattle.std.specs.declared.snapshot.Snapshot.{Snapshot}
use Rattle.run_forms.specs.Views.{ThreadFrames}
use Rattle.workers.specs.Held.{Held}
use Rattle.workers.specs.Shared.{Desked, values_of}
use Rattle.workers.proofs.Knowing.{knows-again, knows-as, many-frames}
use Rattle.workers.proofs.Sparing.{sink-over}
use Rattle.workers.proofs.opening.open.Goals as goal

pub again-requires : goal.again-requires
again-requires g c =
    let run = c.finish-none.result.1 in
    record {
      knows = knows-again g.J.Naming.entry c.args.alone run.heap run.frames.items (g.W.Watcher.seen run.watcher)
          (g.S.Sink.taken run.sink) (g.S.Sink.takes run.sink) (g.S.Sink.faults run.sink) c.finish-none.result.0
          c.finish-none.ensures.left c.finish-none.ensures.knows c.requires;
      sink = sink-over g.S.Sink.taken g.J.Naming.entry g.J.Naming.sink c.finish-none.result.0 None run.sink run.heap
          (sym (ap (λ (k : Held). k.over) c.finish-none.ensures.left) ∙ c.requires) c.finish-none.ensures.sink;
    }

pub new-requires-clause-knows : goal.new-requires-clause-knows
new-requires-clause-knows g c =
    let run = c.finish-none.result.1 in
    let knows = knows-again g.J.Naming.entry c.args.alone run.heap run.frames.items (g.W.Watcher.seen run.watcher)
    (g.S.Sink.taken run.sink) (g.S.Sink.takes run.sink) (g.S.Sink.faults run.sink) c.finish-none.result.0
    c.finish-none.ensures.left c.finish-none.ensures.knows c.requires in
    knows-as g.J.Naming.entry run.heap run.frames.items (values_of c.in-Some.notes.items) (g.W.Watcher.seen run.watcher)
    (g.S.Sink.taken run.sink) (g.S.Sink.takes run.sink) (g.S.Sink.faults run.sink) None None knows
    (sym c.in-Some.ensures) refl

pub new-requires-clause-sink : goal.new-requires-clause-sink
new-requires-clause-sink g c =
    let run = c.finish-none.result.1 in
    sink-over g.S.Sink.taken g.J.Naming.entry g.J.Naming.sink c.finish-none.result.0 None run.sink run.heap
    (sym (ap (λ (k : Held). k.over) c.finish-none.ensures.left) ∙ c.requires) c.finish-none.ensures.sink

pub new-requires-clause-many : goal.new-requires-clause-many
new-requires-clause-many g c =
    let run = c.finish-none.result.1 in
    let knows = knows-again g.J.Naming.entry c.args.alone run.heap run.frames.items (g.W.Watcher.seen run.watcher)
    (g.S.Sink.taken run.sink) (g.S.Sink.takes run.sink) (g.S.Sink.faults run.sink) c.finish-none.result.0
    c.finish-none.ensures.left c.finish-none.ensures.knows c.requires in
    let many = many-frames g.J.Naming.entry run.heap run.frames.items (g.W.Watcher.seen run.watcher) (g.S.Sink.taken run.sink)
    (g.S.Sink.takes run.sink) (g.S.Sink.faults run.sink) knows in
    sym (length-map c.in-Some.notes.items (λ (s : Snapshot ThreadFrames). s.value)) ∙ ap (λ (fs : List ThreadFrames). length fs) c.in-Some.ensures ∙ many

pub new-requires-3-clause-parts : goal.new-requires-3-clause-parts
new-requires-3-clause-parts g c κs within =
    let run = c.finish-none.result.1 in
    let knows = knows-again g.J.Naming.entry c.args.alone run.heap run.frames.items (g.W.Watcher.seen run.watcher)
    (g.S.Sink.taken run.sink) (g.S.Sink.takes run.sink) (g.S.Sink.faults run.sink) c.finish-none.result.0
    c.finish-none.ensures.left c.finish-none.ensures.knows c.requires in
    let many = many-frames g.J.Naming.entry run.heap run.frames.items (g.W.Watcher.seen run.watcher) (g.S.Sink.taken run.sink)
    (g.S.Sink.takes run.sink) (g.S.Sink.faults run.sink) knows in
    ap (λ (d : Desked). length d.noted) (c.in-Ok.ensures.ok ∙ c.new.ensures.new)
    ∙ ap (λ (fs : List ThreadFrames). length fs) c.in-Some.ensures ∙ many

pub returns-in-Ok-new-clause-many : goal.returns-in-Ok-new-clause-many
returns-in-Ok-new-clause-many g c =
    let run = c.finish-none.result.1 in
    let knows = knows-again g.J.Naming.entry c.args.alone run.heap run.frames.items (g.W.Watcher.seen run.watcher)
    (g.S.Sink.taken run.sink) (g.S.Sink.takes run.sink) (g.S.Sink.faults run.sink) c.finish-none.result.0
    c.finish-none.ensures.left c.finish-none.ensures.knows c.requires in
    let many = many-frames g.J.Naming.entry run.heap run.frames.items (g.W.Watcher.seen run.watcher) (g.S.Sink.taken run.sink)
    (g.S.Sink.takes run.sink) (g.S.Sink.faults run.sink) knows in
    many
