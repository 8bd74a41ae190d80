use Rattle.std.proofs.Common.{List, [], ap, sym, subst, ◌∙◌}
use Rattle.line_memory.specs.Memory.{Memory}
use Rattle.run_history.specs.Recorded.{History, Recorded}
use Rattle.class_set.specs.Linked.{Linked}
use Rattle.class_set.specs.Facts.{facts_of}
use Rattle.program_host.specs.Hosts.{setting_in}
use Rattle.durable_launch.specs.Passed.{EachPrintsItsShare, IsReady}
use Rattle.class_runs.specs.Runs.{Tells}
use Rattle.class_runs.proofs.Outside.{image_caused, image_spared, sink_caused, sink_spared, tells_all}
use Rattle.class_runs.proofs.sets.run_launched.Goals as goal

pub returns-clause-ran : goal.returns-clause-ran
returns-clause-ran g c = λ o first ready.
    let mine = subst (λ (s : Linked). IsReady o first (facts_of s) (setting_in c.args.launched.host) c.args.launched.heap
    c.args.launched.frames.items) (sym c.of.ensures.types) ready in
    let takes = g.S.Sink.takes c.args.sink in
    let made = c.run_all-end.result.1.heap.history.acts in
    let acts_are = ap (λ (h : History). h.acts) c.finish-acts.ensures.history in record {
      end = c.run_all-end.result.0;
      shared = c.run_all-end.result.1.heap;
      ends = c.run_all-end.ensures.ends o first mine;
      acts_are = acts_are;
      shares = subst (λ (acts : List Recorded). EachPrintsItsShare o.launch takes [] acts) (sym acts_are)
          (subst (λ (old : List Recorded). EachPrintsItsShare o.launch takes old made) c.requires.empty
          (c.run_all-end.ensures.shares o first mine).each);
      image = c.into_image.ensures.told ∙ ap (λ (m : Memory). m.image) c.finish-acts.ensures.memory;
      size = c.into_image.ensures.size ∙ ap (λ (m : Memory). m.size) c.finish-acts.ensures.memory;
      is = c.of_end.ensures;
      none = c.opening_of.ensures.none;
      some = c.opening_of.ensures.some;
    }

pub returns-clause-told : goal.returns-clause-told
returns-clause-told g c =
    let ready = c.requires.ready in
    let mine = subst (λ (s : Linked). IsReady ready.0 ready.1 (facts_of s) (setting_in c.args.launched.host) c.args.launched.heap
    c.args.launched.frames.items) (sym c.of.ensures.types) ready.2 in
    let left = c.run_all-end.result.1 in
    let acts_are = ap (λ (h : History). h.acts) c.finish-acts.ensures.history in
    subst (λ (acts : List Recorded). Tells acts (g.W.Watcher.seen c.args.watcher) (g.W.Watcher.seen left.watcher)
    (g.S.Sink.taken c.args.sink) (g.S.Sink.taken left.sink) (g.S.Sink.takes c.args.sink) (g.S.Sink.takes left.sink)) (sym acts_are)
    (tells_all c.args.launched.heap.history.acts left.heap.history.acts (g.W.Watcher.seen c.args.watcher) (g.W.Watcher.seen left.watcher)
    (g.S.Sink.taken c.args.sink) (g.S.Sink.taken left.sink) (g.S.Sink.takes c.args.sink) (g.S.Sink.takes left.sink) c.requires.empty
    c.run_all-end.ensures.told (c.run_all-end.ensures.shares ready.0 ready.1 mine).leaves)

pub returns-clause-sink_fault : goal.returns-clause-sink_fault
returns-clause-sink_fault g c = λ is.
    sink_caused c.args.set.now _ _ _ _ c.run_all-end.result.0 c.run_all-end.ensures.cause (sym c.of_end.ensures ∙ is)

pub returns-clause-sink_spared : goal.returns-clause-sink_spared
returns-clause-sink_spared g c = λ isnt.
    sink_spared c.args.set.now _ _ _ _ c.run_all-end.result.0 c.run_all-end.ensures.cause (λ is. isnt (c.of_end.ensures ∙ is))

pub returns-clause-image_fault : goal.returns-clause-image_fault
returns-clause-image_fault g c = λ is.
    c.into_image.ensures.faults ∙ ap (λ (m : Memory). m.faults) c.finish-acts.ensures.memory
    ∙ image_caused c.args.set.now _ _ _ _ c.run_all-end.result.0 c.run_all-end.ensures.cause (sym c.of_end.ensures ∙ is)

pub returns-clause-image_spared : goal.returns-clause-image_spared
returns-clause-image_spared g c = λ isnt.
    c.into_image.ensures.faults ∙ ap (λ (m : Memory). m.faults) c.finish-acts.ensures.memory
    ∙ image_spared c.args.set.now _ _ _ _ c.run_all-end.result.0 c.run_all-end.ensures.cause (λ is. isnt (c.of_end.ensures ∙ is))
