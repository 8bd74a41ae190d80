use Rattle.std.proofs.Common.{◌∙◌, subst, sym}
use Rattle.graph_model.specs.declared.types.Graph.{Graph}
use Rattle.line_image.specs.Crash.{first_word}
use Rattle.line_image.specs.Memory.{size_of, told_of, trace_of}
use Rattle.line_memory.specs.Memory.{shown}
use Rattle.image_meaning.specs.Meaning.{StandsFor, meaning}
use Rattle.autopersist.proofs.Passed.{same_graph}
use Rattle.reopened_runs.proofs.Left.{attached_stands, fresh_reads, left_stands, not_bad}
use Rattle.reopened_runs.proofs.stopping.recover_left.Goals as goal

pub returns-in-Ok : goal.returns-in-Ok
returns-in-Ok c = record {
  found = record {
    opened =
        let image = c.args.left in
        let opened = c.in-Ok.ensures.opened in
        subst (λ (it : Graph). StandsFor (size_of image) (first_word (trace_of image)) it) (sym c.give_back-graph.ensures.graph)
        (left_stands (told_of image) tt (first_word (trace_of image)) (fresh_reads image c.requires.untouched) opened.0
        opened.1.attached c.in-Ok.opened.graph opened.1.stands);
    stood = λ graph stands.
        let image = c.args.left in
        let opened = c.in-Ok.ensures.opened in
        let before = opened.0 in
        c.give_back-graph.ensures.graph
        ∙ same_graph (meaning before.size (shown before)) c.in-Ok.opened.graph graph opened.1.stands
        (attached_stands (told_of image) tt (first_word (trace_of image)) (fresh_reads image c.requires.untouched) graph stands before
        opened.1.attached);
    refused = λ graph stands. tt;
    bad = tt;
    cause = c.give_back-graph.ensures.faults ∙ c.in-Ok.ensures.spared;
  };
}

pub returns-in-Err : goal.returns-in-Err
returns-in-Err c = record {
  found = record {
    opened = tt;
    stood = λ graph stands. tt;
    refused = λ graph stands.
        let image = c.args.left in
        not_bad (told_of image) tt (first_word (trace_of image)) (fresh_reads image c.requires.untouched) graph stands c.in-Err.why
        c.in-Err.ensures.bad;
    bad = c.in-Err.ensures.bad;
    cause = c.in-Err.ensures.cause;
  };
}
