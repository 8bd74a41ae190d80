use Rattle.std.proofs.Common.{sym, subst}
use Rattle.dense_image.specs.Graphs.{CanBeStoodFor}
use Rattle.compact_call.specs.Outcomes.{StoodFor}
use Rattle.compact_call.proofs.OldImages.{stood_for, can_be_written, old_fault, unopened_size, opening_cause, still_kept}
use Rattle.compact_call.proofs.old.read_graph.Goals as goal

pub returns-in-Ok-clause-can : goal.returns-in-Ok-clause-can
returns-in-Ok-clause-can g c =
    let f = c.in-Ok.found in
    let o = c.in-Ok.ensures.opened in
    let given = c.give_back-graph.ensures.given (g.I.Image.told c.args.image) o.0 o.1 in
    subst CanBeStoodFor (sym c.give_back-graph.ensures.graph)
    (can_be_written c.standing_graphs_can_be_written.ensures (g.I.Image.told c.args.image) (g.I.Image.told c.give_back-graph.result.1) f.graph given)

pub returns-in-Ok-clause-stood : goal.returns-in-Ok-clause-stood
returns-in-Ok-clause-stood g c =
    let f = c.in-Ok.found in
    let o = c.in-Ok.ensures.opened in
    let given = c.give_back-graph.ensures.given (g.I.Image.told c.args.image) o.0 o.1 in
    subst (StoodFor (g.I.Image.told c.args.image)) (sym c.give_back-graph.ensures.graph)
    (stood_for (g.I.Image.told c.args.image) (g.I.Image.told c.give_back-graph.result.1) f.graph given)

pub returns-in-Ok-clause-kept : goal.returns-in-Ok-clause-kept
returns-in-Ok-clause-kept g c =
    still_kept (g.I.Image.told c.args.image) (g.I.Image.told c.give_back-graph.result.1) c.in-Ok.found.memory.image
    c.give_back-graph.ensures.told c.in-Ok.ensures.stops

pub returns-in-Ok-clause-size : goal.returns-in-Ok-clause-size
returns-in-Ok-clause-size g c =
    let o = c.in-Ok.ensures.opened in
    (c.give_back-graph.ensures.given (g.I.Image.told c.args.image) o.0 o.1).size

pub returns-in-Err-clause-fault : goal.returns-in-Err-clause-fault
returns-in-Err-clause-fault g c =
    old_fault (g.I.Image.told c.args.image) c.in-Err.fault c.of_opening.result c.of_opening.ensures c.in-Err.ensures.bad

pub returns-in-Err-clause-size_unopened : goal.returns-in-Err-clause-size_unopened
returns-in-Err-clause-size_unopened g c =
    unopened_size (g.I.Image.told c.args.image) (g.I.Image.told c.in-Err.image) c.in-Err.fault c.in-Err.ensures.unopened

pub returns-in-Err-clause-cause : goal.returns-in-Err-clause-cause
returns-in-Err-clause-cause g c =
    opening_cause c.in-Err.fault c.of_opening.result (g.I.Image.faults c.args.image) (g.I.Image.faults c.in-Err.image) c.of_opening.ensures
    c.in-Err.ensures.cause
