use Rattle.std.proofs.Common.{◌≡◌, length}
use Rattle.graph_model.specs.declared.types.Graph.{Graph}
use Rattle.plain_launch.proofs.Starting.{some_limits}
use Rattle.plain_rows.proofs.Beginning.{plays}
use Rattle.plain_rows.proofs.Nodes.{at_some}
use Rattle.plain_rows.proofs.play.begun.Goals as goal

pub returns : goal.returns
returns c = record {
  playing = plays c.args.set.now c.in-Ok.main c.in-Some.opening c.in_ok-run.run'
      (at_some c.in_ok-graph.graph c.in-Some.opening (λ (g : Graph). length g.nodes ≡ 1) c.in-Some.is c.in_ok-graph.ensures.one)
      (c.in_ok-run.ensures.stands some_limits);
}
