-- A run that begins from a graph of one node is calm.
use Rattle.std.proofs.Common.{◌≡◌, ◌≤◌, List, [], ◌++◌, map, length, refl, ap, arith}
use Rattle.std.proofs.lemmas.List.{length-append, length-map}
use Rattle.graph_model.specs.declared.types.Graph.{Graph}
use Rattle.plain_model.specs.First.{first_heap, first_objects, first_world, node_object}
use Rattle.plain_heap.specs.Heaps.{shown_of}
use Rattle.plain_launch.proofs.Starting.{some_limits}
use Rattle.plain_launch.specs.Launches.{launch_of}
use Rattle.plain_launch.specs.declared.launches.PlainRun.{PlainRun}
use Rattle.plain_machine.specs.Standing.{Stands}
use Rattle.run_forms.specs.Standing.{known_at}
use Rattle.program_host.specs.Hosts.{setting_in}
use Rattle.program_launch.specs.declared.mains.Main.{Main}
use Rattle.class_set.specs.Facts.{facts_of}
use Rattle.class_set.specs.Linked.{Linked}
use Rattle.plain_rows.specs.Playing.{IsPlaying}

front : {X : Type 0} (xs ys : List X) → length xs ≤ length (xs ++ ys)
front xs ys = omega (arith, length-append xs ys)

pub plays : (set : Linked) (main : Main) (opening : Graph) (run : PlainRun) → length opening.nodes ≡ 1
    → Stands (launch_of set main opening some_limits) [] (facts_of set) (setting_in run.host)
    (shown_of run.plain.world.heap) run.plain.world.rest run.plain.world.steps run.plain.lanes.items
    → IsPlaying (facts_of set) run
unfolding first_world first_heap
plays set main opening run one stands =
    let facts = facts_of set in
    let nodes = map (node_object facts opening) opening.nodes in
    let long : length nodes ≡ length opening.nodes = length-map opening.nodes (node_object facts opening) in
    let in_front : length nodes ≤ length (first_objects facts opening) = front nodes _ in
    let objects : (known_at (launch_of set main opening some_limits) []).world.heap.objects ≡ first_objects facts opening = refl in
    record {
      launch = launch_of set main opening some_limits;
      acts = [];
      stands = stands;
      calm = record {
        count = length opening.nodes;
        durable = refl;
        few = omega (arith, one);
        there = omega (arith, in_front, long, ap length objects);
        guards = refl;
        unfenced = refl;
        early = refl;
      };
    }
