use Rattle.plain_model.proofs.OwnGraph.{own_graph}
use Rattle.plain_model.proofs.laws.the_first_heap_has_its_graph.Goals as goal

pub returns : goal.returns
returns c set opening complete is (other, sound, canonical) =
    own_graph set opening is complete other sound canonical
