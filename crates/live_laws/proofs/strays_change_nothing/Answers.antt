use Rattle.live_heap.specs.Seen.{seen_from}
use Rattle.live_laws.specs.Firsts.{first_seen}
use Rattle.live_laws.proofs.Strays.{shapes_of_seen, taken_in}
use Rattle.live_laws.proofs.strays_change_nothing.Goals as goal

pub returns : goal.returns
returns c set opening acts a = taken_in set (seen_from (first_seen set opening) acts) a (shapes_of_seen set opening acts)
