use Rattle.image_meaning.proofs.Order.{put_back-each}
use Rattle.image_meaning.proofs.laws.entries_are_put_back_one_by_one.Goals as goal

pub returns : goal.returns
returns c words line word outside = put_back-each words line word outside
