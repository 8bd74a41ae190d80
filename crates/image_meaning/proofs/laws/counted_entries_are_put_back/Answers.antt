use Rattle.image_meaning.proofs.PuttingBack.{counted-put_back}
use Rattle.image_meaning.proofs.laws.counted_entries_are_put_back.Goals as goal

pub returns : goal.returns
returns c = counted-put_back
