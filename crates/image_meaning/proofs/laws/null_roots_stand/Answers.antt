use Rattle.image_meaning.proofs.Arrays.{null_roots-stand}
use Rattle.image_meaning.proofs.laws.null_roots_stand.Goals as goal

pub returns : goal.returns
returns c size words entries is are spells zeros = null_roots-stand size words entries is are spells zeros
