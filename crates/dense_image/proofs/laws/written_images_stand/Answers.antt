use Rattle.dense_image.proofs.Dense.{whole}
use Rattle.dense_image.proofs.laws.written_images_stand.Goals as goal

pub returns : goal.returns
returns c = whole
