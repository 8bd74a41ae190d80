use Rattle.image_meaning.proofs.WellFormed.{well_formed-passes}
use Rattle.image_meaning.proofs.laws.well_formed_images_pass.Goals as goal

pub returns : goal.returns
returns c size words = well_formed-passes size words
