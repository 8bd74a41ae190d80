use Rattle.kept_lists.proofs.Fits.{fitting-sound, kept-lists-fit}
use Rattle.kept_lists.proofs.laws.kept_lists_fit.Goals as goal

pub returns : goal.returns
returns c = record { fit = kept-lists-fit; sound = fitting-sound }
