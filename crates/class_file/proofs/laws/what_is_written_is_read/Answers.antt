use Rattle.std.proofs.Common.{◌≡◌, List, ℕ, Ok, subst}
use Rattle.class_file.specs.Classes.{class_in}
use Rattle.class_file.proofs.Spelled.{class_spelled}
use Rattle.class_file.proofs.laws.what_is_written_is_read.Goals as goal

pub returns : goal.returns
returns c = λ class can. subst (λ (text : List ℕ). class_in text ≡ Ok class) (class_spelled can.bytes class can.are_bytes can.read).0 can.read
