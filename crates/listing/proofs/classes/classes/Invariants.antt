use Rattle.std.proofs.Common.{◌≡◌, ◌++◌, length}
use Rattle.std.specs.Prelude.{Ok, All}
use Rattle.parsing.specs.Results.{◌>>=◌}
use Rattle.class_file.specs.Classes.{CanBeRead}
use Rattle.listing.specs.Classes.{classes_in}
use Rattle.listing.proofs.classes.classes.Given as goal

abbrev pub invariant-files : goal.invariant-files
invariant-files l =
    All CanBeRead l.classes.items
    × ((classes_in l.rest >>= λ found. Ok (l.classes.items ++ found)) ≡ classes_in l.files)

abbrev pub decreases-files : goal.decreases-files
decreases-files l = length l.rest
