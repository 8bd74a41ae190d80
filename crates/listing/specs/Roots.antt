-- Durable roots, of which no two of a class have one name.
use Rattle.std.specs.Prelude.{ℕ, ◌&&◌, Bool, true, false, List, [], ◌∷◌, ◌++◌, Result, Ok}
use Rattle.std.specs.List.{list_any}
use Rattle.std.specs.Str.{bytes_eq}
use Rattle.parsing.specs.Results.{◌>>=◌, placed}
use Rattle.listing_lines.specs.declared.refusal.ListingFault.TheVariants.{Syntax}
use Rattle.listing_lines.specs.declared.lines.Line.{Line}
use Rattle.listing_lines.specs.declared.lines.Line.TheVariants as line
use Rattle.listing_lines.specs.Reading.{unless}
use Rattle.listing.specs.declared.error.ListingError.{ListingError}
use Rattle.listing.specs.Structure.{at, next_number}

-- the line is a durable root with the name of an earlier one
abbrev pub is_root_again : (roots : List (List ℕ)) → Line → Bool
is_root_again roots (line.Field access name descriptor root) = root && list_any (bytes_eq name) roots
is_root_again roots other = false

-- the names of the durable roots of the class up to a line
abbrev pub roots_after : (roots : List (List ℕ)) → Line → List (List ℕ)
roots_after roots (line.Class access name) = []
roots_after roots (line.Field access name descriptor true) = roots ++ name ∷ []
roots_after roots other = roots

-- the first line that is such a root
unfoldable pub roots_from : (number : ℕ) → (roots : List (List ℕ)) → List Line
    → Result (Unit {0}) ListingError
roots_from number roots [] = Ok tt
roots_from number roots (l ∷ rest) = do
  once ← placed (at number) (unless (is_root_again roots l) Syntax)
  roots_from (next_number number) (roots_after roots l) rest
