-- An image is well formed exactly where none of the checks fails.
use Rattle.std.proofs.Common.{◌↔◌, ℕ}
use Rattle.image_meaning.specs.Checks.{Words}
use Rattle.image_meaning.specs.Logs.{put_back}
use Rattle.image_meaning.specs.Meaning.{graph_found, IsWellFormed}
use Rattle.image_meaning.specs.Opening.{PassesAll}
use Rattle.image_meaning.proofs.Standing.{used-magic}
use Rattle.image_meaning.proofs.Standings.{standing-found, found-stands}

pub well_formed-passes : (size : ℕ) (words : Words) → IsWellFormed size words ↔ PassesAll size words
well_formed-passes size words = (
  λ is.
      let found = standing-found size words is.1 is.0 is.2 in
      (used-magic size (words 0) is.0 found.finds.opens.super, found.directory, found.lines, found.finds),
  λ passes.
      (passes.3.opens.used, graph_found passes.1 (put_back words) passes.2, found-stands size words passes.1 passes.2 passes.3),
)
