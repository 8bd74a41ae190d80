-- Any number of entries added to a directory.
use Rattle.std.proofs.Common.{List, ℕ}
use Rattle.graph_model.specs.declared.types.Graph.{Graph}
use Rattle.image_meaning.specs.Checks.{Words}
use Rattle.image_meaning.specs.Entries.{DirectoryEntry}
use Rattle.image_meaning.specs.Directories.{Directory, with_entry}
use Rattle.image_meaning.specs.Meaning.{StandsFor}
use Rattle.image_meaning.specs.Laws.{Opens}
use Rattle.image_meaning.specs.Appending.{AddsEach, Nothing, Further, HasEntriesToo, with_entry_too}
use Rattle.image_meaning.proofs.Appending.{opens-more}
use Rattle.image_meaning.proofs.Standings.{added-stands}

pub each-added : (size : ℕ) (c d : Words) (directory : Directory) (entries : List DirectoryEntry) (graph : Graph)
    → Opens size c directory → StandsFor size c graph → AddsEach c directory entries d
    → HasEntriesToo size d directory graph entries
each-added size c d directory entries graph opens stands (Nothing words found) = record { opens = opens; stands = stands }
each-added size c e directory entries graph opens stands (Further words d last found entry others is accepted adds logs behind rest) =
    let more = each-added size d last (with_entry found entry) others (with_entry_too graph entry)
    (opens-more size words d found entry opens is accepted adds logs)
    (added-stands size words d found entry graph opens stands is accepted adds logs behind) rest in
    record { opens = more.opens; stands = more.stands }
