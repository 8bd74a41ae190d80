-- Words that reads of an image give, and the graph for which they stand.
use Rattle.std.proofs.Common.{◌≡◌, ℕ, ◌<◌, ◌≤◌, true, nat_le, Option, Some, None, Result, Ok, Err, sym, ◌∙◌}
use Rattle.std.proofs.lemmas.Bool.{and_parts, leb-true}
use Rattle.graph_model.specs.declared.types.Graph.{Graph}
use Rattle.line_image.specs.Trace.{IsAllFenced, LeavesNow, Outcome, Trace}
use Rattle.line_memory.specs.Memory.{IsTelling, ReadsWord}
use Rattle.image_layout.specs.Places.{max_lines, min_lines}
use Rattle.image_meaning.specs.Checks.{Bad, Words}
use Rattle.image_meaning.specs.Meaning.{StandsFor}
use Rattle.image_meaning.proofs.Standing.{standing-sized}
use Rattle.image_meaning.proofs.Standings.{stands-within}

abbrev ok : Graph → Result Graph Bad
ok graph = Ok graph

pub same_graph : (r : Result Graph Bad) (a b : Graph) → r ≡ Ok a → r ≡ Ok b → a ≡ b
same_graph r a b one other = let e : ok a ≡ ok b = sym one ∙ other in cc

pub not_both : (r : Result Graph Bad) (a : Graph) (bad : Bad) → r ≡ Ok a → r ≡ Err bad → ⊥
not_both r a bad one other = let e : ok a ≡ Err bad = sym one ∙ other in cc

pub sized : (size : ℕ) (c : Words) (graph : Graph) → StandsFor size c graph → (min_lines ≤ size) × (size ≤ max_lines)
sized size c graph stands =
    let parts = and_parts (nat_le min_lines size) (nat_le size max_lines) (standing-sized size c graph stands) in
    (leb-true min_lines size parts.0, leb-true size max_lines parts.1)

-- words that are the same in all lines stand for the same
pub stands_alike : (size : ℕ) (c d : Words) (graph : Graph) → StandsFor size c graph
    → ((l w : ℕ) → l < size → d l w ≡ c l w) → StandsFor size d graph
stands_alike size c d graph stands same =
    let range = sized size c graph stands in
    stands-within size c d graph range.0 range.1 stands same

-- reads give one word
pub one_read : (o : Option Trace) → IsTelling o → (l w u v : ℕ) → ReadsWord o l w u → ReadsWord o l w v → v ≡ u
one_read None telling l w u v a b = absurd telling
one_read (Some h) telling l w u v a b = b ∙ sym a

-- what a stop leaves of an image with nothing unfenced is what reads give
pub fenced_as_read : (o : Option Trace) → IsTelling o → IsAllFenced o → (c : Outcome) → LeavesNow o c
    → (l w v : ℕ) → ReadsWord o l w v → c l w ≡ v
fenced_as_read None telling fenced c left l w v reads = absurd telling
fenced_as_read (Some h) telling fenced c left l w v reads = fenced l w (c l w) (left l w) ∙ sym reads
