use Rattle.std.proofs.Common.{◌≡◌, ◌≤◌, ℕ, List, length, ap, sym, subst, arith}
use Rattle.image_layout.specs.Places.{root_slots}
use Rattle.image_meaning.specs.Directories.{Directory, no_entries}
use Rattle.image_meaning.proofs.Directories.{entries-taken, roots-few}
use Rattle.directories.specs.Read.{the_directory}
use Rattle.directories.proofs.Continuing.{read_few}
use Rattle.directories.proofs.reading.read_directory.Goals as goal

pub unplanned-requires-clause-few : goal.unplanned-requires-clause-few
unplanned-requires-clause-few g c =
    let words = c.in_ok-words.words.items in
    let few = read_few (length c.as_slice.result.now) (the_directory c.in_ok-shapes.shapes.items c.in_ok-shapes.roots.items) c.as_slice.result.now
    c.in_ok-shapes.ensures.found in
    omega (arith, few, ap (λ (l : List ℕ). length l) c.as_slice.ensures.value, c.in_ok-words.ensures.count)

pub returns-clause-few : goal.returns-clause-few
returns-clause-few g c =
    let words = c.as_slice.result.now in
    let taken = entries-taken (length words) 0 no_entries _ words c.in_ok-shapes.ensures.found in
    let few = roots-few no_entries taken.0 taken.2 (omega arith) in
    subst (λ (rs : List (List ℕ)). length rs ≤ root_slots) (sym c.unplanned.ensures.roots)
    (subst (λ (d : Directory). length d.roots ≤ root_slots) (sym taken.3) few)
