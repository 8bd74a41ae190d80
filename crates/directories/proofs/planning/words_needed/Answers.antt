use Rattle.std.proofs.Common.{◌≡◌, ◌+◌, length, map, take, ap, ◌∙◌, arith}
use Rattle.std.proofs.lemmas.List.{length-append}
use Rattle.image_meaning.specs.Entries.{spelled}
use Rattle.image_meaning.specs.Directories.{spelled_all}
use Rattle.directories.specs.Read.{entry_of}
use Rattle.directories.proofs.Plans.{spelled_taken}
use Rattle.directories.proofs.planning.words_needed.Goals as goal

pub loop-entry-preserved : goal.loop-entry-preserved
loop-entry-preserved c =
    let entries = c.args.entries.now in
    let i = c.loop-entry.entry-index in
    let entry = c.entry-item.result in
    let more : length (spelled_all (map entry_of (take (i + 1) entries)))
    ≡ length (spelled_all (map entry_of (take i entries))) + length (spelled (entry_of entry)) =
    ap length (spelled_taken entries entry i c.loop-entry-test.true c.entry-item.is)
    ∙ length-append (spelled_all (map entry_of (take i entries))) (spelled (entry_of entry)) in
    omega (arith, more, c.loop-entry.invariant, c.entry_length.ensures, c.saturating_add-words.ensures)
