use Rattle.std.proofs.Common.{◌++◌, List, ℕ, ap, ◌∙◌, sym, arith}
use Rattle.image_meaning.specs.Entries.{spelled}
use Rattle.directories.specs.Read.{entry_of}
use Rattle.directories.proofs.Plans.{spelled_taken, spelled_within}
use Rattle.directories.proofs.planning.spell_all.Goals as goal

pub push_entry-requires : goal.push_entry-requires
push_entry-requires c =
    omega (arith, spelled_within c.args.entries.now c.entry-item.result c.loop-entry.entry-index c.loop-entry-test.true c.entry-item.is, c.requires)

pub loop-entry-preserved : goal.loop-entry-preserved
loop-entry-preserved c =
    let entries = c.args.entries.now in
    let i = c.loop-entry.entry-index in
    let entry = c.entry-item.result in
    c.in_ok-push_entry.ensures
    ∙ ap (λ (words : List ℕ). words ++ spelled (entry_of entry)) c.loop-entry.invariant
    ∙ sym (spelled_taken entries entry i c.loop-entry-test.true c.entry-item.is)
