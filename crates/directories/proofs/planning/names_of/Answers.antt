use Rattle.std.proofs.Common.{ap, ◌∙◌, sym}
use Rattle.image_meaning.specs.Directories.{Directory, with_entry}
use Rattle.directories.specs.Read.{entry_of}
use Rattle.directories.proofs.Plans.{names_taken}
use Rattle.directories.proofs.planning.names_of.Goals as goal

pub loop-entry-preserved : goal.loop-entry-preserved
loop-entry-preserved c =
    let entry = c.entry-item.result in
    c.in_ok-push_name.ensures
    ∙ ap (λ (d : Directory). with_entry d (entry_of entry)) c.loop-entry.invariant
    ∙ sym (names_taken c.args.entries.now entry c.loop-entry.entry-index c.loop-entry-test.true c.entry-item.is)
