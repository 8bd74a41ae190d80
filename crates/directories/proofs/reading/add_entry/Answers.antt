use Rattle.std.proofs.Common.{◌≡◌, true, sym, ◌∙◌, subst}
use Rattle.image_meaning.specs.Directories.{Directory}
use Rattle.directories.specs.Read.{entry_of, the_directory}
use Rattle.directories.specs.Names.{AreNamesOf}
use Rattle.directories.proofs.SortedNames.{there_refused, if_ok_then}
use Rattle.directories.proofs.reading.add_entry.Goals as goal

pub returns-then-has-clause-refused : goal.returns-then-has-clause-refused
returns-then-has-clause-refused c =
    let directory : Directory = the_directory c.args.shapes.now.items c.args.roots.now.items in
    let has : c.has.result ≡ true = c.if-has.true in
    there_refused directory (entry_of c.args.entry) (sym (c.has.ensures directory c.requires.names) ∙ has)

pub returns-clause-named : goal.returns-clause-named
returns-clause-named c =
    let directory : Directory = the_directory c.args.shapes.now.items c.args.roots.now.items in
    if_ok_then c.push_entry.result
    (λ taken added is. subst (λ (d : Directory). AreNamesOf d c.add.new.self) (sym (added is)) (c.in_ok-add.ensures directory c.requires.names))
    c.push_entry.ensures.added
