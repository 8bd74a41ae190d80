use Rattle.std.proofs.Common.{◌≡◌, ◌++◌, List, map, ◌∙◌, ap, subst}
use Rattle.image_meaning.specs.Entries.{DirectoryEntry, ShapeEntry, RootEntry}
use Rattle.class_set.specs.Linked.{Linked}
use Rattle.class_set.specs.Facts.{facts_of}
use Rattle.class_set.specs.Sets.{made_of}
use Rattle.directories.specs.declared.entries.Entry.{Entry}
use Rattle.directories.specs.ClassSets.{AreEntriesOf}
use Rattle.directories.specs.Read.{entry_of}
use Rattle.set_directory.specs.Written.{written_shapes, written_roots}
use Rattle.set_directory.proofs.Listed.{all_made, can_write, its_entries}
use Rattle.set_directory.proofs.classes.SetClassesClasses.entries.Goals as goal

pub returns-clause-entries : goal.returns-clause-entries
returns-clause-entries c =
    let set : Linked = c.self.inside.set.now in
    let items : List DirectoryEntry = map entry_of c.push_roots.new.entries.items in
    let known = c.made_arrays_are_known.ensures in
    let linked = c.push_shapes.ensures.linked in
    let are : items ≡ map ShapeEntry (written_shapes set) ++ map RootEntry (written_roots set) =
    c.in_ok-push_roots.ensures
    ∙ ap (λ (es : List DirectoryEntry). es ++ map RootEntry (written_roots set))
    (c.in_ok-push_shapes.ensures.pushed
    ∙ ap (λ (xs : List Entry). map entry_of xs ++ map ShapeEntry (written_shapes set)) c.new-entries.ensures.items) in
    subst (λ (s : Linked). AreEntriesOf (facts_of s) (made_of s) items) c.self.view_is
    (its_entries set items linked (known.makes set)
    (all_made set (known.chars set) (known.arguments set) (λ text there. known.known set text linked there)) are)

pub returns-clause-can : goal.returns-clause-can
returns-clause-can c =
    let set : Linked = c.self.inside.set.now in
    let items : List DirectoryEntry = map entry_of c.push_roots.new.entries.items in
    let known = c.made_arrays_are_known.ensures in
    let written = c.shapes_can_be_written.ensures in
    let linked = c.push_shapes.ensures.linked in
    let are : items ≡ map ShapeEntry (written_shapes set) ++ map RootEntry (written_roots set) =
    c.in_ok-push_roots.ensures
    ∙ ap (λ (es : List DirectoryEntry). es ++ map RootEntry (written_roots set))
    (c.in_ok-push_shapes.ensures.pushed
    ∙ ap (λ (xs : List Entry). map entry_of xs ++ map ShapeEntry (written_shapes set)) c.new-entries.ensures.items) in
    c.class_set_entries_can_be_planned.ensures (facts_of set) (made_of set) items
    (its_entries set items linked (known.makes set)
    (all_made set (known.chars set) (known.arguments set) (λ text there. known.known set text linked there)) are)
    (can_write set (written.classes set linked) (written.arrays set linked) (written.names set linked))
