use Rattle.std.proofs.Common.{◌≡◌, ℕ, List, refl, sym, ◌∙◌, ap, subst}
use Rattle.std.proofs.lemmas.Result.{on_ok_weaker}
use Rattle.text_table.specs.Sorted.{insert_text}
use Rattle.image_meaning.specs.Directories.{with_entry}
use Rattle.directories.specs.declared.entries.Entry.{Entry}
use Rattle.directories.specs.declared.names.Names.{Names}
use Rattle.directories.specs.Read.{entry_of}
use Rattle.directories.specs.Names.{AreNamesOf}
use Rattle.directories.proofs.SortedNames.{with_shape, with_root}
use Rattle.directories.proofs.names.Names.add.Goals as goal

pub returns-in-Shape : goal.returns-in-Shape
returns-in-Shape c directory are =
    let old : Names = c.args.self.now in
    let new : Names = record { shapes = c.add.new.self; roots = old.roots } in
    on_ok_weaker c.add.result
    (λ added. subst (λ (e : Entry). AreNamesOf (with_entry directory (entry_of e)) new) (sym c.in-Shape.is)
    (with_shape directory c.in-Shape.shape old new (added ∙ ap (λ (t : List ℕ). insert_text old.shapes t) c.as_slice.ensures.same) refl are))
    c.add.ensures.added

pub returns-in-Root : goal.returns-in-Root
returns-in-Root c directory are =
    let old : Names = c.args.self.now in
    let new : Names = record { shapes = old.shapes; roots = c.add-in-Root.new.self } in
    on_ok_weaker c.add-in-Root.result
    (λ added. subst (λ (e : Entry). AreNamesOf (with_entry directory (entry_of e)) new) (sym c.in-Root.is)
    (with_root directory c.in-Root.name old new (added ∙ ap (λ (t : List ℕ). insert_text old.roots t) c.as_slice-in-Root.ensures.same) refl are))
    c.add-in-Root.ensures.added
