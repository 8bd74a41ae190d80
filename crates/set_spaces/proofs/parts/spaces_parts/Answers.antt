use Rattle.std.proofs.Common.{◌∙◌, sym}
use Rattle.directories.specs.Planning.{directory_of_kept}
use Rattle.set_spaces.proofs.Given.{lists_classes, objects_are}
use Rattle.set_spaces.proofs.Homes.{homes_named}
use Rattle.set_spaces.proofs.parts.spaces_parts.Goals as goal

pub returns-clause-parts : goal.returns-clause-parts
returns-clause-parts c graph named =
    let set = c.args.set.now in
    let directory = directory_of_kept c.args.directory.now in
    let linked = c.shapes-linked.ensures.linked in
    let consistent = c.linked_sets_are_consistent.ensures.consistent set linked in
    let tables = c.in_ok-tables_of.field-0 in
    let are = c.in_ok-tables_of.ensures in
    record {
      consistent = consistent;
      tables = are.tables;
      objects = objects_are set directory tables c.requires.classes are.tables are.listed
          (c.made_arrays_are_known.ensures.makes set) consistent
          (c.made_arrays_are_known.ensures.arguments set)
          c.in_ok-objects_of.field-0 c.in_ok-objects_of.ensures (c.literals_are_short.ensures set linked);
      statics = c.in_ok-first_fields.ensures
          ∙ sym (homes_named set graph c.roots.result.now (named ∙ sym c.roots.ensures));
      roots_differ = c.roots_of_linked_sets_differ.ensures set linked;
    }

pub returns-clause-listed : goal.returns-clause-listed
returns-clause-listed c =
    let are = c.in_ok-tables_of.ensures in
    lists_classes c.args.set.now (directory_of_kept c.args.directory.now) c.in_ok-tables_of.field-0
    c.requires.classes are.tables are.listed
