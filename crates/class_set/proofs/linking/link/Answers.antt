use Rattle.std.proofs.Common.{rules, length, ap, sym, ◌∙◌, subst, arith}
use Rattle.std.specs.Prelude.{All}
use Rattle.class_links.specs.Kept.{kept_files}
use Rattle.class_links.specs.Links.{Links}
use Rattle.class_set.specs.ArrayTypes.{linked_from}
use Rattle.class_set.specs.Tables.{IsSmall}
use Rattle.class_file.specs.Classes.{CanBeRead}
use Rattle.class_set.proofs.Consistency.{kept_consistent, kept_linked}
use Rattle.class_set.proofs.Kept.{kept_fewer, kept_readable, kept_small}
use Rattle.class_set.proofs.linking.link.Goals as goal

pub check_links-requires : goal.check_links-requires
check_links-requires c =
    record { few = omega (arith, c.requires.few, ap length c.keep_files-files.ensures, kept_fewer c.args.classes.items, ap length c.as_slice.ensures.value) }

pub of-requires-clause-few : goal.of-requires-clause-few
of-requires-clause-few c = omega (arith, c.requires.few, ap length c.keep_files-files.ensures, kept_fewer c.args.classes.items)

pub of-requires-clause-readable : goal.of-requires-clause-readable
of-requires-clause-readable c = subst (All CanBeRead) (sym c.keep_files-files.ensures) (kept_readable c.args.classes.items c.requires.readable)

pub of-requires-clause-small : goal.of-requires-clause-small
of-requires-clause-small c = subst (All IsSmall) (sym c.keep_files-files.ensures) (kept_small c.args.classes.items c.requires.readable)

pub returns-clause-linked : goal.returns-clause-linked
returns-clause-linked c =
    let links : Links (kept_files c.args.classes.items) = search rules in
    kept_linked c.args.classes.items _ c.requires.readable links (c.in_ok-of.ensures ∙ ap linked_from c.keep_files-files.ensures)

pub returns-clause-consistent : goal.returns-clause-consistent
returns-clause-consistent c =
    let links : Links (kept_files c.args.classes.items) = search rules in
    kept_consistent c.args.classes.items _ c.requires.readable links (c.in_ok-of.ensures ∙ ap linked_from c.keep_files-files.ensures)
