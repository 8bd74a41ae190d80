use Rattle.std.proofs.Common.{sym}
use Rattle.std.specs.Prelude.{codes}
use Rattle.class_set.specs.Linked.{class_named}
use Rattle.audit_rows.proofs.Mains.{main_known}
use Rattle.audit_rows.proofs.histories.verdict.Goals as goal

pub audit_run-requires-clause-main : goal.audit_run-requires-clause-main
audit_run-requires-clause-main c =
    let set = c.in_ok-set.set in
    (c.in-Ok.main, main_known set (class_named set (codes "Main")) c.in-Ok.main (sym c.in-Ok.ensures.found))
