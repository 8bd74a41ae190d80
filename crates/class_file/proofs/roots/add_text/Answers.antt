use Rattle.std.proofs.Common.{rules}
use Rattle.class_file.proofs.RootTexts.{one_more}
use Rattle.class_file.proofs.roots.add_text.Goals as goal

pub returns-in_ok-insert-in-Some-clause-added : goal.returns-in_ok-insert-in-Some-clause-added
returns-in_ok-insert-in-Some-clause-added c =
    λ roots are. one_more c.args.pool.now roots c.args.index c.as_slice.result c.args.texts.now c.insert.new.self (search rules) c.in_ok-insert-in-Some.ensures.updates are
