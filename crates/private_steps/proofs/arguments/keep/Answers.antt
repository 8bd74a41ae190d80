use Rattle.std.proofs.Common.{◌∙◌, ap, reverse, arith}
use Rattle.private_steps.proofs.Parameters.{kept-first, kept-past}
use Rattle.private_steps.proofs.arguments.keep.Goals as goal

pub returns-then-left-lt-ARGUMENTS-clause-items : goal.returns-then-left-lt-ARGUMENTS-clause-items
returns-then-left-lt-ARGUMENTS-clause-items g c later h =
    ap reverse c.push_reserved.ensures.items ∙ kept-first c.args.items.now.items later c.args.given c.args.left
    (omega (arith, c.if-left-lt-ARGUMENTS.true)) h

pub returns-clause-items : goal.returns-clause-items
returns-clause-items g c later h =
    kept-past c.args.items.now.items later c.args.given c.args.left (omega (arith, c.if-left-lt-ARGUMENTS.false)) h
