use Rattle.std.proofs.Common.{◌≡◌, length, ap, sym, ◌∙◌, ◌++◌, append_assoc, arith}
use Rattle.class_code.specs.Entries.{rows_in, selector_rows}
use Rattle.class_code.proofs.Rowed.{rows_more}
use Rattle.class_code.proofs.selectors.add_selectors.Goals as goal

pub loop-index-preserved : goal.loop-index-preserved
loop-index-preserved c =
    let row = selector_rows c.args.set.now in
    let class = c.args.class in
    let pool = c.args.pool.now in
    let more = row class pool c.loop-index.index in
    let so_far = rows_in row class pool c.loop-index.index in
    c.in_ok-add_selector.ensures ∙ ap (λ ss. ss ++ more) c.loop-index.invariant
    ∙ append_assoc c.args.selectors.now.items so_far more
    ∙ ap (λ ss. c.args.selectors.now.items ++ ss) (sym (rows_more (row class pool) c.loop-index.index))

pub returns : goal.returns
returns c =
    let all : c.loop-index.index ≡ length c.args.pool.now = omega arith in
    c.loop-index.invariant
    ∙ ap (λ n. c.args.selectors.now.items ++ rows_in (selector_rows c.args.set.now) c.args.class c.args.pool.now n) all
