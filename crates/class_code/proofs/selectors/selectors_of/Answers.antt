use Rattle.std.proofs.Common.{rules, ◌≡◌, ◌<◌, ◌≤◌, ◌++◌, Some, length, slice_index_or, refl, ap, sym, ◌∙◌, arith}
use Rattle.std.specs.Prelude.{slice_get}
use Rattle.std.proofs.lemmas.Option.{slice_get_read}
use Rattle.class_code.specs.Entries.{rows_before, rows_in, selector_rows}
use Rattle.class_code.proofs.Rowed.{class_more}
use Rattle.class_code.proofs.selectors.selectors_of.Goals as goal

pub loop-class-preserved : goal.loop-class-preserved
loop-class-preserved c =
    let files = c.args.set.now.files in
    let i = c.loop-class.class in
    let file = c.file-item.result in
    let items = c.files-file-items.ensures in
    let row = selector_rows c.args.set.now in
    let at : file ≡ slice_index_or files i file = c.file-item.is ∙ ap (λ xs. slice_index_or xs i file) items in
    let l : i < length files = omega (arith, c.loop-class-test.true, ap length items) in
    let there : slice_get files i ≡ Some file = slice_get_read files (length files) i file refl l at in
    c.in_ok-add_selectors.ensures
    ∙ ap (λ ss. ss ++ rows_in row i file.pool (length file.pool)) c.loop-class.invariant
    ∙ sym (class_more row files i file there)

pub returns : goal.returns
returns c =
    let files = c.args.set.now.files in
    let past : length files ≤ c.loop-class.class = omega (arith, c.loop-class-test.false, ap length c.files-file-items.ensures) in
    let all : c.loop-class.class ≡ length files = omega (arith, past, ap length c.files-file-items.ensures) in
    let listed : c.from_vec.result ≡ c.loop-class.selectors.items = search rules in
    listed ∙ c.loop-class.invariant ∙ ap (λ n. rows_before (selector_rows c.args.set.now) files n) all
