use Rattle.std.proofs.Common.{◌≡◌, length, map, ap, sym, ◌∙◌, arith}
use Rattle.text_table.specs.Texts.{with_texts}
use Rattle.class_code.specs.Entries.{rows_in, signature_rows}
use Rattle.class_code.specs.Signatures.{text_of}
use Rattle.class_code.proofs.Rowed.{rows_more}
use Rattle.class_code.proofs.Signed.{texts_more}
use Rattle.class_code.proofs.Sizes.{in_few, signature_few, signed_few}
use Rattle.class_code.proofs.signatures.add_entries.Goals as goal

pub add_entry-requires : goal.add_entry-requires
add_entry-requires c =
    let pool = c.args.pool.now in
    let index = c.loop-index.index in
    let counted = ap length (c.loop-index.invariant 0) in
    let signed = signed_few c.args.signatures.now (rows_in signature_rows 0 pool index) in
    let few = in_few (signature_rows 0 pool) (signature_few 0 pool) index in
    let room = c.requires in
    omega (arith, counted, signed, few, room)

pub loop-index-preserved : goal.loop-index-preserved
loop-index-preserved c = λ class.
    let pool = c.args.pool.now in
    let index = c.loop-index.index in
    let old = c.args.signatures.now in
    let more = signature_rows class pool index in
    c.in_ok-add_entry.ensures class
    ∙ ap (λ ts. with_texts ts (map text_of more)) (c.loop-index.invariant class)
    ∙ texts_more old (rows_in signature_rows class pool index) more
    ∙ ap (λ ss. with_texts old (map text_of ss)) (sym (rows_more (signature_rows class pool) index))

pub returns : goal.returns
returns c = λ class.
    let all : c.loop-index.index ≡ length c.args.pool.now = omega arith in
    c.loop-index.invariant class
    ∙ ap (λ n. with_texts c.args.signatures.now (map text_of (rows_in signature_rows class c.args.pool.now n))) all
