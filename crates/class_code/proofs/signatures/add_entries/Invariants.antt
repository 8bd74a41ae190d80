use Rattle.std.proofs.Common.{◌≡◌, ℕ, map}
use Rattle.text_table.specs.Texts.{with_texts}
use Rattle.class_code.specs.Entries.{rows_in, signature_rows}
use Rattle.class_code.specs.Signatures.{text_of}
use Rattle.class_code.proofs.signatures.add_entries.Given as goal

abbrev pub invariant-loop-index : goal.invariant-loop-index
invariant-loop-index l = (class : ℕ) → l.signatures
    ≡ with_texts l.fn.signatures (map text_of (rows_in signature_rows class l.pool l.index))
