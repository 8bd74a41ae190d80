use Rattle.std.proofs.Common.{◌≡◌, map}
use Rattle.text_table.specs.Texts.{with_texts}
use Rattle.class_code.specs.Entries.{rows_before, signature_rows}
use Rattle.class_code.specs.Signatures.{text_of}
use Rattle.class_code.proofs.Signed.{first_two}
use Rattle.class_code.proofs.signatures.signatures_of.Given as goal

abbrev pub invariant-loop-file : goal.invariant-loop-file
invariant-loop-file l = l.signatures ≡ with_texts first_two (map text_of (rows_before signature_rows l.file-items l.file-index))
