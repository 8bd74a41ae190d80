use Rattle.std.proofs.Common.{◌≡◌, ◌≢◌, ℕ, [], refl, arith}
use Rattle.std.proofs.lemmas.Bool.{ne_eqb}
use Rattle.image_layout.specs.Places.{magic, slot_line, slot_word, log_head_line}
use Rattle.image_meaning.specs.Directories.{directory_of, with_entries}
use Rattle.image_meaning.specs.Entries.{read_entry}
use Rattle.image_meaning.specs.Rows.{front}
use Rattle.image_meaning.proofs.Order.{in_order, blank-stands}
use Rattle.image_meaning.proofs.Arrays.{null_roots-stand}
use Rattle.image_meaning.proofs.laws.superblock_rows.Goals as goal

front-outside : (a b c d line word : ℕ) → line ≢ 0 → front a b c d line word ≡ 0
front-outside a b c d line word h = rw (ne_eqb line 0 h) refl

pub returns : goal.returns
unfolding directory_of with_entries read_entry
returns c = record {
  too_few_lines = (in_order 32767 (front 0 0 0 0)).super _ refl;
  too_many_lines = (in_order 4194305 (front 0 0 0 0)).super _ refl;
  blank = blank-stands 32768 (front 0 7 7 7) (refl, refl);
  other_magic = (in_order 32768 (front 1 1 32768 0)).super _ refl;
  other_version = (in_order 32768 (front magic 2 32769 0)).super _ refl;
  other_lines = (in_order 32768 (front magic 1 32769 32769)).super _ refl;
  too_many_words = (in_order 32768 (front magic 1 32768 32769)).super _ refl;
  no_entry = (in_order 32768 (front magic 1 32768 1)).directory _ refl (λ e. absurd (omega (arith, e))) refl;
  no_entries = null_roots-stand 32768 (front magic 1 32768 0) [] record {
    enough = omega arith;
    most = omega arith;
    magic = refl;
    version = refl;
    lines = refl;
    directory = omega arith;
    logs = λ t h. front-outside magic 1 32768 0 (log_head_line t) 0 (λ e. absurd (omega (arith, e)));
  } tt record { used = refl; spelled = λ i h. absurd (omega (arith, h)) } (λ r h. front-outside magic 1 32768 0 (slot_line r) (slot_word r) (λ e. absurd (omega (arith, e))));
}
