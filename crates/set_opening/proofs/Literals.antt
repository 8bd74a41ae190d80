-- A class set has few literals: a class file's pool has room for fewer than 2^16 entries.
use Rattle.std.proofs.Common.{ℕ, ◌+◌, ◌*◌, ◌≤◌, ◌^◌, List, [], ◌∷◌, ◌++◌, Option, Some, None, true, false, length, arith}
use Rattle.std.proofs.Common.{if◌then◌else◌}
use Rattle.std.specs.Prelude.{All, is_some}
use Rattle.std.specs.List.{flat_map}
use Rattle.std.specs.Option.{option_to_list}
use Rattle.std.proofs.lemmas.List.{length-append, length-map}
use Rattle.std.proofs.lemmas.List.Elements.{All-head, All-tail}
use Rattle.const_pool.specs.Pool.{Slots, string_of}
use Rattle.class_file.specs.declared.class.ClassFile.{ClassFile}
use Rattle.class_file.specs.Classes.{CanBeRead}
use Rattle.text_table.specs.Texts.{place_of, with_text, with_texts}
use Rattle.class_set.specs.Literals.{chars_of, literals_of, strings_in, texts_of}
use Rattle.set_opening.proofs.Pools.{pool_few}

one_more : (texts : List (List ℕ)) (text : List ℕ) → length (with_text texts text) ≤ length texts + 1
one_more texts text = elim (is_some (place_of texts text))
    as (λ b. length (if b then texts else texts ++ text ∷ []) ≤ length texts + 1) [
      | true ↦ omega arith
      | false ↦ omega (arith, length-append texts (text ∷ []))
    ]

all_more : (texts others : List (List ℕ)) → length (with_texts texts others) ≤ length texts + length others
all_more texts [] = omega arith
all_more texts (t ∷ others) = omega (arith, all_more (with_text texts t) others, one_more texts t)

at_most_one : (o : Option (List ℕ)) → length (option_to_list o) ≤ 1
at_most_one None = omega arith
at_most_one (Some x) = omega arith

strings_few : (pool slots : Slots)
    → length (flat_map (λ slot. option_to_list (string_of pool slot)) slots) ≤ length slots
strings_few pool [] = omega arith
strings_few pool (slot ∷ slots) =
    omega (
      arith,
      length-append (option_to_list (string_of pool slot))
          (flat_map (λ s. option_to_list (string_of pool s)) slots),
      at_most_one (string_of pool slot),
      strings_few pool slots,
    )

all_few : (files : List ClassFile) → All CanBeRead files
    → length (flat_map strings_in files) ≤ 2 ^ 16 * length files
all_few [] read = omega arith
all_few (c ∷ files) read =
    omega (
      arith,
      length-append (strings_in c) (flat_map strings_in files),
      strings_few c.pool c.pool,
      pool_few c (All-head CanBeRead c files read),
      all_few files (All-tail CanBeRead c files read),
    )

pub literals_few : (files : List ClassFile) → All CanBeRead files → length files ≤ 4096
    → length (literals_of files) ≤ 2 ^ 28
literals_few files read few =
    omega (
      arith,
      length-map (texts_of files) chars_of,
      all_more [] (flat_map strings_in files),
      all_few files read,
      few,
    )
