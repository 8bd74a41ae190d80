-- String literals are short, as each text of a pool is.
use Rattle.std.proofs.Common.{◌≡◌, ℕ, ◌+◌, ◌*◌, ◌%◌, ◌<◌, ◌≤◌, ◌^◌, nat_lt, true, false, List, [], ◌∷◌, map, length}
use Rattle.std.proofs.Common.{slice_index_or, Option, Some, None, refl, subst, arith, if◌then◌else◌}
use Rattle.std.specs.Prelude.{All}
use Rattle.std.specs.List.{flat_map}
use Rattle.std.specs.Option.{option_to_list}
use Rattle.std.proofs.lemmas.List.Elements.{All-append, All-cons, All-head, All-map, All-nil, All-tail}
use Rattle.const_pool.specs.declared.entry.Entry.{Entry}
use Rattle.const_pool.specs.declared.entry.Entry.TheVariants as entry
use Rattle.const_pool.specs.Pool.{Slots, string_of, utf8_at}
use Rattle.class_file.specs.declared.class.ClassFile.{ClassFile}
use Rattle.class_file.specs.Classes.{CanBeRead}
use Rattle.class_set.specs.Literals.{chars_of, literals_of, strings_in, strings_of, texts_of}
use Rattle.class_set.proofs.FieldsRead.{class_sound}
use Rattle.class_set.proofs.LiteralsDiffer.{all_added}
use Rattle.class_set.proofs.PoolTexts.{AreShort}

-- ---- texts

abbrev IsShort : List ℕ → Type 0
IsShort text = length text < 2 ^ 16

found_short : (o : Option (List ℕ)) → ((t : List ℕ) → o ≡ Some t → IsShort t) → All IsShort (option_to_list o)
found_short None h = All-nil IsShort
found_short (Some t) h = All-cons IsShort t [] (h t refl) (All-nil IsShort)

slot_short : (pool : Slots) (o : Option Entry) → AreShort pool → All IsShort (option_to_list (string_of pool o))
slot_short pool (Some (entry.String i)) h = found_short (utf8_at pool i) (h i)
slot_short pool other h = All-nil IsShort

slots_short : (pool slots : Slots) → AreShort pool → All IsShort (flat_map (λ slot. option_to_list (string_of pool slot)) slots)
slots_short pool [] h = All-nil IsShort
slots_short pool (o ∷ slots) h =
    All-append IsShort (option_to_list (string_of pool o)) (flat_map (λ slot. option_to_list (string_of pool slot)) slots)
    (slot_short pool o h) (slots_short pool slots h)

files_short : (files : List ClassFile) → All CanBeRead files → All IsShort (flat_map strings_in files)
files_short [] h = All-nil IsShort
files_short (c ∷ cs) h =
    All-append IsShort (strings_in c) (flat_map strings_in cs)
    (slots_short c.pool c.pool (class_sound c (All-head CanBeRead c cs h)).short) (files_short cs (All-tail CanBeRead c cs h))

texts_short : (files : List ClassFile) → All CanBeRead files → All IsShort (texts_of files)
texts_short files h = all_added IsShort [] (flat_map strings_in files) (All-nil IsShort) (files_short files h)

-- ---- chars

-- no code unit is spelled by less than a byte
fewer_chars : (t : List ℕ) → length (chars_of t) ≤ length t
fewer_chars [] = omega arith
fewer_chars (a ∷ []) = omega arith
fewer_chars (a ∷ b ∷ []) =
    elim (nat_lt a 128) as (λ x. length (if x then a ∷ chars_of (b ∷ []) else (64 * (a % 32) + b % 64) ∷ []) ≤ 2)
    [ true ↦ omega arith | false ↦ omega arith ]
fewer_chars (a ∷ b ∷ c ∷ rest) =
    let two = (64 * (a % 32) + b % 64) ∷ chars_of (c ∷ rest) in
    let three = (4096 * (a % 16) + 64 * (b % 64) + c % 64) ∷ chars_of rest in
    elim (nat_lt a 128) as (λ x. length (if x then a ∷ chars_of (b ∷ c ∷ rest) else (if nat_lt a 224 then two else three))
    ≤ length (a ∷ b ∷ c ∷ rest)) [
      | true ↦ omega (arith, fewer_chars (b ∷ c ∷ rest))
      | false ↦ elim (nat_lt a 224) as (λ x. length (if x then two else three) ≤ length (a ∷ b ∷ c ∷ rest)) [
        | true ↦ omega (arith, fewer_chars (c ∷ rest))
        | false ↦ omega (arith, fewer_chars rest)
      ]
    ]

pub literals_short : (files : List ClassFile) → All CanBeRead files → All IsShort (literals_of files)
literals_short files h =
    All-map IsShort chars_of (texts_of files) (λ k d l.
    let short = texts_short files h k d l in omega (arith, short, fewer_chars (slice_index_or (texts_of files) k d)))
