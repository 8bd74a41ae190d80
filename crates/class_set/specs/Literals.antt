-- The string literals of a class set: the distinct ones, classes in the order of their files, each in pool order (JVMS 4.4.3, 4.4.7, 5.1).
-- A text has one spelling in modified UTF-8, so that texts differ where their bytes do.
use Rattle.std.specs.Prelude.{ℕ, ◌+◌, ◌*◌, ◌%◌, ◌^◌, nat_lt, slice_get, List, [], ◌∷◌, map, length, sum_by, take, Option, Some}
use Rattle.std.specs.Prelude.{None, if◌then◌else◌}
use Rattle.std.specs.List.{flat_map}
use Rattle.std.specs.Option.{option_map, option_to_list}
use Rattle.ap_base.specs.declared.reference.Ref.{Ref}
use Rattle.ap_base.specs.declared.reference.Ref.TheVariants.{Volatile}
use Rattle.graph_model.specs.declared.types.Obj.{Obj}
use Rattle.const_pool.specs.Pool.{Slots, string_of, string_at}
use Rattle.class_file.specs.declared.class.ClassFile.{ClassFile}
use Rattle.class_set.specs.Linked.{Linked}
use Rattle.text_table.specs.Texts.{place_of, with_texts}

-- the UTF-16 code units that modified UTF-8 spells
abbrev pub chars_of : List ℕ → List ℕ
chars_of [] = []
chars_of (a ∷ []) = a ∷ []
chars_of (a ∷ b ∷ []) = if nat_lt a 128 then a ∷ chars_of (b ∷ []) else (64 * (a % 32) + b % 64) ∷ []
chars_of (a ∷ b ∷ c ∷ rest) =
    if nat_lt a 128 then a ∷ chars_of (b ∷ c ∷ rest)
    else (if nat_lt a 224 then (64 * (a % 32) + b % 64) ∷ chars_of (c ∷ rest)
    else (4096 * (a % 16) + 64 * (b % 64) + c % 64) ∷ chars_of rest)

-- the texts of the String entries of a pool, in order
abbrev pub strings_of : Slots → List (List ℕ)
strings_of pool = flat_map (λ slot. option_to_list (string_of pool slot)) pool

abbrev pub strings_in : ClassFile → List (List ℕ)
strings_in c = strings_of c.pool

-- the literals' texts by their spelling
abbrev pub texts_of : List ClassFile → List (List ℕ)
texts_of files = with_texts [] (flat_map strings_in files)

abbrev pub literals_of : List ClassFile → List (List ℕ)
literals_of files = map chars_of (texts_of files)

-- the place among the literals of the String entry at an index of a pool
abbrev pub literal_place : List ClassFile → Slots → ℕ → Option ℕ
literal_place files pool index = elim (string_at pool index) [ None ↦ None | Some text ↦ place_of (texts_of files) text ]

-- the words that an object of volatile memory takes: three of its own, and one a slot
abbrev pub words_of_object : Obj → ℕ
words_of_object o = 3 + length o.values

-- the words that a literal takes: its chars, and three before them
abbrev pub words_of : List ℕ → ℕ
words_of text = 3 + length (chars_of text)

-- The words of volatile memory before the literal at a place. The stream and the arguments take three each.
abbrev pub words_before : List (List ℕ) → ℕ → ℕ
words_before texts place = 6 + sum_by words_of (take place texts)

-- a word's index, where it has one
abbrev pub index_or_none : ℕ → Option ℕ
index_or_none n = if nat_lt n (2 ^ 32) then Some n else None

-- the reference with which the literal at a place begins, where its index passes no reference's
abbrev pub reference_to : List (List ℕ) → Option ℕ → Option Ref
reference_to texts None = None
reference_to texts (Some place) = option_map (λ n. Volatile n) (index_or_none (words_before texts place))

-- what the String entry at an index of the pool of a class begins with
abbrev pub literal : Linked → (class index : ℕ) → Option Ref
literal set class index = elim (slice_get set.files class) [
  | None ↦ None
  | Some c ↦ reference_to (texts_of set.files) (literal_place set.files c.pool index)
]

-- the index of each of these literals, where so many words stand before the first
abbrev pub indices_from : ℕ → List (List ℕ) → List (Option ℕ)
indices_from n [] = []
indices_from n (t ∷ ts) = index_or_none n ∷ indices_from (n + words_of t) ts
