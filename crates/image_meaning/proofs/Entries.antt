-- What is read is spelled so, and what is spelled so is read.
use Rattle.std.proofs.Common.{◌≡◌, ◌≢◌, ℕ, zero, suc, ◌+◌, ◌-◌, ◌*◌, ◌/◌, ◌%◌, ◌^◌, ◌==◌, ◌&&◌, ◌<◌, ◌≤◌, nat_eq, min, Bool}
use Rattle.std.proofs.Common.{true, false, List, [], ◌∷◌, ◌++◌, length, take, drop, refl, sym, ◌∙◌, ap, subst, arith}
use Rattle.std.proofs.Common.{if◌then◌else◌, Option, Some, None, append_assoc, length-append, length-drop, eq-eqb}
use Rattle.std.specs.List.{starts_with, AllByRecursion}
use Rattle.std.specs.Cmp.Lexicographic.{pointwise, same_text}
use Rattle.std.proofs.lemmas.Bool.{and_parts}
use Rattle.ap_base.specs.declared.kind.Kind.{Kind}
use Rattle.ap_base.specs.declared.kind.Kind.TheVariants.{Z, B, C, S, I, J, L, Text}
use Rattle.graph_model.specs.declared.types.Field.{Field}
use Rattle.graph_model.specs.declared.types.Shape.{Shape}
use Rattle.image_meaning.specs.Entries.{DirectoryEntry, ShapeEntry, RootEntry, letter_of, word_of_bytes, words_for, some_words}
use Rattle.image_meaning.specs.Entries.{name_words, fields_words, entry_body, spelled, is_shape, is_entry, AreBytes, IsField}
use Rattle.image_meaning.specs.Entries.{IsShape, IsEntry, kind_of_letter, bytes_of_word, bytes_from, name_from, behind_name}
use Rattle.image_meaning.specs.Entries.{fields_from, shape_named, body_from, entry_from, read_entry}

-- ---- names

bytes_again : (bytes : List ℕ) → AreBytes bytes → bytes_of_word (length bytes) (word_of_bytes bytes) ≡ bytes
bytes_again [] are = refl
bytes_again (b ∷ bytes) are =
    let a : (b + 256 * word_of_bytes bytes) % 256 ≡ b = omega (arith, are.0) in
    let q : (b + 256 * word_of_bytes bytes) / 256 ≡ word_of_bytes bytes = omega (arith, are.0) in
    rw (a, q, bytes_again bytes are.1) refl

take_bytes : (n : ℕ) (bytes : List ℕ) → AreBytes bytes → AreBytes (take n bytes)
take_bytes zero bytes are = tt
take_bytes (suc n) [] are = tt
take_bytes (suc n) (b ∷ bytes) are = (are.0, take_bytes n bytes are.1)

drop_bytes : (n : ℕ) (bytes : List ℕ) → AreBytes bytes → AreBytes (drop n bytes)
drop_bytes zero bytes are = are
drop_bytes (suc n) [] are = tt
drop_bytes (suc n) (b ∷ bytes) are = drop_bytes n bytes are.1

take_length : (n : ℕ) (bytes : List ℕ) → length (take n bytes) ≡ min (length bytes) n
take_length zero bytes = omega arith
take_length (suc n) [] = omega arith
take_length (suc n) (b ∷ bytes) = omega (arith, take_length n bytes)

take_and_drop : (n : ℕ) (xs : List ℕ) → take n xs ++ drop n xs ≡ xs
take_and_drop zero xs = refl
take_and_drop (suc n) [] = refl
take_and_drop (suc n) (x ∷ xs) = ap (λ (l : List ℕ). x ∷ l) (take_and_drop n xs)

take_front : (xs ys : List ℕ) → take (length xs) (xs ++ ys) ≡ xs
take_front [] ys = refl
take_front (x ∷ xs) ys = ap (λ (l : List ℕ). x ∷ l) (take_front xs ys)

drop_front : (xs ys : List ℕ) → drop (length xs) (xs ++ ys) ≡ ys
drop_front [] ys = refl
drop_front (x ∷ xs) ys = drop_front xs ys

name_back : (n : ℕ) (bytes rest : List ℕ) → AreBytes bytes → length bytes ≤ 8 * n
    → bytes_from n (length bytes) (some_words n bytes ++ rest) ≡ bytes
name_back zero [] rest are le = refl
name_back zero (b ∷ bytes) rest are le = absurd (omega (arith, le))
name_back (suc n) bytes rest are le =
    let first : bytes_of_word (min (length bytes) 8) (word_of_bytes (take 8 bytes)) ≡ take 8 bytes =
    ap (λ (k : ℕ). bytes_of_word k (word_of_bytes (take 8 bytes))) (sym (take_length 8 bytes))
    ∙ bytes_again (take 8 bytes) (take_bytes 8 bytes are) in
    let len : length bytes - 8 ≡ length (drop 8 bytes) = sym (length-drop 8 bytes) in
    let more : bytes_from n (length bytes - 8) (some_words n (drop 8 bytes) ++ rest) ≡ drop 8 bytes =
    ap (λ (k : ℕ). bytes_from n k (some_words n (drop 8 bytes) ++ rest)) len
    ∙ name_back n (drop 8 bytes) rest (drop_bytes 8 bytes are) (omega (arith, le, length-drop 8 bytes)) in
    rw (first, more) (take_and_drop 8 bytes)

words_length : (n : ℕ) (bytes : List ℕ) → length (some_words n bytes) ≡ n
words_length zero bytes = refl
words_length (suc n) bytes = ap suc (words_length n (drop 8 bytes))

name_read : (name rest : List ℕ) → AreBytes name → name_from (length name) (name_words name ++ rest) ≡ name
name_read name rest are = name_back (words_for (length name)) name rest are (omega arith)

name_passed : (name rest : List ℕ) → behind_name (length name) (name_words name ++ rest) ≡ rest
name_passed name rest =
    ap (λ (k : ℕ). drop k (name_words name ++ rest)) (sym (words_length (words_for (length name)) name))
    ∙ drop_front (name_words name) rest

-- ---- entries

low : (a n : ℕ) → a < 2 ^ 32 → (a + 2 ^ 32 * n) % 2 ^ 32 ≡ a
low a n h = omega (arith, h)

high : (a n : ℕ) → a < 2 ^ 32 → (a + 2 ^ 32 * n) / 2 ^ 32 ≡ n
high a n h = omega (arith, h)

letter_small : (kind : Kind) → letter_of kind < 2 ^ 32
letter_small Z = omega arith
letter_small B = omega arith
letter_small C = omega arith
letter_small S = omega arith
letter_small I = omega arith
letter_small J = omega arith
letter_small L = omega arith
letter_small Text = omega arith

letter_again : (kind : Kind) → kind ≢ Text → kind_of_letter (letter_of kind) ≡ kind
letter_again Z h = refl
letter_again B h = refl
letter_again C h = refl
letter_again S h = refl
letter_again I h = refl
letter_again J h = refl
letter_again L h = refl
letter_again Text h = absurd (h refl)

field_again : (field : Field) → IsField field
    → let again : Field = record { name = field.name; kind = kind_of_letter (letter_of field.kind); kept = true } in again ≡ field
field_again field is = rw (letter_again field.kind is.kind, ← is.kept) refl

fields_read : (fields : List Field) (rest : List ℕ) → AllByRecursion IsField fields
    → fields_from (length fields) (fields_words fields ++ rest) ≡ fields
fields_read [] rest are = refl
fields_read (field ∷ fields) rest are =
    let w = letter_of field.kind + 2 ^ 32 * length field.name in
    let a = low (letter_of field.kind) (length field.name) (letter_small field.kind) in
    let b = high (letter_of field.kind) (length field.name) (letter_small field.kind) in
    let words = append_assoc (name_words field.name) (fields_words fields) rest in
    let name = name_read field.name (fields_words fields ++ rest) are.0.name in
    let behind = name_passed field.name (fields_words fields ++ rest) in
    rw (a, b, words, name, behind, fields_read fields rest are.1) (ap (λ f. f ∷ fields) (field_again field are.0))

shape_again : (shape : Shape) → IsShape shape → shape_named shape.name shape.fields ≡ shape
shape_again shape is = rw (← is.element) refl

entry_read : (entry : DirectoryEntry) (rest : List ℕ) → IsEntry entry → entry_from (spelled entry ++ rest) ≡ entry
entry_read (ShapeEntry shape) rest is =
    let kind = low 1 (1 + length (entry_body (ShapeEntry shape))) (omega arith) in
    let a = low (length shape.name) (length shape.fields) is.short in
    let b = high (length shape.name) (length shape.fields) is.short in
    let words = append_assoc (name_words shape.name) (fields_words shape.fields) rest in
    let name = name_read shape.name (fields_words shape.fields ++ rest) is.name in
    let behind = name_passed shape.name (fields_words shape.fields ++ rest) in
    rw (kind, a, b, words, name, behind, fields_read shape.fields rest is.fields)
    (ap (λ s. ShapeEntry s) (shape_again shape is))
entry_read (RootEntry name) rest is =
    let kind = low 2 (1 + length (entry_body (RootEntry name))) (omega arith) in
    rw (kind, name_read name rest is) refl

same_itself : (xs : List ℕ) → pointwise nat_eq xs xs ≡ true
same_itself [] = refl
same_itself (x ∷ xs) = rw (eq-eqb x x refl) (same_itself xs)

is_entry-from : (entry : DirectoryEntry) → IsEntry entry → is_entry entry ≡ true
is_entry-from (ShapeEntry shape) is = is.form
is_entry-from (RootEntry name) is = refl

-- what was found in the words, if they spell it
tested : List ℕ → DirectoryEntry → Option (DirectoryEntry × List ℕ)
tested words entry =
    if starts_with nat_eq words (spelled entry) && is_entry entry then Some (entry, drop (length (spelled entry)) words)
    else None

pick : Bool → DirectoryEntry → List ℕ → Option (DirectoryEntry × List ℕ)
pick b entry rest = if b then Some (entry, rest) else None

front_passes : (s rest : List ℕ) (entry : DirectoryEntry) (b : Bool) → b ≡ true
    → pick (pointwise nat_eq s (take (length s) (s ++ rest)) && b) entry (drop (length s) (s ++ rest)) ≡ Some (entry, rest)
unfolding pick
front_passes s rest entry b h = rw (take_front s rest, drop_front s rest, same_itself s, h) refl

tested-front : (entry : DirectoryEntry) (rest : List ℕ) → IsEntry entry → tested (spelled entry ++ rest) entry ≡ Some (entry, rest)
unfolding tested pick
tested-front entry rest is = front_passes (spelled entry) rest entry (is_entry entry) (is_entry-from entry is)

-- What is spelled so is read.
pub entry-again : (entry : DirectoryEntry) (rest : List ℕ) → IsEntry entry → read_entry (spelled entry ++ rest) ≡ Some (entry, rest)
unfolding read_entry tested
entry-again entry rest is = ap (tested (spelled entry ++ rest)) (entry_read entry rest is) ∙ tested-front entry rest is

chosen : {X : Type 0} (b : Bool) (x y : X) → (if b then Some x else None) ≡ Some y → (b ≡ true) × (x ≡ y)
chosen true x y h = (refl, cc)
chosen false x y h = absurd (let e : None ≡ Some y = h in cc)

-- ---- what is read is an entry

bytes_of_word-bytes : (n w : ℕ) → AreBytes (bytes_of_word n w)
bytes_of_word-bytes zero w = tt
bytes_of_word-bytes (suc n) w = (omega arith, bytes_of_word-bytes n (w / 256))

append-bytes : (xs ys : List ℕ) → AreBytes xs → AreBytes ys → AreBytes (xs ++ ys)
append-bytes [] ys a b = b
append-bytes (x ∷ xs) ys a b = (a.0, append-bytes xs ys a.1 b)

bytes_from-bytes : (n len : ℕ) (words : List ℕ) → AreBytes (bytes_from n len words)
bytes_from-bytes zero len words = tt
bytes_from-bytes (suc n) len [] = tt
bytes_from-bytes (suc n) len (w ∷ words) =
    append-bytes (bytes_of_word (min len 8) w) (bytes_from n (len - 8) words) (bytes_of_word-bytes (min len 8) w)
    (bytes_from-bytes n (len - 8) words)

bytes_of_word-length : (n w : ℕ) → length (bytes_of_word n w) ≡ n
bytes_of_word-length zero w = refl
bytes_of_word-length (suc n) w = ap suc (bytes_of_word-length n (w / 256))

bytes_from-length : (n len : ℕ) (words : List ℕ) → length (bytes_from n len words) ≤ len
bytes_from-length zero len words = omega arith
bytes_from-length (suc n) len [] = omega arith
bytes_from-length (suc n) len (w ∷ words) =
    let front = bytes_of_word-length (min len 8) w in
    let rest = bytes_from-length n (len - 8) words in
    omega (arith, front, rest, length-append (bytes_of_word (min len 8) w) (bytes_from n (len - 8) words))

either_kind : (t : Bool) (x y : Kind) → x ≢ Text → y ≢ Text → (if t then x else y) ≢ Text
either_kind true x y a b = a
either_kind false x y a b = b

letter_kind : (b : ℕ) → kind_of_letter b ≢ Text
letter_kind b =
    let z : Z ≢ Text = λ e. cc in
    let byte : B ≢ Text = λ e. cc in
    let char : C ≢ Text = λ e. cc in
    let short : S ≢ Text = λ e. cc in
    let int : I ≢ Text = λ e. cc in
    let long : J ≢ Text = λ e. cc in
    let reference : L ≢ Text = λ e. cc in
    either_kind (b == 90) Z _ z (either_kind (b == 66) B _ byte (either_kind (b == 67) C _ char (either_kind (b == 83) S _ short
    (either_kind (b == 73) I _ int (either_kind (b == 74) J L long reference)))))

fields_from-are : (n : ℕ) (words : List ℕ) → AllByRecursion IsField (fields_from n words)
fields_from-are zero words = tt
fields_from-are (suc n) [] = tt
fields_from-are (suc n) (w ∷ words) = (
  record {
    name = bytes_from-bytes (words_for (w / 2 ^ 32)) (w / 2 ^ 32) words;
    kind = letter_kind (w % 2 ^ 32);
    kept = refl;
  },
  fields_from-are n (behind_name (w / 2 ^ 32) words),
)

shape_from-is : (w : ℕ) (words : List ℕ)
    → let shape = shape_named (name_from (w % 2 ^ 32) words) (fields_from (w / 2 ^ 32) (behind_name (w % 2 ^ 32) words)) in
    is_shape shape.name shape.fields ≡ true → IsShape shape
shape_from-is w words form = record {
  name = bytes_from-bytes (words_for (w % 2 ^ 32)) (w % 2 ^ 32) words;
  short = omega (arith, bytes_from-length (words_for (w % 2 ^ 32)) (w % 2 ^ 32) words);
  fields = fields_from-are (w / 2 ^ 32) (behind_name (w % 2 ^ 32) words);
  element = refl;
  form = form;
}

if_entry : (b : Bool) (x y : DirectoryEntry) → (is_entry x ≡ true → IsEntry x) → (is_entry y ≡ true → IsEntry y)
    → is_entry (if b then x else y) ≡ true → IsEntry (if b then x else y)
if_entry true x y f g h = f h
if_entry false x y f g h = g h

body_from-is : (kind : ℕ) (words : List ℕ) → is_entry (body_from kind words) ≡ true → IsEntry (body_from kind words)
body_from-is kind [] form = tt
body_from-is kind (w ∷ words) form =
    if_entry (kind == 1)
    (ShapeEntry (shape_named (name_from (w % 2 ^ 32) words) (fields_from (w / 2 ^ 32) (behind_name (w % 2 ^ 32) words))))
    (RootEntry (name_from w words)) (shape_from-is w words) (λ h. bytes_from-bytes (words_for w) w words) form

entry_from-is : (words : List ℕ) → is_entry (entry_from words) ≡ true → IsEntry (entry_from words)
entry_from-is [] form = tt
entry_from-is (w ∷ words) form = body_from-is (w % 2 ^ 32) words form

-- What is read is an entry, and the words spell it.
pub entry-taken : (words : List ℕ) (entry : DirectoryEntry) (rest : List ℕ) → read_entry words ≡ Some (entry, rest)
    → (words ≡ spelled entry ++ rest) × IsEntry entry
unfolding read_entry
entry-taken words entry rest h =
    let found = entry_from words in
    let p = chosen (starts_with nat_eq words (spelled found) && is_entry found) (found, drop (length (spelled found)) words) (entry, rest) h in
    let both = and_parts (starts_with nat_eq words (spelled found)) (is_entry found) p.0 in
    let front : spelled found ≡ take (length (spelled found)) words =
    same_text (spelled found) (take (length (spelled found)) words) (sym both.0) in
    let all : words ≡ spelled found ++ drop (length (spelled found)) words =
    sym (take_and_drop (length (spelled found)) words)
    ∙ ap (λ (l : List ℕ). l ++ drop (length (spelled found)) words) (sym front) in
    let is : IsEntry found = entry_from-is words both.1 in
    let same : found ≡ entry = ap (λ (x : DirectoryEntry × List ℕ). x.0) p.1 in (
      all ∙ ap (λ (x : DirectoryEntry × List ℕ). spelled x.0 ++ x.1) p.1,
      subst (λ (e : DirectoryEntry). IsEntry e) same is,
    )
