-- The words of names.
use Rattle.std.proofs.Common.{◌≡◌, ◌<◌, ◌≤◌, ◌+◌, ◌-◌, ◌*◌, ◌^◌, ℕ, zero, suc, List, [], ◌∷◌, ◌++◌, length, take, drop, get_or}
use Rattle.std.proofs.Common.{refl, sym, ◌∙◌, ap, subst, append_assoc, add-one, arith}
use Rattle.std.proofs.Math.Nat.{pow-suc}
use Rattle.std.proofs.Math.Seq.{drop-cons}
use Rattle.std.proofs.lemmas.List.{drop-drop, length-drop, get_or-drop, append-nil, length-append}
use Rattle.std.proofs.Math.Seq.{take-suc}
use Rattle.ap_base.specs.declared.kind.Kind.{Kind}
use Rattle.ap_base.specs.declared.kind.Kind.TheVariants.{Z, B, C, S, I, J, L, Text}
use Rattle.graph_model.specs.declared.types.Field.{Field}
use Rattle.graph_model.specs.declared.types.Shape.{Shape}
use Rattle.image_meaning.specs.Entries.{RootEntry, ShapeEntry, letter_of, word_of_bytes, words_for, some_words, name_words}
use Rattle.image_meaning.specs.Entries.{field_words, fields_words, spelled}

abbrev pub AllBelow : List ℕ → Type 0
AllBelow bytes = (k : ℕ) → get_or bytes k 0 < 256

word_below : (n : ℕ) (bytes : List ℕ) → length bytes ≤ n → AllBelow bytes → word_of_bytes bytes < 256 ^ n
word_below zero [] few all = omega arith
word_below (suc n) [] few all =
    let rest : 0 < 256 ^ n = word_below n [] (omega arith) all in
    rw (pow-suc 256 n) (omega (arith, rest))
word_below zero (b ∷ bytes) few all = absurd (omega (arith, few))
word_below (suc n) (b ∷ bytes) few all =
    let rest : word_of_bytes bytes < 256 ^ n = word_below n bytes (omega (arith, few)) (λ k. all (suc k)) in
    let here : b < 256 = all 0 in
    rw (pow-suc 256 n) (omega (arith, rest, here))

-- one byte more
pub word_step : (bytes : List ℕ) (i : ℕ) → i < length bytes
    → word_of_bytes (drop (length bytes - (i + 1)) bytes)
    ≡ word_of_bytes (drop (length bytes - i) bytes) * 256 + get_or bytes (length bytes - 1 - i) 0
word_step bytes i below =
    let k = length bytes - 1 - i in
    let next : suc k ≡ length bytes - i = omega (arith, below) in
    let at : length bytes - (i + 1) ≡ k = omega (arith, below) in
    let opened : drop k bytes ≡ get_or bytes k 0 ∷ drop (suc k) bytes = drop-cons bytes k 0 (omega (arith, below)) in
    ap (λ (n : ℕ). word_of_bytes (drop n bytes)) at
    ∙ ap word_of_bytes opened
    ∙ ap (λ (n : ℕ). get_or bytes k 0 + 256 * word_of_bytes (drop n bytes)) next
    ∙ omega arith

pub word_fits : (bytes : List ℕ) (i : ℕ) → i < length bytes → length bytes ≤ 8 → AllBelow bytes
    → word_of_bytes (drop (length bytes - i) bytes) * 256 + get_or bytes (length bytes - 1 - i) 0 < 256 ^ 8
word_fits bytes i below few all =
    subst (λ (n : ℕ). n < 256 ^ 8) (word_step bytes i below)
    (word_below 8 (drop (length bytes - (i + 1)) bytes) (omega (arith, length-drop (length bytes - (i + 1)) bytes, few))
    (λ k. rw (get_or-drop (length bytes - (i + 1)) bytes k 0) (all (length bytes - (i + 1) + k))))

-- one word more
pub name_step : (done all name : List ℕ) (count i : ℕ) → i < count → done ++ some_words (count - i) (drop (8 * i) name) ≡ all
    → (done ++ word_of_bytes (take 8 (drop (8 * i) name)) ∷ []) ++ some_words (count - (i + 1)) (drop (8 * (i + 1)) name) ≡ all
name_step done all name count i below so_far =
    let next : count - i ≡ suc (count - (i + 1)) = omega (arith, below) in
    let at : 8 * i + 8 ≡ 8 * (i + 1) = omega arith in
    append_assoc done (word_of_bytes (take 8 (drop (8 * i) name)) ∷ []) (some_words (count - (i + 1)) (drop (8 * (i + 1)) name))
    ∙ ap (λ (rest : List ℕ). done ++ word_of_bytes (take 8 (drop (8 * i) name)) ∷ some_words (count - (i + 1)) rest)
    (ap (λ (n : ℕ). drop n name) (sym at) ∙ sym (drop-drop 8 (8 * i) name))
    ∙ ap (λ (n : ℕ). done ++ some_words n (drop (8 * i) name)) (sym next)
    ∙ so_far

words_length : (n : ℕ) (bytes : List ℕ) → length (some_words n bytes) ≡ n
words_length zero bytes = refl
words_length (suc n) bytes = ap suc (words_length n (drop 8 bytes))

pub name_count : (name : List ℕ) → length (name_words name) ≡ words_for (length name)
name_count name = words_length (words_for (length name)) name

-- a root's words, pushed one after another
pub root_pushed : (old one two three : List ℕ) (name : List ℕ) (w n : ℕ) → one ≡ old ++ w ∷ [] → two ≡ one ++ n ∷ []
    → three ≡ two ++ name_words name → n ≡ length name → w ≡ 2 + (2 + words_for (length name)) * 2 ^ 32
    → three ≡ old ++ spelled (RootEntry name)
root_pushed old one two three name w n first second third long head =
    let front : w ≡ 2 + 2 ^ 32 * (1 + length (length name ∷ name_words name)) = omega (arith, head, name_count name) in
    third
    ∙ ap (λ (t : List ℕ). t ++ name_words name) (second ∙ ap (λ (o : List ℕ). o ++ n ∷ []) first)
    ∙ append_assoc (old ++ w ∷ []) (n ∷ []) (name_words name)
    ∙ append_assoc old (w ∷ []) (n ∷ name_words name)
    ∙ ap (λ (h : ℕ). old ++ h ∷ n ∷ name_words name) front
    ∙ ap (λ (m : ℕ). old ++ (2 + 2 ^ 32 * (1 + length (length name ∷ name_words name))) ∷ m ∷ name_words name) long

-- ---- fields

pub letter_low : (kind : Kind) → letter_of kind ≤ 90
letter_low Z = omega arith
letter_low B = omega arith
letter_low C = omega arith
letter_low S = omega arith
letter_low I = omega arith
letter_low J = omega arith
letter_low L = omega arith
letter_low Text = omega arith

fields_append : (fields : List Field) (field : Field) → fields_words (fields ++ field ∷ []) ≡ fields_words fields ++ field_words field
fields_append [] field = append-nil (field_words field)
fields_append (first ∷ fields) field =
    ap (λ (words : List ℕ). field_words first ++ words) (fields_append fields field)
    ∙ sym (append_assoc (field_words first) (fields_words fields) (field_words field))

-- one field more
pub fields_more : (fields : List Field) (field : Field) (i : ℕ) → i < length fields → field ≡ get_or fields i field
    → fields_words (take (i + 1) fields) ≡ fields_words (take i fields) ++ field_words field
fields_more fields field i below is =
    ap fields_words (rw add-one (take-suc fields i field below))
    ∙ fields_append (take i fields) (get_or fields i field)
    ∙ ap (λ (f : Field). fields_words (take i fields) ++ field_words f) (sym is)

pub field_count : (field : Field) → length (field_words field) ≡ 1 + length (name_words field.name)
field_count field = omega arith

-- a field's words are some of all
pub field_within : (fields : List Field) (field : Field) (i : ℕ) → i < length fields → field ≡ get_or fields i field
    → length (field_words field) ≤ length (fields_words fields)
field_within [] field i below is = absurd (omega (arith, below))
field_within (first ∷ fields) field zero below is =
    omega (arith, length-append (field_words first) (fields_words fields), ap (λ (f : Field). length (field_words f)) is)
field_within (first ∷ fields) field (suc i) below is =
    omega (arith, length-append (field_words first) (fields_words fields), field_within fields field i (omega (arith, below)) is)

pub fields_few : (fields : List Field) → length fields ≤ length (fields_words fields)
fields_few [] = omega arith
fields_few (field ∷ fields) = omega (arith, length-append (field_words field) (fields_words fields), fields_few fields)

pub shape_count : (shape : Shape)
    → length (spelled (ShapeEntry shape)) ≡ 2 + (length (name_words shape.name) + length (fields_words shape.fields))
shape_count shape = omega (arith, length-append (name_words shape.name) (fields_words shape.fields))
