-- What words are read as, step by step.
use Rattle.std.proofs.Common.{◌≡◌, ◌⊎◌, inl, inr, ⊎_elim, ◌<◌, ◌≤◌, ◌+◌, ◌-◌, ◌/◌, ◌%◌, ℕ, zero, suc, min, map, List, [], ◌∷◌}
use Rattle.std.proofs.Common.{◌++◌, length, take, drop, get_or, refl, sym, ◌∙◌, ap, append_assoc, subst, Bool, true, false}
use Rattle.std.proofs.Common.{nat_eq, ◌&&◌, Some, None, Option, is_some, is_none, Ok, Err, not, ◌||◌, arith}
use Rattle.std.proofs.lemmas.List.{append-nil, length-drop, length-append, length-map, get_or-map, length-take, take_all}
use Rattle.std.specs.List.{starts_with}
use Rattle.std.specs.Cmp.Lexicographic.{same_text}
use Rattle.std.proofs.Math.ListN.{drop_of_length-le}
use Rattle.std.proofs.Math.Seq.{drop-cons}
use Rattle.const_pool.specs.Utf8.{IsModifiedUtf8, bad_place}
use Rattle.const_pool.specs.Parsing.{descriptor_at}
use Rattle.const_pool.specs.declared.descriptor.Descriptor.{Descriptor}
use Rattle.const_pool.proofs.Texts.{good_has_none, none_is_good}
use Rattle.graph_model.specs.declared.types.Field.{Field}
use Rattle.image_meaning.specs.Entries.{DirectoryEntry, spelled, is_entry, entry_from, read_entry, is_descriptor, words_for}
use Rattle.image_meaning.specs.Entries.{bytes_of_word, bytes_from, name_from, fields_from}
use Rattle.std.specs.Str.{bytes_eq}
use Rattle.image_meaning.specs.Directories.{Directory, bad_entry, has_name, is_refused, with_entry, with_entries}
use Rattle.image_meaning.specs.Directories.{directory_words_of}
use Rattle.image_layout.specs.Places.{directory_line, directory_word}
use Rattle.image_meaning.specs.Checks.{Words}
use Rattle.image_meaning.proofs.Ranges.{mapped_list}
use Rattle.image_meaning.proofs.Entries.{entry-taken}
use Rattle.graph_model.specs.declared.types.Shape.{Shape}
use Rattle.directories.specs.declared.entries.Entry.{Entry}
use Rattle.directories.specs.Read.{field_at, after_field, IsRead}

-- ---- a word's bytes

pub bytes_step : (done all : List ℕ) (count i rest : ℕ) → i < count → done ++ bytes_of_word (count - i) rest ≡ all
    → (done ++ rest % 256 ∷ []) ++ bytes_of_word (count - (i + 1)) (rest / 256) ≡ all
bytes_step done all count i rest below so_far =
    let next : count - i ≡ suc (count - (i + 1)) = omega (arith, below) in
    append_assoc done (rest % 256 ∷ []) (bytes_of_word (count - (i + 1)) (rest / 256))
    ∙ ap (λ (n : ℕ). done ++ bytes_of_word n rest) (sym next) ∙ so_far

-- ---- a name

name_more : (left w : ℕ) (words : List ℕ) → 0 < left
    → name_from left (w ∷ words) ≡ bytes_of_word (min left 8) w ++ name_from (left - min left 8) words
name_more left w words some =
    let next : words_for left ≡ suc (words_for (left - 8)) = omega (arith, some) in
    let same : left - 8 ≡ left - min left 8 = omega arith in
    ap (λ (n : ℕ). bytes_from n left (w ∷ words)) next
    ∙ ap (λ (n : ℕ). bytes_of_word (min left 8) w ++ name_from n words) same

pub name_step : (done all words : List ℕ) (left i : ℕ) → 0 < left → i < length words → done ++ name_from left (drop i words) ≡ all
    → (done ++ bytes_of_word (min left 8) (get_or words i 0)) ++ name_from (left - min left 8) (drop (i + 1) words) ≡ all
name_step done all words left i some below so_far =
    let opened : drop i words ≡ get_or words i 0 ∷ drop (suc i) words = drop-cons words i 0 below in
    let one : suc i ≡ i + 1 = omega arith in
    append_assoc done (bytes_of_word (min left 8) (get_or words i 0)) (name_from (left - min left 8) (drop (i + 1) words))
    ∙ ap (λ (rest : List ℕ). done ++ rest)
    (ap (λ (n : ℕ). bytes_of_word (min left 8) (get_or words i 0) ++ name_from (left - min left 8) (drop n words)) (sym one)
    ∙ sym (name_more left (get_or words i 0) (drop (suc i) words) some)
    ∙ ap (λ (rest : List ℕ). name_from left rest) (sym opened))
    ∙ so_far

bytes_nothing : (n len : ℕ) → bytes_from n len [] ≡ []
bytes_nothing zero len = refl
bytes_nothing (suc n) len = refl

pub name_end : (done all words : List ℕ) (left i : ℕ) → (left ≡ 0) ⊎ (length words ≤ i) → done ++ name_from left (drop i words) ≡ all → done ≡ all
name_end done all words left i end so_far =
    let none : name_from left (drop i words) ≡ [] = ⊎_elim
    (λ (is : left ≡ 0). ap (λ (n : ℕ). name_from n (drop i words)) is)
    (λ (past : length words ≤ i).
    ap (λ (rest : List ℕ). name_from left rest) (drop_of_length-le words past) ∙ bytes_nothing (words_for left) left)
    end in
    sym (append-nil done) ∙ ap (λ (rest : List ℕ). done ++ rest) (sym none) ∙ so_far

-- ---- fields

pub fields_step : (left : ℕ) (words : List ℕ) → 0 < left → 0 < length words
    → fields_from left words ≡ field_at words ∷ fields_from (left - 1) (after_field words)
fields_step zero words some more = absurd (omega (arith, some))
fields_step (suc left) [] some more = absurd (omega (arith, more))
fields_step (suc left) (w ∷ words) some more =
    let same : left ≡ suc left - 1 = omega arith in
    ap (λ (n : ℕ). field_at (w ∷ words) ∷ fields_from n (after_field (w ∷ words))) same

pub fields_on : (done all : List Field) (left : ℕ) (words : List ℕ) → 0 < left → 0 < length words → done ++ fields_from left words ≡ all
    → (done ++ field_at words ∷ []) ++ fields_from (left - 1) (after_field words) ≡ all
fields_on done all left words some more so_far =
    append_assoc done (field_at words ∷ []) (fields_from (left - 1) (after_field words))
    ∙ ap (λ (rest : List Field). done ++ rest) (sym (fields_step left words some more)) ∙ so_far

fields_nothing : (n : ℕ) → fields_from n [] ≡ []
fields_nothing zero = refl
fields_nothing (suc n) = refl

no_words : (words : List ℕ) → length words ≡ 0 → words ≡ []
no_words [] is = refl
no_words (w ∷ words) is = absurd (omega (arith, is))

pub fields_end : (done all : List Field) (left : ℕ) (words : List ℕ) → (left ≡ 0) ⊎ (length words ≡ 0) → done ++ fields_from left words ≡ all
    → done ≡ all
fields_end done all left words end so_far =
    let none : fields_from left words ≡ [] = ⊎_elim
    (λ (is : left ≡ 0). ap (λ (n : ℕ). fields_from n words) is)
    (λ (is : length words ≡ 0). ap (λ (rest : List ℕ). fields_from left rest) (no_words words is) ∙ fields_nothing left)
    end in
    sym (append-nil done) ∙ ap (λ (rest : List Field). done ++ rest) (sym none) ∙ so_far

-- ---- slices

pub from_first : (words : List ℕ) → take (length words - 1) (drop 1 words) ≡ drop 1 words
from_first words = take_all (length words - 1) (drop 1 words) (omega (arith, length-drop 1 words))

-- ---- an entry

true_or : (b : Bool) → (b ≡ true) ⊎ (b ≡ false)
true_or true = inl refl
true_or false = inr refl

-- words are not spelled by more of them
pub too_long : (words needle : List ℕ) → length words < length needle → starts_with nat_eq words needle ≡ false
too_long words needle more = ⊎_elim
    (λ (so : starts_with nat_eq words needle ≡ true).
    let front : needle ≡ take (length needle) words = same_text needle (take (length needle) words) (sym so) in
    absurd (omega (arith, ap length front, length-take (length needle) words, more)))
    (λ not_so. not_so)
    (true_or (starts_with nat_eq words needle))

pub read_none : (words : List ℕ) (entry : DirectoryEntry) → entry ≡ entry_from words
    → (starts_with nat_eq words (spelled entry) && is_entry entry ≡ false) → read_entry words ≡ None
unfolding read_entry
read_none words entry is not_so =
    let none : starts_with nat_eq words (spelled (entry_from words)) && is_entry (entry_from words) ≡ false =
    subst (λ (e : DirectoryEntry). starts_with nat_eq words (spelled e) && is_entry e ≡ false) is not_so in
    rw none refl

pub read_some : (words : List ℕ) (entry : DirectoryEntry) → entry ≡ entry_from words
    → (starts_with nat_eq words (spelled entry) && is_entry entry ≡ true)
    → read_entry words ≡ Some (entry, drop (length (spelled entry)) words)
unfolding read_entry
read_some words entry is so =
    let all : starts_with nat_eq words (spelled (entry_from words)) && is_entry (entry_from words) ≡ true =
    subst (λ (e : DirectoryEntry). starts_with nat_eq words (spelled e) && is_entry e ≡ true) is so in
    subst (λ (e : DirectoryEntry). read_entry words ≡ Some (e, drop (length (spelled e)) words)) (sym is) (rw all refl)

pub and_left : (a b : Bool) → a ≡ false → (a && b) ≡ false
and_left a b is = rw is refl

pub and_right : (a b : Bool) → b ≡ false → (a && b) ≡ false
and_right true b is = is
and_right false b is = refl

pub and_both : (a b : Bool) → a ≡ true → b ≡ true → (a && b) ≡ true
and_both a b first second = rw (first, second) refl

-- ---- descriptors

pub no_text : (name : List ℕ) → (IsModifiedUtf8 name → ⊥) → false ≡ is_descriptor name
no_text name bad = sym (none_left (bad_place 0 0 name) (is_some (descriptor_at name)) (λ none. bad (none_is_good name none)))
  where
    none_left : (o : Option ℕ) (b : Bool) → (o ≡ None → ⊥) → (is_none o && b) ≡ false
    none_left None b some = absurd (some refl)
    none_left (Some x) b some = refl

pub is_text : (name : List ℕ) (d : Descriptor) → IsModifiedUtf8 name → descriptor_at name ≡ Some d → true ≡ is_descriptor name
is_text name d good is = sym (and_both (is_none (bad_place 0 0 name)) (is_some (descriptor_at name))
    (ap (λ (o : Option ℕ). is_none o) (good_has_none name good)) (ap (λ (o : Option Descriptor). is_some o) is))

-- ---- a whole directory

pub none_begins : (n at : ℕ) (directory : Directory) (words : List ℕ) → 0 < length words → length words ≤ n → read_entry words ≡ None
    → with_entries n at directory words ≡ Err (bad_entry at)
unfolding with_entries
none_begins n at directory [] some enough none = absurd (omega (arith, some))
none_begins zero at directory (w ∷ words) some enough none = absurd (omega (arith, enough))
none_begins (suc n) at directory (w ∷ words) some enough none = rw none refl

pub refused_entry : (n at : ℕ) (directory : Directory) (words rest : List ℕ) (entry : DirectoryEntry) → 0 < length words → length words ≤ n
    → read_entry words ≡ Some (entry, rest) → is_refused directory entry ≡ true → with_entries n at directory words ≡ Err (bad_entry at)
unfolding with_entries
refused_entry n at directory [] rest entry some enough read bad = absurd (omega (arith, some))
refused_entry zero at directory (w ∷ words) rest entry some enough read bad = absurd (omega (arith, enough))
refused_entry (suc n) at directory (w ∷ words) rest entry some enough read bad = rw (read, bad) refl

-- one entry more is taken
pub taken_entry : (n at : ℕ) (directory : Directory) (words rest : List ℕ) (entry : DirectoryEntry) → 0 < length words → length words ≤ n
    → read_entry words ≡ Some (entry, rest) → is_refused directory entry ≡ false
    → with_entries n at directory words ≡ with_entries (n - 1) (at + length (spelled entry)) (with_entry directory entry) rest
unfolding with_entries
taken_entry n at directory [] rest entry some enough read good = absurd (omega (arith, some))
taken_entry zero at directory (w ∷ words) rest entry some enough read good = absurd (omega (arith, enough))
taken_entry (suc n) at directory (w ∷ words) rest entry some enough read good =
    let same : n ≡ suc n - 1 = omega arith in
    rw (read, good) (ap (λ (m : ℕ). with_entries m (at + length (spelled entry)) (with_entry directory entry) rest) same)

pub nothing_more : (n at : ℕ) (directory : Directory) (words : List ℕ) → length words ≡ 0 → with_entries n at directory words ≡ Ok directory
unfolding with_entries
nothing_more n at directory [] none = refl
nothing_more n at directory (w ∷ words) none = absurd (omega (arith, none))

pub not_not : (b c : Bool) → b ≡ not c → (b ≡ true → c ≡ false) × (b ≡ false → c ≡ true)
not_not true true is = (λ so. absurd (cc), λ so. absurd (cc))
not_not true false is = (λ so. refl, λ so. absurd (cc))
not_not false true is = (λ so. absurd (cc), λ so. refl)
not_not false false is = (λ so. absurd (cc), λ so. absurd (cc))

-- ---- words that are read one by one

pub pushed_last : (items : List ℕ) (w i : ℕ) → length items ≡ i → get_or (items ++ w ∷ []) i 0 ≡ w
pushed_last [] w i is = ap (λ (n : ℕ). get_or (w ∷ []) n 0) (sym is)
pushed_last (x ∷ items) w zero is = absurd (omega (arith, is))
pushed_last (x ∷ items) w (suc i) is = pushed_last items w i (omega (arith, is))

pub words_read : (n : ℕ) (items : List ℕ) (words : Words) → length items ≡ n
    → ((k : ℕ) → k < n → get_or items k 0 ≡ words (directory_line k) (directory_word k)) → items ≡ directory_words_of words n
words_read n items words count reads =
    sym (mapped_list (λ i. words (directory_line i) (directory_word i)) items (λ k below. sym (reads k (omega (arith, below, count)))))
    ∙ ap (λ (m : ℕ). directory_words_of words m) count

-- ---- what a call read

pub read_nothing : (words : List ℕ) (found : Option (Entry × ℕ)) (read : Option (DirectoryEntry × List ℕ)) → found ≡ None
    → IsRead words found read → read ≡ None
read_nothing words None read is told = told
read_nothing words (Some x) read is told = absurd (cc)

pub read_one : (words : List ℕ) (found : Option (Entry × ℕ)) (one : Entry × ℕ) (read : Option (DirectoryEntry × List ℕ)) → found ≡ Some one
    → IsRead words found read → IsRead words (Some one) read
read_one words found one read is told = subst (λ (o : Option (Entry × ℕ)). IsRead words o read) is told

pub whole_slice : (words : List ℕ) (at : ℕ) → take (length words - at) (drop at words) ≡ drop at words
whole_slice words at = take_all (length words - at) (drop at words) (omega (arith, length-drop at words))

-- an entry's words are some of those that are read
pub count_within : (words rest : List ℕ) (entry : DirectoryEntry) → read_entry words ≡ Some (entry, rest)
    → length (spelled entry) ≤ length words
count_within words rest entry read =
    let taken = entry-taken words entry rest read in
    omega (arith, ap length taken.0, length-append (spelled entry) rest)
