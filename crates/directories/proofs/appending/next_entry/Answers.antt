use Rattle.std.proofs.Common.{◌≡◌, ◌<◌, ◌-◌, ◌/◌, ◌^◌, ℕ, List, [], ◌∷◌, length, drop, take, slice_index_or, sym, ◌∙◌, ap}
use Rattle.std.proofs.Common.{arith}
use Rattle.std.proofs.lemmas.List.{take_all, length-append, length-drop, length-take-le}
use Rattle.image_meaning.specs.Entries.{DirectoryEntry, spelled}
use Rattle.image_meaning.specs.Directories.{spelled_all}
use Rattle.directories.specs.Kept.{next_words}
use Rattle.directories.proofs.Appends.{first_words, next_within, next_taken}
use Rattle.directories.proofs.appending.next_entry.Goals as goal

whole : (words : List ℕ) (at : ℕ) → take (length words - at) (drop at words) ≡ drop at words
whole words at = take_all (length words - at) (drop at words) (omega (arith, length-drop at words))

next_fits : (rest : List ℕ) (left : List DirectoryEntry) → rest ≡ spelled_all left → 0 < length rest
    → slice_index_or rest 0 0 / 2 ^ 32 ≡ length (take (slice_index_or rest 0 0 / 2 ^ 32) rest)
next_fits rest left is some =
    sym (length-take-le (slice_index_or rest 0 0 / 2 ^ 32) rest
    (omega (arith, first_words rest left is some, next_within left, ap length is)))

next_is : (rest : List ℕ) (left : List DirectoryEntry) → rest ≡ spelled_all left → 0 < length rest
    → take (slice_index_or rest 0 0 / 2 ^ 32) rest ≡ next_words left
next_is rest left is some =
    ap (λ (n : ℕ). take n rest) (first_words rest left is some)
    ∙ ap (λ (all : List ℕ). take (length (next_words left)) all) is ∙ next_taken left

none_left : (rest : List ℕ) (left : List DirectoryEntry) → rest ≡ spelled_all left → length rest ≡ 0 → rest ≡ next_words left
none_left rest [] is none = is
none_left rest (entry ∷ left) is none = absurd (omega (arith, ap length is, length-append (spelled entry) (spelled_all left), none))

pub slice_bounds-result-end : goal.slice_bounds-result-end
slice_bounds-result-end c =
    let words = c.args.words.now in
    let at = c.args.at in
    next_fits (take (length words - at) (drop at words)) c.requires.spelled.0 (whole words at ∙ c.requires.spelled.1) (omega arith)

pub returns-then-rest-eq0 : goal.returns-then-rest-eq0
returns-then-rest-eq0 c left is =
    let words = c.args.words.now in
    let at = c.args.at in
    none_left (take (length words - at) (drop at words)) left (whole words at ∙ is) (omega arith)

pub returns : goal.returns
returns c left is =
    let words = c.args.words.now in
    let at = c.args.at in
    next_is (take (length words - at) (drop at words)) left (whole words at ∙ is) (omega arith)
