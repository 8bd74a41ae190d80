-- Texts that were added already are there still.
use Rattle.std.proofs.Common.{◌≡◌, ◌≢◌, ℕ, zero, suc, Bool, true, false, List, [], ◌∷◌, ◌++◌, Option, Some, None}
use Rattle.std.proofs.Common.{slice_index_or, replicate, refl, ap, sym, ◌∙◌, arith, if◌then◌else◌, ◌||◌, inl, inr}
use Rattle.std.specs.Prelude.{is_some}
use Rattle.std.specs.Option.{option_to_list}
use Rattle.std.specs.Cmp.Lexicographic.{nat_list_eq_equiv}
use Rattle.std.proofs.lemmas.Bool.{cases_lt, false≢true}
use Rattle.const_pool.specs.Pool.{Slots, utf8_at}
use Rattle.class_links.specs.Names.{has_name}
use Rattle.text_table.specs.Texts.{place_of, with_text, with_texts}
use Rattle.class_set.specs.Marks.{AreAdded}
use Rattle.class_set.proofs.Numbers.{has_name-append, place-has}

pub none_marked : (n index : ℕ) → slice_index_or (replicate n false) index false ≡ false
none_marked zero index = refl
none_marked (suc n) zero = refl
none_marked (suc n) (suc index) = none_marked n index

or_this : (a b : Bool) → b ≡ true → (a || b) ≡ true
or_this true b h = refl
or_this false b h = h

or_that : (a b : Bool) → a ≡ true → (a || b) ≡ true
or_that true b h = refl
or_that false b h = absurd (false≢true h)

behind : (texts : List (List ℕ)) (text : List ℕ) → is_some (place_of (texts ++ text ∷ []) text) ≡ true
behind texts text =
    place-has 0 (texts ++ text ∷ []) text
    ∙ has_name-append texts (text ∷ []) text
    ∙ or_this (has_name texts text) (has_name (text ∷ []) text) (rw (nat_list_eq_equiv.refl text) refl)

pub added_there : (texts : List (List ℕ)) (text : List ℕ) → is_some (place_of (with_text texts text) text) ≡ true
added_there texts text =
    elim (is_some (place_of texts text)) as (λ b. is_some (place_of texts text) ≡ b
    → is_some (place_of (if b then texts else texts ++ text ∷ []) text) ≡ true) [
      | true ↦ λ e. e
      | false ↦ λ e. behind texts text
    ] refl

pub still_there : (texts : List (List ℕ)) (other text : List ℕ) → is_some (place_of texts text) ≡ true
    → is_some (place_of (with_text texts other) text) ≡ true
still_there texts other text h =
    elim (is_some (place_of texts other)) as (λ b. is_some (place_of (if b then texts else texts ++ other ∷ []) text) ≡ true) [
      | true ↦ h
      | false ↦ place-has 0 (texts ++ other ∷ []) text
          ∙ has_name-append texts (other ∷ []) text
          ∙ or_that (has_name texts text) (has_name (other ∷ []) text) (sym (place-has 0 texts text) ∙ h)
    ]

-- a text at a marked index needs no further place
pub marked_text : (pool : Slots) (texts : List (List ℕ)) (marks : List Bool) (index : ℕ) → AreAdded pool texts marks
    → slice_index_or marks index false ≡ true → texts ≡ with_texts texts (option_to_list (utf8_at pool index))
marked_text pool texts marks index h e = at (utf8_at pool index) refl
  where
    at : (o : Option (List ℕ)) → utf8_at pool index ≡ o → texts ≡ with_texts texts (option_to_list o)
    at None f = refl
    at (Some text) f = rw (h index e text f) refl

some_same : (t u : List ℕ) (o : Option (List ℕ)) → o ≡ Some t → o ≡ Some u → t ≡ u
some_same t u o e f = cc

pub added_next : (pool : Slots) (texts : List (List ℕ)) (old new : List Bool) (index : ℕ) (text : List ℕ) → AreAdded pool texts old
    → ((n : ℕ) → n ≢ index → slice_index_or new n false ≡ slice_index_or old n false) → utf8_at pool index ≡ Some text
    → AreAdded pool (with_text texts text) new
added_next pool texts old new index text h kept at = λ n e other f. elim (cases_lt n index) [
  | inl l ↦ still_there texts text other (h n (sym (kept n (λ same. absurd (omega (arith, l, same)))) ∙ e) other f)
  | inr past ↦ elim (cases_lt index n) [
    | inl l ↦ still_there texts text other (h n (sym (kept n (λ same. absurd (omega (arith, l, same)))) ∙ e) other f)
    | inr within ↦ (let same : n ≡ index = omega (arith, past, within) in
        let is : text ≡ other = some_same text other (utf8_at pool index) at (ap (λ m. utf8_at pool m) (sym same) ∙ f) in
        ap (λ t. is_some (place_of (with_text texts text) t)) (sym is) ∙ added_there texts text)
  ]
]

pub none_added : (pool : Slots) (texts : List (List ℕ)) (marks : List Bool) → ((index : ℕ) → slice_index_or marks index false ≡ false)
    → AreAdded pool texts marks
none_added pool texts marks h = λ index e. absurd (false≢true (sym (h index) ∙ e))
