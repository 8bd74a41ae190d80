-- One byte of a list that a loop goes through.
use Rattle.std.proofs.Common.{◌≡◌, ℕ, ◌+◌, ◌-◌, ◌*◌, ◌<◌, true, false, List, [], ◌∷◌, ◌++◌, length, get_or, drop, None, refl}
use Rattle.std.proofs.Common.{sym, ◌∙◌, ap, arith, append_assoc, add-one, drop-cons}
use Rattle.std.specs.Prelude.{if◌then◌else◌}
use Rattle.std.specs.Option.{option_and_then}
use Rattle.std.proofs.lemmas.Grind.{common_steps}
use Rattle.listing_lines.specs.declared.words.Mode.{Mode}
use Rattle.listing_lines.specs.declared.words.Mode.TheVariants as mode
use Rattle.listing_lines.specs.Words.{next, is_between, ended, words_from}
use Rattle.listing_lines.specs.Numbers.{is_digit, decimal_from, at_most}

pub front : (xs : List ℕ) (i : ℕ) → i < length xs → drop i xs ≡ get_or xs i 0 ∷ drop (i + 1) xs
front xs i h = rw (add-one, drop-cons xs i 0)

between_is : (m : Mode) → is_between m ≡ true → m ≡ mode.Between
between_is mode.Between test = refl
between_is mode.Word test = absurd cc
between_is mode.Text test = absurd cc
between_is mode.Escape test = absurd cc

module _ (done : List (List ℕ)) (before : Mode) (word line : List ℕ) (i : ℕ) (total : List (List ℕ)) where
  pub goes_between : i < length line → is_between (next before (get_or line i 0)) ≡ true
      → done ++ words_from before word (drop i line) ≡ total
      → (done ++ ended word) ++ words_from mode.Between [] (drop (i + 1) line) ≡ total
  unfolding words_from
  goes_between lt h so_far =
      let one : done ++ words_from before word (drop i line) ≡
      (done ++ ended word) ++ words_from mode.Between [] (drop (i + 1) line) =
      rw (front line i lt, h)
      (sym (append_assoc done (ended word) (words_from mode.Between [] (drop (i + 1) line)))) in
      sym one ∙ so_far

  pub goes_on : i < length line → is_between (next before (get_or line i 0)) ≡ false
      → done ++ words_from before word (drop i line) ≡ total
      → done ++ words_from (next before (get_or line i 0)) (word ++ get_or line i 0 ∷ [])
      (drop (i + 1) line) ≡ total
  unfolding words_from
  goes_on lt h so_far =
      let one : done ++ words_from before word (drop i line) ≡ done ++ words_from
      (next before (get_or line i 0)) (word ++ get_or line i 0 ∷ []) (drop (i + 1) line) =
      rw (front line i lt, h) refl in
      sym one ∙ so_far

  -- the same of a mode, words and a word that are equal to these
  pub after_between : (now : Mode) (words : List (List ℕ)) (rest : List ℕ) → i < length line
      → now ≡ next before (get_or line i 0) → is_between now ≡ true → words ≡ done ++ ended word → rest ≡ []
      → done ++ words_from before word (drop i line) ≡ total
      → words ++ words_from now rest (drop (i + 1) line) ≡ total
  after_between now words rest lt is test words_is rest_is so_far =
      let left = drop (i + 1) line in
      ap (λ (all : List (List ℕ)). all ++ words_from now rest left) words_is
      ∙ ap (λ (m : Mode). (done ++ ended word) ++ words_from m rest left) (between_is now test)
      ∙ ap (λ (w : List ℕ). (done ++ ended word) ++ words_from mode.Between w left) rest_is
      ∙ goes_between lt (ap is_between (sym is) ∙ test) so_far

  pub after_byte : (now : Mode) (words : List (List ℕ)) (longer : List ℕ) → i < length line
      → now ≡ next before (get_or line i 0) → is_between now ≡ false → words ≡ done
      → longer ≡ word ++ get_or line i 0 ∷ [] → done ++ words_from before word (drop i line) ≡ total
      → words ++ words_from now longer (drop (i + 1) line) ≡ total
  after_byte now words longer lt is test words_is longer_is so_far =
      let left = drop (i + 1) line in
      ap (λ (all : List (List ℕ)). all ++ words_from now longer left) words_is
      ∙ ap (λ (m : Mode). done ++ words_from m longer left) is
      ∙ ap (λ (w : List ℕ). done ++ words_from (next before (get_or line i 0)) w left) longer_is
      ∙ goes_on lt (ap is_between (sym is) ∙ test) so_far

-- what is past the limit stays past it
pub too_much : (limit before : ℕ) (digits : List ℕ) → limit < before
    → option_and_then (at_most limit) (decimal_from before digits) ≡ None
unfolding decimal_from
too_much limit before [] h = grind (arith, common_steps)
too_much limit before (b ∷ digits) h =
    elim (is_digit b) as
    (λ v. option_and_then (at_most limit) (if v then decimal_from (10 * before + (b - 48)) digits else None)
    ≡ None) [
      | true ↦ too_much limit (10 * before + (b - 48)) digits (omega arith)
      | false ↦ refl
    ]
