-- The bytes of a text in quotes, one after the other.
use Rattle.std.proofs.Common.{◌≡◌, ◌≢◌, ℕ, ◌-◌, ◌≤◌, Bool, true, false, nat_eq, List, [], ◌∷◌, ◌++◌, length, get_or, take, drop}
use Rattle.std.proofs.Common.{Option, Some, refl, sym, ◌∙◌, ap, arith}
use Rattle.std.specs.Option.{option_and_then}
use Rattle.std.proofs.lemmas.List.{take_rest}
use Rattle.std.proofs.lemmas.Bool.Decides.{nat_tests}
use Rattle.listing_lines.specs.Texts.{escaped, text_from}

first_is : (bytes : List ℕ) → 1 ≤ length bytes
    → bytes ≡ get_or bytes 0 0 ∷ take (length bytes - 1) (drop 1 bytes)
first_is [] long = absurd (omega arith)
first_is (b ∷ rest) long = ap (λ (left : List ℕ). b ∷ left) (sym (take_rest (b ∷ rest) 1))

module _ (behind : Bool) (text bytes : List ℕ) (total : Option (List ℕ)) (long : 1 ≤ length bytes)
    (so_far : text_from behind text bytes ≡ total) where
  at_first : (now : Bool) → behind ≡ now
      → text_from now text (get_or bytes 0 0 ∷ take (length bytes - 1) (drop 1 bytes)) ≡ total
  at_first now is = ap (text_from now text) (sym (first_is bytes long))
      ∙ ap (λ (v : Bool). text_from v text bytes) (sym is) ∙ so_far

  pub after_escape : (new : List ℕ) (byte : ℕ) → behind ≡ true → Some byte ≡ escaped (get_or bytes 0 0)
      → new ≡ text ++ byte ∷ [] → text_from false new (take (length bytes - 1) (drop 1 bytes)) ≡ total
  unfolding text_from
  after_escape new byte is byte_is new_is =
      let left = take (length bytes - 1) (drop 1 bytes) in
      let read = λ (c : ℕ). text_from false (text ++ c ∷ []) left in
      ap (λ (t : List ℕ). text_from false t left) new_is ∙ ap (option_and_then read) byte_is
      ∙ at_first true is

  pub after_backslash : behind ≡ false → get_or bytes 0 0 ≢ 34 → get_or bytes 0 0 ≡ 92
      → text_from true text (take (length bytes - 1) (drop 1 bytes)) ≡ total
  unfolding text_from
  after_backslash is no_mark backslash =
      let left = take (length bytes - 1) (drop 1 bytes) in
      let mark : nat_eq (get_or bytes 0 0) 34 ≡ false = grind (arith, nat_tests) in
      let test : nat_eq (get_or bytes 0 0) 92 ≡ true = grind (arith, nat_tests) in
      let one : text_from false text (get_or bytes 0 0 ∷ left) ≡ text_from true text left =
      rw (mark, test) refl in
      sym one ∙ at_first false is

  pub after_plain : (new : List ℕ) → behind ≡ false → get_or bytes 0 0 ≢ 34 → get_or bytes 0 0 ≢ 92
      → new ≡ text ++ get_or bytes 0 0 ∷ []
      → text_from behind new (take (length bytes - 1) (drop 1 bytes)) ≡ total
  unfolding text_from
  after_plain new is no_mark no_backslash new_is =
      let left = take (length bytes - 1) (drop 1 bytes) in
      let byte = get_or bytes 0 0 in
      let mark : nat_eq byte 34 ≡ false = grind (arith, nat_tests) in
      let test : nat_eq byte 92 ≡ false = grind (arith, nat_tests) in
      let one : text_from false text (byte ∷ left) ≡ text_from false (text ++ byte ∷ []) left =
      rw (mark, test) refl in
      ap (λ (v : Bool). text_from v new left) is ∙ ap (λ (t : List ℕ). text_from false t left) new_is
      ∙ sym one ∙ at_first false is
