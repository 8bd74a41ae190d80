-- What is printed of a String is its text in UTF-8.
use Rattle.std.proofs.Common.{◌≡◌, refl, ℕ, zero, suc, ◌+◌, ◌-◌, ◌*◌, ◌%◌, ◌^◌, ◌<◌, ◌≤◌, max, ◌&&◌, Bool, true, false, List}
use Rattle.std.proofs.Common.{[], ◌∷◌, ◌++◌, length, take, drop, map, nat_lt, nat_le, ℤ, pos, Option, Some, None, if◌then◌else◌}
use Rattle.std.proofs.Common.{slice_index, get_or, ap, sym, ◌∙◌, subst, arith, add-one, append_assoc, length-drop, drop-cons}
use Rattle.std.specs.Prelude.{All}
use Rattle.std.specs.List.{concat}
use Rattle.std.specs.Char.{encode_utf8}
use Rattle.std.specs.Char.Utf16.{utf16_chars, is_high_surrogate, is_low_surrogate, surrogate_pair_char, lone_unit_char}
use Rattle.std.proofs.lemmas.Bool.Decides.{nat_tests}
use Rattle.std.proofs.lemmas.List.{append-nil, take-append-drop, drop_all}
use Rattle.run_types.specs.declared.known.Known.{Known}
use Rattle.run_types.specs.declared.resolved.At.{At}
use Rattle.natives.specs.declared.texts.Text.TheVariants.{String}
use Rattle.natives.specs.Values.{Values, char_of, int_in}
use Rattle.natives.specs.Texts.{question, lone_bytes, lone_characters, characters, held_after, held_character, line_end}
use Rattle.natives.specs.Texts.{last_characters, fits}
use Rattle.natives.specs.Scripts.{Script, count_of, is_empty, prints, prints_all, gathers, leaves, ends, reads, prints_held}
use Rattle.natives.specs.Printed.{Prints, text_bytes, TextsArePrinted}
use Rattle.natives.proofs.Wholes.{by_bool}

-- the bytes of the chars that aren't read yet
abbrev pub rest_bytes : Option ℕ → List ℕ → List ℕ
rest_bytes held [] = concat (held_character held)
rest_bytes held (c ∷ cs) = concat (characters held c) ++ rest_bytes (held_after c) cs

pub high_is_lone : (h : ℕ) → is_high_surrogate h ≡ true → lone_unit_char h ≡ None
high_is_lone h is = let within : (nat_le 0xD800 h && nat_lt h 0xE000) ≡ true = grind
    (arith, nat_tests) in rw within

pub low_is_not_high : (v : ℕ) → is_low_surrogate v ≡ true → is_high_surrogate v ≡ false
low_is_not_high v is = grind (arith, nat_tests)

pub record IsText (cs : List ℕ) : Type 0 where
  pub fresh : rest_bytes None cs ≡ text_bytes cs
  pub waiting : (h : ℕ) → is_high_surrogate h ≡ true → rest_bytes (Some h) cs ≡ text_bytes (h ∷ cs)

-- a char that is in no pair
pub lone_first : (c : ℕ) (cs : List ℕ) → is_high_surrogate c ≡ false
    → text_bytes (c ∷ cs) ≡ lone_bytes (lone_unit_char c) ++ text_bytes cs
unfolding utf16_chars
lone_first c [] is = refl
lone_first c (v ∷ cs) is = rw is

pub fresh_first : (c : ℕ) (cs : List ℕ) → IsText cs → rest_bytes None (c ∷ cs) ≡ text_bytes (c ∷ cs)
fresh_first c cs text = by_bool (is_high_surrogate c)
    (λ is. rw is (text.waiting c is))
    (λ is. let first = lone_first c cs is in
    rw is (ap (λ b. b ++ rest_bytes None cs) (append-nil (lone_bytes (lone_unit_char c)))
    ∙ ap (λ b. lone_bytes (lone_unit_char c) ++ b) text.fresh ∙ sym first))

pub waiting_last : (h : ℕ) → is_high_surrogate h ≡ true → rest_bytes (Some h) [] ≡ text_bytes (h ∷ [])
unfolding utf16_chars
waiting_last h is = rw (high_is_lone h is)

pub waiting_first : (h v : ℕ) (cs : List ℕ) → IsText cs → is_high_surrogate h ≡ true
    → rest_bytes (Some h) (v ∷ cs) ≡ text_bytes (h ∷ v ∷ cs)
unfolding utf16_chars
waiting_first h v cs text is = by_bool (is_low_surrogate v)
    (λ low. rw (is, low, low_is_not_high v low)
    (ap (λ b. b ++ rest_bytes None cs) (append-nil (encode_utf8 (surrogate_pair_char h v)))
    ∙ ap (λ b. encode_utf8 (surrogate_pair_char h v) ++ b) text.fresh))
    (λ low. rw (is, low, high_is_lone h is)
    (append_assoc question (concat (lone_characters v)) (rest_bytes (held_after v) cs)
    ∙ ap (λ b. question ++ b) (fresh_first v cs text)))

pub is_text : (cs : List ℕ) → IsText cs
unfolding utf16_chars
is_text [] = record { fresh = refl; waiting = waiting_last }
is_text (v ∷ cs) = record {
  fresh = fresh_first v cs (is_text cs);
  waiting = λ h is. waiting_first h v cs (is_text cs) is;
}

module _ {R V : Type 0} (x : Values R V) (known : Known) (from : At) (chars : List ℕ)
    (round : (i : ℤ) → x.int_of (x.of_int i) ≡ i) (narrow : All (λ c. c < 2 ^ 16) chars) where
  pub at_bytes : (s : Script R V) (a b : List ℕ) → a ≡ b → Prints x chars s a → Prints x chars s b
  at_bytes s a b e p = let P : List ℕ → Type 0 = Prints x chars s in subst P e p

  pub left_prints : (g : Script R V) (out : List ℕ) (most : ℕ)
      → ((b : ℕ) (bytes : List ℕ) → length (b ∷ bytes) ≤ most
      → Prints x chars (prints x known from most (b ∷ bytes) g) (b ∷ bytes ++ out))
      → Prints x chars g out → (left : List ℕ) → length left ≤ most
      → Prints x chars (if is_empty left then g else prints x known from most left g) (left ++ out)
  left_prints g out most later last [] few = last
  left_prints g out most later last (b ∷ bytes) few = later b bytes few

  pub pieces_print : (g : Script R V) (out : List ℕ) → Prints x chars g out → (most b : ℕ) (bytes : List ℕ)
      → length (b ∷ bytes) ≤ most → Prints x chars (prints x known from most (b ∷ bytes) g) (b ∷ bytes ++ out)
  pieces_print g out last zero b bytes few = absurd (omega arith)
  pieces_print g out last (suc most) b bytes few = (
    omega arith,
    λ n some within. let one : max 1 n ≡ n = omega arith in let piece = b ∷ bytes in (
      drop n piece ++ out,
      sym (append_assoc (take n piece) (drop n piece) out) ∙ ap (λ b. b ++ out) (take-append-drop n piece),
      rw one (left_prints g out most (pieces_print g out last most) last (drop n piece) (rw length-drop
          (omega arith))),
    ),
  )

  pub all_print : (g : Script R V) (out : List ℕ) → Prints x chars g out → (piece : List ℕ)
      → Prints x chars (prints_all x known from piece g) (piece ++ out)
  all_print g out last [] = last
  all_print g out last (b ∷ bytes) =
      pieces_print g out last (length (b ∷ bytes)) b bytes (omega arith)

  pub gathered_print : (g : List ℕ → Script R V) (out : List ℕ)
      → ((piece : List ℕ) → Prints x chars (g piece) (piece ++ out)) → (cs : List (List ℕ)) (piece : List ℕ)
      → Prints x chars (gathers x known from piece cs g) (piece ++ (concat cs ++ out))
  gathered_print g out last [] piece = last piece
  gathered_print g out last (c ∷ cs) piece = by_bool (fits piece c)
      (λ is. rw is (at_bytes (gathers x known from (piece ++ c) cs g) _ _
      (append_assoc piece c (concat cs ++ out) ∙ ap (λ b. piece ++ b) (sym (append_assoc c (concat cs) out)))
      (gathered_print g out last cs (piece ++ c))))
      (λ is. rw is (at_bytes (prints_all x known from piece (gathers x known from c cs g)) _ _
      (ap (λ b. piece ++ b) (sym (append_assoc c (concat cs) out)))
      (all_print (gathers x known from c cs g) (c ++ (concat cs ++ out))
      (gathered_print g out last cs c) piece)))

  pub last_bytes : (held : Option ℕ) (is_line : Bool)
      → concat (last_characters held is_line) ++ [] ≡ rest_bytes held [] ++ concat (line_end is_line)
  last_bytes None true = refl
  last_bytes None false = refl
  last_bytes (Some h) true = refl
  last_bytes (Some h) false = refl

  pub char_read : (c : ℕ) → c < 2 ^ 16 → char_of (x.int_of (x.of_int (pos c))) ≡ c
  char_read c below = ap char_of (round (pos c)) ∙ omega arith

  module _ (stream text : R) (is_line : Bool) where
    abbrev pub line : List ℕ
    line = concat (line_end is_line)

    pub ends_print : (held : Option ℕ) (piece : List ℕ)
        → Prints x chars (ends x known from stream is_line held piece) (piece ++ (rest_bytes held [] ++ line))
    ends_print held piece = at_bytes (ends x known from stream is_line held piece) _ _
        (ap (λ b. piece ++ b) (last_bytes held is_line))
        (gathered_print (λ last. prints_all x known from last (leaves x known from stream is_line)) []
        (all_print (leaves x known from stream is_line) [] refl) (last_characters held is_line) piece)

    pub reads_print : (i n : ℕ) → i + n ≡ length chars → (held : Option ℕ) (piece : List ℕ)
        → Prints x chars (reads x known from stream is_line text i n held piece)
        (piece ++ (rest_bytes held (drop i chars) ++ line))
    reads_print i zero e held piece = let none : drop i chars ≡ [] = drop_all i chars (omega arith) in
        rw none (ends_print held piece)
    reads_print i (suc n) e held piece =
        let inside : i < length chars = omega arith in
        let c = slice_index chars i in
        let read : char_of (x.int_of (x.of_int (pos c))) ≡ c = char_read c (narrow i 0 inside) in
        let rest : drop i chars ≡ c ∷ drop (i + 1) chars = drop-cons chars i 0 inside ∙ ap (λ k. c
        ∷ drop k chars) (sym (add-one i)) in
        let P : ℕ → Type 0 = λ d. Prints x chars
        (gathers x known from piece (characters held d)
        (reads x known from stream is_line text (i + 1) n (held_after d)))
        (piece ++ (rest_bytes held (drop i chars) ++ line)) in
        subst P (sym read) (rw rest (at_bytes
        (gathers x known from piece (characters held c) (reads x known from stream is_line text (i + 1) n
        (held_after c))) _ _
        (ap (λ b. piece ++ b)
        (sym (append_assoc (concat (characters held c)) (rest_bytes (held_after c) (drop
        (i + 1) chars)) line)))
        (gathered_print (reads x known from stream is_line text (i + 1) n (held_after c))
        (rest_bytes (held_after c) (drop (i + 1) chars) ++ line)
        (reads_print (i + 1) n (omega arith) (held_after c)) (characters held c) piece)))

    pub text_printed : Prints x chars (prints_held x known from stream is_line (String text))
        (text_bytes chars ++ line)
    text_printed = let count : count_of (x.int_of (x.of_int (pos (length chars)))) ≡ length chars =
        ap count_of (round (pos (length chars))) in
        let P : ℕ → Type 0 = λ k. Prints x chars (reads x known from stream is_line text 0 k None [])
        (text_bytes chars ++ line) in
        subst P (sym count) (at_bytes (reads x known from stream is_line text 0 (length chars) None []) _ _
        (ap (λ b. b ++ line) (is_text chars).fresh) (reads_print 0 (length chars) (omega arith) None []))

pub texts_are_printed : {R V : Type 0} (x : Values R V) → TextsArePrinted x
texts_are_printed x known from stream text is_line chars round narrow =
    text_printed x known from chars round narrow stream text is_line
