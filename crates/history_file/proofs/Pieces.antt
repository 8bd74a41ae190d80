-- Pieces of printed text: their bytes, and zeros up to the end of the last word.
use Rattle.std.proofs.Common.{◌≡◌, ℕ, zero, suc, ◌+◌, ◌-◌, ◌*◌, ◌/◌, ◌<◌, ◌≤◌, ◌%◌, true, false, cond, eqb, ltb, List}
use Rattle.std.proofs.Common.{[], ◌∷◌, ◌++◌, length, take, drop, replicate, Ok, Err, refl, sym, ap, subst, ◌∙◌, arith}
use Rattle.std.proofs.lemmas.Bool.{ltb-true, ltb-false, le-ltb, eqb-true, and_parts}
use Rattle.std.proofs.lemmas.List.{take_at, drop_at, take-append-drop, length-append, length-take, length-drop}
use Rattle.std.proofs.lemmas.List.{length-replicate}
use Rattle.parsing.specs.Bytes.{IsBytes}
use Rattle.parsing.proofs.Steps.{bind_ok, unless_ok, where_ok}
use Rattle.parsing.proofs.Numbers.{IsBytes-drop, IsBytes-take}
use Rattle.history_file.specs.Spelling.{word, filling}
use Rattle.history_file.specs.Reading.{in_turn, word_where, are_zeros, whole_at, text_at, takes_words, piece_at}
use Rattle.history_file.proofs.Codecs.{Takes, IsCodec, Passes, where_codec}
use Rattle.history_file.proofs.Joined.{made_codec, in_turn_codec}

zeros_are : (bytes : List ℕ) → are_zeros bytes ≡ true → bytes ≡ replicate (length bytes) 0
zeros_are [] e = refl
zeros_are (b ∷ bs) e =
    let first : b ≡ 0 = eqb-true b 0 (and_parts (eqb b 0) (are_zeros bs) e).0 in
    let others = zeros_are bs (and_parts (eqb b 0) (are_zeros bs) e).1 in
    ap (λ (k : ℕ). k ∷ bs) first ∙ ap (λ (l : List ℕ). 0 ∷ l) others

are_zero : (n : ℕ) → are_zeros (replicate n 0) ≡ true
are_zero zero = refl
are_zero (suc n) = are_zero n

abbrev pub filled : List ℕ → List ℕ
filled text = text ++ replicate (filling (length text)) 0

abbrev pub IsText : ℕ → List ℕ → Type 0
IsText n text = (length text ≡ n) × IsBytes text

module _ (count n : ℕ) (so : takes_words count n ≡ true) where
  few : n < 25
  few = ltb-true n 25 (and_parts (ltb n 25) (eqb ((n + 7) / 8) count) so).0

  whole : (n + 7) / 8 ≡ count
  whole = eqb-true ((n + 7) / 8) count (and_parts (ltb n 25) (eqb ((n + 7) / 8) count) so).1

  room : n ≤ 8 * count
  room = omega (arith, whole, few)

  after : 8 * count - n ≡ filling n
  after = ap (λ (k : ℕ). 8 * k - n) (sym whole)

  text_takes : (bytes : List ℕ) (x : List ℕ × List ℕ) → IsBytes bytes → text_at count n bytes ≡ Ok x
      → Takes bytes (filled x.0) x.1 × IsText n x.0
  unfolding text_at whole_at
  text_takes bytes x fits e =
      let a = bind_ok (whole_at count bytes) (λ raw. cond (are_zeros (drop n raw.0)) (Ok (take n raw.0, raw.1)) (Err
      (length raw.1 + 8))) x e in
      let g = unless_ok (ltb (length bytes) (8 * count)) (length bytes % 8) (
        take (8 * count) bytes,
        drop
            (8 * count) bytes,
      ) a.0 a.1 in
      let z = where_ok (are_zeros (drop n a.0.0)) (length a.0.1 + 8) (take n a.0.0, a.0.1) x a.2 in
      let long : 8 * count ≤ length bytes = ltb-false _ _ g.0 in
      let raw = take (8 * count) bytes in
      let is_raw : raw ≡ a.0.0 = ap (λ (y : List ℕ × List ℕ). y.0) g.1 in
      let is_rest : drop (8 * count) bytes ≡ a.0.1 = ap (λ (y : List ℕ × List ℕ). y.1) g.1 in
      let len : length a.0.0 ≡ 8 * count = ap length (sym is_raw) ∙ omega (arith, length-take (8 * count) bytes, long) in
      let text_len : length (take n a.0.0) ≡ n = omega (arith, length-take n a.0.0, len, room) in
      let zeros : drop n a.0.0 ≡ replicate (filling (length (take n a.0.0))) 0 =
      zeros_are (drop n a.0.0) z.0 ∙ ap (λ (k : ℕ). replicate k 0) (length-drop n a.0.0 ∙ ap (λ (k : ℕ). k - n) len ∙ after
      ∙ ap filling (sym text_len)) in
      let parts : bytes ≡ filled (take n a.0.0) ++ a.0.1 =
      sym (take-append-drop (8 * count) bytes) ∙ ap (λ (l : List ℕ). l ++ drop (8 * count) bytes) is_raw ∙ ap (λ
      (l : List ℕ). a.0.0 ++ l) is_rest
      ∙ ap (λ (l : List ℕ). l ++ a.0.1) (sym (take-append-drop n a.0.0) ∙ ap (λ (l : List ℕ). take n a.0.0 ++ l) zeros) in
      let taken : Takes bytes (filled (take n a.0.0)) a.0.1 = record {
        parts = parts;
        rest_fits = subst IsBytes is_rest (IsBytes-drop (8 * count) bytes fits);
      } in
      let raw_fits : IsBytes a.0.0 = subst IsBytes is_raw (IsBytes-take (8 * count) bytes fits) in
      subst (λ (y : List ℕ × List ℕ). Takes bytes (filled y.0) y.1 × IsText n y.0) z.1
      (taken, (text_len, IsBytes-take n a.0.0 raw_fits))

  text_again : (text rest : List ℕ) → IsText n text → text_at count n (filled text ++ rest) ≡ Ok (text, rest)
  unfolding text_at whole_at
  text_again text rest is_text =
      let size : filling (length text) ≡ 8 * count - n = ap filling is_text.0 ∙ sym after in
      let zero_count : length (replicate {A = ℕ} (filling (length text)) 0) ≡ filling (length text) = length-replicate
      (filling (length text)) 0 in
      let len : length (filled text) ≡ 8 * count =
      length-append text (replicate (filling (length text)) 0) ∙ omega (arith, zero_count, size, is_text.0, room) in
      let long : ltb (length (filled text ++ rest)) (8 * count) ≡ false =
      le-ltb _ _ (omega (arith, length-append (filled text) rest, len)) in
      let zeros : are_zeros (drop n (filled text)) ≡ true =
      ap are_zeros (drop_at text (replicate (filling (length text)) 0) n is_text.0) ∙ are_zero (filling (length text)) in
      let front : take n (filled text) ≡ text = take_at text (replicate (filling (length text)) 0) n is_text.0 in
      rw (long, take_at (filled text) rest (8 * count) len, drop_at (filled text) rest (8 * count) len, zeros, front) refl

  text_codec : IsCodec (text_at count n) filled (IsText n)
  text_codec = record { takes = text_takes; again = text_again }

abbrev pub piece_text : List ℕ → List ℕ
piece_text text = word (length text) ++ filled text

abbrev pub IsPieceOf : ℕ → List ℕ → Type 0
IsPieceOf count text = (takes_words count (length text) ≡ true) × IsBytes text

pub piece_codec : (count : ℕ) → IsCodec (piece_at count) piece_text (IsPieceOf count)
unfolding piece_at
piece_codec count =
    made_codec (in_turn (word_where (takes_words count)) (text_at count)) (λ x. word x.0 ++ filled x.1)
    (λ x. Passes (takes_words count) x.0 × IsText x.0 x.1) piece_text (IsPieceOf count) (λ x. x.1) (λ text. (length text, text))
    (in_turn_codec (word_where (takes_words count)) (text_at count) word filled (Passes (takes_words count)) IsText
    (where_codec (takes_words count)) (λ n passes. text_codec count n passes.1))
    (λ x fits. (ap (λ (k : ℕ). word k ++ filled x.1) fits.1.0, (ap (takes_words count) fits.1.0 ∙ fits.0.1, fits.1.1)))
    (λ text good. (
      (
        (
          omega (
            arith,
            ltb-true (length text) 25 (and_parts (ltb (length text) 25) (eqb
                ((length text + 7) / 8) count) good.0).0,
          ),
          good.0,
        ),
        (refl, good.1),
      ),
      refl,
    ))
