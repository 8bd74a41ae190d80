-- What is read is spelled so, and what is spelled so is read again: of words, and of readings that are put together.
use Rattle.std.proofs.Common.{◌≡◌, ℕ, ◌^◌, ◌<◌, ◌≤◌, Bool, true, false, cond, ltb, List, [], ◌∷◌, ◌++◌, length, take, drop}
use Rattle.std.proofs.Common.{Ok, Err, refl, sym, ap, subst, ◌∙◌, append_assoc, arith}
use Rattle.std.specs.Int.{w64, from_le_bytes}
use Rattle.std.proofs.lemmas.Bool.{ltb-false, le-ltb}
use Rattle.std.proofs.lemmas.Nat.{le_bytes_8, from_le_bytes-to_le_bytes_8}
use Rattle.std.proofs.lemmas.List.{take_at, drop_at, take-append-drop, length-append, length-take}
use Rattle.parsing.specs.Bytes.{IsBytes}
use Rattle.parsing.proofs.Steps.{bind_ok, unless_ok, where_ok}
use Rattle.parsing.proofs.Numbers.{IsBytes-drop, IsBytes-take}
use Rattle.history_file.specs.Spelling.{word, words}
use Rattle.history_file.specs.Reading.{Read, word_at, word_where}

-- ---- what was taken from the front

pub record Takes (bytes text rest : List ℕ) : Type 0 where
  pub parts : bytes ≡ text ++ rest
  pub rest_fits : IsBytes rest

pub takes_none : (bytes : List ℕ) → IsBytes bytes → Takes bytes [] bytes
takes_none bytes fits = record { parts = refl; rest_fits = fits }

pub Takes-then : (a x b y c : List ℕ) → Takes a x b → Takes b y c → Takes a (x ++ y) c
Takes-then a x b y c p q = record {
  parts = p.parts ∙ ap (λ (t : List ℕ). x ++ t) q.parts ∙ sym (append_assoc x y c);
  rest_fits = q.rest_fits;
}

-- one word that was taken, and none behind it
pub takes_word : (a : List ℕ) (n : ℕ) (b : List ℕ) → Takes a (word n) b → Takes a (words (n ∷ [])) b
takes_word a n b p = Takes-then a (word n) b [] b p (takes_none b p.rest_fits)

-- What is read is spelled so and fits, and what fits is read again, whatever follows it.
pub record IsCodec {A : Type 0} (read : Read A) (spell : A → List ℕ) (Fits : A → Type 0) : Type 0 where
  pub takes : (bytes : List ℕ) (x : A × List ℕ) → IsBytes bytes → read bytes ≡ Ok x
      → Takes bytes (spell x.0) x.1 × Fits x.0
  pub again : (a : A) (rest : List ℕ) → Fits a → read (spell a ++ rest) ≡ Ok (a, rest)

-- the same under another word for what fits
pub fits_as : {A : Type 0} (read : Read A) (spell : A → List ℕ) (F G : A → Type 0) → ((a : A) → F a → G a)
    → ((a : A) → G a → F a) → IsCodec read spell F → IsCodec read spell G
fits_as read spell F G there back codec = record {
  takes = λ bytes x fits e. let t = codec.takes bytes x fits e in (t.0, there x.0 t.1);
  again = λ a rest fits. codec.again a rest (back a fits);
}

-- ---- words

length-word : (n : ℕ) → length (word n) ≡ 8
unfolding word
length-word n = refl

word_back : (bytes : List ℕ) → length bytes ≡ 8 → IsBytes bytes → word (from_le_bytes w64 bytes) ≡ bytes
unfolding word
word_back bytes len fits = le_bytes_8 bytes _ len fits refl

word_small : (bytes : List ℕ) → IsBytes bytes → from_le_bytes w64 bytes < 2 ^ 64
word_small bytes fits = omega (arith, fits 0, fits 1, fits 2, fits 3, fits 4, fits 5, fits 6, fits 7)

from_word : (n : ℕ) → n < 2 ^ 64 → from_le_bytes w64 (word n) ≡ n
unfolding word
from_word n lt = from_le_bytes-to_le_bytes_8 n lt

word_takes : (bytes : List ℕ) (x : ℕ × List ℕ) → IsBytes bytes → word_at bytes ≡ Ok x
    → Takes bytes (word x.0) x.1 × (x.0 < 2 ^ 64)
unfolding word_at
word_takes bytes x fits e =
    let g = unless_ok (ltb (length bytes) 8) (length bytes) (from_le_bytes w64 (take 8 bytes), drop 8 bytes) x e in
    let long : 8 ≤ length bytes = ltb-false _ _ g.0 in
    let len : length (take 8 bytes) ≡ 8 = omega (arith, length-take 8 bytes) in
    let front = IsBytes-take 8 bytes fits in
    let back = word_back (take 8 bytes) len front in
    let taken : Takes bytes (word (from_le_bytes w64 (take 8 bytes))) (drop 8 bytes) = record {
      parts = sym (take-append-drop 8 bytes) ∙ ap (λ (t : List ℕ). t ++ drop 8 bytes) (sym back);
      rest_fits = IsBytes-drop 8 bytes fits;
    } in
    subst (λ (y : ℕ × List ℕ). Takes bytes (word y.0) y.1 × (y.0 < 2 ^ 64)) g.1 (taken, word_small (take 8 bytes) front)

word_again : (n : ℕ) (rest : List ℕ) → n < 2 ^ 64 → word_at (word n ++ rest) ≡ Ok (n, rest)
unfolding word_at
word_again n rest lt =
    let long : ltb (length (word n ++ rest)) 8 ≡ false = le-ltb _ _ (omega (
      arith,
      length-append
          (word n) rest,
      length-word n,
    )) in
    rw (long, take_at (word n) rest 8 (length-word n), drop_at (word n) rest 8 (length-word n), from_word n lt) refl

pub word_codec : IsCodec word_at word (λ n. n < 2 ^ 64)
word_codec = record { takes = word_takes; again = word_again }

-- a word that passes a test
abbrev pub Passes : (ℕ → Bool) → ℕ → Type 0
Passes test n = (n < 2 ^ 64) × (test n ≡ true)

pub where_codec : (test : ℕ → Bool) → IsCodec (word_where test) word (Passes test)
where_codec test = record {
  takes = λ bytes x fits e.
      let a = bind_ok (word_at bytes) (λ n. cond (test n.0) (Ok n) (Err (length bytes))) x e in
      let g = where_ok (test a.0.0) (length bytes) a.0 x a.2 in
      let t = word_takes bytes a.0 fits a.1 in
      subst (λ (y : ℕ × List ℕ). Takes bytes (word y.0) y.1 × Passes test y.0) g.1 (t.0, (t.1, g.0));
  again = λ n rest passes. rw (word_again n rest passes.0, passes.1) refl;
}
