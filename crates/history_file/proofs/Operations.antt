-- The operation of an act that is read is spelled so, and what is spelled so is read again.
use Rattle.std.proofs.Common.{◌≡◌, ℕ, zero, suc, ◌+◌, ◌-◌, ◌/◌, ◌^◌, ◌<◌, ◌≤◌, true, false, eqb, ltb, leb, List, [], ◌++◌}
use Rattle.std.proofs.Common.{length, Ok, refl, sym, ap, subst, ◌∙◌, arith}
use Rattle.std.specs.Prelude.{IfSome}
use Rattle.std.proofs.lemmas.Bool.{ltb-true, lt-ltb, leb-true, eqb-true, eqb-false, eq-eqb, ne_eqb, and_parts, and_from}
use Rattle.parsing.specs.Bytes.{IsBytes}
use Rattle.parsing.proofs.Steps.{done, bind_ok, ok_is}
use Rattle.ap_base.specs.Pieces.{IsPiece}
use Rattle.ap_base.specs.declared.place.Place.{Place}
use Rattle.ap_base.specs.declared.place.Place.TheVariants.{Static, Slot}
use Rattle.run_history.specs.declared.act.Stage.TheVariants.{Begun, Ready, Done}
use Rattle.run_history.specs.declared.act.Op.{Op}
use Rattle.run_history.specs.declared.act.Op.TheVariants as op
use Rattle.history_file.specs.declared.kind.Kind.{Kind}
use Rattle.history_file.specs.declared.kind.Kind.TheVariants as kind
use Rattle.history_file.specs.Kinds.{kind_of, fewest, most, may_have, named_count}
use Rattle.history_file.specs.Spelling.{word, words, stage_word, bool_word, option_word, fields, place_extra, extra, IsNumber}
use Rattle.history_file.specs.Spelling.{FitsKey}
use Rattle.history_file.specs.Spelling.{FitsValue, FitsOp}
use Rattle.history_file.specs.Reading.{Read, ◌gives◌, below, number_at, exactly, place_at, key_at, option_at, test_at, piece_at}
use Rattle.history_file.specs.Reading.{stored_at, numbers_at, three_at, access, monitor, of_two, stage_with, takes_words}
use Rattle.history_file.specs.Reading.{op_at, bare}
use Rattle.history_file.proofs.Codecs.{Takes, takes_none, IsCodec}
use Rattle.history_file.proofs.Parts.{below_codec, number_codec, exactly_codec, one_word, two_words, three_words, is_slot}
use Rattle.history_file.proofs.Parts.{IsPlace}
use Rattle.history_file.proofs.Parts.{place_text, place_codec, key_text, key_codec, option_codec, test_text, IsTest, test_codec}
use Rattle.history_file.proofs.Parts.{pair_text, numbers_codec, three_codec, access_text, stored_codec}
use Rattle.history_file.proofs.Pieces.{piece_text, IsPieceOf, piece_codec}

-- an operation that was read for this kind and count of words has this text
pub record IsGood (k : Kind) (words : ℕ) (o : Op) (text : List ℕ) : Type 0 where
  pub spelled : fields o (named_count k words) ≡ text
  pub fits : FitsOp o
  pub kind_is : kind_of o ≡ k
  pub size : fewest k + extra o + named_count k words ≡ words

pub record IsOp (k : Kind) (words : ℕ) (bytes : List ℕ) (x : Op × List ℕ) : Type 0 where
  pub takes : Takes bytes (fields x.0 (named_count k words)) x.1
  pub fits : FitsOp x.0
  pub kind_is : kind_of x.0 ≡ k
  pub size : fewest k + extra x.0 + named_count k words ≡ words

is_op : (k : Kind) (words : ℕ) (bytes text : List ℕ) (x : Op × List ℕ) → Takes bytes text x.1 → IsGood k words x.0 text
    → IsOp k words bytes x
is_op k words bytes text x takes good = record {
  takes = subst (λ (t : List ℕ). Takes bytes t x.1) (sym good.spelled) takes;
  fits = good.fits;
  kind_is = good.kind_is;
  size = good.size;
}

made_takes : {A : Type 0} (k : Kind) (words : ℕ) (read : Read A) (spell : A → List ℕ) (Fits : A → Type 0) (make : A → Op)
    → IsCodec read spell Fits → (bytes : List ℕ) (x : Op × List ℕ) → IsBytes bytes → (read bytes gives make) ≡ Ok x
    → ((a : A) → Fits a → IsGood k words (make a) (spell a)) → IsOp k words bytes x
made_takes k words read spell Fits make codec bytes x fits e good =
    let a = bind_ok (read bytes) (λ a. Ok (make a.0, a.1)) x e in
    let t = codec.takes bytes a.0 fits a.1 in
    let made : Op × List ℕ = (make a.0.0, a.0.1) in
    subst (λ (y : Op × List ℕ). IsOp k words bytes y) (ok_is ℕ made x a.2)
    (is_op k words bytes (spell a.0.0) made t.0 (good a.0.0 t.1))

bare_takes : (k : Kind) (words : ℕ) (bytes : List ℕ) (x : Op × List ℕ) → IsBytes bytes
    → done {A = Op × List ℕ} ℕ (bare k, bytes) ≡ Ok x
    → IsGood k words (bare k) [] → IsOp k words bytes x
bare_takes k words bytes x fits e good =
    let made : Op × List ℕ = (bare k, bytes) in
    subst (λ (y : Op × List ℕ). IsOp k words bytes y) (ok_is ℕ made x e) (is_op k words bytes [] made
    (takes_none bytes fits) good)

place_size : (base words : ℕ) (p : Place) → base ≤ words → words ≤ base + 1 → is_slot p ≡ eqb words (base + 1)
    → base + place_extra p + 0 ≡ words
place_size base words (Static n) ge le e = let other = eqb-false words (base + 1) (sym e) in omega (arith, ge, le, other)
place_size base words (Slot object index) ge le e = let same = eqb-true words (base + 1) (sym e) in omega (arith, same)

place_told : (base : ℕ) (p : Place) (n : ℕ) → n ≡ 0 → is_slot p ≡ eqb (base + place_extra p + n) (base + 1)
place_told base (Static m) n none = sym (ne_eqb (base + 0 + n) (base + 1) (λ h. omega (arith, h, none)))
place_told base (Slot object index) n none = sym (eq-eqb (base + 1 + n) (base + 1) (omega (arith, none)))

stage_again : (n : ℕ) → n < 3 → stage_word (stage_with n) ≡ n
stage_again zero lt = refl
stage_again (suc zero) lt = refl
stage_again (suc (suc zero)) lt = refl
stage_again (suc (suc (suc n))) lt = absurd (omega (arith, lt))

bool_again : (n : ℕ) → n < 2 → bool_word (eqb n 1) ≡ n
bool_again zero lt = refl
bool_again (suc zero) lt = refl
bool_again (suc (suc n)) lt = absurd (omega (arith, lt))

piece_count : (words : ℕ) (text : List ℕ) → takes_words (words - 3) (length text) ≡ true
    → (length text < 25) × ((length text + 7) / 8 ≡ words - 3)
piece_count words text so =
    let p = and_parts (ltb (length text) 25) (eqb ((length text + 7) / 8) (words - 3)) so in
    (ltb-true (length text) 25 p.0, eqb-true ((length text + 7) / 8) (words - 3) p.1)

piece_fits : (words : ℕ) (text : List ℕ) → 4 ≤ words → takes_words (words - 3) (length text) ≡ true → IsPiece text
piece_fits words text ge so = let p = piece_count words text so in (omega (arith, ge, p.0, p.1), omega (arith, p.0))

piece_size : (words : ℕ) (text : List ℕ) → 4 ≤ words → takes_words (words - 3) (length text) ≡ true
    → 4 + ((length text + 7) / 8 - 1) + 0 ≡ words
piece_size words text ge so = let p = piece_count words text so in omega (arith, ge, p.0, p.1)

piece_told : (text : List ℕ) (n : ℕ) → IsPiece text → n ≡ 0
    → takes_words (4 + ((length text + 7) / 8 - 1) + n - 3) (length text) ≡ true
piece_told text n piece none =
    and_from (ltb (length text) 25) (eqb ((length text + 7) / 8) (4 + ((length text + 7) / 8 - 1) + n - 3))
    (lt-ltb (length text) 25 (omega (arith, piece.1))) (eq-eqb _ _ (omega (arith, piece.0, none)))

abbrev pub IsSized : Kind → ℕ → Type 0
IsSized k words = (fewest k ≤ words) × (words ≤ most k)

pub sized : (k : Kind) (words : ℕ) → may_have k words ≡ true → IsSized k words
sized k words so =
    let p = and_parts (leb (fewest k) words) (leb words (most k)) so in
    (leb-true (fewest k) words p.0, leb-true words (most k) p.1)

pub op_takes : (k : Kind) (words : ℕ) → IsSized k words → (bytes : List ℕ) (x : Op × List ℕ) → IsBytes bytes
    → op_at k words bytes ≡ Ok x → IsOp k words bytes x
unfolding op_at
op_takes kind.Pause words sized bytes x fits e = bare_takes kind.Pause words bytes x fits e
    (record { spelled = refl; fits = tt; kind_is = refl; size = omega (arith, sized.0, sized.1) })
op_takes kind.Alloc words sized bytes x fits e = made_takes kind.Alloc words three_at (λ x. word x.0 ++ pair_text x.1)
    (λ x. IsNumber x.0 × (IsNumber x.1.0 × (x.1.1 < 2 ^ 32))) (λ x. op.Alloc x.0 x.1.0 x.1.1) three_codec bytes x fits e
    (λ a f. record {
      spelled = three_words a.0 a.1.0 a.1.1;
      fits = (f.0, f.1.0, f.1.1);
      kind_is = refl;
      size = omega
          (arith, sized.0, sized.1);
    })
op_takes kind.Read words sized bytes x fits e = made_takes kind.Read words (stored_at (eqb words 7)) access_text
    (λ x. IsPlace (eqb words 7) x.0 × FitsValue x.1) (access kind.Read) (stored_codec (eqb words 7)) bytes x fits e
    (λ a f. record { spelled = refl; fits = (f.0.0, f.1); kind_is = refl; size = place_size 6 words a.0 sized.0 sized.1 f.0.1 })
op_takes kind.Stored words sized bytes x fits e = made_takes kind.Stored words (stored_at (eqb words 7)) access_text
    (λ x. IsPlace (eqb words 7) x.0 × FitsValue x.1) (access kind.Stored) (stored_codec (eqb words 7)) bytes x fits e
    (λ a f. record { spelled = refl; fits = (f.0.0, f.1); kind_is = refl; size = place_size 6 words a.0 sized.0 sized.1 f.0.1 })
op_takes kind.Length words sized bytes x fits e = made_takes kind.Length words (numbers_at (2 ^ 32)) pair_text
    (λ x. IsNumber x.0 × (x.1 < 2 ^ 32)) (of_two kind.Length) (numbers_codec (2 ^ 32) (omega arith)) bytes x fits e
    (λ a f. record { spelled = two_words a.0 a.1; fits = f; kind_is = refl; size = omega (arith, sized.0, sized.1) })
op_takes kind.Class words sized bytes x fits e = made_takes kind.Class words test_at test_text IsTest
    (λ x. op.Class x.0 x.1) test_codec bytes x fits e
    (λ a f. record { spelled = refl; fits = f; kind_is = refl; size = omega (arith, sized.0, sized.1) })
op_takes kind.Same words sized bytes x fits e = made_takes kind.Same words (below 2) word (λ n. n < 2) (λ n. op.Same
    (eqb n 1)) (below_codec 2 (omega arith)) bytes x fits e
    (λ a f. record {
      spelled = one_word (bool_word (eqb a 1)) ∙ ap word
          (bool_again a f);
      fits = tt;
      kind_is = refl;
      size = omega (arith, sized.0, sized.1);
    })
op_takes kind.Enter words sized bytes x fits e = made_takes kind.Enter words key_at key_text FitsKey
    (monitor kind.Enter) key_codec bytes x fits e
    (λ a f. record { spelled = refl; fits = f; kind_is = refl; size = omega (arith, sized.0, sized.1) })
op_takes kind.Exit words sized bytes x fits e = made_takes kind.Exit words key_at key_text FitsKey
    (monitor kind.Exit) key_codec bytes x fits e
    (λ a f. record { spelled = refl; fits = f; kind_is = refl; size = omega (arith, sized.0, sized.1) })
op_takes kind.Start words sized bytes x fits e = made_takes kind.Start words (numbers_at 64) pair_text (λ x. IsNumber x.0 ×
    (x.1 < 64)) (λ x. op.Start x.0 x.1) (numbers_codec 64 (omega arith)) bytes x fits e
    (λ a f. record { spelled = two_words a.0 a.1; fits = f; kind_is = refl; size = omega (arith, sized.0, sized.1) })
op_takes kind.Join words sized bytes x fits e = made_takes kind.Join words number_at word IsNumber op.Join number_codec
    bytes x fits e
    (λ a f. record { spelled = one_word a; fits = f; kind_is = refl; size = omega (arith, sized.0, sized.1) })
op_takes kind.Init words sized bytes x fits e = made_takes kind.Init words (numbers_at 3) pair_text (λ x. IsNumber x.0 ×
    (x.1 < 3)) (λ x. op.Init x.0 (stage_with x.1)) (numbers_codec 3 (omega arith)) bytes x fits e
    (λ a f. record {
      spelled = two_words a.0 (stage_word (stage_with a.1)) ∙ ap (λ (k : ℕ). word a.0 ++ word k)
          (stage_again a.1 f.1);
      fits = f.0;
      kind_is = refl;
      size = omega (arith, sized.0, sized.1);
    })
op_takes kind.Print words sized bytes x fits e = made_takes kind.Print words (piece_at (words - 3)) piece_text (IsPieceOf
    (words - 3)) op.Print (piece_codec (words - 3)) bytes x fits e
    (λ a f. record {
      spelled = refl;
      fits =
          (piece_fits words a sized.0 f.0, f.1);
      kind_is = refl;
      size = piece_size words a sized.0 f.0;
    })
op_takes kind.Throw words sized bytes x fits e = made_takes kind.Throw words (numbers_at (2 ^ 32)) pair_text
    (λ x. IsNumber x.0 × (x.1 < 2 ^ 32)) (of_two kind.Throw) (numbers_codec (2 ^ 32) (omega arith)) bytes x fits e
    (λ a f. record { spelled = two_words a.0 a.1; fits = f; kind_is = refl; size = omega (arith, sized.0, sized.1) })
op_takes kind.Begin words sized bytes x fits e = bare_takes kind.Begin words bytes x fits e
    (record { spelled = refl; fits = tt; kind_is = refl; size = omega (arith, sized.0, sized.1) })
op_takes kind.End words sized bytes x fits e = bare_takes kind.End words bytes x fits e
    (record { spelled = refl; fits = tt; kind_is = refl; size = omega (arith, sized.0, sized.1) })
op_takes kind.Ended words sized bytes x fits e = made_takes kind.Ended words option_at (λ o. word (option_word o))
    (λ o. IfSome o IsNumber) op.Ended option_codec bytes x fits e
    (λ a f. record { spelled = one_word (option_word a); fits = f; kind_is = refl; size = omega (arith, sized.0, sized.1) })
op_takes kind.Asked words sized bytes x fits e = made_takes kind.Asked words (stored_at (eqb words 7)) access_text
    (λ x. IsPlace (eqb words 7) x.0 × FitsValue x.1) (access kind.Asked) (stored_codec (eqb words 7)) bytes x fits e
    (λ a f. record { spelled = refl; fits = (f.0.0, f.1); kind_is = refl; size = place_size 6 words a.0 sized.0 sized.1 f.0.1 })
op_takes kind.Joined words sized bytes x fits e = made_takes kind.Joined words (exactly (words - 3)) word (λ n. n
    ≡ words - 3) (λ n. op.Joined) (exactly_codec (words - 3) (omega (arith, sized.1))) bytes x fits e
    (λ a f. record {
      spelled = one_word (words - 3) ∙ ap word (sym f);
      fits = tt;
      kind_is = refl;
      size = omega
          (arith, sized.0);
    })
op_takes kind.Guarded words sized bytes x fits e = made_takes kind.Guarded words (place_at (eqb words 5)) place_text
    (IsPlace (eqb words 5)) op.Guarded (place_codec (eqb words 5)) bytes x fits e
    (λ a f. record { spelled = refl; fits = f.0; kind_is = refl; size = place_size 4 words a sized.0 sized.1 f.1 })
op_takes kind.Closing words sized bytes x fits e = bare_takes kind.Closing words bytes x fits e
    (record { spelled = refl; fits = tt; kind_is = refl; size = omega (arith, sized.0, sized.1) })
op_takes kind.Fenced words sized bytes x fits e = bare_takes kind.Fenced words bytes x fits e
    (record { spelled = refl; fits = tt; kind_is = refl; size = omega (arith, sized.0, sized.1) })

made_again : {A : Type 0} (read : Read A) (spell : A → List ℕ) (Fits : A → Type 0) (make : A → Op) → IsCodec read spell Fits
    → (a : A) (text rest : List ℕ) → text ≡ spell a → Fits a → (read (text ++ rest) gives make) ≡ Ok (make a, rest)
made_again read spell Fits make codec a text rest same fits =
    let r : (read (spell a ++ rest) gives make) ≡ Ok (make a, rest) = rw (codec.again a rest fits) refl in
    ap (λ (t : List ℕ). read (t ++ rest) gives make) same ∙ r

-- only a Joined act names objects, and no more than its count of words can tell
abbrev pub IsCount : Kind → ℕ → Type 0
IsCount kind.Joined n = n ≤ 2 ^ 32 - 4
IsCount other n = n ≡ 0

pub op_again : (o : Op) (n : ℕ) (rest : List ℕ) → FitsOp o → IsCount (kind_of o) n
    → op_at (kind_of o) (fewest (kind_of o) + extra o + n) (fields o n ++ rest) ≡ Ok (o, rest)
unfolding op_at
op_again op.Pause n rest fits count = refl
op_again (op.Alloc object shape slots) n rest fits count = made_again three_at (λ x. word x.0 ++ pair_text x.1)
    (λ x. IsNumber x.0 × (IsNumber x.1.0 × (x.1.1 < 2 ^ 32))) (λ x. op.Alloc x.0 x.1.0 x.1.1) three_codec (
      object,
      (shape, slots),
    ) (fields (op.Alloc object shape slots) n) rest (three_words object shape slots) (fits.0, (fits.1, fits.2))
op_again (op.Read place value) n rest fits count = made_again (stored_at (eqb (6 + place_extra place + n) 7)) access_text
    (λ x. IsPlace (eqb (6 + place_extra place + n) 7) x.0 × FitsValue x.1) (access kind.Read) (stored_codec (eqb
    (6 + place_extra place + n) 7)) (place, value) (fields (op.Read place value) n) rest refl
    ((fits.0, place_told 6 place n count), fits.1)
op_again (op.Stored place value) n rest fits count = made_again (stored_at (eqb (6 + place_extra place + n) 7)) access_text
    (λ x. IsPlace (eqb (6 + place_extra place + n) 7) x.0 × FitsValue x.1) (access kind.Stored) (stored_codec (eqb
    (6 + place_extra place + n) 7)) (place, value) (fields (op.Stored place value) n) rest refl
    ((fits.0, place_told 6 place n count), fits.1)
op_again (op.Length object slots) n rest fits count = made_again (numbers_at (2 ^ 32)) pair_text (λ x. IsNumber x.0 ×
    (x.1 < 2 ^ 32)) (of_two kind.Length) (numbers_codec (2 ^ 32) (omega arith)) (object, slots) (fields
    (op.Length object slots) n) rest (two_words object slots) fits
op_again (op.Class object shape) n rest fits count = made_again test_at test_text IsTest (λ x. op.Class x.0 x.1) test_codec
    (object, shape) (fields (op.Class object shape) n) rest (refl) fits
op_again (op.Same true) n rest fits count = made_again (below 2) word (λ n. n < 2) (λ n. op.Same (eqb n 1)) (below_codec 2
    (omega arith)) 1 (fields (op.Same true) n) rest (one_word 1) (omega arith)
op_again (op.Same false) n rest fits count = made_again (below 2) word (λ n. n < 2) (λ n. op.Same (eqb n 1)) (below_codec 2
    (omega arith)) 0 (fields (op.Same false) n) rest (one_word 0) (omega arith)
op_again (op.Enter key) n rest fits count = made_again key_at key_text FitsKey (monitor kind.Enter) key_codec key (fields
    (op.Enter key) n) rest (refl) fits
op_again (op.Exit key) n rest fits count = made_again key_at key_text FitsKey (monitor kind.Exit) key_codec key (fields
    (op.Exit key) n) rest (refl) fits
op_again (op.Start object child) n rest fits count = made_again (numbers_at 64) pair_text (λ x. IsNumber x.0 × (x.1 < 64))
    (λ x. op.Start x.0 x.1) (numbers_codec 64 (omega arith)) (object, child) (fields (op.Start object child) n) rest
    (two_words object child) fits
op_again (op.Join object) n rest fits count = made_again number_at word IsNumber op.Join number_codec object (fields
    (op.Join object) n) rest (one_word object) fits
op_again (op.Init class Begun) n rest fits count = made_again (numbers_at 3) pair_text (λ x. IsNumber x.0 × (x.1 < 3))
    (λ x. op.Init x.0 (stage_with x.1)) (numbers_codec 3 (omega arith)) (class, 0) (fields (op.Init class Begun) n) rest
    (two_words class 0) (fits, omega arith)
op_again (op.Init class Ready) n rest fits count = made_again (numbers_at 3) pair_text (λ x. IsNumber x.0 × (x.1 < 3))
    (λ x. op.Init x.0 (stage_with x.1)) (numbers_codec 3 (omega arith)) (class, 1) (fields (op.Init class Ready) n) rest
    (two_words class 1) (fits, omega arith)
op_again (op.Init class Done) n rest fits count = made_again (numbers_at 3) pair_text (λ x. IsNumber x.0 × (x.1 < 3))
    (λ x. op.Init x.0 (stage_with x.1)) (numbers_codec 3 (omega arith)) (class, 2) (fields (op.Init class Done) n) rest
    (two_words class 2) (fits, omega arith)
op_again (op.Print bytes) n rest fits count =
    let w = 4 + ((length bytes + 7) / 8 - 1) + n - 3 in
    made_again (piece_at w) piece_text (IsPieceOf w) op.Print (piece_codec w) bytes (fields (op.Print bytes) n) rest refl
    (piece_told bytes n fits.0 count, fits.1)
op_again (op.Throw object class) n rest fits count = made_again (numbers_at (2 ^ 32)) pair_text (λ x. IsNumber x.0 ×
    (x.1 < 2 ^ 32)) (of_two kind.Throw) (numbers_codec (2 ^ 32) (omega arith)) (object, class) (fields
    (op.Throw object class) n) rest (two_words object class) fits
op_again op.Begin n rest fits count = refl
op_again op.End n rest fits count = refl
op_again (op.Ended uncaught) n rest fits count = made_again option_at (λ o. word (option_word o))
    (λ o. IfSome o IsNumber) op.Ended option_codec uncaught (fields (op.Ended uncaught) n) rest (one_word
    (option_word uncaught)) fits
op_again (op.Asked place value) n rest fits count = made_again (stored_at (eqb (6 + place_extra place + n) 7)) access_text
    (λ x. IsPlace (eqb (6 + place_extra place + n) 7) x.0 × FitsValue x.1) (access kind.Asked) (stored_codec (eqb
    (6 + place_extra place + n) 7)) (place, value) (fields (op.Asked place value) n) rest refl
    ((fits.0, place_told 6 place n count), fits.1)
op_again op.Joined n rest fits count =
    let k : 3 + 0 + n - 3 ≡ n = omega arith in
    made_again (exactly (3 + 0 + n - 3)) word (λ m. m ≡ 3 + 0 + n - 3) (λ m. op.Joined) (exactly_codec (3 + 0 + n - 3)
    (omega (arith, count))) n (fields op.Joined n) rest (one_word n) (sym k)
op_again (op.Guarded place) n rest fits count = made_again (place_at (eqb (4 + place_extra place + n) 5)) place_text
    (IsPlace (eqb (4 + place_extra place + n) 5)) op.Guarded (place_codec (eqb (4 + place_extra place + n) 5)) place
    (fields (op.Guarded place) n) rest refl (fits, place_told 4 place n count)
op_again op.Closing n rest fits count = refl
op_again op.Fenced n rest fits count = refl
