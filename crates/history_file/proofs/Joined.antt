-- Readings that are put together: what was made of what was read, and one reading behind another.
use Rattle.std.proofs.Common.{◌≡◌, ℕ, List, ◌++◌, Ok, refl, sym, ap, subst, ◌∙◌, append_assoc}
use Rattle.parsing.specs.Results.{◌>>=◌}
use Rattle.parsing.proofs.Steps.{done, bind_ok, ok_is}
use Rattle.history_file.specs.Reading.{Read, ◌gives◌, in_turn}
use Rattle.history_file.proofs.Codecs.{Takes, Takes-then, IsCodec}

pub made_codec : {A B : Type 0} (read : Read A) (spell : A → List ℕ) (Fits : A → Type 0) (spelled : B → List ℕ)
    (Good : B → Type 0) (make : A → B) (unmake : B → A) → IsCodec read spell Fits
    → ((a : A) → Fits a → (spelled (make a) ≡ spell a) × Good (make a))
    → ((b : B) → Good b → Fits (unmake b) × (make (unmake b) ≡ b))
    → IsCodec (λ bytes. read bytes gives make) spelled Good
made_codec {A} {B} read spell Fits spelled Good make unmake codec there back = record {
  takes = λ bytes x fits e.
      let a = bind_ok (read bytes) (λ a. Ok (make a.0, a.1)) x e in
      let t = codec.takes bytes a.0 fits a.1 in
      let g = there a.0.0 t.1 in
      let made : B × List ℕ = (make a.0.0, a.0.1) in
      subst (λ (y : B × List ℕ). Takes bytes (spelled y.0) y.1 × Good y.0) (ok_is ℕ made x a.2)
      (subst (λ (text : List ℕ). Takes bytes text a.0.1) (sym g.0) t.0, g.1);
  again = λ b rest good.
      let u = back b good in
      let s : spelled b ≡ spell (unmake b) = ap spelled (sym u.1) ∙ (there (unmake b) u.0).0 in
      let r : (read (spell (unmake b) ++ rest) gives make) ≡ Ok (make (unmake b), rest) =
      rw (codec.again (unmake b) rest u.0) refl in
      ap (λ (text : List ℕ). read (text ++ rest) gives make) s ∙ r
      ∙ ap (λ (y : B). done {A = B × List ℕ} ℕ (y, rest)) u.1;
}

pub in_turn_codec : {A B : Type 0} (first : Read A) (second : A → Read B) (a_text : A → List ℕ) (b_text : B → List ℕ)
    (FitsA : A → Type 0) (FitsB : A → B → Type 0) → IsCodec first a_text FitsA
    → ((a : A) → FitsA a → IsCodec (second a) b_text (FitsB a))
    → IsCodec (in_turn first second) (λ x. a_text x.0 ++ b_text x.1) (λ x. FitsA x.0 × FitsB x.0 x.1)
in_turn_codec {A} {B} first second a_text b_text FitsA FitsB one other = record {
  takes = λ bytes x fits e.
      let a = bind_ok (first bytes) (λ a. second a.0 a.1 >>= λ b. Ok ((a.0, b.0), b.1)) x e in
      let b = bind_ok (second a.0.0 a.0.1) (λ b. Ok ((a.0.0, b.0), b.1)) x a.2 in
      let s = one.takes bytes a.0 fits a.1 in
      let t = (other a.0.0 s.1).takes a.0.1 b.0 s.0.rest_fits b.1 in
      let made : (A × B) × List ℕ = ((a.0.0, b.0.0), b.0.1) in
      subst (λ (y : (A × B) × List ℕ). Takes bytes (a_text y.0.0 ++ b_text y.0.1) y.1 × (FitsA y.0.0 × FitsB y.0.0 y.0.1))
      (ok_is ℕ made x b.2)
      (Takes-then bytes (a_text a.0.0) a.0.1 (b_text b.0.0) b.0.1 s.0 t.0, (s.1, t.1));
  again = λ x rest fits.
      let r : in_turn first second (a_text x.0 ++ (b_text x.1 ++ rest)) ≡ Ok (x, rest) =
      rw (one.again x.0 (b_text x.1 ++ rest) fits.0, (other x.0 fits.0).again x.1 rest fits.1) refl in
      ap (in_turn first second) (append_assoc (a_text x.0) (b_text x.1) rest) ∙ r;
}
