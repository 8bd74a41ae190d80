-- Many values that are read are those that stand there.
use Rattle.std.proofs.Common.{◌≡◌, ℕ, zero, suc, List, [], ◌∷◌, length, Result, Ok, refl, sym, ap, subst}
use Rattle.std.specs.Prelude.{All}
use Rattle.std.specs.List.{flat_map}
use Rattle.std.proofs.lemmas.List.Concat.{flat_map-cons}
use Rattle.std.proofs.lemmas.List.Elements.{All-nil, All-cons}
use Rattle.parsing.specs.Bytes.{IsBytes}
use Rattle.parsing.specs.Results.{◌>>=◌, many_from}
use Rattle.parsing.specs.Places.{Place}
use Rattle.parsing.proofs.Steps.{bind_ok, ok_is}
use Rattle.parsing.proofs.Fields.{Takes, Takes-then, takes_none}

pub record AreTaken {X : Type 0} (P : X → Type 0) (bytes : X → List ℕ) (n : ℕ) (file : Place)
    (x : List X × Place) : Type 0 where
  pub takes : Takes file (flat_map bytes x.0) x.1
  pub count : length x.0 ≡ n
  pub each : All P x.0

module _ {X E : Type 0} (P : X → Type 0) (bytes : X → List ℕ) (read : Place → Result (X × Place) E)
    (one : (file : Place) (x : X × Place) → IsBytes file.1 → read file ≡ Ok x
    → Takes file (bytes x.0) x.1 × P x.0) where
  none_taken : (file : Place) → IsBytes file.1 → AreTaken P bytes 0 file ([], file)
  none_taken file fits = record { takes = takes_none file fits; count = refl; each = All-nil P }

  one_more : (count : ℕ) (file : Place) (first : X × Place) (others : List X × Place)
      → Takes file (bytes first.0) first.1 × P first.0 → AreTaken P bytes count first.1 others
      → AreTaken P bytes (suc count) file (first.0 ∷ others.0, others.1)
  one_more count file first others p q = record {
    takes = subst (λ (text : List ℕ). Takes file text others.1) (sym (flat_map-cons bytes first.0 others.0))
        (Takes-then file (bytes first.0) first.1 (flat_map bytes others.0) others.1 p.0 q.takes);
    count = ap suc q.count;
    each = All-cons P first.0 others.0 p.1 q.each;
  }

  -- as many as were asked for, and each of them
  pub many_taken : (count : ℕ) (file : Place) (x : List X × Place) → IsBytes file.1
      → many_from read count file ≡ Ok x
      → AreTaken P bytes count file x
  unfolding many_from
  many_taken zero file x fits e =
      subst (λ (y : List X × Place). AreTaken P bytes 0 file y) (ok_is E ([], file) x e)
      (none_taken file fits)
  many_taken (suc count) file x fits e =
      let a = bind_ok (read file)
      (λ first. many_from read count first.1 >>= λ others. Ok (first.0 ∷ others.0, others.1)) x e in
      let b = bind_ok (many_from read count a.0.1) (λ others. Ok (a.0.0 ∷ others.0, others.1)) x a.2 in
      let p = one file a.0 fits a.1 in
      let q = many_taken count a.0.1 b.0 p.0.rest_fits b.1 in
      subst (λ (y : List X × Place). AreTaken P bytes (suc count) file y)
      (ok_is E (a.0.0 ∷ b.0.0, b.0.1) x b.2) (one_more count file a.0 b.0 p q)
