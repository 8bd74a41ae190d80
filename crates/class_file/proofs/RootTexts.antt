-- The texts of the names of durable roots, with one more.
use Rattle.std.proofs.Common.{◌≡◌, ℕ, Bool, true, false, cond, ◌||◌, List, [], ◌∷◌, ◌++◌, Option, None, Some, refl, ap}
use Rattle.std.proofs.Common.{bytes_eq, is_eq}
use Rattle.std.specs.Borrow.{Bor}
use Rattle.std.specs.List.{list_any}
use Rattle.std.specs.Ordering.{nat_cmp}
use Rattle.std.specs.Cmp.Lexicographic.{slice_cmp}
use Rattle.std.specs.BTreeSet.{BTreeSet, contains_by, Updates}
use Rattle.std.proofs.lemmas.List.Folds.{list_any-append}
use Rattle.std.proofs.lemmas.Map.Text.{is_eq-slice_cmp}
use Rattle.const_pool.specs.Pool.{Slots, utf8_at}
use Rattle.class_file.specs.Members.{is_text}
use Rattle.class_file.specs.RootNames.{AreTexts}

either : (found others : Bool) → cond found true others ≡ (others || (found || false))
either true true = refl
either true false = refl
either false true = refl
either false false = refl

pub one_more : (pool : Slots) (roots : List ℕ) (index : ℕ) (key : Bor (List ℕ)) (before after : BTreeSet (Bor (List ℕ)))
    → utf8_at pool index ≡ Some key.now → Updates (λ x y. slice_cmp nat_cmp x.now y.now) before after key true
    → AreTexts pool roots before → AreTexts pool (roots ++ index ∷ []) after
one_more pool roots index key before after is updates are text =
    let q : Bor (List ℕ) = record { ref_ptr = key.ref_ptr; now = text } in
    let same : is_text pool index text ≡ bytes_eq key.now text = ap (λ (o : Option (List ℕ)). elim o [ None ↦ false | Some found ↦ bytes_eq found text ]) is in
    let inserted : contains_by (λ k. slice_cmp nat_cmp text k.now) after ≡ cond (is_eq (slice_cmp nat_cmp key.now text)) true (contains_by (λ k. slice_cmp nat_cmp text k.now) before) = updates.0 q in
    let others = are text in
    rw (
      inserted,
      is_eq-slice_cmp key.now text,
      others,
      list_any-append (λ i. is_text pool i text) roots (index ∷ []),
      same,
    ) (either (bytes_eq key.now text) (list_any (λ i. is_text pool i text) roots))
