-- Texts in modified UTF-8 are of bytes; what holds of each text of a pool holds of the names that it gives.
use Rattle.std.proofs.Common.{◌≡◌, ℕ, ◌+◌, ◌/◌, ◌%◌, ◌<◌, List, [], ◌∷◌, ◌++◌, Option, Some, None, refl, sym, subst, arith, inl}
use Rattle.std.proofs.Common.{inr}
use Rattle.std.specs.List.{AllByRecursion}
use Rattle.std.proofs.lemmas.Bool.{cases_eq, cases_lt}
use Rattle.std.proofs.lemmas.List.Concat.{flat_map-cons}
use Rattle.const_pool.specs.declared.entry.Member.{Member}
use Rattle.const_pool.specs.declared.entry.Entry.{Entry}
use Rattle.const_pool.specs.declared.entry.Entry.TheVariants as entry
use Rattle.const_pool.specs.Pool.{Slots, class_name_of, entry_at, member_at, utf8_at}
use Rattle.const_pool.specs.Utf8.{IsModifiedUtf8, IsUnit, unit_bytes, units_bytes}
use Rattle.const_pool.proofs.Texts.{one_form, two_form, three_form}
use Rattle.image_meaning.specs.Entries.{AreBytes}
use Rattle.class_links.specs.Names.{class_name}
use Rattle.class_set.specs.ArrayTypes.{class_at, class_of_member}
use Rattle.class_set.specs.Members.{text_at}
use Rattle.class_set.proofs.PoolTexts.{HasTexts}

-- ---- bytes

pub both_bytes : (xs ys : List ℕ) → AreBytes xs → AreBytes ys → AreBytes (xs ++ ys)
both_bytes [] ys h k = k
both_bytes (x ∷ xs) ys h k = (h.0, both_bytes xs ys h.1 k)

two_bytes : (u : ℕ) → u < 2048 → unit_bytes u ≡ (192 + u / 64) ∷ (128 + u % 64) ∷ [] → AreBytes (unit_bytes u)
two_bytes u l form = subst AreBytes (sym form) (omega (arith, l), (omega (arith, l), tt))

unit_of_bytes : (u : ℕ) → IsUnit u → AreBytes (unit_bytes u)
unit_of_bytes u is = elim (cases_lt u 2048) [
  | inr large ↦ subst AreBytes (sym (three_form u large)) (omega (arith, is), (omega arith, (omega arith, tt)))
  | inl small ↦ elim (cases_lt u 128) [
    | inr past ↦ two_bytes u small (two_form u (inr past) small)
    | inl low ↦ elim (cases_eq u 0) [
      | inl none ↦ two_bytes u small (two_form u (inl none) small)
      | inr some ↦ (let positive : 0 < u = omega (arith, some) in subst AreBytes (sym (one_form u positive low)) (omega (arith, low), tt))
    ]
  ]
]

units_of_bytes : (units : List ℕ) → AllByRecursion IsUnit units → AreBytes (units_bytes units)
units_of_bytes [] all = tt
units_of_bytes (u ∷ us) all =
    subst AreBytes (sym (flat_map-cons unit_bytes u us)) (both_bytes (unit_bytes u) (units_bytes us) (unit_of_bytes u all.0) (units_of_bytes us all.1))

pub text_bytes : (t : List ℕ) → IsModifiedUtf8 t → AreBytes t
text_bytes t good = subst AreBytes (sym good.2) (units_of_bytes good.0 good.1)

-- ---- the names that a pool gives

module _ (P : List ℕ → Type 0) (pool : Slots) (nothing : P []) (all : (i : ℕ) (t : List ℕ) → utf8_at pool i ≡ Some t → P t) where
  text_or : (d : List ℕ) (o : Option (List ℕ)) → P d → ((t : List ℕ) → o ≡ Some t → P t) → P (elim o as (λ x. List ℕ) [ None ↦ d | Some t ↦ t ])
  text_or d None h each = h
  text_or d (Some t) h each = each t refl

  pub text_has : (index : ℕ) → P (text_at pool index)
  text_has index = text_or [] (utf8_at pool index) nothing (all index)

  entry_has : (d : List ℕ) (o : Option Entry) → P d → P (elim (class_name_of pool o) as (λ x. List ℕ) [ None ↦ d | Some t ↦ t ])
  entry_has d (Some (entry.Class i)) h = text_or d (utf8_at pool i) h (all i)
  entry_has d other h = h

  pub class_has : (index : ℕ) → P (class_name pool index)
  class_has index = entry_has [] (entry_at pool index) nothing

  member_has : (o : Option Member) → P (class_of_member pool o)
  member_has None = nothing
  member_has (Some m) = class_has m.class

  pub class_at_has : (index : ℕ) → P (class_at pool index)
  class_at_has index = entry_has (class_of_member pool (member_at pool index)) (entry_at pool index) (member_has (member_at pool index))

pub texts_of_bytes : (pool : Slots) → HasTexts pool → (i : ℕ) (t : List ℕ) → utf8_at pool i ≡ Some t → AreBytes t
texts_of_bytes pool h i t e = text_bytes t (h i t e)
