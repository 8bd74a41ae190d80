-- The place of a text behind others, and what a map has after a text more.
use Rattle.std.proofs.Common.{◌≡◌, ℕ, ◌+◌, Bool, true, false, List, [], ◌∷◌, ◌++◌, Option, Some, None, length, refl, ap, sym}
use Rattle.std.proofs.Common.{◌∙◌, arith, cond, if◌then◌else◌, subst}
use Rattle.std.specs.Prelude.{is_some}
use Rattle.std.specs.Ordering.{is_eq, nat_cmp}
use Rattle.std.specs.Cmp.{eq_by_cmp_equiv}
use Rattle.std.specs.Cmp.Lexicographic.{slice_cmp, nat_list_cmp_total, nat_list_eq_equiv}
use Rattle.std.specs.Str.{bytes_eq}
use Rattle.std.specs.BTreeMap.{BTreeMap, get_by, UpdatesBy, Updates}
use Rattle.std.specs.Map.{lookup, IsKeyTest, AreApart, KeepsOthers}
use Rattle.std.specs.Global.{Vec}
use Rattle.std.proofs.lemmas.Bool.{false≢true}
use Rattle.std.proofs.lemmas.Map.Text.{is_eq-slice_cmp}
use Rattle.std.proofs.lemmas.Slice.Eq.{bytes_eq-Decides}
use Rattle.text_table.specs.Texts.{place_from, place_of}

-- ---- places

-- a text that is there has its place still, with one more behind
pub place_from-kept : (n : ℕ) (texts : List (List ℕ)) (more text : List ℕ) → is_some (place_from n texts text) ≡ true
    → place_from n (texts ++ more ∷ []) text ≡ place_from n texts text
place_from-kept n [] more text h = absurd (false≢true h)
place_from-kept n (t ∷ ts) more text h =
    elim (bytes_eq t text) as (λ b. is_some (if b then Some n else place_from (n + 1) ts text) ≡ true
    → (if b then Some n else place_from (n + 1) (ts ++ more ∷ []) text) ≡ (if b then Some n else place_from (n + 1) ts text))
    [ true ↦ λ e. refl | false ↦ λ e. place_from-kept (n + 1) ts more text e ] h

-- a text that isn't there is the one behind, or isn't there still
pub place_from-behind : (n : ℕ) (texts : List (List ℕ)) (more text : List ℕ) → place_from n texts text ≡ None
    → place_from n (texts ++ more ∷ []) text ≡ cond (bytes_eq more text) (Some (n + length texts)) None
place_from-behind n [] more text h =
    elim (bytes_eq more text) as (λ b. (if b then Some n else None) ≡ cond b (Some (n + 0)) None)
    [ true ↦ ap (λ k. Some k) (omega arith) | false ↦ refl ]
place_from-behind n (t ∷ ts) more text h =
    elim (bytes_eq t text) as (λ b. (if b then Some n else place_from (n + 1) ts text) ≡ None
    → (if b then Some n else place_from (n + 1) (ts ++ more ∷ []) text) ≡ cond (bytes_eq more text) (Some (n + length (t ∷ ts))) None) [
      | true ↦ λ e. absurd (cc)
      | false ↦ λ e. place_from-behind (n + 1) ts more text e
          ∙ ap (λ k. cond (bytes_eq more text) (Some k) None) (omega arith)
    ] h

-- ---- the map

other_entries : {K X : Type 0} (eq : K → K → Bool) (test : K → Bool) (old new : List (K × X)) → KeepsOthers eq test old new
    → (other : K → Bool) → IsKeyTest eq other → AreApart test other → lookup other new ≡ lookup other old
unfolding KeepsOthers
other_entries eq test old new h = h

apart : (bs cs ks : List ℕ) → bytes_eq bs cs ≡ false → is_eq (slice_cmp nat_cmp bs ks) ≡ true → is_eq (slice_cmp nat_cmp cs ks) ≡ false
apart bs cs ks n y =
    is_eq-slice_cmp cs ks ∙ nat_list_eq_equiv.symm cs ks
    ∙ sym (nat_list_eq_equiv.congr bs ks cs (sym (is_eq-slice_cmp bs ks) ∙ y)) ∙ n

same_text : (xs ys : List ℕ) → bytes_eq xs ys ≡ true → xs ≡ ys
same_text xs ys e = (bytes_eq-Decides xs ys).0 e

-- what the map has at any text, after a text got this value
pub after_text : {X : Type 0} (key : List ℕ) (m n : BTreeMap (Vec ℕ) X) (w : Option X)
    → UpdatesBy (λ (x y : Vec ℕ). slice_cmp nat_cmp x.items y.items) (λ k. slice_cmp nat_cmp key k.items) m n w
    → (text : List ℕ)
    → get_by (λ k. slice_cmp nat_cmp text k.items) n ≡ cond (bytes_eq key text) w (get_by (λ k. slice_cmp nat_cmp text k.items) m)
after_text {X} key m n w h text =
    elim (bytes_eq key text) as (λ b. bytes_eq key text ≡ b
    → get_by (λ (k : Vec ℕ). slice_cmp nat_cmp text k.items) n ≡ cond b w (get_by (λ (k : Vec ℕ). slice_cmp nat_cmp text k.items) m)) [
      | true ↦ λ e. subst (λ q. get_by (λ (k : Vec ℕ). slice_cmp nat_cmp q k.items) n ≡ w) (same_text key text e) h.1
      | false ↦ λ e. other_entries _ _ _ _ h.3 _ (λ x y. (eq_by_cmp_equiv nat_list_cmp_total).congr text x.items y.items)
          (λ k. apart key text k.items e)
    ] refl

-- places are right with a text more
ArePlaces-push : (texts : List (List ℕ)) (more : List ℕ) (n : ℕ) (before after : BTreeMap (Vec ℕ) ℕ)
    → ((text : List ℕ) → get_by (λ k. slice_cmp nat_cmp text k.items) before ≡ place_of texts text)
    → n ≡ length texts → place_of texts more ≡ None
    → UpdatesBy (λ (x y : Vec ℕ). slice_cmp nat_cmp x.items y.items) (λ k. slice_cmp nat_cmp more k.items) before after (Some n)
    → (text : List ℕ) → get_by (λ k. slice_cmp nat_cmp text k.items) after ≡ place_of (texts ++ more ∷ []) text
ArePlaces-push texts more n before after are size new updates text =
    after_text more before after (Some n) updates text
    ∙ elim (bytes_eq more text) as (λ b. bytes_eq more text ≡ b
    → cond b (Some n) (get_by (λ (k : Vec ℕ). slice_cmp nat_cmp text k.items) before) ≡ place_of (texts ++ more ∷ []) text) [
      | true ↦ λ e.
          (let none : place_of texts text ≡ None = ap (place_of texts) (sym (same_text more text e)) ∙ new in
          ap (λ k. Some k) (omega (arith, size)) ∙ ap (λ b. cond b (Some (0 + length texts)) None) (sym e)
          ∙ sym (place_from-behind 0 texts more text none))
      | false ↦ λ e. are text ∙ sym (not_behind texts more text e)
    ] refl
  where
    not_behind : (texts : List (List ℕ)) (more text : List ℕ) → bytes_eq more text ≡ false
        → place_of (texts ++ more ∷ []) text ≡ place_of texts text
    not_behind texts more text e = other 0 texts more text e
      where
        other : (n : ℕ) (texts : List (List ℕ)) (more text : List ℕ) → bytes_eq more text ≡ false
            → place_from n (texts ++ more ∷ []) text ≡ place_from n texts text
        other n [] more text e = rw e refl
        other n (t ∷ ts) more text e = ap (λ p. if bytes_eq t text then Some n else p) (other (n + 1) ts more text e)

pub ArePlaces-insert : (texts : List (List ℕ)) (more : List ℕ) (n : ℕ) (key : Vec ℕ) (before after : BTreeMap (Vec ℕ) ℕ)
    → ((text : List ℕ) → get_by (λ k. slice_cmp nat_cmp text k.items) before ≡ place_of texts text)
    → n ≡ length texts → key.items ≡ more → place_of texts more ≡ None
    → Updates (λ (x y : Vec ℕ). slice_cmp nat_cmp x.items y.items) before after key (Some n)
    → (text : List ℕ) → get_by (λ k. slice_cmp nat_cmp text k.items) after ≡ place_of (texts ++ more ∷ []) text
ArePlaces-insert texts more n key before after are size keyed new updates text =
    ArePlaces-push texts key.items n before after are size (ap (place_of texts) keyed ∙ new) updates text
    ∙ ap (λ t. place_of (texts ++ t ∷ []) text) keyed
