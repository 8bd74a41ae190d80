-- One more entry of a constant pool has its index.
use Rattle.std.proofs.Common.{◌≡◌, ℕ, ◌+◌, Bool, true, false, cond, ⊎_elim, subst, List, [], ◌∷◌, ◌++◌, Some, None, Vec, Global}
use Rattle.std.proofs.Common.{refl, sym, ap, ◌∙◌, add_assoc, add-zero}
use Rattle.std.specs.Prelude.{sum_by, Option}
use Rattle.std.specs.Str.{bytes_eq}
use Rattle.std.specs.HashMap.{Updates, get_by}
use Rattle.std.specs.Map.{lookup, KeepsOthers, IsKeyTest, AreApart}
use Rattle.std.specs.Cmp.Lexicographic.{pointwise}
use Rattle.std.specs.Bool.{nat_eq}
use Rattle.std.proofs.lemmas.Bool.{cases_Bool, cond-true, cond-false, false_from_ne_true}
use Rattle.std.proofs.lemmas.Cmp.{nat_list_eq_equiv}
use Rattle.std.proofs.lemmas.List.Sums.{sum_by-cons, sum_by_push}
use Rattle.std.proofs.lemmas.Slice.Eq.{bytes_eq-Decides}
use Rattle.listing.specs.Pool.{Entries, width, free_index, index_from}
use Rattle.listing.specs.Indices.{Map, AreIndices}

-- what isn't found at the front isn't found behind it
missed : (b : Bool) (index : ℕ) (behind : Option ℕ) → cond b (Some index) behind ≡ None → behind ≡ None
missed true index behind none = cc
missed false index behind none = none

found_first : (b : Bool) (index : ℕ) (behind : Option ℕ) → b ≡ true → cond b (Some index) behind ≡ None → ⊥
found_first true index behind is none = cc
found_first false index behind is none = cc

-- a text that is found where an entry isn't is another one
apart : (first entry text : List ℕ) (index : ℕ) (behind : Option ℕ)
    → bytes_eq first text ≡ true → cond (bytes_eq first entry) (Some index) behind ≡ None
    → bytes_eq entry text ≡ false
apart first entry text index behind found none = false_from_ne_true (bytes_eq entry text) (λ same.
    let one : first ≡ text = (bytes_eq-Decides first text).0 found in
    let other : entry ≡ text = (bytes_eq-Decides entry text).0 same in
    found_first (bytes_eq first entry) index behind ((bytes_eq-Decides first entry).1 (one ∙ sym other)) none)

-- the first of two tests decides
chosen : (found same : Bool) (here there before after : Option ℕ)
    → (found ≡ true → same ≡ false) → (found ≡ false → cond same there before ≡ after)
    → cond same there (cond found here before) ≡ cond found here after
chosen true true here there before after apart behind = let no : true ≡ false = apart refl in cc
chosen true false here there before after apart behind = refl
chosen false true here there before after apart behind = behind refl
chosen false false here there before after apart behind = behind refl

pub index-append : (index : ℕ) (entries : Entries) (entry text : List ℕ)
    → index_from index entries entry ≡ None
    → cond (bytes_eq entry text) (Some (index + sum_by width entries)) (index_from index entries text)
    ≡ index_from index (entries ++ entry ∷ []) text
unfolding index_from
index-append index [] entry text none = rw add-zero refl
index-append index (first ∷ rest) entry text none =
    let there = index + width first in
    let behind : index_from there rest entry ≡ None =
    missed (bytes_eq first entry) index (index_from there rest entry) none in
    let more = index-append there rest entry text behind in
    let place : there + sum_by width rest ≡ index + sum_by width (first ∷ rest) =
    add_assoc index (width first) (sum_by width rest)
    ∙ ap (λ n. index + n) (sym (sum_by-cons width first rest)) in
    chosen (bytes_eq first text) (bytes_eq entry text) (Some index)
    (Some (index + sum_by width (first ∷ rest)))
    (index_from there rest text) (index_from there (rest ++ entry ∷ []) text)
    (λ found. apart first entry text index (index_from there rest entry) found none)
    (λ other. subst (λ (n : ℕ). cond (bytes_eq entry text) (Some n) (index_from there rest text)
    ≡ index_from there (rest ++ entry ∷ []) text) place more)

other_entries : {K X : Type 0} (eq : K → K → Bool) (test : K → Bool) (old new : List (K × X))
    → KeepsOthers eq test old new
    → (other : K → Bool) → IsKeyTest eq other → AreApart test other → lookup other new ≡ lookup other old
unfolding KeepsOthers
other_entries eq test old new h = h

others_apart : (entry text found : List ℕ) → bytes_eq entry text ≡ false → bytes_eq entry found ≡ true
    → bytes_eq text found ≡ false
others_apart entry text found differs same =
    nat_list_eq_equiv.symm text found ∙ sym (nat_list_eq_equiv.congr entry found text same) ∙ differs

-- what a map has at a text once an entry has its index there
map_after : {S : Type 0} (key : Vec ℕ Global) (index : ℕ) (before after : Map S) (text : List ℕ)
    → Updates (λ x y. pointwise nat_eq x.items y.items) before after key (Some index)
    → get_by (λ k. bytes_eq text k.items) after ≡ cond (bytes_eq key.items text) (Some index)
    (get_by (λ k. bytes_eq text k.items) before)
map_after key index before after text updates =
    ⊎_elim
    (λ same. subst (λ l. get_by (λ k. bytes_eq l k.items) after ≡ Some index)
    ((bytes_eq-Decides key.items text).0 same) updates.1
    ∙ sym (cond-true (bytes_eq key.items text) (Some index)
    (get_by (λ k. bytes_eq text k.items) before) same))
    (λ differs. other_entries (λ (x : Vec ℕ Global) (y : Vec ℕ Global). pointwise nat_eq x.items y.items) _ _
    _ updates.3 (λ k. bytes_eq text k.items)
    (λ x y. nat_list_eq_equiv.congr text x.items y.items) (λ k. others_apart key.items text k.items differs)
    ∙ sym (cond-false (bytes_eq key.items text) (Some index)
    (get_by (λ k. bytes_eq text k.items) before) differs))
    (cases_Bool (bytes_eq key.items text))

pub new_index : {S : Type 0} (entries items : Entries) (key : Vec ℕ Global) (index : ℕ) (before after : Map S)
    → index ≡ free_index entries → items ≡ entries ++ key.items ∷ [] → index_from 1 entries key.items ≡ None
    → Updates (λ x y. pointwise nat_eq x.items y.items) before after key (Some index)
    → AreIndices entries before → AreIndices items after
new_index entries items key index before after free put none updates are = λ text.
    rw (map_after key index before after text updates, are text, free, put)
    (index-append 1 entries key.items text none)

pub free-append : (entries : Entries) (entry : List ℕ)
    → free_index (entries ++ entry ∷ []) ≡ free_index entries + width entry
free-append entries entry = ap (λ n. 1 + n) (sum_by_push width entries entry)
    ∙ sym (add_assoc 1 (sum_by width entries) (width entry))

pub no_indices : {S : Type 0} (indices : Map S) → indices.entries ≡ [] → AreIndices [] indices
unfolding index_from
no_indices indices empty = λ text. rw empty refl
