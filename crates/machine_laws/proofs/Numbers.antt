-- Words of numbers stay those of numbers of their slots' kinds.
use Rattle.std.proofs.Common.{◌≡◌, inl, inr, ℕ, ◌<◌, true, false, List, [], ◌∷◌, ◌++◌, length, Option, Some, refl, sym, ◌∙◌, ap}
use Rattle.std.proofs.Common.{subst, arith}
use Rattle.std.proofs.lemmas.List.{get_or_append_left, get_or_push, length_push}
use Rattle.ap_base.specs.declared.kind.Kind.{Kind}
use Rattle.ap_base.specs.declared.kind.Kind.TheVariants.{Z, B, C, S, I, J, L, Text}
use Rattle.image_meaning.specs.Objects.{is_number}
use Rattle.twin_forms.specs.Table.{Entry, entry, no_entry, View, word_of, kind_at, is_reference, refers, shows, value_of}
use Rattle.twin_forms.specs.Table.{Value as Seen, Plain, Null as SeenNull, Obj as SeenObject}
use Rattle.twin_forms.specs.Moves.{SameHeap, Added, fresh, Stored}
use Rattle.twin_forms.proofs.Led.{same_or_not}
use Rattle.twin_forms.proofs.Elsewhere.{value_plain}

-- as the words of a view say it
abbrev pub HoldNumbers : View → List Entry → Type 0
HoldNumbers v es = (n k : ℕ) (kind : Kind) → n < length es → k < (entry es n).slots
    → kind_at v (entry es n) k ≡ Some kind → is_reference (Some kind) ≡ false
    → is_number kind (word_of v (entry es n) k) ≡ true

plain_or : ℕ → Seen → ℕ
plain_or d (Plain w) = w
plain_or d SeenNull = d
plain_or d (SeenObject n) = d

plain_same : (v w : ℕ) → Plain v ≡ Plain w → v ≡ w
unfolding plain_or
plain_same v w e = ap (plain_or 0) e

-- what shows the same number is the same word
same_word : (v v' : View) (r r' : Option Kind) (w w' : ℕ) → is_reference r ≡ false → is_reference r' ≡ false
    → value_of v' (is_reference r') w' ≡ value_of v (is_reference r) w → w' ≡ w
same_word v v' r r' w w' plain plain' same =
    plain_same w' w (sym (value_plain v' (is_reference r') w' plain') ∙ same
    ∙ value_plain v (is_reference r) w plain)

-- ---- moves

module _ (v v' : View) (es es' : List Entry) (kinds : v'.kinds ≡ v.kinds) (same : SameHeap v es v' es')
    (hold : HoldNumbers v es) where
  pub numbers_moved : HoldNumbers v' es'
  numbers_moved n k kind ln lk is plain =
      let long = same.long in
      let ln0 : n < length es = omega (arith, ln, long) in
      let slots = same.slots n ln0 in
      let lk0 : k < (entry es n).slots = omega (arith, lk, slots) in
      let kind_was : kind_at v (entry es n) k ≡ Some kind =
      ap (λ s. v.kinds s k) (sym (same.shapes n ln0)) ∙ ap (λ ks. ks (entry es' n).shape k) (sym kinds)
      ∙ is in
      let plain_now = ap is_reference is ∙ plain in
      let plain_was = ap is_reference kind_was ∙ plain in
      let word = same_word v v' (kind_at v (entry es n) k) (kind_at v' (entry es' n) k)
      (word_of v (entry es n) k) (word_of v' (entry es' n) k) plain_was plain_now (same.same n k ln0 lk0) in
      subst (λ w. is_number kind w ≡ true) (sym word) (hold n k kind ln0 lk0 kind_was plain)

-- ---- new objects

zero_is_number : (kind : Kind) → is_reference (Some kind) ≡ false → is_number kind 0 ≡ true
zero_is_number Z plain = refl
zero_is_number B plain = refl
zero_is_number C plain = refl
zero_is_number S plain = refl
zero_is_number I plain = refl
zero_is_number J plain = refl
zero_is_number L plain = absurd (let no = plain in cc)
zero_is_number Text plain = refl

-- what an entry of the longer table is
pub entry_before : (es : List Entry) (e : Entry) (n : ℕ) → n < length es
    → entry (es ++ e ∷ []) n ≡ entry es n
entry_before es e n ln = get_or_append_left es (e ∷ []) no_entry n ln

pub entry_new : (es : List Entry) (e : Entry) (n : ℕ) → length es ≡ n → entry (es ++ e ∷ []) n ≡ e
entry_new es e n is = get_or_push es e no_entry n is

-- each object is an old one or the new one
pub by_entry : (P : ℕ → Entry → Type 0) (es : List Entry) (e : Entry)
    → ((n : ℕ) → n < length es → P n (entry es n)) → P (length es) e
    → (n : ℕ) → n < length (es ++ e ∷ []) → P n (entry (es ++ e ∷ []) n)
by_entry P es e old new n ln =
    let long = length_push es e in
    elim (same_or_not n (length es)) [
      | inl same ↦ subst (λ k. P k (entry (es ++ e ∷ []) k)) (sym same)
          (subst (P (length es)) (sym (entry_new es e (length es) refl)) new)
      | inr ne ↦
          (let before : n < length es = omega (arith, ln, long, ne) in
          subst (P n) (sym (entry_before es e n before)) (old n before))
    ]

module _ (v v' : View) (es : List Entry) (shape slots : ℕ) (kinds : v'.kinds ≡ v.kinds)
    (added : Added shape slots v es v') (hold : HoldNumbers v es) where
  abbrev Holds : ℕ → Entry → Type 0
  Holds n e = (k : ℕ) (kind : Kind) → k < e.slots → kind_at v' e k ≡ Some kind
      → is_reference (Some kind) ≡ false → is_number kind (word_of v' e k) ≡ true

  old_holds : (n : ℕ) → n < length es → Holds n (entry es n)
  old_holds n ln k kind lk is plain =
      let kind_was : kind_at v (entry es n) k ≡ Some kind =
      ap (λ ks. ks (entry es n).shape k) (sym kinds) ∙ is in
      let plain_now = ap is_reference is ∙ plain in
      let plain_was = ap is_reference kind_was ∙ plain in
      let at = entry_before es (fresh shape slots v.words) n ln in
      let shown : value_of v' (refers v' (entry es n) k) (word_of v' (entry es n) k) ≡ shows v es n k =
      ap (λ (e : Entry). value_of v' (refers v' e k) (word_of v' e k)) (sym at) ∙ added.same n k ln lk in
      let word = same_word v v' (kind_at v (entry es n) k) (kind_at v' (entry es n) k)
      (word_of v (entry es n) k) (word_of v' (entry es n) k) plain_was plain_now shown in
      subst (λ w. is_number kind w ≡ true) (sym word) (hold n k kind ln lk kind_was plain)

  new_holds : Holds (length es) (fresh shape slots v.words)
  new_holds k kind lk is plain =
      subst (λ w. is_number kind w ≡ true) (sym (added.zeros k lk)) (zero_is_number kind plain)

  pub numbers_added : HoldNumbers v' (es ++ fresh shape slots v.words ∷ [])
  numbers_added n k kind ln lk is plain =
      by_entry Holds es (fresh shape slots v.words) old_holds new_holds n ln k kind lk is plain

-- ---- a store to a slot

module _ (v v' : View) (es : List Entry) (n i w : ℕ) (kinds : v'.kinds ≡ v.kinds)
    (stored : Stored v v' es n i w)
    (hold : HoldNumbers v es)
    (fits : (kind : Kind) → kind_at v (entry es n) i ≡ Some kind → is_reference (Some kind) ≡ false
    → is_number kind w ≡ true) where
  at_slot : (m k : ℕ) (kind : Kind) → m ≡ n → k ≡ i → kind_at v (entry es m) k ≡ Some kind
      → is_reference (Some kind) ≡ false → is_number kind (word_of v' (entry es m) k) ≡ true
  at_slot m k kind em ek is plain =
      let word : word_of v' (entry es m) k ≡ w =
      ap (λ x. word_of v' (entry es x) k) em ∙ ap (λ x. word_of v' (entry es n) x) ek ∙ stored.here in
      let its : kind_at v (entry es n) i ≡ Some kind =
      ap (λ x. kind_at v (entry es n) x) (sym ek) ∙ ap (λ x. kind_at v (entry es x) k) (sym em) ∙ is in
      subst (λ x. is_number kind x ≡ true) (sym word) (fits kind its plain)

  pub numbers_stored : HoldNumbers v' es
  numbers_stored m k kind lm lk is plain =
      let was : kind_at v (entry es m) k ≡ Some kind = ap (λ ks. ks (entry es m).shape k) (sym kinds) ∙ is in
      elim (same_or_not m n) [
        | inr ne ↦ subst (λ x. is_number kind x ≡ true) (sym (stored.same m k lm lk (inl ne)))
            (hold m k kind lm lk was plain)
        | inl em ↦ (elim (same_or_not k i) [
          | inl ek ↦ at_slot m k kind em ek was plain
          | inr ne ↦ subst (λ x. is_number kind x ≡ true) (sym (stored.same m k lm lk (inr ne)))
              (hold m k kind lm lk was plain)
        ])
      ]
