-- Words of numbers stay those of numbers of their slots' kinds.
use Rattle.std.proofs.Common.{◌≡◌, inl, inr, ℕ, ◌<◌, ◌≤◌, Bool, true, false, List, [], ◌∷◌, ◌++◌, length, Some, refl, sym, ◌∙◌}
use Rattle.std.proofs.Common.{ap, subst, arith}
use Rattle.std.proofs.lemmas.Bool.{cases_lt}
use Rattle.std.proofs.lemmas.List.{get_or_append_left, get_or_push, length_push}
use Rattle.ap_base.specs.declared.kind.Kind.{Kind}
use Rattle.ap_base.specs.declared.kind.Kind.TheVariants.{Z, B, C, S, I, J, L, Text}
use Rattle.image_meaning.specs.Objects.{is_number}
use Rattle.twin_forms.specs.Moves.{Added, Stored, fresh}
use Rattle.twin_forms.specs.Sights.{view_of}
use Rattle.twin_forms.specs.Table.{Entry, View, entry, is_reference, kind_at, no_entry, refers, shows, value_of, word_of}
use Rattle.twin_forms.specs.Table.{Value as Seen, Plain, Null as SeenNull, Obj as SeenObject}
use Rattle.twin_forms.proofs.Elsewhere.{value_plain}
use Rattle.twin_forms.proofs.Led.{same_or_not}
use Rattle.two_spaces.specs.Seen.{Spaces}
use Rattle.two_spaces.proofs.Keeping.{kinds_same}
use Rattle.first_spaces.specs.Beginnings.{HasNumbers}
use Rattle.first_spaces.specs.Growing.{HaveNumbers}

-- ---- words that show the same number

plain_or : ℕ → Seen → ℕ
plain_or d (Plain w) = w
plain_or d SeenNull = d
plain_or d (SeenObject n) = d

plain_same : (v w : ℕ) → Plain v ≡ Plain w → v ≡ w
unfolding plain_or
plain_same v w e = ap (plain_or 0) e

same_word : (v v' : View) (b b' : Bool) (w w' : ℕ) → b ≡ false → b' ≡ false
    → value_of v' b' w' ≡ value_of v b w → w' ≡ w
same_word v v' b b' w w' plain plain' same =
    plain_same w' w (sym (value_plain v' b' w' plain') ∙ same ∙ value_plain v b w plain)

zero_is_number : (kind : Kind) → is_reference (Some kind) ≡ false → is_number kind 0 ≡ true
zero_is_number Z plain = refl
zero_is_number B plain = refl
zero_is_number C plain = refl
zero_is_number S plain = refl
zero_is_number I plain = refl
zero_is_number J plain = refl
zero_is_number L plain = absurd (let no = plain in cc)
zero_is_number Text plain = refl

-- ---- a new object

module _ (from : ℕ) (before now : Spaces) (es : List Entry) (shape slots : ℕ)
    (kinds : now.twin.marks.kinds ≡ before.twin.marks.kinds)
    (added : Added shape slots (view_of before.twin) es (view_of now.twin))
    (hold : HaveNumbers from before es) where
  abbrev v : View
  v = view_of before.twin

  abbrev v' : View
  v' = view_of now.twin

  abbrev new : Entry
  new = fresh shape slots (length before.twin.space.words)

  old_numbers : (n : ℕ) → from ≤ n → n < length es → HasNumbers now (entry es n)
  old_numbers n le ln k kind lk is plain =
      let was : kind_at v (entry es n) k ≡ Some kind =
      ap (λ ks. ks (entry es n).shape k) (sym (kinds_same before.twin now.twin kinds)) ∙ is in
      let at = get_or_append_left es (new ∷ []) no_entry n ln in
      let shown : value_of v' (refers v' (entry es n) k) (word_of v' (entry es n) k) ≡ shows v es n k =
      ap (λ (e : Entry). value_of v' (refers v' e k) (word_of v' e k)) (sym at) ∙ added.same n k ln lk in
      let word = same_word v v' (refers v (entry es n) k) (refers v' (entry es n) k)
      (word_of v (entry es n) k) (word_of v' (entry es n) k) (ap is_reference was ∙ plain)
      (ap is_reference is ∙ plain) shown in
      subst (λ w. is_number kind w ≡ true) (sym word) (hold n le ln k kind lk was plain)

  new_numbers : HasNumbers now new
  new_numbers k kind lk is plain =
      subst (λ w. is_number kind w ≡ true) (sym (added.zeros k lk)) (zero_is_number kind plain)

  pub numbers_added : HaveNumbers from now (es ++ new ∷ [])
  numbers_added n le ln =
      let long = length_push es new in
      elim (cases_lt n (length es)) [
        | inl below ↦ subst (HasNumbers now) (sym (get_or_append_left es (new ∷ []) no_entry n below))
            (old_numbers n le below)
        | inr past ↦ subst (HasNumbers now)
            (sym (get_or_push es new no_entry n (omega (arith, ln, past, long)))) new_numbers
      ]

-- ---- a store to a slot

module _ (before now : Spaces) (es : List Entry) (n i w : ℕ)
    (kinds : now.twin.marks.kinds ≡ before.twin.marks.kinds)
    (stored : Stored (view_of before.twin) (view_of now.twin) es n i w)
    (fits : (kind : Kind) → kind_at (view_of before.twin) (entry es n) i ≡ Some kind → is_number kind w ≡ true)
    (from : ℕ) (hold : HaveNumbers from before es) where
  at_slot : (m k : ℕ) (kind : Kind) → m ≡ n → k ≡ i
      → kind_at (view_of before.twin) (entry es m) k ≡ Some kind
      → is_number kind (word_of (view_of now.twin) (entry es m) k) ≡ true
  at_slot m k kind em ek is =
      let word : word_of (view_of now.twin) (entry es m) k ≡ w =
      ap (λ x. word_of (view_of now.twin) (entry es x) k) em
      ∙ ap (λ x. word_of (view_of now.twin) (entry es n) x) ek ∙ stored.here in
      let its : kind_at (view_of before.twin) (entry es n) i ≡ Some kind =
      ap (λ x. kind_at (view_of before.twin) (entry es n) x) (sym ek)
      ∙ ap (λ x. kind_at (view_of before.twin) (entry es x) k) (sym em) ∙ is in
      subst (λ x. is_number kind x ≡ true) (sym word) (fits kind its)

  pub numbers_stored : HaveNumbers from now es
  numbers_stored m le lm k kind lk is plain =
      let was : kind_at (view_of before.twin) (entry es m) k ≡ Some kind =
      ap (λ ks. ks (entry es m).shape k) (sym (kinds_same before.twin now.twin kinds)) ∙ is in
      let old = hold m le lm k kind lk was plain in
      elim (same_or_not m n) [
        | inr ne ↦ subst (λ x. is_number kind x ≡ true) (sym (stored.same m k lm lk (inl ne))) old
        | inl em ↦ (elim (same_or_not k i) [
          | inl ek ↦ at_slot m k kind em ek was
          | inr ne ↦ subst (λ x. is_number kind x ≡ true) (sym (stored.same m k lm lk (inr ne))) old
        ])
      ]
