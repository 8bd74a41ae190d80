-- Words that hold values pass their checks, and their values are alike.
use Rattle.std.proofs.Common.{◌≡◌, ℕ, suc, ◌+◌, ◌*◌, ◌/◌, ◌%◌, ◌<◌, ◌≤◌, ◌==◌, true, false, List, [], ◌∷◌, None, refl, subst}
use Rattle.std.proofs.Common.{sym, arith, length, map, slice_index_or}
use Rattle.std.specs.List.{range_with_len}
use Rattle.std.proofs.lemmas.Bool.{le-leb, lt-ltb, ne_eqb}
use Rattle.ap_base.specs.declared.kind.Kind.{Kind}
use Rattle.ap_base.specs.declared.kind.Kind.TheVariants.{Z, B, C, S, I, J, L, Text}
use Rattle.graph_model.specs.declared.types.Value.{Value}
use Rattle.graph_model.specs.declared.types.Value.TheVariants.{Int, Long, Null, Obj as Object}
use Rattle.graph_model.specs.Canon.{renumbered}
use Rattle.image_layout.specs.declared.superblock.BadReason.TheVariants as bad
use Rattle.image_layout.specs.Places.{first_object_line}
use Rattle.image_meaning.specs.Objects.{is_reference, is_number, value_of, word_fault}
use Rattle.image_meaning.specs.Corresponds.{LiesAt, HoldsReference, Holds}
use Rattle.image_meaning.proofs.Faults.{passes_if}
use Rattle.image_meaning.proofs.Pairs.{Pairs, Alike, nothing, same_int, same_long, both_null, one_object, alike-renumbered}

half : (a : ℕ) → (2 * a) / 2 ≡ a
half a = omega arith

even : (a : ℕ) → (2 * a) % 2 ≡ 0
even a = omega arith

not_zero : (a : ℕ) → first_object_line ≤ a → (2 * a == 0) ≡ false
not_zero a h = ne_eqb (2 * a) 0 (λ e. omega (arith, h, e))

module _ (R : LiesAt) (size : ℕ) (in_image : (a n : ℕ) → R a n → (first_object_line ≤ a) × (a < size)) where
  pub reference_passes : (w : ℕ) (x : Value) → HoldsReference R w x → is_reference size w ≡ true
  reference_passes w Null hold = rw hold refl
  reference_passes w (Object n) hold =
      let o = in_image hold.0 n hold.2 in
      rw (hold.1, not_zero hold.0 o.0, even hold.0, half hold.0, le-leb first_object_line hold.0 o.0, lt-ltb hold.0 size o.1) refl
  reference_passes w (Int i) hold = absurd hold
  reference_passes w (Long i) hold = absurd hold

  pub word_passes : (kind : Kind) (line w : ℕ) (x : Value) → Holds R kind w x → word_fault size kind line w ≡ None
  word_passes Z line w x hold = passes_if (line, bad.Value) (is_number Z w) hold.0
  word_passes B line w x hold = passes_if (line, bad.Value) (is_number B w) hold.0
  word_passes C line w x hold = passes_if (line, bad.Value) (is_number C w) hold.0
  word_passes S line w x hold = passes_if (line, bad.Value) (is_number S w) hold.0
  word_passes I line w x hold = passes_if (line, bad.Value) (is_number I w) hold.0
  word_passes J line w x hold = passes_if (line, bad.Value) (is_number J w) hold.0
  word_passes Text line w x hold = passes_if (line, bad.Value) (is_number Text w) hold.0
  word_passes L line w x hold = passes_if (line, bad.Reference) (is_reference size w) (reference_passes w x hold)

  reference_alike : (w : ℕ) (x : Value) {vs ws : List Value} → HoldsReference R w x → Alike R vs ws
      → Alike R (value_of L w ∷ vs) (x ∷ ws)
  reference_alike w Null hold like = rw hold (both_null like)
  reference_alike w (Object n) hold like =
      let o = in_image hold.0 n hold.2 in
      rw (hold.1, not_zero hold.0 o.0, half hold.0) (one_object hold.2 like)
  reference_alike w (Int i) hold like = absurd hold
  reference_alike w (Long i) hold like = absurd hold

  -- the values of words are those that they hold
  pub word_alike : (kind : Kind) (w : ℕ) (x : Value) {vs ws : List Value} → Holds R kind w x → Alike R vs ws
      → Alike R (value_of kind w ∷ vs) (x ∷ ws)
  word_alike Z w x {vs = vs} {ws = ws} hold like = subst (λ v. Alike R (value_of Z w ∷ vs) (v ∷ ws)) (sym hold.1) (same_int like)
  word_alike B w x {vs = vs} {ws = ws} hold like = subst (λ v. Alike R (value_of B w ∷ vs) (v ∷ ws)) (sym hold.1) (same_int like)
  word_alike C w x {vs = vs} {ws = ws} hold like = subst (λ v. Alike R (value_of C w ∷ vs) (v ∷ ws)) (sym hold.1) (same_int like)
  word_alike S w x {vs = vs} {ws = ws} hold like = subst (λ v. Alike R (value_of S w ∷ vs) (v ∷ ws)) (sym hold.1) (same_int like)
  word_alike I w x {vs = vs} {ws = ws} hold like = subst (λ v. Alike R (value_of I w ∷ vs) (v ∷ ws)) (sym hold.1) (same_int like)
  word_alike J w x {vs = vs} {ws = ws} hold like = subst (λ v. Alike R (value_of J w ∷ vs) (v ∷ ws)) (sym hold.1) (same_long like)
  word_alike Text w x {vs = vs} {ws = ws} hold like = subst (λ v. Alike R (value_of Text w ∷ vs) (v ∷ ws)) (sym hold.1) (same_int like)
  word_alike L w x hold like = reference_alike w x hold like

  pub words_alike : (kind : ℕ → Kind) (word : ℕ → ℕ) (i : ℕ) (xs : List Value)
      → ((j : ℕ) → j < length xs → Holds R (kind (i + j)) (word (i + j)) (slice_index_or xs j Null))
      → Alike R (map (λ j. value_of (kind j) (word j)) (range_with_len i (length xs))) xs
  words_alike kind word i [] hold = nothing
  words_alike kind word i (x ∷ xs) hold =
      let z : i + 0 ≡ i = omega arith in
      let first : Holds R (kind i) (word i) x = rw z at (hold 0 (omega arith)) in
      word_alike (kind i) (word i) x first (words_alike kind word (i + 1) xs
      (λ j h. let e : i + suc j ≡ (i + 1) + j = omega arith in rw e at (hold (suc j) (omega (arith, h)))))

  pub reference_renumbered : (left : (a m n : ℕ) → R a m → R a n → m ≡ n) (right : (a b n : ℕ) → R a n → R b n → a ≡ b)
      (w : ℕ) (x : Value) {lines numbers : List ℕ} → HoldsReference R w x → Pairs R lines numbers
      → renumbered lines (value_of L w) ≡ renumbered numbers x
  reference_renumbered left right w x {lines = lines} {numbers = numbers} hold p =
      let e = alike-renumbered R left right (reference_alike w x hold nothing) p in
      one_of (renumbered lines (value_of L w)) (renumbered numbers x) e
    where
      one_of : (v y : Value) → v ∷ [] ≡ y ∷ [] → v ≡ y
      one_of v y e = cc
