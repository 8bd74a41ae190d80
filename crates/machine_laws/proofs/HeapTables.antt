-- What the steps of conversions leave of the table: first lines of copies, and which copies are current.
use Rattle.std.proofs.Common.{◌≡◌, ◌≢◌, inl, inr, ℕ, ◌<◌, ◌≤◌, List, length, refl, sym, ◌∙◌, ap, subst, arith}
use Rattle.std.specs.Prelude.{slice_set}
use Rattle.std.proofs.lemmas.List.{ext_get_or, length-set}
use Rattle.ap_base.specs.References.{reference_word}
use Rattle.image_layout.specs.Places.{first_object_line}
use Rattle.twin_forms.specs.Table.{Entry, entry, no_entry, View, Lies}
use Rattle.twin_forms.specs.Moves.{forwarded, one_more}
use Rattle.twin_forms.specs.Sights.{view_of}
use Rattle.twin_forms.proofs.Led.{same_or_not, below_or_not}
use Rattle.twin_forms.proofs.Elsewhere.{entry_here, entry_other}
use Rattle.twin_forms.proofs.Tables.{alike}
use Rattle.twin_heap.proofs.Reading.{when_old}
use Rattle.two_spaces.specs.Seen.{current_word}
use Rattle.two_spaces.specs.Moving.{SameCurrent}
use Rattle.two_spaces.proofs.Numbering.{word_now}
use Rattle.convert_words.specs.declared.step.ConvertStep.{ConvertStep}
use Rattle.convert_words.specs.declared.step.ConvertStep.TheVariants as step
use Rattle.convert_words.specs.Converting.{Says}
use Rattle.convert_words.specs.Scenes.{Scene}
use Rattle.convert_words.specs.Sealing.{AreSealed}
use Rattle.convert_words.specs.Steps.{OneBecomes, claimed_at}

-- each copy begins in the lines for objects
abbrev pub AreLow : List Entry → Type 0
AreLow es = (n : ℕ) → n < length es → 0 < (entry es n).stage → first_object_line ≤ (entry es n).line

-- ---- one object lies otherwise

module _ (es es' : List Entry) (n : ℕ) (e' : Entry) (one : OneBecomes n e' es es') where
  low_there : (m : ℕ) → m ≡ n → (0 < e'.stage → first_object_line ≤ e'.line) → 0 < (entry es' m).stage
      → first_object_line ≤ (entry es' m).line
  low_there m same here =
      subst (λ (e : Entry). 0 < e.stage → first_object_line ≤ e.line)
      (sym (ap (λ k. entry es' k) same ∙ one.here)) here

  low_elsewhere : (m : ℕ) → m ≢ n → m < length es' → AreLow es → 0 < (entry es' m).stage
      → first_object_line ≤ (entry es' m).line
  low_elsewhere m ne lm low =
      let long = one.long in
      subst (λ (e : Entry). 0 < e.stage → first_object_line ≤ e.line) (sym (one.others m ne))
      (low m (omega (arith, lm, long)))

  pub low_becomes : AreLow es → (0 < e'.stage → first_object_line ≤ e'.line) → AreLow es'
  low_becomes low here m lm = elim (same_or_not m n) [
    | inl same ↦ low_there m same here
    | inr ne ↦ low_elsewhere m ne lm low
  ]

  pub current_becomes : current_word e' ≡ current_word (entry es n) → SameCurrent es es'
  current_becomes is m lm = elim (same_or_not m n) [
    | inl same ↦ ap (λ k. current_word (entry es' k)) same ∙ ap current_word one.here ∙ is
        ∙ sym (ap (λ k. current_word (entry es k)) same)
    | inr ne ↦ ap current_word (one.others m ne)
  ]

  -- the table is the one with another entry there
  pub is_set : n < length es → es' ≡ slice_set es n e'
  is_set ln =
      ext_get_or no_entry es' (slice_set es n e') (one.long ∙ sym (length-set es n e')) (λ m lm.
      elim (same_or_not m n) [
        | inl same ↦ ap (λ k. entry es' k) same ∙ one.here ∙ sym (entry_here es n e' ln)
            ∙ sym (ap (λ k. entry (slice_set es n e') k) same)
        | inr ne ↦ one.others m ne ∙ sym (entry_other es n m e' ne)
      ])

-- a claim, of an object that nobody has claimed
pub claimed_word : (t line : ℕ) (e : Entry) → e.stage ≡ 0
    → current_word (claimed_at t line e) ≡ current_word e
claimed_word t line e young = sym (ap reference_word (when_old e (omega (arith, young))))

-- ---- objects are sealed

module _ (Those : ℕ → Type 0) (es es' : List Entry) (s : AreSealed Those es es') where
  pub low_sealed : AreLow es → AreLow es'
  low_sealed low n ln placed =
      let long = s.long in
      let ln0 : n < length es = omega (arith, ln, long) in
      let other : (entry es' n ≡ entry es n) → first_object_line ≤ (entry es' n).line =
      λ same. subst (λ (e : Entry). 0 < e.stage → first_object_line ≤ e.line) (sym same) (low n ln0) placed in
      let own : Those n → first_object_line ≤ (entry es' n).line =
      λ it. subst (λ (e : Entry). 0 < e.stage → first_object_line ≤ e.line) (sym (s.here n ln0 it))
      (low n ln0)
      placed in
      elim (below_or_not (entry es' n).line first_object_line) [
        | inr le ↦ le
        | inl lt ↦ other (s.others n ln0 (λ it. let le = own it in absurd (omega (arith, lt, le))))
      ]

  pub current_sealed : SameCurrent es es'
  current_sealed n ln0 = elim (same_or_not (current_word (entry es' n)) (current_word (entry es n))) [
    | inl same ↦ same
    | inr ne ↦ ap current_word (s.others n ln0 (λ it. ne (ap current_word (s.here n ln0 it))))
  ]

-- ---- two tables of one heap

module _ (v : View) (es es' : List Entry) (h : Lies v es) (h' : Lies v es') where
  pub low_alike : AreLow es → AreLow es'
  low_alike low n ln placed =
      let long = h.long in
      let long' = h'.long in
      let ln0 : n < length es = omega (arith, ln, long, long') in
      let a = alike v es es' n h h' ln0 in
      let stage = a.stage in
      let was : 0 < (entry es n).stage = omega (arith, placed, stage) in
      subst (λ l. first_object_line ≤ l) (sym (a.line was)) (low n ln0 was)

  pub current_alike : SameCurrent es es'
  current_alike n ln0 =
      let long = h.long in
      let long' = h'.long in
      sym (word_now v es' n h' (omega (arith, ln0, long, long'))) ∙ word_now v es n h ln0

-- ---- steps

-- from one scene to the next
module _ (t : ℕ) (s s' : Scene) (es es' : List Entry) (h : Lies (view_of s.heap) es)
    (h' : Lies (view_of s'.heap) es') where
  same_table_low : es' ≡ es → AreLow es → AreLow es'
  same_table_low same low = subst AreLow (sym same) low

  same_table_current : es' ≡ es → SameCurrent es es'
  same_table_current same n ln = ap (λ (table : List Entry). current_word (entry table n)) same

  still : s' ≡ s → Lies (view_of s.heap) es'
  still same = subst (λ (x : Scene). Lies (view_of x.heap) es') same h'

  pub step_low : (answer : ConvertStep) → Says answer t s s' es es' → first_object_line ≤ s.free → AreLow es
      → AreLow es'
  step_low (step.Sealed set) says free low = low_sealed _ es es' says.sealed low
  step_low (step.Wait u) says free low = low_alike (view_of s.heap) es es' h (still says.1) low
  step_low (step.Full need left) says free low = low_alike (view_of s.heap) es es' h (still says.1) low
  step_low step.Claimed says free low =
      low_becomes es es' says.0.m (claimed_at t s.free (entry es says.0.m)) says.0.becomes low (λ _. free)
  step_low step.Touched says free low = same_table_low says.0.table low
  step_low step.WroteBack says free low = same_table_low says.0.table low
  step_low step.Fenced says free low = same_table_low says.0.table low
  step_low step.CopiedLine says free low =
      low_becomes es es' says.0.n (one_more (entry es says.0.n)) says.0.becomes low
      (low says.0.n says.0.is.claimed.0)
  step_low step.Forwarded says free low =
      low_becomes es es' says.0.n (forwarded (entry es says.0.n)) says.0.becomes low
      (λ _. low says.0.n says.0.is.claimed.0 says.0.is.placed)
  step_low step.Repaired says free low = same_table_low says.0.table low

  -- the first line that is left
  pub step_free : (answer : ConvertStep) → Says answer t s s' es es' → first_object_line ≤ s.free
      → first_object_line ≤ s'.free
  step_free (step.Sealed set) says free = subst (λ f. first_object_line ≤ f) (sym says.free) free
  step_free (step.Wait u) says free = subst (λ (x : Scene). first_object_line ≤ x.free) (sym says.1) free
  step_free (step.Full need left) says free = subst (λ (x : Scene). first_object_line ≤ x.free)
      (sym says.1) free
  step_free step.Claimed says free = let is = says.0.free in omega (arith, is, free)
  step_free step.Touched says free = subst (λ f. first_object_line ≤ f) (sym says.1.1) free
  step_free step.WroteBack says free = subst (λ f. first_object_line ≤ f) (sym says.1.1) free
  step_free step.Fenced says free = subst (λ f. first_object_line ≤ f) (sym says.1.1) free
  step_free step.CopiedLine says free = subst (λ f. first_object_line ≤ f) (sym says.1.1) free
  step_free step.Forwarded says free = subst (λ f. first_object_line ≤ f) (sym says.1.1) free
  step_free step.Repaired says free = subst (λ f. first_object_line ≤ f) (sym says.1.1) free

  -- Every step but a forward leaves which copies are current.
  pub step_current : (answer : ConvertStep) → (answer ≡ step.Forwarded → ⊥) → Says answer t s s' es es'
      → SameCurrent es es'
  step_current (step.Sealed set) other says = current_sealed _ es es' says.sealed
  step_current (step.Wait u) other says = current_alike (view_of s.heap) es es' h (still says.1)
  step_current (step.Full need left) other says = current_alike (view_of s.heap) es es' h (still says.1)
  step_current step.Claimed other says =
      current_becomes es es' says.0.m (claimed_at t s.free (entry es says.0.m)) says.0.becomes
      (claimed_word t s.free (entry es says.0.m) says.0.asked.ordinary)
  step_current step.Touched other says = same_table_current says.0.table
  step_current step.WroteBack other says = same_table_current says.0.table
  step_current step.Fenced other says = same_table_current says.0.table
  step_current step.CopiedLine other says =
      current_becomes es es' says.0.n (one_more (entry es says.0.n)) says.0.becomes refl
  step_current step.Forwarded other says = absurd (other refl)
  step_current step.Repaired other says = same_table_current says.0.table
