-- What a stop leaves of halves within a call.
use Rattle.std.proofs.Common.{◌≡◌, inl, inr, ◌⊎◌, ◌<◌, ◌≤◌, ℕ, zero, suc, List, [], ◌∷◌, Bool, true, false, nat_eq, nat_le, Option, Some, None, refl, ap, sym, subst, arith, length, get_or, slice_index, if◌then◌else◌, ◌==◌, ◌||◌}
use Rattle.std.proofs.lemmas.Bool.Decides.{nat_tests}
use Rattle.line_image.specs.Trace.{Trace, did, newest, versions, versions_after, OneHas, MayLeave, LeavesNow, Outcome, read_word}
use Rattle.line_image.specs.declared.effect.Done.{Done}
use Rattle.line_image.specs.declared.effect.Done.TheVariants.{Wrote, Fenced}
use Rattle.mirror_image.specs.Joint.{is_label}
use Rattle.mirror_image.specs.Sound.{label_words, Tells, one_has, done_in}
use Rattle.mirror_image.specs.Leaving.{BothTell}
use Rattle.mirror_image.specs.Safe.{HasLabel, Includes}
use Rattle.mirror_image.specs.Stops.{Made, without, generation_left, IsAlone, PairingShows}
use Rattle.mirror_image.proofs.Within.{newest_has, or_mono, has_one, one_has_is, from_some}

some_is : {h k : Trace} → Some h ≡ Some k → h ≡ k
some_is {h} e = ap (the h) e
  where
    the : Trace → Option Trace → Trace
    the d None = d
    the d (Some h) = h

-- What a stop leaves while p is made of o, t may leave.
pub record StagesIn (z : ℕ) (o p t : Option Trace) : Type 0 where
  pub grown : length (done_in o) ≤ length (done_in p)
  pub each : (i : ℕ) → Made i o p → Includes z (without i p) t

-- what this does to a half keeps it within t
abbrev pub Keeps : ℕ → Done → Option Trace → Type 0
Keeps z d t = (q : Option Trace) (at : ℕ) → Includes z q t → Includes z (did d at q) t

pub includes_by : (z : ℕ) (o t : Option Trace) → ((h k : Trace) → o ≡ Some h → t ≡ Some k → (l w v : ℕ) → l < z → one_has (versions h l) w v ≡ true → one_has (versions k l) w v ≡ true) → Includes z o t
includes_by z o t by = by

pub keeps_fence : (z : ℕ) (t : Option Trace) → Keeps z Fenced t
keeps_fence z t None at incl h k is_h is_k l w v lt has = cc
keeps_fence z t (Some q) at incl h k is_h is_k l w v lt has =
    incl q k refl is_k l w v lt
    (newest_has (versions q l) w v (from_some (get_or q.first l []) q.done l)
    (subst (λ (x : Trace). one_has (versions x l) w v ≡ true) (sym (some_is is_h)) has))

pub keeps_label : (z : ℕ) (words : List ℕ) (t : Option Trace) → Keeps z (Wrote z words) t
keeps_label z words t None at incl h k is_h is_k l w v lt has = cc
keeps_label z words t (Some q) at incl h k is_h is_k l w v lt has =
    incl q k refl is_k l w v lt (apart (subst (λ (x : Trace). one_has (versions x l) w v ≡ true) (sym (some_is is_h)) has))
  where
    apart : one_has (versions_after (Wrote z words) l (versions q l)) w v ≡ true → one_has (versions q l) w v ≡ true
    apart has = let test : nat_eq z l ≡ false = grind (arith, nat_tests) in subst (λ (b : Bool). one_has (if b then words ∷ versions q l else versions q l) w v ≡ true) test has

or_left : (x y : Bool) → x ≡ true → (x || y) ≡ true
or_left true y is = refl
or_left false y is = cc

or_right : (x y : Bool) → y ≡ true → (x || y) ≡ true
or_right true y is = refl
or_right false y is = is

or_same : (x y : Bool) → (x || (x || y)) ≡ true → (x || y) ≡ true
or_same true y is = refl
or_same false y is = is

-- a write that is in t already
pub keeps_write : (z n line : ℕ) (words : List ℕ) (t : Option Trace) → Keeps z (Wrote line words) (did (Wrote line words) n t)
keeps_write z n line words t None at incl h k is_h is_k l w v lt has = cc
keeps_write z n line words None (Some q) at incl h k is_h is_k l w v lt has = cc
keeps_write z n line words (Some t) (Some q) at incl h k is_h is_k l w v lt has =
    subst (λ (x : Trace). one_has (versions x l) w v ≡ true) (some_is is_k)
    (by_test (line == l)
    (λ has. subst (λ (x : Trace). one_has (versions x l) w v ≡ true) (sym (some_is is_k)) (incl q k refl is_k l w v lt has))
    (subst (λ (x : Trace). one_has (versions x l) w v ≡ true) (sym (some_is is_h)) has))
  where
    by_test : (b : Bool) → (one_has (versions q l) w v ≡ true → one_has (if b then words ∷ versions t l else versions t l) w v ≡ true)
        → one_has (if b then words ∷ versions q l else versions q l) w v ≡ true
        → one_has (if b then words ∷ versions t l else versions t l) w v ≡ true
    by_test true incl has = or_same (v == slice_index words w) (one_has (versions t l) w v)
        (or_mono (v == slice_index words w) (one_has (versions q l) w v) ((v == slice_index words w) || one_has (versions t l) w v) incl has)
    by_test false incl has = incl has

-- t may leave more after a write
pub includes_more : (z n line : ℕ) (words : List ℕ) (o t : Option Trace) → Includes z o t → Includes z o (did (Wrote line words) n t)
includes_more z n line words o None incl h k is_h is_k l w v lt has = cc
includes_more z n line words o (Some t) incl h k is_h is_k l w v lt has =
    subst (λ (x : Trace). one_has (versions x l) w v ≡ true) (some_is is_k) (by_test (line == l) (incl h t is_h refl l w v lt has))
  where
    by_test : (b : Bool) → one_has (versions t l) w v ≡ true → one_has (if b then words ∷ versions t l else versions t l) w v ≡ true
    by_test true has = or_right (v == slice_index words w) (one_has (versions t l) w v) has
    by_test false has = has

-- both are fenced
pub includes_fenced : (z m n : ℕ) (o t : Option Trace) → ((l : ℕ) → l < z → (h k : Trace) → o ≡ Some h → t ≡ Some k → newest (versions h l) ≡ newest (versions k l))
    → Includes z (did Fenced m o) (did Fenced n t)
includes_fenced z m n None t same h k is_h is_k l w v lt has = cc
includes_fenced z m n (Some o) None same h k is_h is_k l w v lt has = cc
includes_fenced z m n (Some o) (Some t) same h k is_h is_k l w v lt has =
    subst (λ (x : Trace). one_has (versions x l) w v ≡ true) (some_is is_k)
    (subst (λ (x : List ℕ). one_has (x ∷ []) w v ≡ true) (same l lt o t refl refl)
    (subst (λ (x : Trace). one_has (versions x l) w v ≡ true) (sym (some_is is_h)) has))

pub stages_none : (z : ℕ) (o t : Option Trace) → Includes z o t → StagesIn z o o t
stages_none z None t incl = record { grown = omega arith; each = λ i made. λ h k is_h is_k l w v lt has. cc }
stages_none z (Some o) t incl = record { grown = omega arith; each = each }
  where
    each : (i : ℕ) → Made i (Some o) (Some o) → Includes z (without i (Some o)) t
    each zero made = incl
    each (suc i) made = absurd (omega (arith, made))

pub stages_push : (z at : ℕ) (d : Done) (o p t : Option Trace) → Keeps z d t → StagesIn z o p t → StagesIn z o (did d at p) t
stages_push z at d o None t keeps stages = stages
stages_push z at d o (Some p) t keeps stages = record { grown = omega (arith, stages.grown); each = each }
  where
    now : Includes z (Some p) t
    now = stages.each 0 (omega (arith, stages.grown))

    each : (i : ℕ) → Made i o (did d at (Some p)) → Includes z (without i (did d at (Some p))) t
    each zero made = keeps (Some p) at now
    each (suc i) made = stages.each i (omega (arith, made))

pub stages_did : (z at : ℕ) (d : Done) (o p q t : Option Trace) → Keeps z d t → StagesIn z o p t → q ≡ did d at p → StagesIn z o q t
stages_did z at d o p q t keeps stages is = subst (λ (x : Option Trace). StagesIn z o x t) (sym is) (stages_push z at d o p t keeps stages)

pub stages_may : (z at : ℕ) (d : Done) (o p q t : Option Trace) → Keeps z d t → StagesIn z o p t → (q ≡ did d at p) ⊎ (q ≡ p) → StagesIn z o q t
stages_may z at d o p q t keeps stages (inl is) = stages_did z at d o p q t keeps stages is
stages_may z at d o p q t keeps stages (inr is) = subst (λ (x : Option Trace). StagesIn z o x t) (sym is) stages

pub stages_same : (z : ℕ) (o p q t : Option Trace) → StagesIn z o p t → q ≡ p → StagesIn z o q t
stages_same z o p q t stages is = subst (λ (x : Option Trace). StagesIn z o x t) (sym is) stages

pub stages_last : (z : ℕ) (o p t : Option Trace) → StagesIn z o p t → Includes z p t
stages_last z o None t stages = λ h k is_h is_k l w v lt has. cc
stages_last z o (Some p) t stages = stages.each 0 (omega (arith, stages.grown))

-- The label at each stage.
pub record StagesLabelled (z g : ℕ) (o p : Option Trace) : Type 0 where
  pub grown : length (done_in o) ≤ length (done_in p)
  pub each : (i : ℕ) → Made i o p → HasLabel z g (without i p)

pub label_did : (z g at : ℕ) (d : Done) (o : Option Trace) → is_label z d ≡ false → HasLabel z g o → HasLabel z g (did d at o)
label_did z g at d None apart label h is = cc
label_did z g at d (Some o) apart label h is = subst (λ (x : Trace). versions x z ≡ label_words g ∷ []) (some_is is) (after d apart)
  where
    after : (d : Done) → is_label z d ≡ false → versions_after d z (versions o z) ≡ label_words g ∷ []
    after (Wrote line words) apart = rw apart (label o refl)
    after Fenced apart = ap (λ (vs : List (List ℕ)). newest vs ∷ []) (label o refl)

pub label_marked : (z g at fence : ℕ) (o : Option Trace) → HasLabel z g (did Fenced fence (did (Wrote z (label_words g)) at o))
label_marked z g at fence None h is = cc
label_marked z g at fence (Some o) h is = subst (λ (x : Trace). versions x z ≡ label_words g ∷ []) (some_is is) own
  where
    own : newest (versions_after (Wrote z (label_words g)) z (versions o z)) ∷ [] ≡ label_words g ∷ []
    own = let test : nat_eq z z ≡ true = grind (arith, nat_tests) in rw test refl

pub label_may : (z g at : ℕ) (d : Done) (o p : Option Trace) → is_label z d ≡ false → (p ≡ did d at o) ⊎ (p ≡ o) → HasLabel z g o → HasLabel z g p
label_may z g at d o p apart (inl is) label = subst (HasLabel z g) (sym is) (label_did z g at d o apart label)
label_may z g at d o p apart (inr is) label = subst (HasLabel z g) (sym is) label

pub labelled_none : (z g : ℕ) (o : Option Trace) → HasLabel z g o → StagesLabelled z g o o
labelled_none z g None label = record { grown = omega arith; each = λ i made h is. cc }
labelled_none z g (Some o) label = record { grown = omega arith; each = each }
  where
    each : (i : ℕ) → Made i (Some o) (Some o) → HasLabel z g (without i (Some o))
    each zero made = label
    each (suc i) made = absurd (omega (arith, made))

pub labelled_may : (z g at : ℕ) (d : Done) (o p : Option Trace) → is_label z d ≡ false → (p ≡ did d at o) ⊎ (p ≡ o) → HasLabel z g o → StagesLabelled z g o p
labelled_may z g at d o p apart (inr is) label = subst (StagesLabelled z g o) (sym is) (labelled_none z g o label)
labelled_may z g at d o p apart (inl is) label = subst (StagesLabelled z g o) (sym is) (push o label)
  where
    push : (o : Option Trace) → HasLabel z g o → StagesLabelled z g o (did d at o)
    push None label = labelled_none z g None label
    push (Some o) label = record { grown = omega arith; each = each }
      where
        each : (i : ℕ) → Made i (Some o) (did d at (Some o)) → HasLabel z g (without i (did d at (Some o)))
        each zero made = label_did z g at d (Some o) apart label
        each (suc zero) made = label
        each (suc (suc i)) made = absurd (omega (arith, made))

-- it tells
pub leaves_in : (z l w v : ℕ) (h : Trace) (t : Option Trace) → Tells t → Includes z (Some h) t → l < z → OneHas (versions h l) w v → MayLeave t l w v
leaves_in z l w v h None tells incl lt has = absurd tells
leaves_in z l w v h (Some t) tells incl lt has = one_has_is (versions t l) w v (incl h t refl refl l w v lt (has_one (versions h l) w v has))

greater : (m n : ℕ) → nat_le m n ≡ false → n < m
greater m n is = grind (arith, nat_tests)

at_most : (m n : ℕ) → nat_le m n ≡ true → m ≤ n
at_most m n is = grind (arith, nat_tests)

-- what reads give may be left
newest_left : (vs : List (List ℕ)) (w : ℕ) → 0 < length vs → OneHas vs w (slice_index (newest vs) w)
newest_left [] w some = absurd (omega (arith, some))
newest_left (words ∷ vs) w some = inl refl

readable : (h : Trace) → LeavesNow (Some h) (read_word h)
readable h l w = newest_left (versions h l) w (from_some (get_or h.first l []) h.done l)

-- neither half shows what the mirror doesn't
pub both_show : (z : ℕ) (o p t : Option Trace) → (BothTell o p → Tells t) → Includes z o t → Includes z p t → PairingShows z o p t
both_show z None p t tells in_o in_p tell c d left l w lt = absurd tell
both_show z (Some h) None t tells in_o in_p tell c d left l w lt = absurd tell
both_show z (Some h) (Some k) t tells in_o in_p tell c d left l w lt =
    by_test (nat_le (generation_left z d) (generation_left z c)) refl
  where
    first : nat_le (generation_left z d) (generation_left z c) ≡ true
        → LeavesNow (Some h) c ⊎ (IsAlone z (Some k) (Some h) × (generation_left z c < generation_left z d)) → MayLeave t l w (c l w)
    first is (inl leaves) = leaves_in z l w (c l w) h t (tells tell) in_o lt (leaves l w)
    first is (inr lost) = absurd (omega (arith, at_most _ _ is, lost.1))

    second : nat_le (generation_left z d) (generation_left z c) ≡ false
        → LeavesNow (Some k) d ⊎ (IsAlone z (Some h) (Some k) × (generation_left z d < generation_left z c)) → MayLeave t l w (d l w)
    second is (inl leaves) = leaves_in z l w (d l w) k t (tells tell) in_p lt (leaves l w)
    second is (inr lost) = absurd (omega (arith, greater _ _ is, lost.1))

    by_test : (b : Bool) → nat_le (generation_left z d) (generation_left z c) ≡ b → MayLeave t l w ((if b then c else d) l w)
    by_test true is = first is left.first
    by_test false is = second is left.second

-- the generation of what is left of a label
pub label_left : (z g : ℕ) (h : Trace) (c : Outcome) → versions h z ≡ label_words g ∷ [] → LeavesNow (Some h) c → generation_left z c ≡ g
label_left z g h c label leaves =
    gen (word 0 (subst (λ (vs : List (List ℕ)). OneHas vs 0 (c z 0)) label (leaves z 0)))
    (word 1 (subst (λ (vs : List (List ℕ)). OneHas vs 1 (c z 1)) label (leaves z 1)))
  where
    word : (w : ℕ) {v : ℕ} → OneHas (label_words g ∷ []) w v → v ≡ slice_index (label_words g) w
    word w (inl is) = is
    word w (inr never) = absurd never

    gen : c z 0 ≡ 5931049747640832065 → c z 1 ≡ g → generation_left z c ≡ g
    gen is one = rw (is, one) refl

-- the first half alone
pub first_show : (z next g : ℕ) (o p t : Option Trace) → (BothTell o p → Tells t) → g < next → HasLabel z next o → HasLabel z g p → Includes z o t
    → PairingShows z o p t
first_show z next g None p t tells less label_o label_p in_o tell c d left l w lt = absurd tell
first_show z next g (Some h) None t tells less label_o label_p in_o tell c d left l w lt = absurd tell
first_show z next g (Some h) (Some k) t tells less label_o label_p in_o tell c d left l w lt =
    by_test (nat_le (generation_left z d) (generation_left z c)) refl
  where
    first : nat_le (generation_left z d) (generation_left z c) ≡ true
        → LeavesNow (Some h) c ⊎ (IsAlone z (Some k) (Some h) × (generation_left z c < generation_left z d)) → MayLeave t l w (c l w)
    first is (inl leaves) = leaves_in z l w (c l w) h t (tells tell) in_o lt (leaves l w)
    first is (inr lost) = absurd (omega (arith, at_most _ _ is, lost.1))

    never : {X : Type 0} → nat_le (generation_left z d) (generation_left z c) ≡ false
        → LeavesNow (Some h) c ⊎ (IsAlone z (Some k) (Some h) × (generation_left z c < generation_left z d))
        → LeavesNow (Some k) d ⊎ (IsAlone z (Some h) (Some k) × (generation_left z d < generation_left z c)) → X
    never is (inl one) (inl two) = absurd (omega (arith, greater _ _ is, less, label_left z next h c (label_o h refl) one, label_left z g k d (label_p k refl) two))
    never is one (inr lost) = absurd (omega (arith, greater _ _ is, lost.1))
    never is (inr lost) (inl two) = absurd (omega (arith, less, lost.0 d (read_word h) two (readable h), label_left z next h (read_word h) (label_o h refl) (readable h), label_left z g k d (label_p k refl) two))

    by_test : (b : Bool) → nat_le (generation_left z d) (generation_left z c) ≡ b → MayLeave t l w ((if b then c else d) l w)
    by_test true is = first is left.first
    by_test false is = never is left.first left.second

-- the second half alone
pub second_show : (z next g : ℕ) (o p t : Option Trace) → (BothTell o p → Tells t) → g < next → HasLabel z g o → HasLabel z next p → Includes z p t
    → PairingShows z o p t
second_show z next g None p t tells less label_o label_p in_p tell c d left l w lt = absurd tell
second_show z next g (Some h) None t tells less label_o label_p in_p tell c d left l w lt = absurd tell
second_show z next g (Some h) (Some k) t tells less label_o label_p in_p tell c d left l w lt =
    by_test (nat_le (generation_left z d) (generation_left z c)) refl
  where
    second : nat_le (generation_left z d) (generation_left z c) ≡ false
        → LeavesNow (Some k) d ⊎ (IsAlone z (Some h) (Some k) × (generation_left z d < generation_left z c)) → MayLeave t l w (d l w)
    second is (inl leaves) = leaves_in z l w (d l w) k t (tells tell) in_p lt (leaves l w)
    second is (inr lost) = absurd (omega (arith, greater _ _ is, lost.1))

    never : {X : Type 0} → nat_le (generation_left z d) (generation_left z c) ≡ true
        → LeavesNow (Some h) c ⊎ (IsAlone z (Some k) (Some h) × (generation_left z c < generation_left z d))
        → LeavesNow (Some k) d ⊎ (IsAlone z (Some h) (Some k) × (generation_left z d < generation_left z c)) → X
    never is (inl one) (inl two) = absurd (omega (arith, at_most _ _ is, less, label_left z g h c (label_o h refl) one, label_left z next k d (label_p k refl) two))
    never is (inr lost) two = absurd (omega (arith, at_most _ _ is, lost.1))
    never is (inl one) (inr lost) = absurd (omega (arith, less, lost.0 c (read_word k) one (readable k), label_left z next k (read_word k) (label_p k refl) (readable k), label_left z g h c (label_o h refl) one))

    by_test : (b : Bool) → nat_le (generation_left z d) (generation_left z c) ≡ b → MayLeave t l w ((if b then c else d) l w)
    by_test true is = never is left.first left.second
    by_test false is = second is left.second
