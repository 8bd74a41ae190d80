-- What stops within pairing leave.
use Rattle.std.proofs.Common.{◌≡◌, ◌≢◌, inl, inr, ◌⊎◌, ⊎_elim, ◌<◌, ◌≤◌, ◌+◌, ℕ, zero, suc, List, [], ◌∷◌, Bool, true, false, nat_eq, nat_le, Option, Some, None, refl, ap, sym, subst, ◌∙◌, arith, get_or, slice_index, if◌then◌else◌, ◌==◌, ◌||◌}
use Rattle.std.proofs.lemmas.Bool.Decides.{nat_tests}
use Rattle.std.proofs.lemmas.Bool.{cases_eq}
use Rattle.ap_base.specs.Causes.{next_count}
use Rattle.line_image.specs.Trace.{Trace, Outcome, Reads, did, newest, versions, versions_after, LeavesNow, IsAllFenced, read_word}
use Rattle.line_image.specs.Told.{Told}
use Rattle.line_image.specs.declared.effect.Done.{Done}
use Rattle.line_image.specs.declared.effect.Done.TheVariants.{Wrote, Fenced}
use Rattle.mirror_image.specs.Sound.{one_has, label_words, IsMarked, IsNotMarked, ReadsAlike}
use Rattle.mirror_image.specs.Labels.{label_of, label_in, generation, generation_at, leader, leads, zero_words, IsLabel, IsCleared, IsNotCleared}
use Rattle.mirror_image.specs.Stops.{Made, without, led, generation_left, KeepsLeader}
use Rattle.mirror_image.specs.Halfway.{LowLabel, LowGeneration, IsLow, HighLabel, Shows, Leads, Yields, Stages, KeepsLow, KeepsLead, KeepsYield, KeepsBoth}
use Rattle.mirror_image.proofs.Within.{newest_has, has_one, one_has_is, from_some}
use Rattle.mirror_image.proofs.Exits.{some_is}

-- P goes on where this is done
abbrev pub Stays : (Option Trace → Type 0) → Done → Type 0
Stays P d = (q : Option Trace) (at : ℕ) → P q → P (did d at q)

without_none : (o : Option Trace) → without 0 o ≡ o
without_none None = refl
without_none (Some h) = refl

pub here : (P : Option Trace → Type 0) (o : Option Trace) → P o → Stages P o o
here P None now = record { grown = omega arith; each = λ i made. now }
here P (Some h) now = record { grown = omega arith; each = each }
  where
    each : (i : ℕ) → Made i (Some h) (Some h) → P (without i (Some h))
    each zero made = now
    each (suc i) made = absurd (omega (arith, made))

pub last : (P : Option Trace → Type 0) (o p : Option Trace) → Stages P o p → P p
last P o p stages = subst P (without_none p) (stages.each 0 (omega (arith, stages.grown)))

pub push : (P : Option Trace → Type 0) (at : ℕ) (d : Done) (o p q : Option Trace) → Stays P d → Stages P o p → q ≡ did d at p → Stages P o q
push P at d o p q stays stages is = subst (Stages P o) (sym is) (by_trace p stages)
  where
    by_trace : (p : Option Trace) → Stages P o p → Stages P o (did d at p)
    by_trace None stages = stages
    by_trace (Some h) stages = record { grown = omega (arith, stages.grown); each = each }
      where
        each : (i : ℕ) → Made i o (did d at (Some h)) → P (without i (did d at (Some h)))
        each zero made = stays (Some h) at (last P o (Some h) stages)
        each (suc i) made = stages.each i (omega (arith, made))

pub may : (P : Option Trace → Type 0) (at : ℕ) (d : Done) (o p q : Option Trace) → Stays P d → Stages P o p → (q ≡ did d at p) ⊎ (q ≡ p) → Stages P o q
may P at d o p q stays stages (inl is) = push P at d o p q stays stages is
may P at d o p q stays stages (inr is) = subst (Stages P o) (sym is) stages

pub same : (P : Option Trace → Type 0) (o p q : Option Trace) → Stages P o p → q ≡ p → Stages P o q
same P o p q stages is = subst (Stages P o) (sym is) stages

pub weaker : (P Q : Option Trace → Type 0) (o p : Option Trace) → ((q : Option Trace) → P q → Q q) → Stages P o p → Stages Q o p
weaker P Q o p to stages = record { grown = stages.grown; each = λ i made. to (without i p) (stages.each i made) }

-- what is left of a line after a write of another
apart_has : (line l w v : ℕ) (words : List ℕ) (vs : List (List ℕ)) → nat_eq line l ≡ false → one_has (versions_after (Wrote line words) l vs) w v ≡ true → one_has vs w v ≡ true
apart_has line l w v words vs test has = subst (λ (b : Bool). one_has (if b then words ∷ vs else vs) w v ≡ true) test has

-- and of its own
own_has : (z w v : ℕ) (words : List ℕ) (vs : List (List ℕ)) → one_has (versions_after (Wrote z words) z vs) w v ≡ true
    → (v ≡ slice_index words w) ⊎ (one_has vs w v ≡ true)
own_has z w v words vs has =
    let test : nat_eq z z ≡ true = grind (arith, nat_tests) in
    by_test (v == slice_index words w) refl (subst (λ (b : Bool). one_has (if b then words ∷ vs else vs) w v ≡ true) test has)
  where
    by_test : (b : Bool) → (v == slice_index words w) ≡ b → (b || one_has vs w v) ≡ true → (v ≡ slice_index words w) ⊎ (one_has vs w v ≡ true)
    by_test true is has = inl (grind (arith, nat_tests))
    by_test false is has = inr has

fence_has : (h : Trace) (l w v : ℕ) → one_has (versions_after Fenced l (versions h l)) w v ≡ true → one_has (versions h l) w v ≡ true
fence_has h l w v has = newest_has (versions h l) w v (from_some (get_or h.first l []) h.done l) has

-- a predicate on what it tells
abbrev At : (Trace → Type 0) → Option Trace → Type 0
At V q = (h : Trace) → q ≡ Some h → V h

at_did : (V : Trace → Type 0) (d : Done) → ((q : Trace) (at : ℕ) → V q → V (record q { done = record { at = at; done = d } ∷ q.done })) → Stays (At V) d
at_did V d stays None at before h is = cc
at_did V d stays (Some q) at before h is = subst V (some_is is) (stays q at (before q refl))

low_did : (z m : ℕ) (d : Done) → ((q : Trace) (u : ℕ) → 0 < m → one_has (versions_after d z (versions q z)) 1 u ≡ true → (one_has (versions q z) 1 u ≡ true) ⊎ (u < m)) → Stays (LowLabel z m) d
low_did z m d stays q at low = record {
  some = low.some;
  low = at_did (λ h. (u : ℕ) → one_has (versions h z) 1 u ≡ true → u < m) d
      (λ q at before u has. ⊎_elim (λ (old : one_has (versions q z) 1 u ≡ true). before u old) (λ (lt : u < m). lt) (stays q u low.some has)) q at low.low;
}

pub low_fence : (z m : ℕ) → Stays (LowLabel z m) Fenced
low_fence z m = low_did z m Fenced (λ q u some has. inl (fence_has q z 1 u has))

pub low_line : (z m l : ℕ) (words : List ℕ) → l < z → Stays (LowLabel z m) (Wrote l words)
low_line z m l words lt = low_did z m (Wrote l words) (λ q u some has. inl (apart_has l z 1 u words (versions q z) other has))
  where
    other : nat_eq l z ≡ false
    other = grind (arith, nat_tests)

pub low_label : (z m : ℕ) → Stays (LowLabel z m) (Wrote z (label_words 0))
low_label z m = low_did z m (Wrote z (label_words 0)) (λ q u some has.
    ⊎_elim (λ (is : u ≡ 0). inr (omega (arith, is, some))) (λ (old : one_has (versions q z) 1 u ≡ true). inl old) (own_has z 1 u (label_words 0) (versions q z) has))

low_generation : (z m : ℕ) (o : Option Trace) → LowLabel z m o → LowGeneration z m o
low_generation z m o low = record { some = low.some; low = λ h is v u has_v has_u. below v u (low.low h is u has_u) }
  where
    below : (v u : ℕ) → u < m → generation (label_of v u) < m
    below v u lt = by_test (v == 5931049747640832065)
      where
        by_test : (b : Bool) → generation (if b then Some u else None) < m
        by_test true = lt
        by_test false = low.some

generation_zero : (z m : ℕ) → Stays (LowGeneration z m) (Wrote z zero_words)
generation_zero z m q at low = record {
  some = low.some;
  low = at_did (λ h. (v u : ℕ) → one_has (versions h z) 0 v ≡ true → one_has (versions h z) 1 u ≡ true → generation (label_of v u) < m) (Wrote z zero_words)
      (λ q at before v u has_v has_u. each v u (before v u) (own_has z 0 v zero_words (versions q z) has_v) (own_has z 1 u zero_words (versions q z) has_u)) q at low.low;
}
  where
    none : (v u : ℕ) → (v ≡ 0) ⊎ (u ≡ 0) → generation (label_of v u) < m
    none v u (inl is) = rw is low.some
    none v u (inr is) = rw is (by_test (v == 5931049747640832065))
      where
        by_test : (b : Bool) → generation (if b then Some 0 else None) < m
        by_test true = low.some
        by_test false = low.some

    each : {P Q : Type 0} (v u : ℕ) → (P → Q → generation (label_of v u) < m) → (v ≡ 0) ⊎ P → (u ≡ 0) ⊎ Q → generation (label_of v u) < m
    each v u before (inl is) q = none v u (inl is)
    each v u before (inr p) (inl is) = none v u (inr is)
    each v u before (inr p) (inr q) = before p q

generation_fence : (z m : ℕ) → Stays (LowGeneration z m) Fenced
generation_fence z m q at low = record {
  some = low.some;
  low = at_did (λ h. (v u : ℕ) → one_has (versions h z) 0 v ≡ true → one_has (versions h z) 1 u ≡ true → generation (label_of v u) < m) Fenced
      (λ q at before v u has_v has_u. before v u (fence_has q z 0 v has_v) (fence_has q z 1 u has_u)) q at low.low;
}

pub shows_fence : (z : ℕ) (c : Outcome) → Stays (Shows z c) Fenced
shows_fence z c = at_did (λ h. (l w v : ℕ) → l < z → one_has (versions h l) w v ≡ true → v ≡ c l w) Fenced
    (λ q at before l w v lt has. before l w v lt (fence_has q l w v has))

pub shows_label : (z : ℕ) (c : Outcome) (words : List ℕ) → Stays (Shows z c) (Wrote z words)
shows_label z c words = at_did (λ h. (l w v : ℕ) → l < z → one_has (versions h l) w v ≡ true → v ≡ c l w) (Wrote z words)
    (λ q at before l w v lt has. before l w v lt (apart_has z l w v words (versions q l) (other l lt) has))
  where
    other : (l : ℕ) → l < z → nat_eq z l ≡ false
    other l lt = grind (arith, nat_tests)

pub yields_fence : (z m : ℕ) (c : Outcome) → Stays (Yields z m c) Fenced
yields_fence z m c q at (inl low) = inl (generation_fence z m q at low)
yields_fence z m c q at (inr shows) = inr (shows_fence z c q at shows)

-- each trace by which it stays low yields
low_push : (z m at : ℕ) (c : Outcome) (d : Done) (o p q : Option Trace) → Stays (LowLabel z m) d → LowLabel z m p → Stages (Yields z m c) o p → q ≡ did d at p
    → LowLabel z m q × Stages (Yields z m c) o q
low_push z m at c d o p q stays low stages is =
    (subst (LowLabel z m) (sym is) (stays p at low), subst (Stages (Yields z m c) o) (sym is) (by_trace p low stages))
  where
    by_trace : (p : Option Trace) → LowLabel z m p → Stages (Yields z m c) o p → Stages (Yields z m c) o (did d at p)
    by_trace None low stages = stages
    by_trace (Some h) low stages = record { grown = omega (arith, stages.grown); each = each }
      where
        each : (i : ℕ) → Made i o (did d at (Some h)) → Yields z m c (without i (did d at (Some h)))
        each zero made = inl (low_generation z m _ (stays (Some h) at low))
        each (suc i) made = stages.each i (omega (arith, made))

pub low_may : (z m at : ℕ) (c : Outcome) (d : Done) (o p q : Option Trace) → Stays (LowLabel z m) d → LowLabel z m p → Stages (Yields z m c) o p
    → (q ≡ did d at p) ⊎ (q ≡ p) → LowLabel z m q × Stages (Yields z m c) o q
low_may z m at c d o p q stays low stages (inl is) = low_push z m at c d o p q stays low stages is
low_may z m at c d o p q stays low stages (inr is) = (subst (LowLabel z m) (sym is) low, subst (Stages (Yields z m c) o) (sym is) stages)

pub low_same : (z : ℕ) (o p q : Option Trace) → KeepsLow z o p → q ≡ p → KeepsLow z o q
low_same z o p q keeps is = subst (KeepsLow z o) (sym is) keeps

pub keeps_low_did : (z l at : ℕ) (words : List ℕ) (p q : Option Trace) → l < z → (q ≡ did (Wrote l words) at p) ⊎ (q ≡ p) → KeepsLow z p q
keeps_low_did z l at words p q lt made m c o low stages = low_may z m at c (Wrote l words) o p q (low_line z m l words lt) low stages made

pub keeps_low_fence : (z at : ℕ) (p q : Option Trace) → (q ≡ did Fenced at p) ⊎ (q ≡ p) → KeepsLow z p q
keeps_low_fence z at p q made m c o low stages = low_may z m at c Fenced o p q (low_fence z m) low stages made

pub keeps_low_label : (z at : ℕ) (p q : Option Trace) → (q ≡ did (Wrote z (label_words 0)) at p) ⊎ (q ≡ p) → KeepsLow z p q
keeps_low_label z at p q made m c o low stages = low_may z m at c (Wrote z (label_words 0)) o p q (low_label z m) low stages made

pub keeps_low_then : (z : ℕ) (p q r : Option Trace) → KeepsLow z p q → KeepsLow z q r → KeepsLow z p r
keeps_low_then z p q r one two m c o low stages = let now = one m c o low stages in two m c o now.0 now.1

pub keeps_low_none : (z : ℕ) (p : Option Trace) → KeepsLow z p p
keeps_low_none z p m c o low stages = (low, stages)

pub keeps_low_marked : (z : ℕ) (old new : Told) → IsMarked z 0 old new → KeepsLow z old.trace new.trace
keeps_low_marked z old new marked =
    keeps_low_then z old.trace (did (Wrote z (label_words 0)) (next_count old.calls) old.trace) new.trace
    (keeps_low_label z (next_count old.calls) old.trace _ (inl refl)) (keeps_low_fence z new.calls _ new.trace (inl marked.trace))

pub keeps_low_unmarked : (z made : ℕ) (old new : Told) → IsNotMarked z 0 made old new → KeepsLow z old.trace new.trace
keeps_low_unmarked z made old new unmarked = keeps_low_label z (next_count old.calls) old.trace new.trace unmarked.trace

-- The half that leads.
high_did : (z g : ℕ) (d : Done) → ((q : Trace) → (((v : ℕ) → one_has (versions q z) 0 v ≡ true → v ≡ 5931049747640832065) × ((u : ℕ) → one_has (versions q z) 1 u ≡ true → g ≤ u))
    → (((v : ℕ) → one_has (versions_after d z (versions q z)) 0 v ≡ true → v ≡ 5931049747640832065) × ((u : ℕ) → one_has (versions_after d z (versions q z)) 1 u ≡ true → g ≤ u)))
    → Stays (HighLabel z g) d
high_did z g d stays = at_did (λ h. (g ≡ 0) ⊎ (((v : ℕ) → one_has (versions h z) 0 v ≡ true → v ≡ 5931049747640832065) × ((u : ℕ) → one_has (versions h z) 1 u ≡ true → g ≤ u))) d each
  where
    each : (q : Trace) (at : ℕ) → (g ≡ 0) ⊎ (((v : ℕ) → one_has (versions q z) 0 v ≡ true → v ≡ 5931049747640832065) × ((u : ℕ) → one_has (versions q z) 1 u ≡ true → g ≤ u))
        → (g ≡ 0) ⊎ (((v : ℕ) → one_has (versions_after d z (versions q z)) 0 v ≡ true → v ≡ 5931049747640832065) × ((u : ℕ) → one_has (versions_after d z (versions q z)) 1 u ≡ true → g ≤ u))
    each q at (inl none) = inl none
    each q at (inr high) = inr (stays q high)

pub leads_fence : (z g : ℕ) (c : Outcome) → Stays (Leads z g c) Fenced
leads_fence z g c q at lead = record {
  label = high_did z g Fenced (λ q high. (λ v has. high.0 v (fence_has q z 0 v has), λ u has. high.1 u (fence_has q z 1 u has))) q at lead.label;
  lines = shows_fence z c q at lead.lines;
}

pub leads_label : (z g k : ℕ) (c : Outcome) → g ≤ k → Stays (Leads z g c) (Wrote z (label_words k))
leads_label z g k c le q at lead = record {
  label = high_did z g (Wrote z (label_words k)) (λ q high. (
    λ v has. ⊎_elim (λ (is : v ≡ 5931049747640832065). is) (λ (old : one_has (versions q z) 0 v ≡ true). high.0 v old) (own_has z 0 v (label_words k) (versions q z) has),
    λ u has. ⊎_elim (λ (is : u ≡ k). omega (arith, is, le)) (λ (old : one_has (versions q z) 1 u ≡ true). high.1 u old) (own_has z 1 u (label_words k) (versions q z) has),
  )) q at lead.label;
  lines = shows_label z c (label_words k) q at lead.lines;
}

leads_zero : (z : ℕ) (c : Outcome) → Stays (Leads z 0 c) (Wrote z zero_words)
leads_zero z c q at lead = record { label = λ h is. inl refl; lines = shows_label z c zero_words q at lead.lines }

pub keeps_lead_marked : (z k : ℕ) (old new : Told) → IsMarked z k old new → KeepsLead z k old.trace new.trace
keeps_lead_marked z k old new marked g c o le stages =
    push (Leads z g c) new.calls Fenced o _ new.trace (leads_fence z g c)
    (push (Leads z g c) (next_count old.calls) (Wrote z (label_words k)) o old.trace _ (leads_label z g k c le) stages refl) marked.trace

pub keeps_lead_unmarked : (z k made : ℕ) (old new : Told) → IsNotMarked z k made old new → KeepsLead z k old.trace new.trace
keeps_lead_unmarked z k made old new unmarked g c o le stages =
    may (Leads z g c) (next_count old.calls) (Wrote z (label_words k)) o old.trace new.trace (leads_label z g k c le) stages unmarked.trace

pub keeps_lead_none : (z k : ℕ) (p : Option Trace) → KeepsLead z k p p
keeps_lead_none z k p g c o le stages = stages

pub keeps_lead_same : (z k : ℕ) (o p q : Option Trace) → KeepsLead z k o p → q ≡ p → KeepsLead z k o q
keeps_lead_same z k o p q keeps is = subst (KeepsLead z k o) (sym is) keeps

-- What is marked shows the same.
pub shows_marked : (z k : ℕ) (c : Outcome) (old new : Told) → IsMarked z k old new → Shows z c old.trace → Shows z c new.trace
shows_marked z k c old new marked shows =
    subst (Shows z c) (sym marked.trace) (shows_fence z c _ new.calls (shows_label z c (label_words k) old.trace (next_count old.calls) shows))

-- The other half, once it was copied and fenced.
copied : (z at : ℕ) (c : Outcome) (p leading : Option Trace) (k : Trace) → ReadsAlike z p leading → leading ≡ Some k → Shows z c leading → Shows z c (did Fenced at p)
copied z at c None leading k alike is shows h is_h l w v lt has = cc
copied z at c (Some q) leading k alike is shows h is_h l w v lt has =
    shows k is l w v lt (fence_has k l w v
    (subst (λ (x : List ℕ). one_has (x ∷ []) w v ≡ true) (alike q k refl is l lt)
    (subst (λ (x : Trace). one_has (versions x l) w v ≡ true) (sym (some_is is_h)) has)))

shows_push : (z m at : ℕ) (c : Outcome) (d : Done) (o p q : Option Trace) → Stays (Shows z c) d → Shows z c p → Stages (Yields z m c) o p → q ≡ did d at p
    → Shows z c q × Stages (Yields z m c) o q
shows_push z m at c d o p q stays shows stages is =
    (subst (Shows z c) (sym is) (stays p at shows), subst (Stages (Yields z m c) o) (sym is) (by_trace p shows stages))
  where
    by_trace : (p : Option Trace) → Shows z c p → Stages (Yields z m c) o p → Stages (Yields z m c) o (did d at p)
    by_trace None shows stages = stages
    by_trace (Some h) shows stages = record { grown = omega (arith, stages.grown); each = each }
      where
        each : (i : ℕ) → Made i o (did d at (Some h)) → Yields z m c (without i (did d at (Some h)))
        each zero made = inr (stays (Some h) at shows)
        each (suc i) made = stages.each i (omega (arith, made))

shows_may : (z m at : ℕ) (c : Outcome) (d : Done) (o p q : Option Trace) → Stays (Shows z c) d → Shows z c p → Stages (Yields z m c) o p
    → (q ≡ did d at p) ⊎ (q ≡ p) → Shows z c q × Stages (Yields z m c) o q
shows_may z m at c d o p q stays shows stages (inl is) = shows_push z m at c d o p q stays shows stages is
shows_may z m at c d o p q stays shows stages (inr is) = (subst (Shows z c) (sym is) shows, subst (Stages (Yields z m c) o) (sym is) stages)

pub yields_low : (z : ℕ) (leading p q : Option Trace) → KeepsLow z p q → KeepsYield z leading p q
yields_low z leading p q keeps m c o k is shows low stages = (keeps m c o low stages).1

fenced_copy : (z at m : ℕ) (c : Outcome) (o leading p q r : Option Trace) (k : Trace) → KeepsLow z p q → ReadsAlike z q leading → r ≡ did Fenced at q
    → leading ≡ Some k → Shows z c leading → LowLabel z m p → Stages (Yields z m c) o p → Shows z c r × Stages (Yields z m c) o r
fenced_copy z at m c o leading p q r k keeps alike fenced is shows low stages =
    let now = keeps m c o low stages in (
      subst (Shows z c) (sym fenced) (copied z at c q leading k alike is shows),
      (low_push z m at c Fenced o q r (low_fence z m) now.0 now.1 fenced).1,
    )

pub yields_fence_lost : (z : ℕ) (leading p q r : Option Trace) → KeepsLow z p q → r ≡ q → KeepsYield z leading p r
yields_fence_lost z leading p q r keeps is = yields_low z leading p r (subst (KeepsLow z p) (sym is) keeps)

pub yields_marked : (z g at : ℕ) (leading p q : Option Trace) (f new : Told) → KeepsLow z p q → ReadsAlike z q leading → f.trace ≡ did Fenced at q
    → IsMarked z g f new → KeepsYield z leading p new.trace
yields_marked z g at leading p q f new keeps alike fenced marked m c o k is shows low stages =
    let now = fenced_copy z at m c o leading p q f.trace k keeps alike fenced is shows low stages in
    let label = shows_push z m (next_count f.calls) c (Wrote z (label_words g)) o f.trace _ (shows_label z c (label_words g)) now.0 now.1 refl in
    (shows_push z m new.calls c Fenced o _ new.trace (shows_fence z c) label.0 label.1 marked.trace).1

pub yields_unmarked : (z g made at : ℕ) (leading p q : Option Trace) (f new : Told) → KeepsLow z p q → ReadsAlike z q leading → f.trace ≡ did Fenced at q
    → IsNotMarked z g made f new → KeepsYield z leading p new.trace
yields_unmarked z g made at leading p q f new keeps alike fenced unmarked m c o k is shows low stages =
    let now = fenced_copy z at m c o leading p q f.trace k keeps alike fenced is shows low stages in
    (shows_may z m (next_count f.calls) c (Wrote z (label_words g)) o f.trace new.trace (shows_label z c (label_words g)) now.0 now.1 unmarked.trace).1

-- after the leader was marked
pub yields_then : (z g : ℕ) (l l1 : Told) (p q r : Option Trace) → IsMarked z g l l1 → KeepsLow z p q → KeepsYield z l1.trace q r → KeepsYield z l.trace p r
yields_then z g l l1 p q r marked keeps yields m c o k is shows low stages =
    let now = keeps m c o low stages in
    yields m c o _ (marked.trace ∙ ap (λ (x : Option Trace). did Fenced l1.calls (did (Wrote z (label_words g)) (next_count l.calls) x)) is)
    (shows_marked z g c l l1 marked shows) now.0 now.1

pub keeps_lead_then : (z k : ℕ) (p q r : Option Trace) → KeepsLead z k p q → KeepsLead z k q r → KeepsLead z k p r
keeps_lead_then z k p q r one two g c o le stages = two g c o le (one g c o le stages)

-- Labels that are none are cleared first.
lead_cleared : (z : ℕ) (c : Outcome) (label : Option ℕ) (o : Option Trace) (old new : Told) → IsCleared z label old new
    → Stages (Leads z (generation label) c) o old.trace → Stages (Leads z (generation label) c) o new.trace
lead_cleared z c (Some g) o old new cleared stages = subst (λ (t : Told). Stages (Leads z g c) o t.trace) (sym cleared) stages
lead_cleared z c None o old new cleared stages =
    push (Leads z 0 c) new.calls Fenced o _ new.trace (leads_fence z 0 c)
    (push (Leads z 0 c) (next_count old.calls) (Wrote z zero_words) o old.trace _ (leads_zero z c) stages refl) cleared.1

lead_uncleared : (z : ℕ) (c : Outcome) (label : Option ℕ) (o : Option Trace) (old new : Told) → IsNotCleared z label old new
    → Stages (Leads z (generation label) c) o old.trace → Stages (Leads z (generation label) c) o new.trace
lead_uncleared z c (Some g) o old new never stages = absurd never
lead_uncleared z c None o old new uncleared stages = may (Leads z 0 c) (next_count old.calls) (Wrote z zero_words) o old.trace new.trace (leads_zero z c) stages uncleared

zero_low : (z m at fence : ℕ) (o : Option Trace) → 0 < m → LowLabel z m (did Fenced fence (did (Wrote z zero_words) at o))
zero_low z m at fence None some = record { some = some; low = λ h is u has. cc }
zero_low z m at fence (Some q) some = record { some = some; low = λ h is u has. below u (subst (λ (x : Trace). one_has (versions x z) 1 u ≡ true) (sym (some_is is)) has) }
  where
    zero_has : (u : ℕ) → one_has (zero_words ∷ []) 1 u ≡ true → u ≡ 0
    zero_has u has = by_test (u == 0) refl has
      where
        by_test : (b : Bool) → (u == 0) ≡ b → (b || false) ≡ true → u ≡ 0
        by_test true is has = grind (arith, nat_tests)
        by_test false is has = cc

    below : (u : ℕ) → one_has (newest (versions_after (Wrote z zero_words) z (versions q z)) ∷ []) 1 u ≡ true → u < m
    below u has =
        let test : nat_eq z z ≡ true = grind (arith, nat_tests) in
        omega (arith, some, zero_has u (subst (λ (b : Bool). one_has (newest (if b then zero_words ∷ versions q z else versions q z) ∷ []) 1 u ≡ true) test has))

low_cleared : (z m : ℕ) (c : Outcome) (label : Option ℕ) (old new : Told) → IsCleared z label old new → IsLow z m label old.trace
    → LowLabel z m new.trace × Stages (Yields z m c) old.trace new.trace
low_cleared z m c (Some g) old new cleared low =
    subst (λ (t : Told). LowLabel z m t.trace × Stages (Yields z m c) old.trace t.trace) (sym cleared)
    (low, here (Yields z m c) old.trace (inl (low_generation z m old.trace low)))
low_cleared z m c None old new cleared low = (
  subst (LowLabel z m) (sym cleared.1) (zero_low z m (next_count old.calls) new.calls old.trace low.some),
  weaker (LowGeneration z m) (Yields z m c) old.trace new.trace (λ q low. inl low)
      (push (LowGeneration z m) new.calls Fenced old.trace _ new.trace (generation_fence z m)
      (push (LowGeneration z m) (next_count old.calls) (Wrote z zero_words) old.trace old.trace _ (generation_zero z m) (here (LowGeneration z m) old.trace low) refl) cleared.1),
)

low_uncleared : (z m : ℕ) (c : Outcome) (label : Option ℕ) (old new : Told) → IsNotCleared z label old new → IsLow z m label old.trace
    → Stages (Yields z m c) old.trace new.trace
low_uncleared z m c (Some g) old new never low = absurd never
low_uncleared z m c None old new uncleared low =
    weaker (LowGeneration z m) (Yields z m c) old.trace new.trace (λ q low. inl low)
    (may (LowGeneration z m) (next_count old.calls) (Wrote z zero_words) old.trace old.trace new.trace (generation_zero z m) (here (LowGeneration z m) old.trace low) uncleared)

low_here : (z m : ℕ) (c : Outcome) (label : Option ℕ) (o : Option Trace) → IsLow z m label o → Stages (Yields z m c) o o
low_here z m c None o low = here (Yields z m c) o (inl low)
low_here z m c (Some g) o low = here (Yields z m c) o (inl (low_generation z m o low))

cleared_tells : (z : ℕ) (label : Option ℕ) (old new : Told) (h : Trace) → IsCleared z label old new → old.trace ≡ Some h → (k : Trace) × (new.trace ≡ Some k)
cleared_tells z (Some g) old new h cleared is = (h, ap (λ (t : Told). t.trace) cleared ∙ is)
cleared_tells z None old new h cleared is = (_, cleared.1 ∙ ap (λ (x : Option Trace). did Fenced new.calls (did (Wrote z zero_words) (next_count old.calls) x)) is)

-- Whichever leads, wherever pairing stops.
pub both_uncleared_lead : (z k : ℕ) (first second : Option ℕ) (l l1 o : Told) → IsNotCleared z first l l1
    → KeepsBoth z k (generation first) second l.trace o.trace l1.trace o.trace
both_uncleared_lead z k first second l l1 o uncleared m c h is le lead low =
    (lead_uncleared z c first l.trace l l1 uncleared (here (Leads z (generation first) c) l.trace lead), low_here z m c second o.trace low)

pub both_uncleared_other : (z k : ℕ) (first second : Option ℕ) (l o o1 : Told) → IsNotCleared z second o o1
    → KeepsBoth z k (generation first) second l.trace o.trace l.trace o1.trace
both_uncleared_other z k first second l o o1 uncleared m c h is le lead low =
    (here (Leads z (generation first) c) l.trace lead, low_uncleared z m c second o o1 uncleared low)

pub both_half_cleared_lead : (z k : ℕ) (first second : Option ℕ) (l l1 o o1 : Told) → IsCleared z first l l1 → IsNotCleared z second o o1
    → KeepsBoth z k (generation first) second l.trace o.trace l1.trace o1.trace
both_half_cleared_lead z k first second l l1 o o1 cleared uncleared m c h is le lead low =
    (lead_cleared z c first l.trace l l1 cleared (here (Leads z (generation first) c) l.trace lead), low_uncleared z m c second o o1 uncleared low)

pub both_half_cleared_other : (z k : ℕ) (first second : Option ℕ) (l l1 o o1 : Told) → IsNotCleared z first l l1 → IsCleared z second o o1
    → KeepsBoth z k (generation first) second l.trace o.trace l1.trace o1.trace
both_half_cleared_other z k first second l l1 o o1 uncleared cleared m c h is le lead low =
    (lead_uncleared z c first l.trace l l1 uncleared (here (Leads z (generation first) c) l.trace lead), (low_cleared z m c second o o1 cleared low).1)

pub both_led : (z k at fence : ℕ) (first second : Option ℕ) (l l1 l2 l3 o o1 o2 o3 : Told) → IsCleared z first l l1 → IsCleared z second o o1
    → KeepsLead z k l1.trace l2.trace → KeepsYield z l1.trace o1.trace o2.trace
    → (l3.trace ≡ did Fenced at l2.trace) ⊎ (l3.trace ≡ l2.trace) → (o3.trace ≡ did Fenced fence o2.trace) ⊎ (o3.trace ≡ o2.trace)
    → KeepsBoth z k (generation first) second l.trace o.trace l3.trace o3.trace
both_led z k at fence first second l l1 l2 l3 o o1 o2 o3 cleared_l cleared_o leading yields settled_l settled_o m c h is le lead low =
    let g = generation first in
    let one = lead_cleared z c first l.trace l l1 cleared_l (here (Leads z g c) l.trace lead) in
    let two = low_cleared z m c second o o1 cleared_o low in
    let tells = cleared_tells z first l l1 h cleared_l is in (
      may (Leads z g c) at Fenced l.trace l2.trace l3.trace (leads_fence z g c) (leading g c l.trace le one) settled_l,
      may (Yields z m c) fence Fenced o.trace o2.trace o3.trace (yields_fence z m c)
          (yields m c o.trace tells.0 tells.1 (last (Leads z g c) l.trace l1.trace one).lines two.0 two.1) settled_o,
    )

-- What pairing shows of what is left.
shows_left : (z l w : ℕ) (s c : Outcome) (o : Option Trace) → Shows z s o → LeavesNow o c → l < z → c l w ≡ s l w
shows_left z l w s c None shows leaves lt = absurd (leaves l w)
shows_left z l w s c (Some h) shows leaves lt = shows h refl l w (c l w) lt (has_one (versions h l) w (c l w) (leaves l w))

high_left : (z g : ℕ) (c : Outcome) (o : Option Trace) → HighLabel z g o → LeavesNow o c → g ≤ generation_left z c
high_left z g c None high leaves = absurd (leaves z 0)
high_left z g c (Some h) high leaves = by_label (high h refl)
  where
    by_label : (g ≡ 0) ⊎ (((v : ℕ) → one_has (versions h z) 0 v ≡ true → v ≡ 5931049747640832065) × ((u : ℕ) → one_has (versions h z) 1 u ≡ true → g ≤ u))
        → g ≤ generation_left z c
    by_label (inl none) = omega (arith, none)
    by_label (inr label) =
        let is : c z 0 ≡ 5931049747640832065 = label.0 (c z 0) (has_one (versions h z) 0 (c z 0) (leaves z 0)) in
        rw is (label.1 (c z 1) (has_one (versions h z) 1 (c z 1) (leaves z 1)))

low_left : (z m : ℕ) (c : Outcome) (o : Option Trace) → LowGeneration z m o → LeavesNow o c → generation_left z c < m
low_left z m c None low leaves = absurd (leaves z 0)
low_left z m c (Some h) low leaves =
    low.low h refl (c z 0) (c z 1) (has_one (versions h z) 0 (c z 0) (leaves z 0)) (has_one (versions h z) 1 (c z 1) (leaves z 1))

-- halves that are fenced
fenced_has : (h : Trace) (l w v : ℕ) → IsAllFenced (Some h) → one_has (versions h l) w v ≡ true → v ≡ read_word h l w
fenced_has h l w v fenced has = fenced l w v (one_has_is (versions h l) w v has)

label_some : (a b g : ℕ) → label_of a b ≡ Some g → (a ≡ 5931049747640832065) × (b ≡ g)
label_some a b g is = by_test (a == 5931049747640832065) refl is
  where
    number : {x y : ℕ} → Some x ≡ Some y → x ≡ y
    number {x} e = ap (the x) e
      where
        the : ℕ → Option ℕ → ℕ
        the d None = d
        the d (Some n) = n

    by_test : (t : Bool) → (a == 5931049747640832065) ≡ t → (if t then Some b else None) ≡ Some g → (a ≡ 5931049747640832065) × (b ≡ g)
    by_test true test is = (grind (arith, nat_tests), number is)
    by_test false test is = cc

fenced_leads : (z : ℕ) (label : Option ℕ) (h : Trace) → IsAllFenced (Some h) → label ≡ label_in (newest (versions h z)) → Leads z (generation label) (λ l w. read_word h l w) (Some h)
fenced_leads z label h fenced is = record {
  label = λ k is_k. subst (λ (x : Trace). (generation label ≡ 0) ⊎ (((v : ℕ) → one_has (versions x z) 0 v ≡ true → v ≡ 5931049747640832065) × ((u : ℕ) → one_has (versions x z) 1 u ≡ true → generation label ≤ u)))
      (some_is is_k) (by_label label is);
  lines = λ k is_k l w v lt has. fenced_has h l w v fenced (subst (λ (x : Trace). one_has (versions x l) w v ≡ true) (sym (some_is is_k)) has);
}
  where
    by_label : (label : Option ℕ) → label ≡ label_in (newest (versions h z))
        → (generation label ≡ 0) ⊎ (((v : ℕ) → one_has (versions h z) 0 v ≡ true → v ≡ 5931049747640832065) × ((u : ℕ) → one_has (versions h z) 1 u ≡ true → generation label ≤ u))
    by_label None is = inl refl
    by_label (Some g) is =
        let words = label_some (read_word h z 0) (read_word h z 1) g (sym is) in
        inr (λ v has. fenced_has h z 0 v fenced has ∙ words.0, λ u has. omega (arith, fenced_has h z 1 u fenced has, words.1))

fenced_low : (z m : ℕ) (label : Option ℕ) (h : Trace) → IsAllFenced (Some h) → label ≡ label_in (newest (versions h z)) → generation label < m → IsLow z m label (Some h)
fenced_low z m None h fenced is lt = record {
  some = lt;
  low = λ k is_k v u has_v has_u. subst (λ (g : Option ℕ). generation g < m)
      (is ∙ words v u (fenced_has h z 0 v fenced (subst (λ (x : Trace). one_has (versions x z) 0 v ≡ true) (sym (some_is is_k)) has_v))
      (fenced_has h z 1 u fenced (subst (λ (x : Trace). one_has (versions x z) 1 u ≡ true) (sym (some_is is_k)) has_u))) lt;
}
  where
    words : (v u : ℕ) → v ≡ read_word h z 0 → u ≡ read_word h z 1 → label_in (newest (versions h z)) ≡ label_of v u
    words v u is_v is_u = rw (is_v, is_u) refl
fenced_low z m (Some g) h fenced is lt = record {
  some = omega (arith, lt);
  low = λ k is_k u has_u. omega (
    arith,
    lt,
    fenced_has h z 1 u fenced (subst (λ (x : Trace). one_has (versions x z) 1 u ≡ true) (sym (some_is is_k)) has_u),
    (label_some (read_word h z 0) (read_word h z 1) g (sym is)).1,
  );
}

greater : (m n : ℕ) → nat_le m n ≡ false → n < m
greater m n is = grind (arith, nat_tests)

at_most : (m n : ℕ) → nat_le m n ≡ true → m ≤ n
at_most m n is = grind (arith, nat_tests)

pub keeps_leader : (z k : ℕ) (first second : Option ℕ) (o p o' p' : Option Trace) → IsLabel z first o → IsLabel z second p → generation first ≤ k → generation second ≤ k
    → (leads first second ≡ true → KeepsBoth z k (generation first) second o p o' p') → (leads first second ≡ false → KeepsBoth z k (generation second) first p o p' o')
    → KeepsLeader z o p o' p'
keeps_leader z k first second o p o' p' label_o label_p few_o few_p one two fenced_o fenced_p h t is_h is_t i j made_i made_j c d leaves_c leaves_d l w lt =
    by_test (leads first second) refl
  where
    fenced_h : IsAllFenced (Some h)
    fenced_h = subst IsAllFenced is_h fenced_o

    fenced_t : IsAllFenced (Some t)
    fenced_t = subst IsAllFenced is_t fenced_p

    leader_is : (b : Bool) → leads first second ≡ b → leader z h t ≡ (if b then h else t)
    leader_is b is =
        ap (λ (test : Bool). if test then h else t)
        (ap (λ (g : ℕ). nat_le g (generation_at z h)) (ap generation (sym (label_p t is_t)))
        ∙ ap (λ (g : ℕ). nat_le (generation second) g) (ap generation (sym (label_o h is_h))) ∙ is)

    by_first : Stages (Leads z (generation first) (λ l w. read_word h l w)) o o' × Stages (Yields z (suc (generation first)) (λ l w. read_word h l w)) p p'
        → led z c d l w ≡ read_word h l w
    by_first stages = by_led (nat_le (generation_left z d) (generation_left z c)) refl (stages.0.each i made_i) (stages.1.each j made_j)
      where
        never : generation_left z c < generation_left z d → Leads z (generation first) (λ l w. read_word h l w) (without i o') → Yields z (suc (generation first)) (λ l w. read_word h l w) (without j p')
            → d l w ≡ read_word h l w
        never lower lead (inl low) = absurd (omega (arith, lower, high_left z (generation first) c (without i o') lead.label leaves_c, low_left z (suc (generation first)) d (without j p') low leaves_d))
        never lower lead (inr shows) = shows_left z l w (λ l w. read_word h l w) d (without j p') shows leaves_d lt

        by_led : (b : Bool) → nat_le (generation_left z d) (generation_left z c) ≡ b → Leads z (generation first) (λ l w. read_word h l w) (without i o') → Yields z (suc (generation first)) (λ l w. read_word h l w) (without j p')
            → (if b then c else d) l w ≡ read_word h l w
        by_led true is lead other = shows_left z l w (λ l w. read_word h l w) c (without i o') lead.lines leaves_c lt
        by_led false is lead other = never (greater _ _ is) lead other

    by_second : Stages (Leads z (generation second) (λ l w. read_word t l w)) p p' × Stages (Yields z (generation second) (λ l w. read_word t l w)) o o'
        → led z c d l w ≡ read_word t l w
    by_second stages = by_led (nat_le (generation_left z d) (generation_left z c)) refl (stages.0.each j made_j) (stages.1.each i made_i)
      where
        never : generation_left z d ≤ generation_left z c → Leads z (generation second) (λ l w. read_word t l w) (without j p') → Yields z (generation second) (λ l w. read_word t l w) (without i o')
            → c l w ≡ read_word t l w
        never higher lead (inl low) = absurd (omega (arith, higher, high_left z (generation second) d (without j p') lead.label leaves_d, low_left z (generation second) c (without i o') low leaves_c))
        never higher lead (inr shows) = shows_left z l w (λ l w. read_word t l w) c (without i o') shows leaves_c lt

        by_led : (b : Bool) → nat_le (generation_left z d) (generation_left z c) ≡ b → Leads z (generation second) (λ l w. read_word t l w) (without j p') → Yields z (generation second) (λ l w. read_word t l w) (without i o')
            → (if b then c else d) l w ≡ read_word t l w
        by_led true is lead other = never (at_most _ _ is) lead other
        by_led false is lead other = shows_left z l w (λ l w. read_word t l w) d (without j p') lead.lines leaves_d lt

    by_test : (b : Bool) → leads first second ≡ b → led z c d l w ≡ read_word (leader z h t) l w
    by_test true is =
        by_first (one is (suc (generation first)) (λ l w. read_word h l w) h is_h few_o
        (subst (Leads z (generation first) (λ l w. read_word h l w)) (sym is_h) (fenced_leads z first h fenced_h (label_o h is_h)))
        (subst (IsLow z (suc (generation first)) second) (sym is_t) (fenced_low z (suc (generation first)) second t fenced_t (label_p t is_t) (omega (arith, at_most (generation second) (generation first) is)))))
        ∙ ap (λ (x : Trace). read_word x l w) (sym (leader_is true is))
    by_test false is =
        by_second (two is (generation second) (λ l w. read_word t l w) t is_t few_p
        (subst (Leads z (generation second) (λ l w. read_word t l w)) (sym is_t) (fenced_leads z second t fenced_t (label_p t is_t)))
        (subst (IsLow z (generation second) first) (sym is_h) (fenced_low z (generation second) first h fenced_h (label_o h is_h) (greater (generation second) (generation first) is))))
        ∙ ap (λ (x : Trace). read_word x l w) (sym (leader_is false is))

-- where nothing was made
pub keeps_none : (z : ℕ) (o p o' p' : Option Trace) → o' ≡ o → p' ≡ p → KeepsLeader z o p o' p'
keeps_none z o p o' p' same_o same_p fenced_o fenced_p h t is_h is_t =
    let first : Option ℕ = label_in (newest (versions h z)) in
    let second : Option ℕ = label_in (newest (versions t z)) in
    keeps_leader z (generation first + generation second) first second o p o' p'
    (λ x is. ap (λ (x : Trace). label_in (newest (versions x z))) (some_is (sym is_h ∙ is)))
    (λ x is. ap (λ (x : Trace). label_in (newest (versions x z))) (some_is (sym is_t ∙ is)))
    (omega arith) (omega arith)
    (λ e m c k is le lead low. (
      subst (Stages (Leads z (generation first) c) o) (sym same_o) (here (Leads z (generation first) c) o lead),
      subst (Stages (Yields z m c) p) (sym same_p) (low_here z m c second p low),
    ))
    (λ e m c k is le lead low. (
      subst (Stages (Leads z (generation second) c) p) (sym same_p) (here (Leads z (generation second) c) p lead),
      subst (Stages (Yields z m c) o) (sym same_o) (low_here z m c first o low),
    ))
    fenced_o fenced_p h t is_h is_t

pub both_from : (z k g : ℕ) (label : Option ℕ) (o p o1 p1 o' p' : Option Trace) → o1 ≡ o → p1 ≡ p → KeepsBoth z k g label o1 p1 o' p' → KeepsBoth z k g label o p o' p'
both_from z k g label o p o1 p1 o' p' same_o same_p keeps =
    subst (λ (x : Option Trace). KeepsBoth z k g label x p o' p') same_o (subst (λ (x : Option Trace). KeepsBoth z k g label o1 x o' p') same_p keeps)

-- one more line is copied
pub alike_more : (n at : ℕ) (words : List ℕ) (p q o r : Option Trace) → ReadsAlike n p o → r ≡ o → Reads r n words → q ≡ did (Wrote n words) at p → ReadsAlike (n + 1) q o
alike_more n at words p q o r alike same reads is = subst (λ (x : Option Trace). ReadsAlike (n + 1) x o) (sym is) (by_trace p alike)
  where
    by_trace : (p : Option Trace) → ReadsAlike n p o → ReadsAlike (n + 1) (did (Wrote n words) at p) o
    by_trace None alike h k is_h is_k l lt = cc
    by_trace (Some p) alike h k is_h is_k l lt =
        ap (λ (x : Trace). newest (versions x l)) (sym (some_is is_h)) ∙ at_line (cases_eq n l)
      where
        read : words ≡ newest (versions k n)
        read = subst (λ (x : Option Trace). Reads x n words) (same ∙ is_k) reads

        at_line : (n ≡ l) ⊎ (n ≢ l) → newest (versions_after (Wrote n words) l (versions p l)) ≡ newest (versions k l)
        at_line (inl here) =
            let test : nat_eq n l ≡ true = grind (arith, nat_tests) in
            rw test (read ∙ ap (λ (m : ℕ). newest (versions k m)) here)
        at_line (inr other) =
            let test : nat_eq n l ≡ false = grind (arith, nat_tests) in
            rw test (alike p k refl is_k l (omega (arith, lt, other)))
