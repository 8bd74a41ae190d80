-- Two halves that were paired.
use Rattle.std.proofs.Common.{zero, suc, ◌||◌, if◌then◌else◌, ◌≡◌, inl, ⊎_elim, max, slice_index, nat_le, ◌<◌, ◌≤◌, ◌+◌, ◌-◌, ◌^◌, ℕ, List, [], ◌∷◌, Bool, true, false, nat_eq, Option, Some, None, All, refl, ap, sym, subst, ◌∙◌, arith, length, min, get_or, take}
use Rattle.std.proofs.lemmas.Bool.Decides.{nat_tests}
use Rattle.std.proofs.lemmas.List.{get_or-take}
use Rattle.ap_base.specs.Causes.{next_count}
use Rattle.line_image.specs.Trace.{Trace, did, newest, versions, versions_after, IsAllFenced}
use Rattle.line_image.specs.Told.{Told, IsCounted, InOrder}
use Rattle.line_image.specs.declared.effect.Effect.{Effect}
use Rattle.line_image.specs.declared.effect.Done.TheVariants.{Wrote, Fenced}
use Rattle.mirror_image.specs.declared.halves.Left.TheVariants.{Both}
use Rattle.mirror_image.specs.Joint.{calls_by, told_by, told_from, ahead_by, joint, most, above, is_label, top_is_label, fences_label, numbered, shown}
use Rattle.mirror_image.specs.Sound.{IsSoundBy, IsSound, Tells, BothLive, ReadsAlike, LeavesAlike, Within, IsMarked, label_words, done_in}
use Rattle.mirror_image.specs.Labels.{IsLabel, IsLabelled, IsCleared, KeepsReads, zero_words, generation, generation_at, leads, leader}
use Rattle.mirror_image.specs.Pairing.{IsLed, ArePaired, ArePairedFrom, IsJustFenced}
use Rattle.mirror_image.specs.Paired.{LeaderFits, LeaderTooHigh, ShowsLeader}
use Rattle.mirror_image.specs.Safe.{IsSafe, HasLabel}
use Rattle.mirror_image.proofs.Reading.{read_numbered, read_shown, read_from}
use Rattle.mirror_image.proofs.Within.{fence_within, from_some}
use Rattle.mirror_image.proofs.Exits.{some_is, top_marked}
use Rattle.mirror_image.proofs.Pushed.{own_label, above_marked}
use Rattle.mirror_image.proofs.Writes.{both_did, sound_both_did}
use Rattle.mirror_image.proofs.Stages.{label_did as has_label_did, label_marked as has_label_marked}
use Rattle.mirror_image.proofs.Safety.{includes_both, includes_alike}

-- what reads as the first half reads as the mirror
alike_joint : (ahead : ℕ) (z n : ℕ) (p o q : Option Trace) → ReadsAlike z p o → ReadsAlike z p (joint ahead z Both n o q)
alike_joint ahead z n p None q alike x y is_x is_y l lt = cc
alike_joint ahead z n p (Some h) None alike x y is_x is_y l lt = cc
alike_joint ahead z n p (Some h) (Some k) alike x y is_x is_y l lt =
    alike x h is_x refl l lt
    ∙ sym (read_numbered ahead l (get_or (take z h.first) l []) (shown z h.done)
    ∙ read_shown z l (get_or (take z h.first) l []) h.done lt
    ∙ ap (λ (first : List ℕ). read_from first h.done l) (get_or-take z h.first l [] lt))
    ∙ ap (λ (t : Trace). newest (versions t l)) (some_is is_y)

alike_fence : (z at : ℕ) (p t : Option Trace) → ReadsAlike z p t → LeavesAlike z (did Fenced at p) t
alike_fence z at None t alike x y is_x is_y l lt = cc
alike_fence z at (Some p) None alike x y is_x is_y l lt = cc
alike_fence z at (Some p) (Some t) alike x y is_x is_y l lt =
    subst (λ (h : Trace). Within (versions h l) (versions y l)) (some_is is_x)
    (subst (λ (h : Trace). Within (versions_after Fenced l (versions p l)) (versions h l)) (some_is is_y)
    (fence_within l (versions p l) (versions t l) (from_some (get_or t.first l []) t.done l) (alike p t refl refl l lt)))

-- nothing was done since it was marked
none_since : (z g fence : ℕ) (o : Option Trace) → IsLabelled z g fence o → (h : Trace) → o ≡ Some h → length (above z h.done) ≡ 0
none_since z g fence o labelled h is_h = none labelled.before (sym labelled.is ∙ is_h)
  where
    none : (before : Option Trace) → did Fenced fence (did (Wrote z (label_words g)) labelled.at before) ≡ Some h → length (above z h.done) ≡ 0
    none None is = cc
    none (Some p) is =
        sym (ap (λ (t : Trace). length (above z t.done)) (some_is is)) ∙ ap length (above_marked z labelled.at fence (label_words g) p.done)

top_labelled : (z g fence : ℕ) (o : Option Trace) → IsLabelled z g fence o → top_is_label z (done_in o) ≡ false
top_labelled z g fence o labelled = rw labelled.is (top_marked z labelled.at fence (label_words g) labelled.before)

-- the number of its fence is that by which it was paired
ahead_labelled : (z g fence : ℕ) (o : Option Trace) → IsLabelled z g fence o → Tells o → ahead_by z Both o ≡ fence + 4
unfolding ahead_by
ahead_labelled z g fence o labelled tells =
    subst (λ (p : Option Trace). Tells p → ahead_by z Both p ≡ fence + 4) (sym labelled.is) (each labelled.before) tells
  where
    each : (before : Option Trace) → Tells (did Fenced fence (did (Wrote z (label_words g)) labelled.at before))
        → ahead_by z Both (did Fenced fence (did (Wrote z (label_words g)) labelled.at before)) ≡ fence + 4
    each None told = absurd told
    each (Some h) told = rw (own_label z (label_words g)) refl

-- a fence changes no read
unfenced_alike : (z f : ℕ) (p q : Option Trace) → ReadsAlike z (did Fenced f p) q → ReadsAlike z p q
unfenced_alike z f None q alike x y is_x is_y l lt = cc
unfenced_alike z f (Some h) q alike x y is_x is_y l lt =
    ap (λ (t : Trace). newest (versions t l)) (sym (some_is is_x)) ∙ alike _ y refl is_y l lt

abbrev By : ℕ → List Effect → Type 0
By n done = All (λ (e : Effect). e.at ≤ n) done

by_more : (n : ℕ) (e : Effect) (done : List Effect) → e.at ≤ n → By n done → By n (e ∷ done)
by_more n e done here rest zero d lt = here
by_more n e done here rest (suc i) d lt = rest i d (omega (arith, lt))

by_rest : (n : ℕ) (e : Effect) (done : List Effect) → By n (e ∷ done) → By n done
by_rest n e done all i d lt = all (suc i) d (omega (arith, lt))

shown_by : (z n : ℕ) (done : List Effect) → By n done → By n (shown z done)
shown_by z n [] all = all
shown_by z n (e ∷ done) all = by_test (is_label z e.done || fences_label z e.done done) (shown_by z n done (by_rest n e done all))
  where
    by_test : (b : Bool) → By n (shown z done) → By n (if b then shown z done else e ∷ shown z done)
    by_test true rest = rest
    by_test false rest = by_more n e (shown z done) (all 0 e (omega arith)) rest

numbered_by : (n k m : ℕ) (done : List Effect) → ((at : ℕ) → at ≤ n → min (at + k) most ≤ m) → By n done → By m (numbered k done)
numbered_by n k m [] up all = λ i d lt. absurd (omega (arith, lt))
numbered_by n k m (e ∷ done) up all =
    by_more m (record { at = min (e.at + k) most; done = e.done }) (numbered k done) (up e.at (all 0 e (omega arith)))
    (numbered_by n k m done up (by_rest n e done all))

pub so_far_both : (ahead : ℕ) (a : Told) (b : Told) → IsCounted a → By (calls_by ahead a.calls 0 0) (done_in (told_from ahead a b Both 0 0).trace)
so_far_both ahead a b counted = each a.trace b.trace counted.order
  where
    none : (n : ℕ) → By n []
    none n i d lt = absurd (omega (arith, lt))

    up : (at : ℕ) → at ≤ a.calls → min (at + ahead) most ≤ calls_by ahead a.calls 0 0
    up at le = omega (arith, le)

    each : (o p : Option Trace) → InOrder a.size a.calls o → By (calls_by ahead a.calls 0 0) (done_in (joint ahead (a.size - 1) Both a.calls o p))
    each None p order = none _
    each (Some h) None order = none _
    each (Some h) (Some k) order = numbered_by a.calls ahead _ (shown (a.size - 1) h.done) up (shown_by (a.size - 1) a.calls h.done order.so_far)

-- Both halves are marked, and read alike: they are one.
pub sound_paired : (a b : Told) (z g mark_a mark_b : ℕ) → z + 1 ≡ a.size → b.size ≡ a.size → IsCounted a
    → IsLabelled z g mark_a a.trace → IsLabelled z g mark_b b.trace → ReadsAlike z b.trace a.trace → (Tells b.trace → b.calls + 4 ≤ a.calls + (mark_b + 4))
    → IsSound a b Both true 0 0
sound_paired a b z g mark_a mark_b size sizes counted at_z at_z_b alike_z lag =
    let ahead = ahead_by (a.size - 1) Both b.trace in
    let z_is : z ≡ a.size - 1 = omega (arith, size) in
    let labelled_a : IsLabelled (a.size - 1) g mark_a a.trace = subst (λ (n : ℕ). IsLabelled n g mark_a a.trace) z_is at_z in
    let labelled_b : IsLabelled (a.size - 1) g mark_b b.trace = subst (λ (n : ℕ). IsLabelled n g mark_b b.trace) z_is at_z_b in
    let alike : ReadsAlike (a.size - 1) b.trace a.trace = subst (λ (n : ℕ). ReadsAlike n b.trace a.trace) z_is alike_z in
    let under : Option Trace = did (Wrote (a.size - 1) (label_words g)) labelled_b.at labelled_b.before in
    let reads : LeavesAlike (a.size - 1) (did Fenced mark_b under) (joint ahead (a.size - 1) Both a.calls a.trace b.trace) =
    alike_fence (a.size - 1) mark_b under _ (alike_joint ahead (a.size - 1) a.calls under a.trace b.trace
    (unfenced_alike (a.size - 1) mark_b under a.trace (subst (λ (p : Option Trace). ReadsAlike (a.size - 1) p a.trace) labelled_b.is alike))) in
    let both : BothLive ahead a b 0 0 = record {
      none_less = refl;
      none_extra = refl;
      lag = λ tells. subst (λ (n : ℕ). b.calls + 4 ≤ a.calls + n) (sym (ahead_labelled (a.size - 1) g mark_b b.trace labelled_b tells)) (lag tells);
      top_a = top_labelled (a.size - 1) g mark_a a.trace labelled_a;
      top_b = top_labelled (a.size - 1) g mark_b b.trace labelled_b;
      same = λ h k is_h is_k. none_since (a.size - 1) g mark_a a.trace labelled_a h is_h ∙ sym (none_since (a.size - 1) g mark_b b.trace labelled_b k is_k);
      reads = subst (λ (p : Option Trace). LeavesAlike (a.size - 1) p (joint ahead (a.size - 1) Both a.calls a.trace b.trace)) (sym labelled_b.is) reads;
    } in
    record {
      number = refl;
      some = omega (arith, size);
      sizes = sizes;
      few = omega arith;
      so_far = so_far_both ahead a b counted;
      both = λ e. both;
      first = λ e. cc;
      second = λ e. cc;
    }

-- where the one leads, or the other
pub is_led : (z g : ℕ) (l o l1 o1 l' o' : Told) → l.calls < 2 ^ 64 → o.calls < 2 ^ 64 → IsMarked z g l l1 → IsMarked z 0 o o1
    → l'.trace ≡ l1.trace → ReadsAlike z o'.trace l1.trace → IsLabelled z g o'.calls o'.trace
    → l'.calls ≡ min (l1.calls + z) most → o'.calls ≡ min (o1.calls + z + 3) most
    → IsLed z g l o l' o'
is_led z g l o l1 o1 l' o' fits_l fits_o marked zeroed same alike labelled l_calls o_calls = record {
  leader = same ∙ marked.trace ∙ ap (λ (n : ℕ). did Fenced n (did (Wrote z (label_words g)) (next_count l.calls) l.trace)) marked.calls;
  labelled = labelled;
  alike = subst (λ (p : Option Trace). ReadsAlike z o'.trace p) (sym same) alike;
  leader_calls = counts l.calls l1.calls l'.calls marked.calls l_calls;
  other_calls = counts_other o.calls o1.calls o'.calls zeroed.calls o_calls;
}
  where
    counts : (l m n : ℕ) → m ≡ next_count (next_count l) → n ≡ min (m + z) most → n ≡ min (l + z + 2) most
    counts l m n m_is n_is = omega (arith, m_is, n_is)

    counts_other : (l m n : ℕ) → m ≡ next_count (next_count l) → n ≡ min (m + z + 3) most → n ≡ min (l + z + 5) most
    counts_other l m n m_is n_is = omega (arith, m_is, n_is)

pub paired_first : (z g : ℕ) (a b a' b' : Told) → IsLed z g a b a' b' → ArePaired z g true a b a' b'
paired_first z g a b a' b' led = record {
  mark_a = next_count (next_count a.calls);
  labelled_a = record { before = a.trace; at = next_count a.calls; is = led.leader };
  mark_b = b'.calls;
  labelled_b = led.labelled;
  alike = led.alike;
  leads_first = λ e. led.leader;
  leads_second = λ e. cc;
  low = omega (arith, led.leader_calls);
  high = omega arith;
}

pub paired_second : (z g : ℕ) (a b a' b' : Told) → IsLed z g b a b' a' → ArePaired z g false a b a' b'
paired_second z g a b a' b' led = record {
  mark_a = a'.calls;
  labelled_a = led.labelled;
  mark_b = next_count (next_count b.calls);
  labelled_b = record { before = b.trace; at = next_count b.calls; is = led.leader };
  alike = λ x y is_x is_y l lt. sym (led.alike y x is_y is_x l lt);
  leads_first = λ e. cc;
  leads_second = λ e. led.leader;
  low = omega (arith, led.other_calls);
  high = omega (arith, led.leader_calls);
}

keeps_label : (z at : ℕ) (words : List ℕ) (o : Option Trace) → KeepsReads z o (did (Wrote z words) at o)
keeps_label z at words None h is = cc
keeps_label z at words (Some p) h is = (_, (refl, λ l lt. apart l lt ∙ ap (λ (t : Trace). newest (versions t l)) (some_is is)))
  where
    apart : (l : ℕ) → l < z → newest (versions_after (Wrote z words) l (versions p l)) ≡ newest (versions p l)
    apart l lt = let test : nat_eq z l ≡ false = grind (arith, nat_tests) in rw test refl

keeps_fence : (z at : ℕ) (o : Option Trace) → KeepsReads z o (did Fenced at o)
keeps_fence z at None h is = cc
keeps_fence z at (Some p) h is = (_, (refl, λ l lt. ap (λ (t : Trace). newest (versions t l)) (some_is is)))

keeps_then : (z : ℕ) (o p q : Option Trace) → KeepsReads z o p → KeepsReads z p q → KeepsReads z o q
keeps_then z o p q one two h is =
    let k = one h is in
    let t = two k.0 k.1.0 in
    (t.0, (t.1.0, λ l lt. t.1.1 l lt ∙ k.1.1 l lt))

keeps_marked : (z at fence : ℕ) (words : List ℕ) (o : Option Trace) → KeepsReads z o (did Fenced fence (did (Wrote z words) at o))
keeps_marked z at fence words o = keeps_then z o _ _ (keeps_label z at words o) (keeps_fence z fence (did (Wrote z words) at o))

keeps_cleared : (z : ℕ) (label : Option ℕ) (old new : Told) → IsCleared z label old new → KeepsReads z old.trace new.trace
keeps_cleared z (Some g) old new cleared = subst (λ (t : Told). KeepsReads z old.trace t.trace) (sym cleared) (λ h is. (h, (is, λ l lt. refl)))
keeps_cleared z None old new cleared = subst (λ (p : Option Trace). KeepsReads z old.trace p) (sym cleared.1) (keeps_marked z (next_count old.calls) new.calls zero_words old.trace)

lag_is : (a2 b2 z mark : ℕ) → b2 < 2 ^ 64 → min (z + 2) most ≤ a2 → b2 ≤ mark + z → b2 + 4 ≤ a2 + (mark + 4)
lag_is a2 b2 z mark fits low high = omega (arith, fits, low, high)

module _ (z g : ℕ) (first_leads : Bool) (first second : Option ℕ) (a b a1 b1 a2 b2 a3 b3 : Told)
    (size : z + 1 ≡ a.size) (sizes : z + 1 ≡ b.size)
    (counted_a2 : IsCounted a2) (counted_b2 : IsCounted b2)
    (cleared_a : IsCleared z first a a1) (cleared_b : IsCleared z second b b1)
    (paired : ArePaired z g first_leads a1 b1 a2 b2)
    (size_a1 : a1.size ≡ a.size) (size_b1 : b1.size ≡ b.size) (size_a2 : a2.size ≡ a1.size) (size_b2 : b2.size ≡ b1.size)
    (size_a3 : a3.size ≡ a2.size) (size_b3 : b3.size ≡ b2.size)
    (calls_a : a3.calls ≡ next_count a2.calls) (calls_b : b3.calls ≡ next_count b2.calls)
    (fenced_a : a3.trace ≡ did Fenced a3.calls a2.trace) (fenced_b : b3.trace ≡ did Fenced b3.calls b2.trace) where
  sound_marked : IsSound a2 b2 Both true 0 0
  sound_marked = sound_paired a2 b2 z g paired.mark_a paired.mark_b (size ∙ sym (size_a2 ∙ size_a1)) (size_b2 ∙ size_b1 ∙ sym sizes ∙ size ∙ sym (size_a2 ∙ size_a1))
      counted_a2 paired.labelled_a paired.labelled_b paired.alike
      (λ tells. lag_is a2.calls b2.calls z paired.mark_b counted_b2.fits paired.low paired.high)

  sound_after : IsSoundBy (ahead_by (a2.size - 1) Both b2.trace) a3 b3 Both true 0 0
  sound_after = sound_both_did (ahead_by (a2.size - 1) Both b2.trace) a2 b2 a3 b3 Both true 0 0 Fenced refl refl sound_marked counted_a2 counted_b2 refl
      size_a3 calls_a fenced_a size_b3 calls_b fenced_b

  sound_fenced : IsSound a3 b3 Both true 0 0
  sound_fenced = subst (λ (n : ℕ). IsSoundBy n a3 b3 Both true 0 0) sound_after.number sound_after

  has_label : (half after : Told) (fence : ℕ) → IsLabelled z g fence half.trace → after.trace ≡ did Fenced after.calls half.trace → HasLabel (a3.size - 1) (g + 1 - 1) after.trace
  has_label half after fence labelled fenced =
      let z_is : z ≡ a3.size - 1 = omega (arith, size, size_a1, size_a2, size_a3) in
      let g_is : g ≡ g + 1 - 1 = omega arith in
      subst (λ (n : ℕ). HasLabel n (g + 1 - 1) after.trace) z_is (subst (λ (n : ℕ). HasLabel z n after.trace) g_is
      (subst (HasLabel z g) (sym fenced) (has_label_did z g after.calls Fenced half.trace refl
      (subst (HasLabel z g) (sym labelled.is) (has_label_marked z g labelled.at fence labelled.before)))))

  safe_fenced : IsSafe (a3.size - 1) (g + 1) Both true a3.trace b3.trace (told_by a3 b3 Both 0 0).trace
  safe_fenced = record {
    some = omega arith;
    labels = λ e. record { first = has_label a2 a3 paired.mark_a paired.labelled_a fenced_a; second = has_label b2 b3 paired.mark_b paired.labelled_b fenced_b };
    first = λ e. includes_both (ahead_by (a3.size - 1) Both b3.trace) (a3.size - 1) a3.calls a3.trace b3.trace;
    second = λ e. includes_alike (a3.size - 1) b3.trace _ (sound_fenced.both refl).reads;
  }

  pub paired_from : ArePairedFrom z g first_leads a b a3 b3
  paired_from = record {
    sound = sound_fenced;
    safe = safe_fenced;
    alike = rw (fenced_a, fenced_b) (both_fenced a2.trace b2.trace paired.alike);
    leads_first = λ e. subst (λ (p : Option Trace). KeepsReads z a.trace p) (sym fenced_a)
        (keeps_then z a.trace a2.trace _ (keeps_then z a.trace a1.trace a2.trace (keeps_cleared z first a a1 cleared_a)
        (subst (λ (p : Option Trace). KeepsReads z a1.trace p) (sym (paired.leads_first e)) (keeps_marked z (next_count a1.calls) (next_count (next_count a1.calls)) (label_words g) a1.trace)))
        (keeps_fence z a3.calls a2.trace));
    leads_second = λ e. subst (λ (p : Option Trace). KeepsReads z b.trace p) (sym fenced_b)
        (keeps_then z b.trace b2.trace _ (keeps_then z b.trace b1.trace b2.trace (keeps_cleared z second b b1 cleared_b)
        (subst (λ (p : Option Trace). KeepsReads z b1.trace p) (sym (paired.leads_second e)) (keeps_marked z (next_count b1.calls) (next_count (next_count b1.calls)) (label_words g) b1.trace)))
        (keeps_fence z b3.calls b2.trace));
    fenced_a = record { before = a2.trace; at = a3.calls; is = fenced_a };
    fenced_b = record { before = b2.trace; at = b3.calls; is = fenced_b };
    fenced = record {
      before = _;
      at = _;
      is = ap (λ (n : ℕ). joint n (a3.size - 1) Both a3.calls a3.trace b3.trace) (sym sound_after.number)
          ∙ both_did (ahead_by (a2.size - 1) Both b2.trace) a2 b2 a3 b3 Both true 0 0 b3.calls Fenced refl refl sound_marked refl size_a3 fenced_a (inl fenced_b);
    };
  }
    where
      both_fenced : (o p : Option Trace) → ReadsAlike z p o → ReadsAlike z (did Fenced b3.calls p) (did Fenced a3.calls o)
      both_fenced None p alike x y is_x is_y l lt = cc
      both_fenced (Some h) None alike x y is_x is_y l lt = cc
      both_fenced (Some h) (Some k) alike x y is_x is_y l lt =
          sym (ap (λ (t : Trace). newest (versions t l)) (some_is is_x)) ∙ alike k h refl refl l lt ∙ ap (λ (t : Trace). newest (versions t l)) (some_is is_y)

-- what a read of the labels says of the generations
label_is : (z : ℕ) (label : Option ℕ) (h : Trace) (o : Option Trace) → IsLabel z label o → o ≡ Some h → generation_at z h ≡ generation label
label_is z label h o is_label is = ap generation (sym (is_label h is))

pub leader_fits : (z : ℕ) (first second : Option ℕ) (o p : Option Trace) → IsLabel z first o → IsLabel z second p
    → max (generation first) (generation second) ≤ 2 ^ 64 - 4 → LeaderFits z o p
leader_fits z first second o p is_first is_second fits h k is_h is_k =
    omega (arith, fits, label_is z first h o is_first is_h, label_is z second k p is_second is_k)

pub leader_high : (z : ℕ) (first second : Option ℕ) (o p : Option Trace) → IsLabel z first o → IsLabel z second p
    → 2 ^ 64 - 4 < max (generation first) (generation second) → LeaderTooHigh z o p
leader_high z first second o p is_first is_second high h k is_h is_k =
    omega (arith, high, label_is z first h o is_first is_h, label_is z second k p is_second is_k)

-- what the mirror shows is what the half that led did
pub shows_leader : (ahead : ℕ) (z n : ℕ) (first second : Option ℕ) (o p o' p' : Option Trace) → IsLabel z first o → IsLabel z second p
    → (leads first second ≡ true → KeepsReads z o o') → (leads first second ≡ false → KeepsReads z p p') → ReadsAlike z p' o'
    → ShowsLeader z o p (joint ahead z Both n o' p')
shows_leader ahead z n first second o p o' p' is_first is_second one two alike h k is_h is_k =
    by_test (leads first second) refl o' p' (λ e. one e h is_h) (λ e. two e k is_k) alike
  where
    joint_reads : (x y t : Trace) (l : ℕ) → l < z → joint ahead z Both n (Some x) (Some y) ≡ Some t → newest (versions t l) ≡ newest (versions x l)
    joint_reads x y t l lt is =
        sym (ap (λ (t : Trace). newest (versions t l)) (some_is is))
        ∙ (read_numbered ahead l (get_or (take z x.first) l []) (shown z x.done)
        ∙ read_shown z l (get_or (take z x.first) l []) x.done lt
        ∙ ap (λ (first : List ℕ). read_from first x.done l) (get_or-take z x.first l [] lt))

    leader_is : (b : Bool) → leads first second ≡ b → leader z h k ≡ (if b then h else k)
    leader_is b is =
        ap (λ (test : Bool). if test then h else k)
        (ap (λ (g : ℕ). nat_le g (generation_at z h)) (label_is z second k p is_second is_k)
        ∙ ap (λ (g : ℕ). nat_le (generation second) g) (label_is z first h o is_first is_h) ∙ is)

    by_test : (b : Bool) → leads first second ≡ b → (o' p' : Option Trace)
        → (leads first second ≡ true → (x : Trace) × ((o' ≡ Some x) × ((l : ℕ) → l < z → newest (versions x l) ≡ newest (versions h l))))
        → (leads first second ≡ false → (y : Trace) × ((p' ≡ Some y) × ((l : ℕ) → l < z → newest (versions y l) ≡ newest (versions k l))))
        → ReadsAlike z p' o' → ReadsAlike z (joint ahead z Both n o' p') (Some (leader z h k))
    by_test b is None p' one two alike t q is_t is_q l lt = cc
    by_test b is (Some x) None one two alike t q is_t is_q l lt = cc
    by_test true is (Some x) (Some y) one two alike t q is_t is_q l lt =
        let kept = one is in
        joint_reads x y t l lt is_t ∙ ap (λ (t : Trace). newest (versions t l)) (some_is kept.1.0) ∙ kept.1.1 l lt
        ∙ ap (λ (t : Trace). newest (versions t l)) (sym (leader_is true is) ∙ some_is is_q)
    by_test false is (Some x) (Some y) one two alike t q is_t is_q l lt =
        let kept = two is in
        joint_reads x y t l lt is_t ∙ sym (alike y x refl refl l lt) ∙ ap (λ (t : Trace). newest (versions t l)) (some_is kept.1.0) ∙ kept.1.1 l lt
        ∙ ap (λ (t : Trace). newest (versions t l)) (sym (leader_is false is) ∙ some_is is_q)

-- nothing is unfenced where the last that was done is a fence
pub all_fenced : (o : Option Trace) → IsJustFenced o → IsAllFenced o
all_fenced o fenced = rw fenced.is (each fenced.before)
  where
    each : (p : Option Trace) → IsAllFenced (did Fenced fenced.at p)
    each None = tt
    each (Some h) = λ l w v has. ⊎_elim (λ (is : v ≡ slice_index (newest (versions h l)) w). is) (λ (never : ⊥). absurd never) has
