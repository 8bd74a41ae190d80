-- What a mirror tells where one more was done to a half.
use Rattle.std.proofs.Common.{◌≡◌, ◌<◌, ◌≤◌, suc, ◌+◌, ◌-◌, ℕ, List, [], ◌∷◌, ◌++◌, Bool, true, false, Option, Some, None, refl, ap, ◌∙◌, arith, length, drop, take, min, ◌&&◌}
use Rattle.std.proofs.lemmas.Bool.Decides.{nat_tests}
use Rattle.line_image.specs.Trace.{Trace, did}
use Rattle.line_image.specs.declared.effect.Effect.{Effect}
use Rattle.line_image.specs.declared.effect.Done.{Done}
use Rattle.line_image.specs.declared.effect.Done.TheVariants.{Wrote, Fenced}
use Rattle.mirror_image.specs.declared.halves.Left.{Left}
use Rattle.mirror_image.specs.declared.halves.Left.TheVariants.{Both, First, Second}
use Rattle.mirror_image.specs.Joint.{is_label, top_is_label, fences_label, shown, above, below, label_at, most, numbered, joint, ahead_by}
use Rattle.mirror_image.specs.Sound.{done_in, Tells, SameMade, Settled}

pub effect_of : ℕ → Done → Effect
effect_of at deed = record { at = at; done = deed }

pub not_label : (z l : ℕ) (words : List ℕ) → l < z → is_label z (Wrote l words) ≡ false
not_label z l words lt = grind (arith, nat_tests)

pub own_label : (z : ℕ) (words : List ℕ) → is_label z (Wrote z words) ≡ true
own_label z words = grind (arith, nat_tests)

and_false : (x : Bool) → (x && false) ≡ false
and_false true = refl
and_false false = refl

pub no_label_fence : (z : ℕ) (d : Done) (done : List Effect) → top_is_label z done ≡ false → fences_label z d done ≡ false
no_label_fence z (Wrote l w) done top = refl
no_label_fence z Fenced done top = top

pub shown_pushed : (z : ℕ) (e : Effect) (done : List Effect) → is_label z e.done ≡ false → top_is_label z done ≡ false → shown z (e ∷ done) ≡ e ∷ shown z done
shown_pushed z e done apart top = rw (apart, no_label_fence z e.done done top) refl

pub above_pushed : (z : ℕ) (e : Effect) (done : List Effect) → top_is_label z done ≡ false → above z (e ∷ done) ≡ e ∷ above z done
above_pushed z e done top = rw (no_label_fence z e.done done top) refl

pub below_pushed : (z : ℕ) (e : Effect) (done : List Effect) → top_is_label z done ≡ false → below z (e ∷ done) ≡ below z done
below_pushed z e done top = rw (no_label_fence z e.done done top) refl

pub label_at_pushed : (z : ℕ) (e : Effect) (done : List Effect) → is_label z e.done ≡ false → label_at z (e ∷ done) ≡ label_at z done
label_at_pushed z e done apart = rw apart refl

-- effects, a label and its fence, the newest first
abbrev pub marked_on : ℕ → List ℕ → ℕ → ℕ → List Effect → List Effect
marked_on z words at fence done = record { at = fence; done = Fenced } ∷ record { at = at; done = Wrote z words } ∷ done

pub shown_label : (z at : ℕ) (words : List ℕ) (done : List Effect) → shown z (record { at = at; done = Wrote z words } ∷ done) ≡ shown z done
shown_label z at words done = rw (own_label z words) refl

pub shown_marked : (z at fence : ℕ) (words : List ℕ) (done : List Effect) → shown z (marked_on z words at fence done) ≡ shown z done
shown_marked z at fence words done = rw (own_label z words) refl

pub above_marked : (z at fence : ℕ) (words : List ℕ) (done : List Effect) → above z (marked_on z words at fence done) ≡ []
above_marked z at fence words done = rw (own_label z words) refl

pub below_marked : (z at fence : ℕ) (words : List ℕ) (done : List Effect) → below z (marked_on z words at fence done) ≡ done
below_marked z at fence words done = rw (own_label z words) refl

pub label_at_marked : (z at fence : ℕ) (words : List ℕ) (done : List Effect) → label_at z (marked_on z words at fence done) ≡ at
label_at_marked z at fence words done = rw (own_label z words) refl

-- What is done to the second half leaves the number of its pairing, but for a mark, behind which it is the same.
pub ahead_did : (z at : ℕ) (left : Left) (d : Done) (p : Option Trace) → top_is_label z (done_in p) ≡ false → ahead_by z left (did d at p) ≡ ahead_by z left p
unfolding ahead_by
ahead_did z at left d None top = refl
ahead_did z at Both d (Some k) top = rw (no_label_fence z d k.done top) refl
ahead_did z at First d (Some k) top = rw (no_label_fence z d k.done top) refl
ahead_did z at Second d (Some k) top = rw (no_label_fence z d k.done top) refl

pub ahead_wrote : (z at line : ℕ) (words : List ℕ) (left : Left) (p : Option Trace) → ahead_by z left (did (Wrote line words) at p) ≡ ahead_by z left p
unfolding ahead_by
ahead_wrote z at line words left None = refl
ahead_wrote z at line words Both (Some k) = refl
ahead_wrote z at line words First (Some k) = refl
ahead_wrote z at line words Second (Some k) = refl

pub ahead_marked : (z at fence : ℕ) (words : List ℕ) (p : Option Trace) → ahead_by z Second (did Fenced fence (did (Wrote z words) at p)) ≡ ahead_by z Both p
unfolding ahead_by
ahead_marked z at fence words None = refl
ahead_marked z at fence words (Some k) = rw (own_label z words) refl

pub ahead_first : (z : ℕ) (p : Option Trace) → ahead_by z First p ≡ ahead_by z Both p
unfolding ahead_by
ahead_first z None = refl
ahead_first z (Some k) = refl

pub four_ahead : (z : ℕ) (left : Left) (p : Option Trace) → 4 ≤ ahead_by z left p
unfolding ahead_by
four_ahead z left p = omega arith

pub tells_did : (at : ℕ) (d : Done) (p : Option Trace) → Tells (did d at p) → Tells p
tells_did at d None tells = tells
tells_did at d (Some k) tells = tt

pub told_did : (at : ℕ) (d : Done) (p : Option Trace) (h : Trace) → did d at p ≡ Some h → Tells p
told_did at d None h is = cc
told_did at d (Some k) h is = tt

pub told_marked : (at fence z : ℕ) (words : List ℕ) (p : Option Trace) (h : Trace) → did Fenced fence (did (Wrote z words) at p) ≡ Some h → Tells p
told_marked at fence z words p h is = tells_did at (Wrote z words) p (told_did fence Fenced (did (Wrote z words) at p) h is)

-- the number of what isn't told doesn't matter
pub did_at : (d : Done) (n m : ℕ) (o : Option Trace) → (Tells o → n ≡ m) → did d n o ≡ did d m o
did_at d n m None is = refl
did_at d n m (Some h) is = ap (λ (n : ℕ). did d n (Some h)) (is tt)

pub joint_tells : (ahead : ℕ) (z n : ℕ) (left : Left) (o p : Option Trace) → Tells (joint ahead z left n o p) → Tells p
joint_tells ahead z n left None p tells = absurd tells
joint_tells ahead z n left (Some h) None tells = tells
joint_tells ahead z n left (Some h) (Some k) tells = tt

-- the first half goes on, beside the other
pub both_pushed : (ahead : ℕ) (z n m at : ℕ) (d : Done) (o p : Option Trace) → is_label z d ≡ false → top_is_label z (done_in o) ≡ false
    → joint ahead z Both n (did d at o) p ≡ did d (min (at + ahead) most) (joint ahead z Both m o p)
both_pushed ahead z n m at d None p apart top = refl
both_pushed ahead z n m at d (Some h) None apart top = refl
both_pushed ahead z n m at d (Some h) (Some k) apart top =
    ap (λ (done : List Effect). Some (record { first = take z h.first; done = numbered ahead done }))
    (shown_pushed z (record { at = at; done = d }) h.done apart top)

-- what the other does isn't seen
pub both_other : (ahead : ℕ) (z n m at : ℕ) (d : Done) (o p : Option Trace) → joint ahead z Both n o (did d at p) ≡ joint ahead z Both m o p
both_other ahead z n m at d None p = refl
both_other ahead z n m at d (Some h) None = refl
both_other ahead z n m at d (Some h) (Some k) = refl

pub both_same : (ahead : ℕ) (z n m : ℕ) (o p : Option Trace) → joint ahead z Both n o p ≡ joint ahead z Both m o p
both_same ahead z n m None p = refl
both_same ahead z n m (Some h) None = refl
both_same ahead z n m (Some h) (Some k) = refl

pub first_same : (ahead : ℕ) (z n m : ℕ) (o p : Option Trace) → joint ahead z First n o p ≡ joint ahead z First m o p
first_same ahead z n m None p = refl
first_same ahead z n m (Some h) None = refl
first_same ahead z n m (Some h) (Some k) = refl

-- a label that was written to the first half, and isn't fenced
pub both_labelled : (ahead : ℕ) (z n m at : ℕ) (words : List ℕ) (o p : Option Trace) → joint ahead z Both n (did (Wrote z words) at o) p ≡ joint ahead z Both m o p
both_labelled ahead z n m at words None p = refl
both_labelled ahead z n m at words (Some h) None = refl
both_labelled ahead z n m at words (Some h) (Some k) =
    ap (λ (done : List Effect). Some (record { first = take z h.first; done = numbered ahead done })) (shown_label z at words h.done)

-- the first half is marked
pub first_marked : (ahead : ℕ) (z n m at fence : ℕ) (words : List ℕ) (o p : Option Trace)
    → joint ahead z First n (did Fenced fence (did (Wrote z words) at o)) p ≡ joint ahead z Both m o p
first_marked ahead z n m at fence words None p = refl
first_marked ahead z n m at fence words (Some h) None = refl
first_marked ahead z n m at fence words (Some h) (Some k) = rw (own_label z words) refl

pub first_pushed : (ahead : ℕ) (z n m at : ℕ) (d : Done) (o p : Option Trace) → top_is_label z (done_in o) ≡ false
    → joint ahead z First n (did d at o) p ≡ did d (min (at + (ahead - 2)) most) (joint ahead z First m o p)
first_pushed ahead z n m at d None p top = refl
first_pushed ahead z n m at d (Some h) None top = refl
first_pushed ahead z n m at d (Some h) (Some k) top =
    rw (above_pushed z (record { at = at; done = d }) h.done top, below_pushed z (record { at = at; done = d }) h.done top) refl

-- The second half is marked: what it has made since is nothing.
pub second_marked : (ahead : ℕ) (z n m at fence : ℕ) (words : List ℕ) (o p : Option Trace)
    → joint ahead z Second n o (did Fenced fence (did (Wrote z words) at p)) ≡ joint ahead z Both m o p
second_marked ahead z n m at fence words None p = refl
second_marked ahead z n m at fence words (Some h) None = refl
second_marked ahead z n m at fence words (Some h) (Some k) =
    let none : min 0 (length (above z h.done) - length (above z k.done)) ≡ 0 = omega arith in
    rw (own_label z words) (ap (λ (i : ℕ). Some (record { first = take z h.first; done = numbered ahead (drop i (shown z h.done)) })) none)

-- the second half goes on
pub second_pushed : (ahead : ℕ) (z n at : ℕ) (d : Done) (o : Option Trace) (k : Trace) → is_label z d ≡ false → top_is_label z k.done ≡ false → Settled z o (Some k)
    → joint ahead z Second n o (did d at (Some k)) ≡ did d (min (at + (n + ahead - 2 - label_at z k.done)) most) (joint ahead z Second n o (Some k))
second_pushed ahead z n at d None k apart top settled = refl
second_pushed ahead z n at d (Some h) k apart top settled =
    ap (λ (x : List Effect × (List Effect × ℕ)). Some (record {
      first = take z h.first;
      done = numbered (n + ahead - 2 - x.1.1) x.0 ++ numbered ahead (drop (min (length x.0) (length (above z h.done) - length (above z x.1.0))) (shown z h.done));
    }))
    (trio (above_pushed z (record { at = at; done = d }) k.done top) (below_pushed z (record { at = at; done = d }) k.done top)
    (label_at_pushed z (record { at = at; done = d }) k.done apart))
    ∙ ap (λ (i : ℕ). Some (record {
      first = take z h.first;
      done = numbered (n + ahead - 2 - label_at z k.done) (record { at = at; done = d } ∷ above z k.done) ++ numbered ahead (drop i (shown z h.done));
    }))
    (more (length (above z k.done)) (length (above z h.done) - length (above z (below z k.done))) (settled h k refl refl))
  where
    trio : {xs ys us vs : List Effect} {m l : ℕ} → xs ≡ ys → us ≡ vs → m ≡ l → Path (List Effect × (List Effect × ℕ)) (xs, (us, m)) (ys, (vs, l))
    trio e f q = rw (e, f, q) refl

    more : (l x : ℕ) → x ≤ l → min (suc l) x ≡ min l x
    more l x le = omega (arith, le)

-- The first half has made it and failed; the second one was marked, and makes it again.
pub second_remade : (ahead : ℕ) (z n m at fence made again : ℕ) (words : List ℕ) (d : Done) (o p : Option Trace)
    → is_label z d ≡ false → top_is_label z (done_in o) ≡ false → SameMade z o p
    → joint ahead z Second n (did d made o) (did d again (did Fenced fence (did (Wrote z words) at p))) ≡ did d (min (again + (n + ahead - 2 - at)) most) (joint ahead z Both m o p)
second_remade ahead z n m at fence made again words d None p apart top same = refl
second_remade ahead z n m at fence made again words d (Some h) None apart top same = refl
second_remade ahead z n m at fence made again words d (Some h) (Some k) apart top same =
    let e : Effect = record { at = again; done = d } in
    let f : Effect = record { at = made; done = d } in
    let marked : List Effect = marked_on z words at fence k.done in
    all (above_pushed z e marked refl ∙ ap (λ (xs : List Effect). e ∷ xs) (above_marked z at fence words k.done))
    (below_pushed z e marked refl ∙ below_marked z at fence words k.done)
    (label_at_pushed z e marked apart ∙ label_at_marked z at fence words k.done)
    (shown_pushed z f h.done apart top) (above_pushed z f h.done top)
    ∙ ap (λ (i : ℕ). Some (record {
      first = take z h.first;
      done = record { at = min (again + (n + ahead - 2 - at)) most; done = d } ∷ numbered ahead (drop i (f ∷ shown z h.done));
    }))
    (one (length (above z h.done)) (length (above z k.done)) (same h k refl refl))
  where
    one : (x y : ℕ) → x ≡ y → min 1 (suc x - y) ≡ 1
    one x y e = omega (arith, e)

    all : {xs us ss ws : List Effect} {l : ℕ}
        → above z (record { at = again; done = d } ∷ marked_on z words at fence k.done) ≡ xs → below z (record { at = again; done = d } ∷ marked_on z words at fence k.done) ≡ us
        → label_at z (record { at = again; done = d } ∷ marked_on z words at fence k.done) ≡ l
        → shown z (record { at = made; done = d } ∷ h.done) ≡ ss → above z (record { at = made; done = d } ∷ h.done) ≡ ws
        → joint ahead z Second n (Some (record { first = h.first; done = record { at = made; done = d } ∷ h.done }))
        (Some (record { first = k.first; done = record { at = again; done = d } ∷ marked_on z words at fence k.done }))
        ≡ Some (record {
          first = take z h.first;
          done = numbered (n + ahead - 2 - l) xs ++ numbered ahead (drop (min (length xs) (length ws - length (above z us))) ss);
        })
    all e f q r s = five e f q r s
      where
        five : {xs xs' us us' ss ss' ws ws' : List Effect} {l l' : ℕ} → xs ≡ xs' → us ≡ us' → l ≡ l' → ss ≡ ss' → ws ≡ ws'
            → Path (Option Trace) (Some (record {
              first = take z h.first;
              done = numbered (n + ahead - 2 - l) xs ++ numbered ahead (drop (min (length xs) (length ws - length (above z us))) ss);
            }))
            (Some (record {
              first = take z h.first;
              done = numbered (n + ahead - 2 - l') xs' ++ numbered ahead (drop (min (length xs') (length ws' - length (above z us'))) ss');
            }))
        five e f q r s = rw (e, f, q, r, s) refl
