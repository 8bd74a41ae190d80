-- What a stop leaves of the shown lines of the first half, it may leave of the mirror.
use Rattle.std.proofs.Common.{◌≡◌, inl, inr, ◌++◌, ◌-◌, drop, Option, Some, None, ⊎_elim, ◌<◌, ℕ, List, [], ◌∷◌, Bool, true, false, nat_eq, refl, ap, sym, subst, ◌∙◌, arith, length, take, get_or, slice_index, if◌then◌else◌, ◌==◌, ◌||◌}
use Rattle.std.proofs.lemmas.Bool.Decides.{nat_tests}
use Rattle.std.proofs.lemmas.List.{get_or-take}
use Rattle.line_image.specs.Trace.{Trace, newest, versions, versions_from, versions_after, OneHas, MayLeave}
use Rattle.line_image.specs.Told.{Told}
use Rattle.line_image.specs.declared.effect.Effect.{Effect}
use Rattle.line_image.specs.declared.effect.Done.{Done}
use Rattle.line_image.specs.declared.effect.Done.TheVariants.{Wrote, Fenced}
use Rattle.mirror_image.specs.declared.halves.Left.{Left}
use Rattle.mirror_image.specs.declared.halves.Left.TheVariants.{Both, First, Second}
use Rattle.mirror_image.specs.Joint.{is_label, top_is_label, fences_label, above, below, shown, numbered, joint, ahead_by}
use Rattle.mirror_image.specs.Sound.{LeavesAlike, IsSound, BothLive, SecondLives, both_used, second_used}
use Rattle.mirror_image.specs.Leaving.{uses_first, uses_second, BothTell, UsedLeave}
use Rattle.mirror_image.proofs.Within.{leaves_within}

-- each version of the one is one of the other, and the newest is the same
abbrev Within : List (List ℕ) → List (List ℕ) → Type 0
Within vs us = ((w v : ℕ) → OneHas vs w v → OneHas us w v) × (newest vs ≡ newest us)

newest_has : (us : List (List ℕ)) (w v : ℕ) → OneHas (newest us ∷ []) w v → (0 < length us) → OneHas us w v
newest_has [] w v has some = absurd (omega (arith, some))
newest_has (u ∷ us) w v (inl is) some = inl is
newest_has (u ∷ us) w v (inr never) some = absurd never

after_some : (d : Done) (l : ℕ) (vs : List (List ℕ)) → 0 < length vs → 0 < length (versions_after d l vs)
after_some (Wrote line words) l vs some = by_test (line == l)
  where
    by_test : (b : Bool) → 0 < length (if b then words ∷ vs else vs)
    by_test true = omega arith
    by_test false = some
after_some Fenced l vs some = omega arith

from_some : (first : List ℕ) (done : List Effect) (l : ℕ) → 0 < length (versions_from first done l)
from_some first [] l = omega arith
from_some first (e ∷ done) l = after_some e.done l (versions_from first done l) (from_some first done l)

within_after : (d : Done) (l : ℕ) (vs us : List (List ℕ)) → Within vs us → Within (versions_after d l vs) (versions_after d l us)
within_after (Wrote line words) l vs us within = by_test (line == l)
  where
    by_test : (b : Bool) → Within (if b then words ∷ vs else vs) (if b then words ∷ us else us)
    by_test true = (λ w v has. ⊎_elim (λ (is : v ≡ slice_index words w). inl is) (λ (rest : OneHas vs w v). inr (within.0 w v rest)) has, refl)
    by_test false = within
within_after Fenced l vs us within = (λ w v has. subst (λ (x : List ℕ). OneHas (x ∷ []) w v) within.1 has, within.1)

-- what isn't shown only takes versions away
hides : (z l : ℕ) (d : Done) (done : List Effect) (vs us : List (List ℕ)) → l < z → (is_label z d || fences_label z d done) ≡ true
    → 0 < length us → Within vs us → Within (versions_after d l vs) us
hides z l (Wrote line words) done vs us lt is some within =
    let test : nat_eq line l ≡ false = grind (arith, nat_tests) in rw test within
hides z l Fenced done vs us lt is some within =
    (λ w v has. newest_has us w v (subst (λ (x : List ℕ). OneHas (x ∷ []) w v) within.1 has) some, within.1)

within_shown : (z l : ℕ) (first : List ℕ) (done : List Effect) → l < z → Within (versions_from first done l) (versions_from first (shown z done) l)
within_shown z l first [] lt = (λ w v has. has, refl)
within_shown z l first (e ∷ done) lt = by_test (is_label z e.done || fences_label z e.done done) refl (within_shown z l first done lt)
  where
    by_test : (b : Bool) → (is_label z e.done || fences_label z e.done done) ≡ b → Within (versions_from first done l) (versions_from first (shown z done) l)
        → Within (versions_from first (e ∷ done) l) (versions_from first (if b then shown z done else e ∷ shown z done) l)
    by_test true is before = hides z l e.done done _ _ lt is (from_some first (shown z done) l) before
    by_test false is before = within_after e.done l _ _ before

numbered_same : (k l : ℕ) (first : List ℕ) (done : List Effect) → versions_from first (numbered k done) l ≡ versions_from first done l
numbered_same k l first [] = refl
numbered_same k l first (e ∷ done) = ap (versions_after e.done l) (numbered_same k l first done)

-- With both halves: what a stop leaves of the first one's shown lines, it may leave of the mirror.
pub first_leaves : (ahead : ℕ) (z n l w v : ℕ) (h k : Trace) → l < z → MayLeave (Some h) l w v → MayLeave (joint ahead z Both n (Some h) (Some k)) l w v
first_leaves ahead z n l w v h k lt left =
    let line = get_or-take z h.first l [] lt in
    subst (λ (vs : List (List ℕ)). OneHas vs w v)
    (sym (numbered_same ahead l (get_or (take z h.first) l []) (shown z h.done) ∙ ap (λ (first : List ℕ). versions_from first (shown z h.done) l) line))
    ((within_shown z l (get_or h.first l []) h.done lt).0 w v left)

-- With both halves, or with the second alone: what a stop leaves of the second one's shown lines, it may leave of the mirror.
pub second_leaves : (z l w v : ℕ) (h t : Trace) → LeavesAlike z (Some h) (Some t) → l < z → MayLeave (Some h) l w v → MayLeave (Some t) l w v
second_leaves z l w v h t alike lt left = leaves_within (versions h l) (versions t l) w v (alike h t refl refl l lt) left

-- Over versions that hold those below the newest label, what is above it holds all.
within_above : (z k l : ℕ) (first : List ℕ) (done rest : List Effect) → l < z → Within (versions_from first (below z done) l) (versions_from first rest l)
    → Within (versions_from first done l) (versions_from first (numbered k (above z done) ++ rest) l)
within_above z k l first [] rest lt same = same
within_above z k l first (e ∷ done) rest lt same = by_test (fences_label z e.done done) refl same (within_above z k l first done rest lt)
  where
    label_on : (d : Done) (x : Bool) → is_label z d ≡ true → (is_label z d || x) ≡ true
    label_on d x is = rw is refl

    fence_on : (x y : Bool) → y ≡ true → (x || y) ≡ true
    fence_on true y is = refl
    fence_on false y is = is

    top : (d : Done) (done : List Effect) → fences_label z d done ≡ true → top_is_label z done ≡ true
    top (Wrote line words) done is = cc
    top Fenced done is = is

    under : (done : List Effect) → top_is_label z done ≡ true → Within (versions_from first (drop 1 done) l) (versions_from first rest l)
        → Within (versions_from first done l) (versions_from first rest l)
    under [] is same = cc
    under (x ∷ done) is same = hides z l x.done done _ _ lt (label_on x.done (fences_label z x.done done) is) (from_some first rest l) same

    by_test : (b : Bool) → fences_label z e.done done ≡ b
        → Within (versions_from first (if b then drop 1 done else below z done) l) (versions_from first rest l)
        → (Within (versions_from first (below z done) l) (versions_from first rest l) → Within (versions_from first done l) (versions_from first (numbered k (above z done) ++ rest) l))
        → Within (versions_from first (e ∷ done) l) (versions_from first (numbered k (if b then [] else e ∷ above z done) ++ rest) l)
    by_test true is same before =
        hides z l e.done done _ _ lt (fence_on (is_label z e.done) (fences_label z e.done done) is) (from_some first rest l) (under done (top e.done done is) same)
    by_test false is same before = within_after e.done l _ _ (before same)

-- With the first half alone: what a stop leaves of its shown lines, it may leave of the mirror.
pub alone_leaves : (ahead : ℕ) (z n l w v : ℕ) (h k : Trace) → l < z → MayLeave (Some h) l w v → MayLeave (joint ahead z First n (Some h) (Some k)) l w v
alone_leaves ahead z n l w v h k lt left =
    let line = get_or-take z h.first l [] lt in
    let rest = numbered ahead (shown z (below z h.done)) in
    let same : Within (versions_from (get_or h.first l []) (below z h.done) l) (versions_from (get_or h.first l []) rest l) =
    subst (λ (vs : List (List ℕ)). Within (versions_from (get_or h.first l []) (below z h.done) l) vs)
    (sym (numbered_same ahead l (get_or h.first l []) (shown z (below z h.done)))) (within_shown z l (get_or h.first l []) (below z h.done) lt) in
    subst (λ (first : List ℕ). OneHas (versions_from first (numbered (ahead - 2) (above z h.done) ++ rest) l) w v) (sym line)
    ((within_above z (ahead - 2) l (get_or h.first l []) h.done rest lt same).0 w v left)

first_any : (ahead : ℕ) (z n l w v : ℕ) (left : Left) (alive : Bool) (o p : Option Trace) → uses_first left alive ≡ true → BothTell o p → l < z
    → MayLeave o l w v → MayLeave (joint ahead z left n o p) l w v
first_any ahead z n l w v left alive None p used tell lt has = absurd has
first_any ahead z n l w v left alive (Some h) None used tell lt has = absurd tell
first_any ahead z n l w v Both alive (Some h) (Some k) used tell lt has = first_leaves ahead z n l w v h k lt has
first_any ahead z n l w v First alive (Some h) (Some k) used tell lt has = alone_leaves ahead z n l w v h k lt has
first_any ahead z n l w v Second alive (Some h) (Some k) used tell lt has = cc

second_any : (ahead : ℕ) (z n l w v : ℕ) (left : Left) (o p : Option Trace) → BothTell o p → LeavesAlike z p (joint ahead z left n o p) → l < z
    → MayLeave p l w v → MayLeave (joint ahead z left n o p) l w v
second_any ahead z n l w v left None p tell alike lt has = absurd tell
second_any ahead z n l w v left (Some h) None tell alike lt has = absurd has
second_any ahead z n l w v left (Some h) (Some k) tell alike lt has = leaves_some (joint ahead z left n (Some h) (Some k)) refl alike
  where
    none : (left : Left) {A : Type 0} → joint ahead z left n (Some h) (Some k) ≡ None → A
    none Both is = cc
    none First is = cc
    none Second is = cc

    leaves_some : (t : Option Trace) → joint ahead z left n (Some h) (Some k) ≡ t → LeavesAlike z (Some k) t → MayLeave t l w v
    leaves_some None is alike = none left is
    leaves_some (Some t) is alike = second_leaves z l w v k t alike lt has

-- What a stop leaves of a half that is used, it may leave of the mirror.
pub used_leave : (a b : Told) (left : Left) (alive : Bool) (less extra : ℕ) → IsSound a b left alive less extra
    → UsedLeave a b left alive less extra
used_leave a b left alive less extra sound = record {
  first = λ used tell l w v lt has. first_any (ahead_by (a.size - 1) left b.trace) (a.size - 1) a.calls l w v left alive a.trace b.trace used tell lt has;
  second = λ used tell l w v lt has. second_any (ahead_by (a.size - 1) left b.trace) (a.size - 1) a.calls l w v left a.trace b.trace tell (alike left alive used sound.both sound.second) lt has;
}
  where
    alike : (x : Left) (y : Bool) → uses_second x y ≡ true → (both_used x y ≡ true → BothLive (ahead_by (a.size - 1) left b.trace) a b less extra) → (second_used x y ≡ true → SecondLives (ahead_by (a.size - 1) left b.trace) a b less extra)
        → LeavesAlike (a.size - 1) b.trace (joint (ahead_by (a.size - 1) left b.trace) (a.size - 1) x a.calls a.trace b.trace)
    alike Both y used both second = (both used).reads
    alike First y used both second = cc
    alike Second y used both second = (second used).reads
