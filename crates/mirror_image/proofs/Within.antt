-- Versions that lie within others.
use Rattle.std.proofs.Common.{◌≡◌, inl, inr, ◌<◌, ℕ, List, [], ◌∷◌, Bool, true, false, nat_eq, refl, subst, arith, length, slice_index, if◌then◌else◌, ◌==◌, ◌||◌}
use Rattle.std.proofs.lemmas.Bool.Decides.{nat_tests}
use Rattle.line_image.specs.Trace.{newest, versions_from, versions_after, OneHas}
use Rattle.line_image.specs.declared.effect.Effect.{Effect}
use Rattle.line_image.specs.declared.effect.Done.{Done}
use Rattle.line_image.specs.declared.effect.Done.TheVariants.{Wrote, Fenced}
use Rattle.mirror_image.specs.Sound.{one_has, Within}

after_some : (d : Done) (l : ℕ) (vs : List (List ℕ)) → 0 < length vs → 0 < length (versions_after d l vs)
after_some (Wrote line words) l vs some = by_test (line == l)
  where
    by_test : (b : Bool) → 0 < length (if b then words ∷ vs else vs)
    by_test true = omega arith
    by_test false = some
after_some Fenced l vs some = omega arith

pub from_some : (first : List ℕ) (done : List Effect) (l : ℕ) → 0 < length (versions_from first done l)
from_some first [] l = omega arith
from_some first (e ∷ done) l = after_some e.done l (versions_from first done l) (from_some first done l)

or_left : (x y : Bool) → x ≡ true → (x || y) ≡ true
or_left true y is = refl
or_left false y is = cc

pub or_mono : (x y z : Bool) → (y ≡ true → z ≡ true) → (x || y) ≡ true → (x || z) ≡ true
or_mono true y z up is = refl
or_mono false y z up is = up is

or_false : (x : Bool) → (x || false) ≡ true → x ≡ true
or_false true is = refl
or_false false is = cc

pub newest_has : (us : List (List ℕ)) (w v : ℕ) → 0 < length us → one_has (newest us ∷ []) w v ≡ true → one_has us w v ≡ true
newest_has [] w v some has = absurd (omega (arith, some))
newest_has (u ∷ us) w v some has = or_left (v == slice_index u w) (one_has us w v) (or_false (v == slice_index u w) has)

-- both make it
pub within_after : (d : Done) (l : ℕ) (vs us : List (List ℕ)) → Within vs us → Within (versions_after d l vs) (versions_after d l us)
within_after (Wrote line words) l vs us within = by_test (line == l)
  where
    by_test : (b : Bool) → Within (if b then words ∷ vs else vs) (if b then words ∷ us else us)
    by_test true = (refl, λ w v has. or_mono (v == slice_index words w) (one_has vs w v) (one_has us w v) (within.1 w v) has)
    by_test false = within
within_after Fenced l vs us within = (within.0, λ w v has. subst (λ (x : List ℕ). one_has (x ∷ []) w v ≡ true) within.0 has)

-- the one alone makes a fence
pub fence_within : (l : ℕ) (vs us : List (List ℕ)) → 0 < length us → newest vs ≡ newest us → Within (versions_after Fenced l vs) us
fence_within l vs us some same = (same, λ w v has. newest_has us w v some (subst (λ (x : List ℕ). one_has (x ∷ []) w v ≡ true) same has))

-- the one alone is marked
pub mark_within : (z l : ℕ) (words : List ℕ) (vs us : List (List ℕ)) → l < z → 0 < length us → Within vs us
    → Within (versions_after Fenced l (versions_after (Wrote z words) l vs)) us
mark_within z l words vs us lt some within =
    let test : nat_eq z l ≡ false = grind (arith, nat_tests) in
    rw test (fence_within l vs us some within.0)

pub has_one : (vs : List (List ℕ)) (w v : ℕ) → OneHas vs w v → one_has vs w v ≡ true
has_one [] w v has = absurd has
has_one (words ∷ rest) w v (inl is) =
    let test : nat_eq v (slice_index words w) ≡ true = grind (arith, nat_tests) in rw test refl
has_one (words ∷ rest) w v (inr has) = or_right (v == slice_index words w) (one_has rest w v) (has_one rest w v has)
  where
    or_right : (x y : Bool) → y ≡ true → (x || y) ≡ true
    or_right true y is = refl
    or_right false y is = is

pub one_has_is : (vs : List (List ℕ)) (w v : ℕ) → one_has vs w v ≡ true → OneHas vs w v
one_has_is [] w v is = cc
one_has_is (words ∷ rest) w v is = by_test (v == slice_index words w) refl is (one_has_is rest w v)
  where
    by_test : (b : Bool) → (v == slice_index words w) ≡ b → (b || one_has rest w v) ≡ true → (one_has rest w v ≡ true → OneHas rest w v) → OneHas (words ∷ rest) w v
    by_test true test is more = inl (grind (arith, nat_tests))
    by_test false test is more = inr (more is)

pub leaves_within : (vs us : List (List ℕ)) (w v : ℕ) → Within vs us → OneHas vs w v → OneHas us w v
leaves_within vs us w v within has = one_has_is us w v (within.1 w v (has_one vs w v has))
