-- What reads give of a mirror.
use Rattle.std.proofs.Common.{◌≡◌, ◌<◌, ◌-◌, ℕ, List, [], ◌∷◌, ◌++◌, Bool, true, false, nat_eq, Option, Some, None, refl, ap, sym, ◌∙◌, arith, drop, take, get_or, if◌then◌else◌, ◌==◌, ◌||◌}
use Rattle.std.proofs.lemmas.Bool.Decides.{nat_tests}
use Rattle.std.proofs.lemmas.List.{get_or-take}
use Rattle.line_image.specs.Trace.{Trace, Reads, newest, versions_from, versions_after}
use Rattle.line_image.specs.declared.effect.Effect.{Effect}
use Rattle.line_image.specs.declared.effect.Done.{Done}
use Rattle.line_image.specs.declared.effect.Done.TheVariants.{Wrote, Fenced}
use Rattle.mirror_image.specs.declared.halves.Left.TheVariants.{Both, First}
use Rattle.mirror_image.specs.Joint.{is_label, is_fence, top_is_label, fences_label, shown, above, below, numbered, joint}

-- what a read gives of line l after this, where it gave these words before
pub latest : Done → ℕ → List ℕ → List ℕ
latest (Wrote line words) l before = if line == l then words else before
latest Fenced l before = before

pub newest_after : (d : Done) (l : ℕ) (vs : List (List ℕ)) → newest (versions_after d l vs) ≡ latest d l (newest vs)
unfolding latest
newest_after (Wrote line words) l vs = by_test (line == l)
  where
    by_test : (b : Bool) → newest (if b then words ∷ vs else vs) ≡ (if b then words else newest vs)
    by_test true = refl
    by_test false = refl
newest_after Fenced l vs = refl

abbrev pub read_from : List ℕ → List Effect → ℕ → List ℕ
read_from first done l = newest (versions_from first done l)

pub read_label : (z l : ℕ) (d : Done) (before : List ℕ) → l < z → is_label z d ≡ true → latest d l before ≡ before
unfolding latest
read_label z l (Wrote line words) before lt is =
    let test : nat_eq line l ≡ false = grind (arith, nat_tests) in rw test refl
read_label z l Fenced before lt is = refl

pub read_fence : (l : ℕ) (d : Done) (before : List ℕ) → is_fence d ≡ true → latest d l before ≡ before
unfolding latest
read_fence l (Wrote line words) before is = cc
read_fence l Fenced before is = refl

pub read_numbered : (k l : ℕ) (first : List ℕ) (done : List Effect) → read_from first (numbered k done) l ≡ read_from first done l
read_numbered k l first [] = refl
read_numbered k l first (e ∷ done) =
    newest_after e.done l (versions_from first (numbered k done) l)
    ∙ ap (latest e.done l) (read_numbered k l first done)
    ∙ sym (newest_after e.done l (versions_from first done l))

pub read_next : (l : ℕ) (first : List ℕ) (e : Effect) (done : List Effect) → read_from first (e ∷ done) l ≡ latest e.done l (read_from first done l)
read_next l first e done = newest_after e.done l (versions_from first done l)

-- the first of some effects is a label or the fence of one: it changes no read of another line
hidden : (z l : ℕ) (d : Done) (done : List Effect) (before : List ℕ) → l < z → (is_label z d || fences_label z d done) ≡ true → latest d l before ≡ before
unfolding latest
hidden z l (Wrote line words) done before lt is =
    let test : nat_eq line l ≡ false = grind (arith, nat_tests) in rw test refl
hidden z l Fenced done before lt is = refl

pub read_shown : (z l : ℕ) (first : List ℕ) (done : List Effect) → l < z → read_from first (shown z done) l ≡ read_from first done l
read_shown z l first [] lt = refl
read_shown z l first (e ∷ done) lt = by_test (is_label z e.done || fences_label z e.done done) refl (read_shown z l first done lt)
  where
    by_test : (b : Bool) → (is_label z e.done || fences_label z e.done done) ≡ b → read_from first (shown z done) l ≡ read_from first done l
        → read_from first (if b then shown z done else e ∷ shown z done) l ≡ read_from first (e ∷ done) l
    by_test true is before = before ∙ sym (read_next l first e done ∙ hidden z l e.done done _ lt is)
    by_test false is before = read_next l first e (shown z done) ∙ ap (latest e.done l) before ∙ sym (read_next l first e done)

-- Above X, which reads as what is below the newest label, what is above it reads as all.
pub read_above : (z k l : ℕ) (first : List ℕ) (done rest : List Effect) → l < z → read_from first rest l ≡ read_from first (below z done) l
    → read_from first (numbered k (above z done) ++ rest) l ≡ read_from first done l
read_above z k l first [] rest lt same = same
read_above z k l first (e ∷ done) rest lt same = by_test (fences_label z e.done done) refl same (read_above z k l first done rest lt)
  where
    under : (done : List Effect) → top_is_label z done ≡ true → read_from first done l ≡ read_from first (drop 1 done) l
    under [] is = cc
    under (e ∷ done) is = read_next l first e done ∙ read_label z l e.done _ lt is

    both : (d : Done) (done : List Effect) → fences_label z d done ≡ true → (is_fence d ≡ true) × (top_is_label z done ≡ true)
    both (Wrote line words) done is = cc
    both Fenced done is = (refl, is)

    by_test : (b : Bool) → fences_label z e.done done ≡ b → read_from first rest l ≡ read_from first (if b then drop 1 done else below z done) l
        → (read_from first rest l ≡ read_from first (below z done) l → read_from first (numbered k (above z done) ++ rest) l ≡ read_from first done l)
        → read_from first (numbered k (if b then [] else e ∷ above z done) ++ rest) l ≡ read_from first (e ∷ done) l
    by_test true is same before =
        same ∙ sym (under done (both e.done done is).1) ∙ sym (read_next l first e done ∙ read_fence l e.done _ (both e.done done is).0)
    by_test false is same before =
        newest_after e.done l (versions_from first (numbered k (above z done) ++ rest) l)
        ∙ ap (latest e.done l) (before same)
        ∙ sym (read_next l first e done)

pub read_both : (ahead : ℕ) (z n l : ℕ) (words : List ℕ) (o p : Option Trace) → l < z → Reads o l words → Reads (joint ahead z Both n o p) l words
read_both ahead z n l words None p lt reads = tt
read_both ahead z n l words (Some h) None lt reads = tt
read_both ahead z n l words (Some h) (Some k) lt reads =
    let line = get_or-take z h.first l [] lt in
    reads ∙ sym (read_numbered ahead l (get_or (take z h.first) l []) (shown z h.done)
    ∙ read_shown z l (get_or (take z h.first) l []) h.done lt
    ∙ ap (λ (first : List ℕ). read_from first h.done l) line)

pub read_first : (ahead : ℕ) (z n l : ℕ) (words : List ℕ) (o p : Option Trace) → l < z → Reads o l words → Reads (joint ahead z First n o p) l words
read_first ahead z n l words None p lt reads = tt
read_first ahead z n l words (Some h) None lt reads = tt
read_first ahead z n l words (Some h) (Some k) lt reads =
    let line = get_or-take z h.first l [] lt in
    let first = get_or (take z h.first) l [] in
    let rest = numbered ahead (shown z (below z h.done)) in
    reads ∙ sym (read_above z (ahead - 2) l first h.done rest lt
    (read_numbered ahead l first (shown z (below z h.done)) ∙ read_shown z l first (below z h.done) lt)
    ∙ ap (λ (first : List ℕ). read_from first h.done l) line)
