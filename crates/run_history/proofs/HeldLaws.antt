-- Naming a further object changes no act.
use Rattle.std.proofs.Common.{◌≡◌, ℕ, zero, suc, ◌≤◌, ◌<◌, ◌-◌, List, [], ◌∷◌, ◌++◌, map, length, take, drop, refl, ap, sym}
use Rattle.std.proofs.Common.{◌∙◌, arith, length-drop, slice_index_or}
use Rattle.std.specs.Prelude.{All, slice_range, slice_get, Some, None}
use Rattle.std.specs.Option.{option_map}
use Rattle.std.proofs.lemmas.Option.{slice_get-get_or, slice_get_past}
use Rattle.std.proofs.lemmas.List.{take-append-le, drop-append-le}
use Rattle.std.proofs.lemmas.List.Elements.{All-head, All-map}
use Rattle.run_history.specs.declared.act.Op.{Op}
use Rattle.run_history.specs.declared.act.Op.TheVariants as op
use Rattle.run_history.specs.declared.acts.Held.{Held}
use Rattle.run_history.specs.declared.act.Act.{Act}
use Rattle.run_history.specs.Recorded.{Recorded, NamesRightly}
use Rattle.run_history.specs.HeldActs.{recorded, HasPart, IsPart}

-- a part of the front is the same in a longer list
range-append : (xs ys : List ℕ) (i j : ℕ) → i ≤ j → j ≤ length xs → slice_range (xs ++ ys) i j ≡ slice_range xs i j
range-append xs ys i j order within =
    let starts : i ≤ length xs = omega arith in
    ap (take (j - i)) (drop-append-le i xs ys starts)
    ∙ take-append-le (j - i) (drop i xs) ys (omega (arith, length-drop i xs))

All-tail : {X : Type 0} (P : X → Type 0) (x : X) (xs : List X) → All P (x ∷ xs) → All P xs
All-tail P x xs all = λ k d below. all (suc k) d (omega (arith, below))

pub recorded-append : (objects more : List ℕ) (taken : ℕ) (held : List Held) → taken ≤ length objects
    → All (IsPart taken) held → map (recorded (objects ++ more)) held ≡ map (recorded objects) held
recorded-append objects more taken [] within parts = refl
recorded-append objects more taken (h ∷ hs) within parts =
    let here = All-head (IsPart taken) h hs parts in
    let same = range-append objects more h.from h.to here.0 (omega (arith, here.1, within)) in
    ap (λ names. record { act = h.act; named = names } ∷ map (recorded (objects ++ more)) hs) same
    ∙ ap (λ acts. recorded objects h ∷ acts) (recorded-append objects more taken hs within (All-tail (IsPart taken) h hs parts))

abbrev acts_held : List ℕ → List Held → List Act
acts_held objects held = map (λ (r : Recorded). r.act) (map (recorded objects) held)

act_at-get : (objects : List ℕ) (held : List Held) (i : ℕ) → slice_get (acts_held objects held) i ≡ option_map (λ (h : Held). h.act) (slice_get held i)
act_at-get objects [] i = refl
act_at-get objects (h ∷ hs) zero = refl
act_at-get objects (h ∷ hs) (suc i) = act_at-get objects hs i

-- the act of a place is the one that is held there
pub act_at : (objects : List ℕ) (held : List Held) (i : ℕ) (h : Held) → i < length held → h ≡ slice_index_or held i h → Some h.act ≡ slice_get (acts_held objects held) i
act_at objects held i h within is =
    ap (λ (g : Held). Some g.act) is
    ∙ sym (ap (option_map (λ (g : Held). g.act)) (slice_get-get_or held i h within))
    ∙ sym (act_at-get objects held i)

-- past the end there is none
pub act_past : (objects : List ℕ) (held : List Held) (i : ℕ) → length held ≤ i → None ≡ slice_get (acts_held objects held) i
act_past objects held i past = sym (ap (option_map (λ (g : Held). g.act)) (slice_get_past held i past)) ∙ sym (act_at-get objects held i)

empty-range : (objects : List ℕ) (from to : ℕ) → from ≡ to → slice_range objects from to ≡ []
empty-range objects from to same =
    let none : to - from ≡ 0 = omega (arith, same) in
    ap (λ n. take n (drop from objects)) none

-- the part of an act that isn't a Joined act is empty
named-rightly : (objects : List ℕ) (o : Op) (from to : ℕ) → HasPart o from to → NamesRightly o (slice_range objects from to)
named-rightly objects op.Pause from to part = empty-range objects from to part
named-rightly objects (op.Alloc object shape n) from to part = empty-range objects from to part
named-rightly objects (op.Read place value) from to part = empty-range objects from to part
named-rightly objects (op.Stored place value) from to part = empty-range objects from to part
named-rightly objects (op.Length object n) from to part = empty-range objects from to part
named-rightly objects (op.Class object shape) from to part = empty-range objects from to part
named-rightly objects (op.Same same) from to part = empty-range objects from to part
named-rightly objects (op.Enter key) from to part = empty-range objects from to part
named-rightly objects (op.Exit key) from to part = empty-range objects from to part
named-rightly objects (op.Start object child) from to part = empty-range objects from to part
named-rightly objects (op.Join object) from to part = empty-range objects from to part
named-rightly objects (op.Init class is) from to part = empty-range objects from to part
named-rightly objects (op.Print bytes) from to part = empty-range objects from to part
named-rightly objects (op.Throw object class) from to part = empty-range objects from to part
named-rightly objects op.Begin from to part = empty-range objects from to part
named-rightly objects op.End from to part = empty-range objects from to part
named-rightly objects (op.Ended uncaught) from to part = empty-range objects from to part
named-rightly objects (op.Asked place value) from to part = empty-range objects from to part
named-rightly objects op.Joined from to part = tt
named-rightly objects (op.Guarded place) from to part = empty-range objects from to part
named-rightly objects op.Closing from to part = empty-range objects from to part
named-rightly objects op.Fenced from to part = empty-range objects from to part

-- only Joined acts name objects
pub all-named-rightly : (objects : List ℕ) (taken : ℕ) (held : List Held) → All (IsPart taken) held
    → All (λ (r : Recorded). NamesRightly r.act.op r.named) (map (recorded objects) held)
all-named-rightly objects taken held parts =
    let Rightly : Recorded → Type 0 = λ (r : Recorded). NamesRightly r.act.op r.named in
    All-map Rightly (recorded objects) held (λ k d below.
    let part = parts k d below in
    let h = slice_index_or held k d in
    named-rightly objects h.act.op h.from h.to part.2)
