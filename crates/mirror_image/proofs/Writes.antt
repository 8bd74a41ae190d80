-- What holds of a mirror after a write or a fence.
use Rattle.std.proofs.Common.{◌≡◌, ◌⊎◌, inl, inr, ◌<◌, ◌≤◌, ◌+◌, ◌-◌, ◌^◌, ℕ, List, ◌∷◌, Bool, true, false, Option, Some, None, refl, ap, sym, subst, ◌∙◌, arith, length, min, Result, Ok, Err, OnErr, IfErr}
use Rattle.std.specs.Result.{is_err}
use Rattle.ap_base.specs.Causes.{next_count}
use Rattle.line_image.specs.Trace.{Trace, did, versions, versions_after}
use Rattle.line_image.specs.Told.{Told, IsCounted}
use Rattle.line_image.specs.declared.effect.Done.{Done}
use Rattle.line_image.specs.declared.effect.Done.TheVariants.{Wrote}
use Rattle.mirror_image.specs.declared.halves.Left.{Left}
use Rattle.mirror_image.specs.declared.halves.Left.TheVariants.{Both, First}
use Rattle.mirror_image.specs.Joint.{calls_by, joint, most, above, top_is_label, label_at, is_label, ahead_by}
use Rattle.mirror_image.specs.Sound.{Within, Tells, IsSoundBy, BothLive, FirstLives, LeavesAlike, SameMade, done_in}
use Rattle.mirror_image.proofs.Pushed.{ahead_did, ahead_wrote, tells_did, both_pushed, both_other, both_same, first_pushed, label_at_pushed, above_pushed}
use Rattle.mirror_image.proofs.Within.{within_after}
use Rattle.mirror_image.proofs.Steps.{sound_both, sound_first}
use Rattle.mirror_image.proofs.Exits.{four_of, live, live_first, some_is}

-- it was done, or nothing was
abbrev pub May : Done → ℕ → Option Trace → Option Trace → Type 0
May d at o p = (p ≡ did d at o) ⊎ (p ≡ o)

pub on_failed : {T E P : Type 0} (r : Result T E) → is_err r ≡ true → OnErr r P → P
on_failed (Ok x) is p = cc
on_failed (Err e) is p = p

pub top_did : (z at : ℕ) (d : Done) (o : Option Trace) → is_label z d ≡ false → top_is_label z (done_in (did d at o)) ≡ false
top_did z at d None apart = refl
top_did z at d (Some h) apart = apart

-- what the other half does isn't seen
pub both_may : (ahead : ℕ) (z n m at : ℕ) (d : Done) (o p q : Option Trace) → May d at p q → joint ahead z Both n o q ≡ joint ahead z Both m o p
both_may ahead z n m at d o p q (inl is) = ap (joint ahead z Both n o) is ∙ both_other ahead z n m at d o p
both_may ahead z n m at d o p q (inr is) = ap (joint ahead z Both n o) is ∙ both_same ahead z n m o p

pub alike_did : (z at k : ℕ) (d : Done) (p t : Option Trace) → LeavesAlike z p t → LeavesAlike z (did d at p) (did d k t)
alike_did z at k d None t alike x y is_x is_y l lt = cc
alike_did z at k d (Some p) None alike x y is_x is_y l lt = cc
alike_did z at k d (Some p) (Some t) alike x y is_x is_y l lt =
    subst (λ (h : Trace). Within (versions h l) (versions y l)) (some_is is_x)
    (subst (λ (h : Trace). Within (versions_after d l (versions p l)) (versions h l)) (some_is is_y)
    (within_after d l (versions p l) (versions t l) (alike p t refl refl l lt)))

same_did : (z at k : ℕ) (d : Done) (o p : Option Trace) → top_is_label z (done_in o) ≡ false → top_is_label z (done_in p) ≡ false
    → SameMade z o p → SameMade z (did d at o) (did d k p)
same_did z at k d None p top_o top_p same x y is_x is_y = cc
same_did z at k d (Some h) None top_o top_p same x y is_x is_y = cc
same_did z at k d (Some h) (Some g) top_o top_p same x y is_x is_y =
    let one : length (above z (record { at = at; done = d } ∷ h.done)) ≡ length (above z x.done) = ap (λ (t : Trace). length (above z t.done)) (some_is is_x) in
    let other : length (above z (record { at = k; done = d } ∷ g.done)) ≡ length (above z y.done) = ap (λ (t : Trace). length (above z t.done)) (some_is is_y) in
    let a1 = ap length (above_pushed z (record { at = at; done = d }) h.done top_o) in
    let a2 = ap length (above_pushed z (record { at = k; done = d }) g.done top_p) in
    omega (arith, one, other, a1, a2, same h g refl refl)

pub label_did : (z at : ℕ) (d : Done) (p : Option Trace) (h : Trace) → is_label z d ≡ false → did d at p ≡ Some h
    → (k : Trace) × ((p ≡ Some k) × (label_at z h.done ≡ label_at z k.done))
label_did z at d None h apart is = cc
label_did z at d (Some k) h apart is =
    (k, (refl, sym (ap (λ (x : Trace). label_at z x.done) (some_is is)) ∙ label_at_pushed z (record { at = at; done = d }) k.done apart))

-- what is done to the second half, but for a mark, leaves the number of its pairing
pub number_may : (z at : ℕ) (left : Left) (d : Done) (p q : Option Trace) → top_is_label z (done_in p) ≡ false → May d at p q → ahead_by z left q ≡ ahead_by z left p
number_may z at left d p q top (inl is) = ap (ahead_by z left) is ∙ ahead_did z at left d p top
number_may z at left d p q top (inr is) = ap (ahead_by z left) is

pub number_label : (z line at : ℕ) (words : List ℕ) (left : Left) (p q : Option Trace) → May (Wrote line words) at p q → ahead_by z left q ≡ ahead_by z left p
number_label z line at words left p q (inl is) = ap (ahead_by z left) is ∙ ahead_wrote z at line words left p
number_label z line at words left p q (inr is) = ap (ahead_by z left) is

pub calls_up : (ahead : ℕ) (a an less extra : ℕ) → a < 2 ^ 64 → an ≡ next_count a → calls_by ahead a less extra ≤ calls_by ahead an less extra
calls_up ahead a an less extra fits is = omega (arith, fits, is)

-- both halves made it
pub both_did : (ahead : ℕ) (a b a' b' : Told) (left : Left) (alive : Bool) (less extra at : ℕ) (d : Done)
    → left ≡ Both → alive ≡ true → IsSoundBy ahead a b left alive less extra → is_label (a.size - 1) d ≡ false
    → a'.size ≡ a.size → a'.trace ≡ did d a'.calls a.trace → May d at b.trace b'.trace
    → joint ahead (a'.size - 1) left a'.calls a'.trace b'.trace ≡ did d (calls_by ahead a'.calls less extra) (joint ahead (a.size - 1) left a.calls a.trace b.trace)
both_did ahead a b a' b' left alive less extra at d is lives sound apart size a_trace b_trace =
    let both = sound.both (live left alive is lives) in
    let number : min (a'.calls + ahead) most ≡ calls_by ahead a'.calls less extra = omega (arith, both.none_less, both.none_extra) in
    rw (size, is) (both_may ahead (a.size - 1) a'.calls a'.calls at d a'.trace b.trace b'.trace b_trace
    ∙ ap (λ (o : Option Trace). joint ahead (a.size - 1) Both a'.calls o b.trace) a_trace
    ∙ both_pushed ahead (a.size - 1) a'.calls a.calls a'.calls d a.trace b.trace apart both.top_a
    ∙ ap (λ (n : ℕ). did d n (joint ahead (a.size - 1) Both a.calls a.trace b.trace)) number)

pub sound_both_did : (ahead : ℕ) (a b a' b' : Told) (left : Left) (alive : Bool) (less extra : ℕ) (d : Done)
    → left ≡ Both → alive ≡ true → IsSoundBy ahead a b left alive less extra → IsCounted a → IsCounted b → is_label (a.size - 1) d ≡ false
    → a'.size ≡ a.size → a'.calls ≡ next_count a.calls → a'.trace ≡ did d a'.calls a.trace
    → b'.size ≡ b.size → b'.calls ≡ next_count b.calls → b'.trace ≡ did d b'.calls b.trace
    → IsSoundBy ahead a' b' left alive less extra
sound_both_did ahead a b a' b' left alive less extra d is lives sound counted_a counted_b apart size a_calls a_trace b_size b_calls b_trace =
    let both = sound.both (live left alive is lives) in
    let before : IsSoundBy ahead a b Both true less extra = subst (λ (x : Bool). IsSoundBy ahead a b Both x less extra) lives
    (subst (λ (x : Left). IsSoundBy ahead a b x alive less extra) is sound) in
    let t_is = both_did ahead a b a' b' Both true less extra b'.calls d refl refl before apart size a_trace (inl b_trace) in
    let number : ahead ≡ ahead_by (a'.size - 1) Both b'.trace = rw (size, b_trace) (before.number ∙ sym (ahead_did (a.size - 1) b'.calls Both d b.trace both.top_b)) in
    let now : BothLive ahead a' b' less extra = record {
      none_less = both.none_less;
      none_extra = both.none_extra;
      lag = λ tells. omega (arith, both.lag (tells_did b'.calls d b.trace (subst Tells b_trace tells)), a_calls, b_calls, counted_a.fits, counted_b.fits, four_of ahead a b Both true less extra before);
      top_a = rw (size, a_trace) (top_did (a.size - 1) a'.calls d a.trace apart);
      top_b = rw (size, b_trace) (top_did (a.size - 1) b'.calls d b.trace apart);
      same = rw (size, a_trace, b_trace) (same_did (a.size - 1) a'.calls b'.calls d a.trace b.trace both.top_a both.top_b both.same);
      reads = rw (t_is, size, b_trace) (alike_did (a.size - 1) b'.calls (calls_by ahead a'.calls less extra) d b.trace _ both.reads);
    } in
    rw (is, lives) (sound_both ahead a b a' b' less extra before number size b_size (calls_up ahead a.calls a'.calls less extra counted_a.fits a_calls)
    (inr (d, t_is)) now)

-- the first half alone
pub first_did : (ahead : ℕ) (a b a' : Told) (left : Left) (alive : Bool) (less extra : ℕ) (d : Done)
    → left ≡ First → alive ≡ true → IsSoundBy ahead a b left alive less extra
    → a'.size ≡ a.size → a'.trace ≡ did d a'.calls a.trace
    → joint ahead (a'.size - 1) left a'.calls a'.trace b.trace ≡ did d (calls_by ahead a'.calls less extra) (joint ahead (a.size - 1) left a.calls a.trace b.trace)
first_did ahead a b a' left alive less extra d is lives sound size a_trace =
    let first = sound.first (live_first left alive is lives) in
    let number : min (a'.calls + (ahead - 2)) most ≡ calls_by ahead a'.calls less extra = omega (arith, first.two_less, first.none_extra) in
    rw (size, is) (ap (λ (o : Option Trace). joint ahead (a.size - 1) First a'.calls o b.trace) a_trace
    ∙ first_pushed ahead (a.size - 1) a'.calls a.calls a'.calls d a.trace b.trace first.top
    ∙ ap (λ (n : ℕ). did d n (joint ahead (a.size - 1) First a.calls a.trace b.trace)) number)

pub sound_first_did : (ahead : ℕ) (a b a' : Told) (left : Left) (alive : Bool) (less extra : ℕ) (d : Done)
    → left ≡ First → alive ≡ true → IsSoundBy ahead a b left alive less extra → IsCounted a → is_label (a.size - 1) d ≡ false
    → a'.size ≡ a.size → a'.calls ≡ next_count a.calls → a'.trace ≡ did d a'.calls a.trace
    → IsSoundBy ahead a' b left alive less extra
sound_first_did ahead a b a' left alive less extra d is lives sound counted apart size calls a_trace =
    let first = sound.first (live_first left alive is lives) in
    let before : IsSoundBy ahead a b First true less extra = subst (λ (x : Bool). IsSoundBy ahead a b First x less extra) lives
    (subst (λ (x : Left). IsSoundBy ahead a b x alive less extra) is sound) in
    let t_is = first_did ahead a b a' First true less extra d refl refl before size a_trace in
    let now : FirstLives a' less extra = record {
      two_less = first.two_less;
      none_extra = first.none_extra;
      top = rw (size, a_trace) (top_did (a.size - 1) a'.calls d a.trace apart);
    } in
    rw (is, lives) (sound_first ahead a b a' b First less extra less extra before (rw size before.number) size refl
    (calls_up ahead a.calls a'.calls less extra counted.fits calls) (inr (d, t_is)) now)

pub failed_is : {T E : Type 0} {P : E → Type 0} (r : Result T E) → is_err r ≡ true → IfErr r P → (e : E) × P e
failed_is (Ok x) is p = cc
failed_is (Err e) is p = (e, p)
