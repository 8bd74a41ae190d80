-- What a call leaves of a mirror, for stops within it and behind it.
use Rattle.std.proofs.Common.{◌≡◌, inl, inr, ◌<◌, ◌≤◌, ◌+◌, ◌-◌, ◌^◌, ℕ, zero, suc, List, [], ◌∷◌, Bool, true, false, Option, Some, None, All, refl, ap, sym, subst, ◌∙◌, arith, min}
use Rattle.std.proofs.lemmas.Bool.Decides.{nat_tests}
use Rattle.ap_base.specs.Causes.{next_count}
use Rattle.line_image.specs.Trace.{Trace, did, versions, trace_within, made_within, is_made, MayLeave}
use Rattle.line_image.specs.Told.{Told}
use Rattle.line_image.specs.declared.effect.Effect.{Effect}
use Rattle.line_image.specs.declared.effect.Done.{Done}
use Rattle.line_image.specs.declared.effect.Done.TheVariants.{Wrote, Fenced}
use Rattle.mirror_image.specs.declared.halves.Left.{Left}
use Rattle.mirror_image.specs.declared.halves.Left.TheVariants.{Both, First, Second}
use Rattle.mirror_image.specs.Joint.{told_by, told_from, ahead_by, joint, calls_by, most}
use Rattle.mirror_image.specs.Sound.{IsSoundBy, IsSound, Tells, LeavesAlike, one_has}
use Rattle.mirror_image.specs.Leaving.{BothTell}
use Rattle.mirror_image.specs.Safe.{IsSafe, AreLabelled, HasLabel, Includes, is_labelled, first_label, second_label, shows_first, shows_second}
use Rattle.mirror_image.specs.Stops.{Made, without, PairingShows, StopsShow}
use Rattle.mirror_image.specs.Calls.{IsCall, IsSame, MayHave}
use Rattle.mirror_image.proofs.Within.{has_one, one_has_is}
use Rattle.mirror_image.proofs.Leaving.{first_leaves, alone_leaves}
use Rattle.mirror_image.proofs.Steps.{SoFar, Adds, sound_dead, never_both, never_first, never_second}
use Rattle.mirror_image.proofs.Exits.{some_is}
use Rattle.mirror_image.proofs.Stages.{StagesIn, StagesLabelled, both_show, first_show, second_show, stages_last, labelled_none}

-- what of a trace is within a call
is_made-before : (m at : ℕ) (done : Done) → at < m → is_made m at done ≡ true
is_made-before m at (Wrote line words) lt = grind (arith, nat_tests)
is_made-before m at Fenced lt = grind (arith, nat_tests)

all_made : (m calls : ℕ) (done : List Effect) → All (λ (effect : Effect). effect.at ≤ calls) done → calls < m → made_within m done ≡ done
all_made m calls [] so_far lt = refl
all_made m calls (effect ∷ done) so_far lt =
    let here : effect.at < m = omega (arith, lt, so_far 0 effect (omega arith)) in
    rw (is_made-before m effect.at effect.done here) refl

so_far_within : (m calls : ℕ) (o : Option Trace) → SoFar calls o → calls < m → trace_within m o ≡ o
so_far_within m calls None so_far lt = refl
so_far_within m calls (Some h) so_far lt = ap (λ (done : List Effect). Some (record h { done = done })) (all_made m calls h.done so_far lt)

within_write : (at line : ℕ) (words : List ℕ) (o : Option Trace) → trace_within at (did (Wrote line words) at o) ≡ did (Wrote line words) at o
within_write at line words None = refl
within_write at line words (Some h) = let made : is_made at at (Wrote line words) ≡ true = grind (arith, nat_tests) in rw made refl

within_fence : (at : ℕ) (o : Option Trace) → trace_within at (did Fenced at o) ≡ trace_within at o
within_fence at None = refl
within_fence at (Some h) = let unmade : is_made at at Fenced ≡ false = grind (arith, nat_tests) in rw unmade refl

-- within the call, this is told
abbrev pub Does : Told → Told → Option Trace → Type 0
Does told told' tn = told.calls < 2 ^ 64 - 1 → trace_within told'.calls told'.trace ≡ tn

pub does_same : (told told' : Told) → SoFar told.calls told.trace → told'.calls ≡ next_count told.calls → told'.trace ≡ told.trace → Does told told' told.trace
does_same told told' so_far counted same few =
    ap (trace_within told'.calls) same ∙ so_far_within told'.calls told.calls told.trace so_far (omega (arith, counted, few))

pub does_write : (told told' : Told) (line : ℕ) (words : List ℕ) → told'.trace ≡ did (Wrote line words) told'.calls told.trace
    → Does told told' (did (Wrote line words) told'.calls told.trace)
does_write told told' line words is few = ap (trace_within told'.calls) is ∙ within_write told'.calls line words told.trace

pub does_fence : (told told' : Told) → SoFar told.calls told.trace → told'.calls ≡ next_count told.calls → told'.trace ≡ did Fenced told'.calls told.trace
    → Does told told' told.trace
does_fence told told' so_far counted is few =
    ap (trace_within told'.calls) is ∙ within_fence told'.calls told.trace ∙ so_far_within told'.calls told.calls told.trace so_far (omega (arith, counted, few))

pub tells_joint : (ahead : ℕ) (z n : ℕ) (left : Left) (o p : Option Trace) → BothTell o p → Tells (joint ahead z left n o p)
tells_joint ahead z n left None p tell = absurd tell
tells_joint ahead z n left (Some h) None tell = absurd tell
tells_joint ahead z n left (Some h) (Some k) tell = tt

tells_within : (m : ℕ) (o : Option Trace) → Tells o → Tells (trace_within m o)
tells_within m None tells = tells
tells_within m (Some h) tells = tt

tells_without : (i j : ℕ) (o p : Option Trace) → BothTell (without i o) (without j p) → BothTell o p
tells_without i j None p tell = absurd tell
tells_without i j (Some h) None tell = absurd tell
tells_without i j (Some h) (Some k) tell = tt

pub stops_by : (ahead : ℕ) (z n : ℕ) (o p o' p' tn : Option Trace) (told told' : Told) (left : Left) → Does told told' tn → told'.trace ≡ joint ahead z left n o' p'
    → ((BothTell o' p' → Tells tn) → (i j : ℕ) → Made i o o' → Made j p p' → PairingShows z (without i o') (without j p') tn)
    → StopsShow z o p o' p' told told'
stops_by ahead z n o p o' p' tn told told' left does is shows few i j made_i made_j =
    subst (PairingShows z (without i o') (without j p')) (sym (does few))
    (shows (λ tell. subst Tells (does few) (tells_within told'.calls told'.trace (subst Tells (sym is) (tells_joint ahead z n left o' p' tell)))) i j made_i made_j)

-- nothing that both halves come to is ruled out
pub stops_both : (ahead : ℕ) (z n : ℕ) (o p o' p' tn : Option Trace) (told told' : Told) (left : Left) → Does told told' tn → told'.trace ≡ joint ahead z left n o' p'
    → StagesIn z o o' tn → StagesIn z p p' tn → StopsShow z o p o' p' told told'
stops_both ahead z n o p o' p' tn told told' left does is first second =
    stops_by ahead z n o p o' p' tn told told' left does is
    (λ tells i j made_i made_j. both_show z (without i o') (without j p') tn (λ tell. tells (tells_without i j o' p' tell)) (first.each i made_i) (second.each j made_j))

-- the first half alone
pub stops_first : (ahead : ℕ) (z next g n : ℕ) (o p o' p' tn : Option Trace) (told told' : Told) (left : Left) → Does told told' tn → told'.trace ≡ joint ahead z left n o' p'
    → g < next → StagesLabelled z next o o' → StagesLabelled z g p p' → StagesIn z o o' tn → StopsShow z o p o' p' told told'
stops_first ahead z next g n o p o' p' tn told told' left does is less label_o label_p first =
    stops_by ahead z n o p o' p' tn told told' left does is
    (λ tells i j made_i made_j. first_show z next g (without i o') (without j p') tn (λ tell. tells (tells_without i j o' p' tell)) less
    (label_o.each i made_i) (label_p.each j made_j) (first.each i made_i))

pub stops_second : (ahead : ℕ) (z next g n : ℕ) (o p o' p' tn : Option Trace) (told told' : Told) (left : Left) → Does told told' tn → told'.trace ≡ joint ahead z left n o' p'
    → g < next → StagesLabelled z g o o' → StagesLabelled z next p p' → StagesIn z p p' tn → StopsShow z o p o' p' told told'
stops_second ahead z next g n o p o' p' tn told told' left does is less label_o label_p second =
    stops_by ahead z n o p o' p' tn told told' left does is
    (λ tells i j made_i made_j. second_show z next g (without i o') (without j p') tn (λ tell. tells (tells_without i j o' p' tell)) less
    (label_o.each i made_i) (label_p.each j made_j) (second.each j made_j))

-- What a stop leaves of the first half it may leave of the mirror, by what is told.
pub includes_both : (ahead : ℕ) (z n : ℕ) (o p : Option Trace) → Includes z o (joint ahead z Both n o p)
includes_both ahead z n None p h k is_h is_k l w v lt has = cc
includes_both ahead z n (Some o) None h k is_h is_k l w v lt has = cc
includes_both ahead z n (Some o) (Some p) h k is_h is_k l w v lt has =
    has_one (versions k l) w v (subst (λ (t : Option Trace). MayLeave t l w v) is_k
    (first_leaves ahead z n l w v o p lt (one_has_is (versions o l) w v (subst (λ (x : Trace). one_has (versions x l) w v ≡ true) (sym (some_is is_h)) has))))

pub includes_first : (ahead : ℕ) (z n : ℕ) (o p : Option Trace) → Includes z o (joint ahead z First n o p)
includes_first ahead z n None p h k is_h is_k l w v lt has = cc
includes_first ahead z n (Some o) None h k is_h is_k l w v lt has = cc
includes_first ahead z n (Some o) (Some p) h k is_h is_k l w v lt has =
    has_one (versions k l) w v (subst (λ (t : Option Trace). MayLeave t l w v) is_k
    (alone_leaves ahead z n l w v o p lt (one_has_is (versions o l) w v (subst (λ (x : Trace). one_has (versions x l) w v ≡ true) (sym (some_is is_h)) has))))

pub includes_alike : (z : ℕ) (p t : Option Trace) → LeavesAlike z p t → Includes z p t
includes_alike z p t alike h k is_h is_k l w v lt has = (alike h k is_h is_k l lt).1 w v has

-- a call, by its ends, and what it did
pub record ExitBy (ahead : ℕ) (P : ℕ → Option Trace → Option Trace → Type 0) (next : ℕ) (a b : Told) (left : Left) (less extra : ℕ)
    (a' b' : Told) (left' : Left) (alive' : Bool) (less' extra' : ℕ) : Type 0 where
  pub sound : IsSoundBy ahead a' b' left' alive' less' extra'
  pub safe : IsSafe (a'.size - 1) next left' alive' a'.trace b'.trace (told_from ahead a' b' left' less' extra').trace
  pub call : IsCall P (a.size - 1) a.trace b.trace a'.trace b'.trace (told_from ahead a b left less extra) (told_from ahead a' b' left' less' extra')

pub weaker : (ahead : ℕ) (P Q : ℕ → Option Trace → Option Trace → Type 0) (next : ℕ) (a b : Told) (left : Left) (less extra : ℕ)
    (a' b' : Told) (left' : Left) (alive' : Bool) (less' extra' : ℕ)
    → ((n : ℕ) (o p : Option Trace) → P n o p → Q n o p)
    → ExitBy ahead P next a b left less extra a' b' left' alive' less' extra' → ExitBy ahead Q next a b left less extra a' b' left' alive' less' extra'
weaker ahead P Q next a b left less extra a' b' left' alive' less' extra' up e = record {
  sound = e.sound;
  safe = e.safe;
  call = record { size = e.call.size; counted = e.call.counted; tells = up _ _ _ e.call.tells; stops = e.call.stops };
}

pub may_have : {ahead : ℕ} {next : ℕ} {a b : Told} {left : Left} {less extra : ℕ} {a' b' : Told} {left' : Left} {alive' : Bool} {less' extra' : ℕ} (d : Done)
    → ExitBy ahead IsSame next a b left less extra a' b' left' alive' less' extra' → ExitBy ahead (MayHave d) next a b left less extra a' b' left' alive' less' extra'
may_have {ahead} {next} {a} {b} {left} {less} {extra} {a'} {b'} {left'} {alive'} {less'} {extra'} d e =
    weaker ahead IsSame (MayHave d) next a b left less extra a' b' left' alive' less' extra' (λ n o p same. inr same) e

-- the same by what the mirror tells, whose numbers are above those of its first half by what its second half tells
pub record Exit (P : ℕ → Option Trace → Option Trace → Type 0) (next : ℕ) (a b : Told) (left : Left) (less extra : ℕ)
    (a' b' : Told) (left' : Left) (alive' : Bool) (less' extra' : ℕ) : Type 0 where
  pub sound : IsSound a' b' left' alive' less' extra'
  pub safe : IsSafe (a'.size - 1) next left' alive' a'.trace b'.trace (told_by a' b' left' less' extra').trace
  pub call : IsCall P (a.size - 1) a.trace b.trace a'.trace b'.trace (told_by a b left less extra) (told_by a' b' left' less' extra')

pub exact : {P : ℕ → Option Trace → Option Trace → Type 0} {next : ℕ} {a b : Told} {left : Left} {less extra : ℕ}
    {a' b' : Told} {left' : Left} {alive' : Bool} {less' extra' : ℕ}
    → ExitBy (ahead_by (a.size - 1) left b.trace) P next a b left less extra a' b' left' alive' less' extra'
    → Exit P next a b left less extra a' b' left' alive' less' extra'
exact {P} {next} {a} {b} {left} {less} {extra} {a'} {b'} {left'} {alive'} {less'} {extra'} e =
    let number : ahead_by (a.size - 1) left b.trace ≡ ahead_by (a'.size - 1) left' b'.trace = e.sound.number in
    record {
      sound = subst (λ (n : ℕ). IsSoundBy n a' b' left' alive' less' extra') number e.sound;
      safe = subst (λ (n : ℕ). IsSafe (a'.size - 1) next left' alive' a'.trace b'.trace (told_from n a' b' left' less' extra').trace) number e.safe;
      call = subst (λ (n : ℕ). IsCall P (a.size - 1) a.trace b.trace a'.trace b'.trace (told_by a b left less extra) (told_from n a' b' left' less' extra')) number e.call;
    }

-- the number of a call is no less than that of the one before
pub calls_later : (ahead : ℕ) (a k less extra less' extra' : ℕ) → calls_by ahead k less' extra' ≡ next_count (calls_by ahead a less extra) → calls_by ahead a less extra ≤ calls_by ahead k less' extra'
calls_later ahead a k less extra less' extra' counted = later (calls_by ahead a less extra) (calls_by ahead k less' extra') (high a less extra) counted
  where
    high : (a less extra : ℕ) → calls_by ahead a less extra ≤ most
    high a less extra = omega arith

    later : (n k : ℕ) → n ≤ most → k ≡ next_count n → n ≤ k
    later n k le is = omega (arith, le, is)

-- a mirror may fail in any state
pub dimmed : (ahead : ℕ) (a b : Told) (left : Left) (less extra : ℕ) → IsSoundBy ahead a b left true less extra → (alive : Bool) → IsSoundBy ahead a b left alive less extra
dimmed ahead a b left less extra sound true = sound
dimmed ahead a b left less extra sound false = record {
  number = sound.number;
  some = sound.some;
  sizes = sound.sizes;
  few = sound.few;
  so_far = sound.so_far;
  both = never_both left;
  first = never_first left;
  second = never_second left;
}

lower : (next : ℕ) → 0 < next → next - 1 < next
lower next some = omega (arith, some)

same_joint : (ahead : ℕ) (z z' n : ℕ) (left : Left) (o p : Option Trace) → z' ≡ z → joint ahead z' left n o p ≡ joint ahead z left n o p
same_joint ahead z z' n left o p is = ap (λ (z : ℕ). joint ahead z left n o p) is

module _ (ahead : ℕ) (next : ℕ) (a b a' b' : Told) (left' : Left) (less extra less' extra' : ℕ) (tn : Option Trace)
    (safe : IsSafe (a.size - 1) next Both true a.trace b.trace (told_from ahead a b Both less extra).trace)
    (size : a'.size ≡ a.size) (P : ℕ → Option Trace → Option Trace → Type 0)
    (counted : calls_by ahead a'.calls less' extra' ≡ next_count (calls_by ahead a.calls less extra))
    (tells : P (calls_by ahead a'.calls less' extra') (told_from ahead a b Both less extra).trace (told_from ahead a' b' left' less' extra').trace)
    (does : Does (told_from ahead a b Both less extra) (told_from ahead a' b' left' less' extra') tn)
    (first : StagesIn (a.size - 1) a.trace a'.trace tn) (second : StagesIn (a.size - 1) b.trace b'.trace tn) where
  stops : StopsShow (a.size - 1) a.trace b.trace a'.trace b'.trace (told_from ahead a b Both less extra) (told_from ahead a' b' left' less' extra')
  stops = stops_both ahead (a.size - 1) a'.calls a.trace b.trace a'.trace b'.trace tn (told_from ahead a b Both less extra) (told_from ahead a' b' left' less' extra') left' does
      (same_joint ahead (a.size - 1) (a'.size - 1) a'.calls left' a'.trace b'.trace (ap (λ (n : ℕ). n - 1) size)) first second

  call : IsCall P (a.size - 1) a.trace b.trace a'.trace b'.trace (told_from ahead a b Both less extra) (told_from ahead a' b' left' less' extra')
  call = record { size = ap (λ (n : ℕ). n - 1) size; counted = counted; tells = tells; stops = stops }

  -- the mirror's last half failed in it
  pub both_dead : IsSoundBy ahead a b Both true less extra → ahead ≡ ahead_by (a'.size - 1) left' b'.trace → b'.size ≡ b.size → less' ≤ 2
      → Adds (calls_by ahead a'.calls less' extra') (told_from ahead a b Both less extra).trace tn
      → (told_from ahead a' b' left' less' extra').trace ≡ tn
      → (is_labelled left' false ≡ true → AreLabelled (a.size - 1) (first_label left' next) (second_label left' next) a'.trace b'.trace)
      → ExitBy ahead P next a b Both less extra a' b' left' false less' extra'
  both_dead sound number b_size few adds is labels = record {
    sound = sound_dead ahead a b a' b' Both left' true less extra less' extra' sound number size b_size few (calls_later ahead a.calls a'.calls less extra less' extra' counted)
        (subst (Adds (calls_by ahead a'.calls less' extra') (told_from ahead a b Both less extra).trace) (sym is) adds);
    safe = record {
      some = safe.some;
      labels = λ e. rw size (labels e);
      first = λ e. subst (Includes (a'.size - 1) a'.trace) (sym is) (rw size (stages_last (a.size - 1) a.trace a'.trace tn first));
      second = λ e. subst (Includes (a'.size - 1) b'.trace) (sym is) (rw size (stages_last (a.size - 1) b.trace b'.trace tn second));
    };
    call = call;
  }

  -- it goes on
  pub both_lives : IsSoundBy ahead a' b' left' true less' extra'
      → AreLabelled (a.size - 1) (first_label left' next) (second_label left' next) a'.trace b'.trace
      → ExitBy ahead P next a b Both less extra a' b' left' true less' extra'
  both_lives sound labels = record {
    sound = sound;
    safe = record {
      some = safe.some;
      labels = λ e. rw size labels;
      first = in_first left';
      second = in_second left' sound;
    };
    call = call;
  }
    where
      in_first : (x : Left) → shows_first x ≡ true → Includes (a'.size - 1) a'.trace (joint ahead (a'.size - 1) x a'.calls a'.trace b'.trace)
      in_first Both e = includes_both ahead (a'.size - 1) a'.calls a'.trace b'.trace
      in_first First e = includes_first ahead (a'.size - 1) a'.calls a'.trace b'.trace
      in_first Second e = cc

      in_second : (x : Left) → IsSoundBy ahead a' b' x true less' extra' → shows_second x ≡ true → Includes (a'.size - 1) b'.trace (joint ahead (a'.size - 1) x a'.calls a'.trace b'.trace)
      in_second Both sound e = includes_alike (a'.size - 1) b'.trace _ (sound.both refl).reads
      in_second First sound e = cc
      in_second Second sound e = includes_alike (a'.size - 1) b'.trace _ (sound.second refl).reads

-- a call of a mirror of its first half alone
pub first_exit : (ahead : ℕ) (next : ℕ) (a b a' b' : Told) (alive alive' : Bool) (less extra less' extra' : ℕ) (tn : Option Trace) (P : ℕ → Option Trace → Option Trace → Type 0)
    → IsSafe (a.size - 1) next First alive a.trace b.trace (told_from ahead a b First less extra).trace
    → a'.size ≡ a.size → b'.trace ≡ b.trace
    → calls_by ahead a'.calls less' extra' ≡ next_count (calls_by ahead a.calls less extra)
    → P (calls_by ahead a'.calls less' extra') (told_from ahead a b First less extra).trace (told_from ahead a' b' First less' extra').trace
    → Does (told_from ahead a b First less extra) (told_from ahead a' b' First less' extra') tn
    → StagesLabelled (a.size - 1) next a.trace a'.trace → HasLabel (a.size - 1) next a'.trace → StagesIn (a.size - 1) a.trace a'.trace tn
    → IsSoundBy ahead a' b' First alive' less' extra'
    → ExitBy ahead P next a b First less extra a' b' First alive' less' extra'
first_exit ahead next a b a' b' alive alive' less extra less' extra' tn P safe size same counted tells does labelled label first sound =
    let labels = safe.labels refl in
    let other : StagesLabelled (a.size - 1) (next - 1) b.trace b'.trace = subst (StagesLabelled (a.size - 1) (next - 1) b.trace) (sym same) (labelled_none (a.size - 1) (next - 1) b.trace labels.second) in
    record {
      sound = sound;
      safe = record {
        some = safe.some;
        labels = λ e. rw (size, same) (record { first = label; second = labels.second });
        first = λ e. includes_first ahead (a'.size - 1) a'.calls a'.trace b'.trace;
        second = λ e. cc;
      };
      call = record {
        size = ap (λ (n : ℕ). n - 1) size;
        counted = counted;
        tells = tells;
        stops = stops_first ahead (a.size - 1) next (next - 1) a'.calls a.trace b.trace a'.trace b'.trace tn (told_from ahead a b First less extra) (told_from ahead a' b' First less' extra') First does
            (same_joint ahead (a.size - 1) (a'.size - 1) a'.calls First a'.trace b'.trace (ap (λ (n : ℕ). n - 1) size)) (lower next safe.some) labelled other first;
      };
    }

-- a call of a mirror of its second half alone
pub second_exit : (ahead : ℕ) (next : ℕ) (a b b' : Told) (alive alive' : Bool) (less extra less' extra' : ℕ) (tn : Option Trace) (P : ℕ → Option Trace → Option Trace → Type 0)
    → IsSafe (a.size - 1) next Second alive a.trace b.trace (told_from ahead a b Second less extra).trace
    → calls_by ahead a.calls less' extra' ≡ next_count (calls_by ahead a.calls less extra)
    → P (calls_by ahead a.calls less' extra') (told_from ahead a b Second less extra).trace (told_from ahead a b' Second less' extra').trace
    → Does (told_from ahead a b Second less extra) (told_from ahead a b' Second less' extra') tn
    → StagesLabelled (a.size - 1) next b.trace b'.trace → HasLabel (a.size - 1) next b'.trace → StagesIn (a.size - 1) b.trace b'.trace tn
    → Includes (a.size - 1) b'.trace (told_from ahead a b' Second less' extra').trace
    → IsSoundBy ahead a b' Second alive' less' extra'
    → ExitBy ahead P next a b Second less extra a b' Second alive' less' extra'
second_exit ahead next a b b' alive alive' less extra less' extra' tn P safe counted tells does labelled label second included sound =
    let labels = safe.labels refl in
    record {
      sound = sound;
      safe = record {
        some = safe.some;
        labels = λ e. record { first = labels.first; second = label };
        first = λ e. cc;
        second = λ e. included;
      };
      call = record {
        size = refl;
        counted = counted;
        tells = tells;
        stops = stops_second ahead (a.size - 1) next (next - 1) a.calls a.trace b.trace a.trace b'.trace tn (told_from ahead a b Second less extra) (told_from ahead a b' Second less' extra') Second does
            refl (lower next safe.some) (labelled_none (a.size - 1) (next - 1) a.trace labels.first) labelled second;
      };
    }

-- a mirror that has failed does nothing
pub dead_exit : (ahead : ℕ) (next : ℕ) (a b : Told) (left : Left) (alive : Bool) (less extra now : ℕ)
    → alive ≡ false → IsSoundBy ahead a b left alive less extra
    → IsSafe (a.size - 1) next left alive a.trace b.trace (told_from ahead a b left less extra).trace
    → now ≡ min (extra + 1) (2 ^ 64 - 1)
    → ExitBy ahead IsSame next a b left less extra a b left alive less now
dead_exit ahead next a b left alive less extra now dead sound safe now_is = record {
  sound = rw dead (sound_dead ahead a b a b left left alive less extra less now sound sound.number refl refl sound.few (calls_later ahead a.calls a.calls less extra less now counted) (inl refl));
  safe = safe;
  call = record {
    size = refl;
    counted = counted;
    tells = refl;
    stops = stops_by ahead (a.size - 1) a.calls a.trace b.trace a.trace b.trace _ (told_from ahead a b left less extra) (told_from ahead a b left less now) left
        (does_same (told_from ahead a b left less extra) (told_from ahead a b left less now) sound.so_far counted refl) refl
        (λ tells i j made_i made_j. nothing i j made_i made_j);
  };
}
  where
    counted : calls_by ahead a.calls less now ≡ next_count (calls_by ahead a.calls less extra)
    counted = numbers a.calls less extra now now_is
      where
        numbers : (n less extra now : ℕ) → now ≡ min (extra + 1) (2 ^ 64 - 1) → calls_by ahead n less now ≡ next_count (calls_by ahead n less extra)
        numbers n less extra now is = omega (arith, is)

    none : (i : ℕ) (o : Option Trace) → Made i o o → without i o ≡ o
    none i None made = refl
    none zero (Some h) made = refl
    none (suc i) (Some h) made = absurd (omega (arith, made))

    shows : (x : Left) → IsSafe (a.size - 1) next x alive a.trace b.trace (joint ahead (a.size - 1) x a.calls a.trace b.trace)
        → PairingShows (a.size - 1) a.trace b.trace (joint ahead (a.size - 1) x a.calls a.trace b.trace)
    shows Both safe = both_show (a.size - 1) a.trace b.trace _ (tells_joint ahead (a.size - 1) a.calls Both a.trace b.trace) (safe.first refl) (safe.second refl)
    shows First safe = first_show (a.size - 1) next (next - 1) a.trace b.trace _ (tells_joint ahead (a.size - 1) a.calls First a.trace b.trace) (lower next safe.some)
        (safe.labels refl).first (safe.labels refl).second (safe.first refl)
    shows Second safe = second_show (a.size - 1) next (next - 1) a.trace b.trace _ (tells_joint ahead (a.size - 1) a.calls Second a.trace b.trace) (lower next safe.some)
        (safe.labels refl).first (safe.labels refl).second (safe.second refl)

    nothing : (i j : ℕ) → Made i a.trace a.trace → Made j b.trace b.trace → PairingShows (a.size - 1) (without i a.trace) (without j b.trace) (joint ahead (a.size - 1) left a.calls a.trace b.trace)
    nothing i j made_i made_j = rw (none i a.trace made_i, none j b.trace made_j) (shows left safe)

-- between calls
pub safe_shows : (ahead : ℕ) (z next n : ℕ) (left : Left) (alive : Bool) (o p : Option Trace) → IsSafe z next left alive o p (joint ahead z left n o p)
    → PairingShows z o p (joint ahead z left n o p)
safe_shows ahead z next n Both alive o p safe = both_show z o p _ (tells_joint ahead z n Both o p) (safe.first refl) (safe.second refl)
safe_shows ahead z next n First alive o p safe = first_show z next (next - 1) o p _ (tells_joint ahead z n First o p) (lower next safe.some)
    (safe.labels refl).first (safe.labels refl).second (safe.first refl)
safe_shows ahead z next n Second alive o p safe = second_show z next (next - 1) o p _ (tells_joint ahead z n Second o p) (lower next safe.some)
    (safe.labels refl).first (safe.labels refl).second (safe.second refl)
