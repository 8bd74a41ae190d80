-- What a mirror tells after each way through a call.
use Rattle.std.proofs.Common.{◌≡◌, inl, ◌<◌, ◌≤◌, ◌+◌, ◌-◌, ◌^◌, ℕ, List, [], Bool, true, false, Option, Some, None, refl, ap, sym, subst, ◌∙◌, arith, min, Result, Ok, Err, OnOk, OnErr, get_or, length}
use Rattle.std.proofs.lemmas.Bool.Decides.{nat_tests}
use Rattle.std.specs.Result.{is_ok, is_err}
use Rattle.ap_base.specs.Causes.{next_count}
use Rattle.line_image.specs.Trace.{Trace, did, Reads, versions, versions_after}
use Rattle.line_image.specs.Told.{Told, IsCounted}
use Rattle.line_image.specs.declared.effect.Effect.{Effect}
use Rattle.line_image.specs.declared.effect.Done.TheVariants.{Wrote, Fenced}
use Rattle.mirror_image.specs.declared.halves.Left.{Left}
use Rattle.mirror_image.specs.declared.halves.Left.TheVariants.{Both, First, Second}
use Rattle.mirror_image.specs.Joint.{calls_by, joint, most, above, below, top_is_label, label_at, is_label, ahead_by}
use Rattle.mirror_image.specs.Sound.{Within, SameMade, Settled, IsSoundBy, FirstLives, SecondLives, LeavesAlike, IsMarked, label_words, done_in, both_used, first_used, second_used}
use Rattle.mirror_image.proofs.Pushed.{ahead_marked, four_ahead, told_marked, first_same, second_marked, label_at_marked, above_marked, below_marked}
use Rattle.mirror_image.proofs.Reading.{newest_after, read_label, read_both, read_first}
use Rattle.mirror_image.proofs.Within.{mark_within, from_some}
use Rattle.mirror_image.proofs.Steps.{sound_first, sound_second}

pub on_ok : {T E P : Type 0} (r : Result T E) → is_ok r ≡ true → OnOk r P → P
on_ok (Ok x) is p = p
on_ok (Err e) is p = cc

pub on_err : {T E P : Type 0} (r : Result T E) → is_ok r ≡ false → OnErr r P → P
on_err (Ok x) is p = cc
on_err (Err e) is p = p

pub ok_map : {T E P Q : Type 0} (r : Result T E) → (P → Q) → OnOk r P → OnOk r Q
ok_map (Ok x) f p = f p
ok_map (Err e) f p = tt

pub err_map : {T E P Q : Type 0} (r : Result T E) → (P → Q) → OnErr r P → OnErr r Q
err_map (Ok x) f p = tt
err_map (Err e) f p = f p

pub either_way : {T E P Q X : Type 0} (r : Result T E) → OnOk r P → OnErr r Q → (P → X) → (Q → X) → X
either_way (Ok x) p q f g = f p
either_way (Err e) p q f g = g q

pub some_is : {h k : Trace} → Some h ≡ Some k → h ≡ k
some_is {h} e = ap (the h) e
  where
    the : Trace → Option Trace → Trace
    the d None = d
    the d (Some h) = h

-- a mark changes no read of a shown line
pub alike_marked : (z at fence : ℕ) (words : List ℕ) (p t : Option Trace) → LeavesAlike z p t → LeavesAlike z (did Fenced fence (did (Wrote z words) at p)) t
alike_marked z at fence words None t alike h k is_h is_k l lt = cc
alike_marked z at fence words (Some p) None alike h k is_h is_k l lt = cc
alike_marked z at fence words (Some p) (Some t) alike h k is_h is_k l lt =
    subst (λ (x : Trace). Within (versions x l) (versions k l)) (some_is is_h)
    (subst (λ (y : Trace). Within (versions_after Fenced l (versions_after (Wrote z words) l (versions p l))) (versions y l)) (some_is is_k)
    (mark_within z l words (versions p l) (versions t l) lt (from_some (get_or t.first l []) t.done l) (alike p t refl refl l lt)))

pub reads_alike : (ahead : ℕ) (z n l : ℕ) (left : Left) (words : List ℕ) (o p : Option Trace) → l < z → LeavesAlike z p (joint ahead z left n o p)
    → Reads p l words → Reads (joint ahead z left n o p) l words
reads_alike ahead z n l left words None p lt alike reads = tt
reads_alike ahead z n l left words (Some h) None lt alike reads = tt
reads_alike ahead z n l left words (Some h) (Some k) lt alike reads = reads ∙ (alike k _ refl refl l lt).0

-- reading a marked half is reading it before
pub reads_unmarked : (z at fence l : ℕ) (words line : List ℕ) (p : Option Trace) → l < z
    → Reads (did Fenced fence (did (Wrote z words) at p)) l line → Reads p l line
reads_unmarked z at fence l words line None lt reads = tt
reads_unmarked z at fence l words line (Some p) lt reads =
    reads ∙ newest_after (Wrote z words) l (versions p l) ∙ read_label z l (Wrote z words) _ lt own
  where
    own : is_label z (Wrote z words) ≡ true
    own = grind (arith, nat_tests)

pub top_marked : (z at fence : ℕ) (words : List ℕ) (p : Option Trace) → top_is_label z (done_in (did Fenced fence (did (Wrote z words) at p))) ≡ false
top_marked z at fence words None = refl
top_marked z at fence words (Some p) = refl

pub label_marked : (z at fence : ℕ) (words : List ℕ) (p : Option Trace) (h : Trace) → did Fenced fence (did (Wrote z words) at p) ≡ Some h
    → label_at z h.done ≡ at
label_marked z at fence words None h is = cc
label_marked z at fence words (Some p) h is =
    sym (ap (λ (x : Trace). label_at z x.done) (some_is is)) ∙ label_at_marked z at fence words p.done

-- where both tell, the first has made no more
abbrev pub NoMore : ℕ → Option Trace → Option Trace → Type 0
NoMore z o p = (h k : Trace) → o ≡ Some h → p ≡ Some k → length (above z h.done) ≤ length (above z k.done)

pub no_more : (z : ℕ) (o p : Option Trace) → SameMade z o p → NoMore z o p
no_more z o p same h k is_h is_k = omega (arith, same h k is_h is_k)

-- it has made nothing again, where the first has made no more
pub settled_marked : (z at fence : ℕ) (words : List ℕ) (o p : Option Trace) → NoMore z o p → Settled z o (did Fenced fence (did (Wrote z words) at p))
settled_marked z at fence words None p same h k is_h is_k = cc
settled_marked z at fence words (Some o) None same h k is_h is_k = cc
settled_marked z at fence words (Some o) (Some p) same h k is_h is_k =
    subst (λ (x : Trace). length (above z x.done) - length (above z (below z k.done)) ≤ length (above z k.done)) (some_is is_h)
    (subst (λ (x : Trace). length (above z o.done) - length (above z (below z x.done)) ≤ length (above z x.done)) (some_is is_k)
    (none (ap length (above_marked z at fence words p.done)) (ap (λ (xs : List Effect). length (above z xs)) (below_marked z at fence words p.done))))
  where
    none : {x y : ℕ} → x ≡ 0 → y ≡ length (above z p.done) → length (above z o.done) - y ≤ x
    none is_x is_y = omega (arith, is_x, is_y, same o p refl refl)

pub live : (left : Left) (alive : Bool) → left ≡ Both → alive ≡ true → both_used left alive ≡ true
live left alive is lives = rw (is, lives) refl

-- what its numbers are above, where both halves are used
pub number_both : (ahead : ℕ) (a b : Told) (left : Left) (alive : Bool) (less extra : ℕ) → left ≡ Both → IsSoundBy ahead a b left alive less extra
    → ahead ≡ ahead_by (a.size - 1) Both b.trace
number_both ahead a b left alive less extra is sound = subst (λ (x : Left). ahead ≡ ahead_by (a.size - 1) x b.trace) is sound.number

pub four_of : (ahead : ℕ) (a b : Told) (left : Left) (alive : Bool) (less extra : ℕ) → IsSoundBy ahead a b left alive less extra → 4 ≤ ahead
four_of ahead a b left alive less extra sound = subst (λ (n : ℕ). 4 ≤ n) (sym sound.number) (four_ahead (a.size - 1) left b.trace)

pub live_first : (left : Left) (alive : Bool) → left ≡ First → alive ≡ true → first_used left alive ≡ true
live_first left alive is lives = rw (is, lives) refl

pub live_second : (left : Left) (alive : Bool) → left ≡ Second → alive ≡ true → second_used left alive ≡ true
live_second left alive is lives = rw (is, lives) refl

-- The first half failed in a read, or in a fence, and the second one was marked.
pub moved_same : (ahead : ℕ) (a b a' m : Told) (left : Left) (alive : Bool) (less extra z generation : ℕ)
    → left ≡ Both → alive ≡ true → IsSoundBy ahead a b left alive less extra
    → a'.size ≡ a.size → a'.trace ≡ a.trace → z ≡ a.size - 1 → IsMarked z generation b m
    → joint ahead (a'.size - 1) Second a'.calls a'.trace m.trace ≡ joint ahead (a.size - 1) left a.calls a.trace b.trace
moved_same ahead a b a' m left alive less extra z generation is lives sound size trace z_is marked =
    rw (size, trace, is, marked.trace, z_is)
    (second_marked ahead (a.size - 1) a'.calls a.calls (next_count b.calls) m.calls (label_words generation) a.trace b.trace)

pub moved_lives : (ahead : ℕ) (a b a' m b' : Told) (left : Left) (alive : Bool) (less extra z generation : ℕ)
    → left ≡ Both → alive ≡ true → IsSoundBy ahead a b left alive less extra → IsCounted a → IsCounted b
    → a'.size ≡ a.size → a'.trace ≡ a.trace → a'.calls ≡ next_count a.calls → z ≡ a.size - 1 → IsMarked z generation b m
    → b'.trace ≡ m.trace → b'.calls ≡ next_count m.calls
    → SecondLives ahead a' b' less extra
moved_lives ahead a b a' m b' left alive less extra z generation is lives sound counted_a counted_b size trace calls z_is marked b_trace b_calls =
    let both = sound.both (live left alive is lives) in
    let b_is : b'.trace ≡ did Fenced m.calls (did (Wrote (a.size - 1) (label_words generation)) (next_count b.calls) b.trace) =
    b_trace ∙ marked.trace ∙ ap (λ (z : ℕ). did Fenced m.calls (did (Wrote z (label_words generation)) (next_count b.calls) b.trace)) z_is in
    let t_is : joint ahead (a'.size - 1) Second a'.calls a'.trace b'.trace ≡ joint ahead (a.size - 1) Both a.calls a.trace b.trace =
    ap (λ (p : Option Trace). joint ahead (a'.size - 1) Second a'.calls a'.trace p) b_trace
    ∙ moved_same ahead a b a' m left alive less extra z generation is lives sound size trace z_is marked
    ∙ ap (λ (left : Left). joint ahead (a.size - 1) left a.calls a.trace b.trace) is in
    record {
      none_less = both.none_less;
      settled = rw (size, trace, b_is) (settled_marked (a.size - 1) (next_count b.calls) m.calls (label_words generation) a.trace b.trace (no_more (a.size - 1) a.trace b.trace both.same));
      top = rw (size, b_is) (top_marked (a.size - 1) (next_count b.calls) m.calls (label_words generation) b.trace);
      reads = rw (t_is, size, b_is) (alike_marked (a.size - 1) (next_count b.calls) m.calls (label_words generation) b.trace _ both.reads);
      step = λ h is_h. step (both.lag (told_marked (next_count b.calls) m.calls (a.size - 1) (label_words generation) b.trace h (sym b_is ∙ is_h))) (ap (λ (x : ℕ). label_at (x - 1) h.done) size ∙ label_marked (a.size - 1) (next_count b.calls) m.calls (label_words generation) b.trace h (sym b_is ∙ is_h))
          both.none_less both.none_extra;
    }
  where
    step : {at : ℕ} → b.calls + 4 ≤ a.calls + ahead → at ≡ next_count b.calls → less ≡ 0 → extra ≡ 0
        → min (b'.calls + (a'.calls + ahead - 2 - at)) most ≡ calls_by ahead a'.calls less extra
    step lag at_is less_is extra_is = omega (arith, lag, at_is, less_is, extra_is, calls, b_calls, marked.calls, counted_a.fits, counted_b.fits)

pub on_done : {T E P : Type 0} (r : Result T E) → is_err r ≡ false → OnOk r P → P
on_done (Ok x) is p = p
on_done (Err e) is p = cc

pub is_alive : (b : Bool) → b ≡ true → b ≡ true
is_alive b is = is

pub words_both : (ahead : ℕ) (a b : Told) (left : Left) (l : ℕ) (words : List ℕ) → left ≡ Both → l < a.size - 1 → Reads a.trace l words
    → Reads (joint ahead (a.size - 1) left a.calls a.trace b.trace) l words
words_both ahead a b left l words is lt reads = rw is (read_both ahead (a.size - 1) a.calls l words a.trace b.trace lt reads)

pub words_first : (ahead : ℕ) (a b : Told) (left : Left) (l : ℕ) (words : List ℕ) → left ≡ First → l < a.size - 1 → Reads a.trace l words
    → Reads (joint ahead (a.size - 1) left a.calls a.trace b.trace) l words
words_first ahead a b left l words is lt reads = rw is (read_first ahead (a.size - 1) a.calls l words a.trace b.trace lt reads)

pub words_second : (ahead : ℕ) (a b : Told) (left : Left) (alive : Bool) (less extra l : ℕ) (words : List ℕ) → left ≡ Second → alive ≡ true
    → IsSoundBy ahead a b left alive less extra → l < a.size - 1 → Reads b.trace l words
    → Reads (joint ahead (a.size - 1) left a.calls a.trace b.trace) l words
words_second ahead a b left alive less extra l words is lives sound lt reads =
    let second = sound.second (live_second left alive is lives) in
    rw is (reads_alike ahead (a.size - 1) a.calls l Second words a.trace b.trace lt second.reads reads)

pub words_moved : (ahead : ℕ) (a b m : Told) (left : Left) (alive : Bool) (less extra z generation l : ℕ) (words : List ℕ)
    → left ≡ Both → alive ≡ true → IsSoundBy ahead a b left alive less extra → l < a.size - 1 → z ≡ a.size - 1 → IsMarked z generation b m
    → Reads m.trace l words → Reads (joint ahead (a.size - 1) left a.calls a.trace b.trace) l words
words_moved ahead a b m left alive less extra z generation l words is lives sound lt z_is marked reads =
    let both = sound.both (live left alive is lives) in
    let below : l < z = omega (arith, lt, z_is) in
    rw is (reads_alike ahead (a.size - 1) a.calls l Both words a.trace b.trace lt both.reads
    (reads_unmarked z (next_count b.calls) m.calls l (label_words generation) words b.trace below
    (subst (λ (o : Option Trace). Reads o l words) marked.trace reads)))

calls_later : (ahead : ℕ) (a an less extra : ℕ) → a < 2 ^ 64 → an ≡ next_count a → calls_by ahead a less extra ≤ calls_by ahead an less extra
calls_later ahead a an less extra fits is = omega (arith, fits, is)

pub sound_moved : (ahead : ℕ) (a b a' m b' : Told) (left : Left) (alive : Bool) (less extra z generation : ℕ)
    → left ≡ Both → alive ≡ true → IsSoundBy ahead a b left alive less extra → IsCounted a → IsCounted b
    → a'.size ≡ a.size → a'.trace ≡ a.trace → a'.calls ≡ next_count a.calls → z ≡ a.size - 1 → IsMarked z generation b m
    → b'.size ≡ m.size → b'.trace ≡ m.trace → b'.calls ≡ next_count m.calls
    → IsSoundBy ahead a' b' Second alive less extra
sound_moved ahead a b a' m b' left alive less extra z generation is lives sound counted_a counted_b size trace calls z_is marked b_size b_trace b_calls =
    let now = moved_lives ahead a b a' m b' left alive less extra z generation is lives sound counted_a counted_b size trace calls z_is marked b_trace b_calls in
    let same = ap (λ (p : Option Trace). joint ahead (a'.size - 1) Second a'.calls a'.trace p) b_trace
    ∙ moved_same ahead a b a' m left alive less extra z generation is lives sound size trace z_is marked in
    let number : ahead ≡ ahead_by (a'.size - 1) Second b'.trace =
    rw (size, b_trace, marked.trace, z_is) (number_both ahead a b left alive less extra is sound
    ∙ sym (ahead_marked (a.size - 1) (next_count b.calls) m.calls (label_words generation) b.trace)) in
    rw lives (sound_second ahead a b a' b' left less extra less extra (subst (λ (x : Bool). IsSoundBy ahead a b left x less extra) lives sound) number size
    (b_size ∙ marked.size) (calls_later ahead a.calls a'.calls less extra counted_a.fits calls) (inl same) now)

pub first_trace : (ahead : ℕ) (a a' b : Told) → a'.size ≡ a.size → a'.trace ≡ a.trace
    → joint ahead (a'.size - 1) First a'.calls a'.trace b.trace ≡ joint ahead (a.size - 1) First a.calls a.trace b.trace
first_trace ahead a a' b size trace = rw (size, trace) (first_same ahead (a.size - 1) a'.calls a.calls a.trace b.trace)

pub sound_first_read : (ahead : ℕ) (a a' b : Told) (left : Left) (alive : Bool) (less extra : ℕ)
    → left ≡ First → alive ≡ true → IsSoundBy ahead a b left alive less extra → IsCounted a
    → a'.size ≡ a.size → a'.trace ≡ a.trace → a'.calls ≡ next_count a.calls
    → IsSoundBy ahead a' b left alive less extra
sound_first_read ahead a a' b left alive less extra is lives sound counted size trace calls =
    let first = sound.first (live_first left alive is lives) in
    let now : FirstLives a' less extra = record { two_less = first.two_less; none_extra = first.none_extra; top = rw (size, trace) first.top } in
    let before : IsSoundBy ahead a b First true less extra = subst (λ (x : Bool). IsSoundBy ahead a b First x less extra) lives
    (subst (λ (x : Left). IsSoundBy ahead a b x alive less extra) is sound) in
    rw (is, lives) (sound_first ahead a b a' b First less extra less extra before (rw size before.number) size refl
    (calls_later ahead a.calls a'.calls less extra counted.fits calls) (inl (first_trace ahead a a' b size trace)) now)
