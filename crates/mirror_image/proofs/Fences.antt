-- What holds of a mirror after a fence that leaves it one half.
use Rattle.std.proofs.Common.{◌≡◌, inr, ◌<◌, ◌≤◌, ◌+◌, ◌-◌, ◌^◌, ℕ, [], Bool, true, false, Option, Some, None, refl, ap, sym, subst, ◌∙◌, arith, length, min, get_or}
use Rattle.ap_base.specs.Causes.{next_count}
use Rattle.line_image.specs.Trace.{Trace, did, versions, versions_after}
use Rattle.line_image.specs.Told.{Told, IsCounted}
use Rattle.line_image.specs.declared.effect.Done.{Done}
use Rattle.line_image.specs.declared.effect.Done.TheVariants.{Wrote, Fenced}
use Rattle.mirror_image.specs.declared.halves.Left.{Left}
use Rattle.mirror_image.specs.declared.halves.Left.TheVariants.{Both, Second}
use Rattle.mirror_image.specs.Joint.{calls_by, joint, most, above, top_is_label, label_at, is_label, ahead_by}
use Rattle.mirror_image.specs.Sound.{Within, Tells, IsSoundBy, SecondLives, LeavesAlike, SameMade, Settled, IsMarked, label_words, done_in}
use Rattle.mirror_image.proofs.Pushed.{ahead_did, ahead_marked, tells_did, told_marked, both_other, second_marked, above_pushed}
use Rattle.mirror_image.proofs.Within.{fence_within, from_some}
use Rattle.mirror_image.proofs.Steps.{sound_second}
use Rattle.mirror_image.proofs.Exits.{number_both, NoMore, settled_marked, some_is, live, alike_marked, top_marked, label_marked}
use Rattle.mirror_image.proofs.Moves.{second_any, settled_did}
use Rattle.mirror_image.proofs.Writes.{alike_did, label_did, top_did, calls_up}

alike_fenced : (z at : ℕ) (p t : Option Trace) → LeavesAlike z p t → LeavesAlike z (did Fenced at p) t
alike_fenced z at None t alike x y is_x is_y l lt = cc
alike_fenced z at (Some p) None alike x y is_x is_y l lt = cc
alike_fenced z at (Some p) (Some t) alike x y is_x is_y l lt =
    subst (λ (h : Trace). Within (versions h l) (versions y l)) (some_is is_x)
    (subst (λ (h : Trace). Within (versions_after Fenced l (versions p l)) (versions h l)) (some_is is_y)
    (fence_within l (versions p l) (versions t l) (from_some (get_or t.first l []) t.done l) (alike p t refl refl l lt).0))

-- the second half has made a fence that the first hasn't
fence_more : (z made : ℕ) (o p : Option Trace) → top_is_label z (done_in p) ≡ false → SameMade z o p → NoMore z o (did Fenced made p)
fence_more z made o None top same h k is_h is_k = cc
fence_more z made o (Some p) top same h k is_h is_k =
    omega (arith, ap (λ (x : Trace). length (above z x.done)) (some_is is_k), ap length (above_pushed z (record { at = made; done = Fenced }) p.done top), same h p is_h refl)

asked_again : (ahead : ℕ) (a b an m bn at less extra : ℕ) → a < 2 ^ 64 → b < 2 ^ 64 → b + 3 ≤ a + ahead → less ≡ 0 → extra ≡ 0 → an ≡ next_count a
    → m ≡ next_count (next_count b) → bn ≡ next_count m → at ≡ next_count b
    → min (bn + (an + ahead - 2 - at)) most ≡ calls_by ahead an less extra
asked_again ahead a b an m bn at less extra fits_a fits_b lag less_is extra_is an_is m_is bn_is at_is = omega (arith, fits_a, fits_b, lag, less_is, extra_is, an_is, m_is, bn_is, at_is)

-- the first half failed in it, and the second one was marked
pub moved_fence : (ahead : ℕ) (a b f a' m : Told) (left : Left) (alive : Bool) (less extra z generation : ℕ)
    → left ≡ Both → alive ≡ true → IsSoundBy ahead a b left alive less extra → f.trace ≡ did Fenced f.calls b.trace
    → a'.size ≡ a.size → a'.trace ≡ a.trace → z ≡ a.size - 1 → IsMarked z generation f m
    → joint ahead (a'.size - 1) Second a'.calls a'.trace m.trace ≡ joint ahead (a.size - 1) left a.calls a.trace b.trace
moved_fence ahead a b f a' m left alive less extra z generation is lives sound f_trace size trace z_is marked =
    rw (size, trace, is, marked.trace, f_trace, z_is)
    (second_marked ahead (a.size - 1) a'.calls a'.calls (next_count f.calls) m.calls (label_words generation) a.trace (did Fenced f.calls b.trace)
    ∙ both_other ahead (a.size - 1) a'.calls a.calls f.calls Fenced a.trace b.trace)

module _ (ahead : ℕ) (a b f a' m : Told) (left : Left) (alive : Bool) (less extra z generation : ℕ) (d : Done)
    (is : left ≡ Both) (lives : alive ≡ true) (sound : IsSoundBy ahead a b left alive less extra) (counted_a : IsCounted a) (counted_f : IsCounted f)
    (f_size : f.size ≡ b.size) (f_calls : f.calls ≡ next_count b.calls) (f_trace : f.trace ≡ did Fenced f.calls b.trace) (fits_b : b.calls < 2 ^ 64)
    (apart : is_label (a.size - 1) d ≡ false)
    (size : a'.size ≡ a.size) (calls : a'.calls ≡ next_count a.calls)
    (z_is : z ≡ a.size - 1) (marked : IsMarked z generation f m) (a_same : a'.trace ≡ a.trace) where
  same_told : joint ahead (a'.size - 1) Second a'.calls a'.trace m.trace ≡ joint ahead (a.size - 1) left a.calls a.trace b.trace
  same_told = moved_fence ahead a b f a' m left alive less extra z generation is lives sound f_trace size a_same z_is marked

  pub n_is : m.trace ≡ did Fenced m.calls (did (Wrote (a'.size - 1) (label_words generation)) (next_count f.calls) f.trace)
  n_is = marked.trace ∙ ap (λ (z : ℕ). did Fenced m.calls (did (Wrote z (label_words generation)) (next_count f.calls) f.trace)) (z_is ∙ ap (λ (n : ℕ). n - 1) (sym size))

  pub n_top : top_is_label (a'.size - 1) (done_in m.trace) ≡ false
  n_top = rw n_is (top_marked (a'.size - 1) (next_count f.calls) m.calls (label_words generation) f.trace)

  settled_n : Settled (a'.size - 1) a'.trace m.trace
  settled_n =
      let both = sound.both (live left alive is lives) in
      rw (size, a_same, marked.trace, f_trace, z_is)
      (settled_marked (a.size - 1) (next_count f.calls) m.calls (label_words generation) a.trace (did Fenced f.calls b.trace)
      (fence_more (a.size - 1) f.calls a.trace b.trace both.top_b both.same))

  pub number_n : ahead ≡ ahead_by (a'.size - 1) Second m.trace
  number_n =
      let both = sound.both (live left alive is lives) in
      let paired : ahead ≡ ahead_by (a'.size - 1) Both f.trace =
      rw (size, f_trace) (number_both ahead a b left alive less extra is sound ∙ sym (ahead_did (a.size - 1) f.calls Both Fenced b.trace both.top_b)) in
      rw n_is (paired ∙ sym (ahead_marked (a'.size - 1) (next_count f.calls) m.calls (label_words generation) f.trace))

  pub n_step : (bn : ℕ) (k : Trace) → bn ≡ next_count m.calls → m.trace ≡ Some k
      → min (bn + (a'.calls + ahead - 2 - label_at (a'.size - 1) k.done)) most ≡ calls_by ahead a'.calls less extra
  n_step bn k bn_is is_k =
      let both = sound.both (live left alive is lives) in
      asked_again ahead a.calls f.calls a'.calls m.calls bn (label_at (a'.size - 1) k.done) less extra counted_a.fits counted_f.fits
      (omega (arith, both.lag (tells_did f.calls Fenced b.trace (subst Tells f_trace (told_marked (next_count f.calls) m.calls (a'.size - 1) (label_words generation) f.trace k (sym n_is ∙ is_k)))), f_calls, fits_b))
      both.none_less both.none_extra calls marked.calls bn_is
      (label_marked (a'.size - 1) (next_count f.calls) m.calls (label_words generation) f.trace k (sym n_is ∙ is_k))

  pub fenced_did : (b' : Told) → b'.calls ≡ next_count m.calls → b'.trace ≡ did d b'.calls m.trace
      → joint ahead (a'.size - 1) Second a'.calls a'.trace b'.trace ≡ did d (calls_by ahead a'.calls less extra) (joint ahead (a.size - 1) left a.calls a.trace b.trace)
  fenced_did b' b_calls b_trace =
      ap (joint ahead (a'.size - 1) Second a'.calls a'.trace) b_trace
      ∙ second_any ahead (a'.size - 1) a'.calls b'.calls (calls_by ahead a'.calls less extra) d a'.trace m.trace (ap (λ (n : ℕ). is_label (n - 1) d) size ∙ apart) n_top settled_n
      (λ k is_k. n_step b'.calls k b_calls is_k)
      ∙ ap (did d (calls_by ahead a'.calls less extra)) same_told

  pub sound_fenced_did : (b' : Told) → b'.size ≡ m.size → b'.calls ≡ next_count m.calls → b'.trace ≡ did d b'.calls m.trace
      → IsSoundBy ahead a' b' Second alive less extra
  sound_fenced_did b' b_size b_calls b_trace =
      let both = sound.both (live left alive is lives) in
      let apart' : is_label (a'.size - 1) d ≡ false = ap (λ (n : ℕ). is_label (n - 1) d) size ∙ apart in
      let t_is = fenced_did b' b_calls b_trace in
      let old_reads : LeavesAlike (a'.size - 1) b.trace (joint ahead (a.size - 1) left a.calls a.trace b.trace) = rw (size, is) both.reads in
      let f_reads : LeavesAlike (a'.size - 1) f.trace (joint ahead (a.size - 1) left a.calls a.trace b.trace) = rw f_trace (alike_fenced (a'.size - 1) f.calls b.trace _ old_reads) in
      let after : SecondLives ahead a' b' less extra = record {
        none_less = both.none_less;
        settled = rw b_trace (settled_did (a'.size - 1) b'.calls d a'.trace m.trace n_top settled_n);
        top = rw b_trace (top_did (a'.size - 1) b'.calls d m.trace apart');
        reads = rw (t_is, b_trace) (alike_did (a'.size - 1) b'.calls (calls_by ahead a'.calls less extra) d m.trace _
            (rw n_is (alike_marked (a'.size - 1) (next_count f.calls) m.calls (label_words generation) f.trace _ f_reads)));
        step = λ h is_h.
            let from = label_did (a'.size - 1) b'.calls d m.trace h apart' (sym b_trace ∙ is_h) in
            rw from.1.1 (n_step b'.calls from.0 b_calls from.1.0);
      } in
      let number : ahead ≡ ahead_by (a'.size - 1) Second b'.trace = rw b_trace (number_n ∙ sym (ahead_did (a'.size - 1) b'.calls Second d m.trace n_top)) in
      rw lives (sound_second ahead a b a' b' left less extra less extra (subst (λ (x : Bool). IsSoundBy ahead a b left x less extra) lives sound) number size
      (b_size ∙ marked.size ∙ f_size) (calls_up ahead a.calls a'.calls less extra counted_a.fits calls) (inr (d, t_is)) after)
