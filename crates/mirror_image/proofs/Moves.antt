-- What holds of a mirror after a write or a fence that leaves it one half, or that its second half makes alone.
use Rattle.std.proofs.Common.{◌≡◌, inl, inr, ◌<◌, ◌≤◌, ◌+◌, ◌-◌, ◌^◌, ℕ, suc, List, ◌∷◌, Bool, true, false, Option, Some, None, refl, ap, sym, subst, ◌∙◌, arith, min, length}
use Rattle.ap_base.specs.Causes.{next_count}
use Rattle.line_image.specs.Trace.{Trace, did}
use Rattle.line_image.specs.Told.{Told, IsCounted}
use Rattle.line_image.specs.declared.effect.Effect.{Effect}
use Rattle.line_image.specs.declared.effect.Done.{Done}
use Rattle.line_image.specs.declared.effect.Done.TheVariants.{Wrote, Fenced}
use Rattle.mirror_image.specs.declared.halves.Left.{Left}
use Rattle.mirror_image.specs.declared.halves.Left.TheVariants.{Both, First, Second}
use Rattle.mirror_image.specs.Joint.{calls_by, joint, most, above, below, top_is_label, label_at, is_label, ahead_by}
use Rattle.mirror_image.specs.Sound.{IsSoundBy, BothLive, FirstLives, SecondLives, SameMade, Settled, LeavesAlike, IsMarked, IsNotMarked, label_words, done_in}
use Rattle.mirror_image.proofs.Pushed.{ahead_did, ahead_marked, ahead_first, told_marked, did_at, joint_tells, both_pushed, both_same, both_labelled, first_marked, second_marked, second_pushed, second_remade, marked_on, above_pushed, above_marked, below_pushed, below_marked}
use Rattle.mirror_image.proofs.Steps.{sound_both, sound_first, sound_second}
use Rattle.mirror_image.proofs.Exits.{four_of, number_both, live, live_second, some_is, settled_marked, no_more, alike_marked, top_marked, label_marked}
use Rattle.mirror_image.proofs.Writes.{number_may, May, both_may, alike_did, label_did, top_did, calls_up}

-- What the second half does is done to the mirror, by the number that its own number gives.
pub second_any : (ahead : ℕ) (z n : ℕ) (at count : ℕ) (d : Done) (o p : Option Trace) → is_label z d ≡ false → top_is_label z (done_in p) ≡ false → Settled z o p
    → ((k : Trace) → p ≡ Some k → min (at + (n + ahead - 2 - label_at z k.done)) most ≡ count)
    → joint ahead z Second n o (did d at p) ≡ did d count (joint ahead z Second n o p)
second_any ahead z n at count d None None apart top settled number = refl
second_any ahead z n at count d None (Some k) apart top settled number = refl
second_any ahead z n at count d (Some h) None apart top settled number = refl
second_any ahead z n at count d (Some h) (Some k) apart top settled number =
    second_pushed ahead z n at d (Some h) k apart top settled ∙ ap (λ (m : ℕ). did d m (joint ahead z Second n (Some h) (Some k))) (number k refl)

-- it stays so where more is done to the second half
pub settled_did : (z at : ℕ) (d : Done) (o p : Option Trace) → top_is_label z (done_in p) ≡ false → Settled z o p → Settled z o (did d at p)
settled_did z at d o None top settled h k is_h is_k = cc
settled_did z at d o (Some p) top settled h k is_h is_k =
    subst (λ (x : Trace). length (above z h.done) - length (above z (below z x.done)) ≤ length (above z x.done)) (some_is is_k)
    (more (ap length (above_pushed z (record { at = at; done = d }) p.done top)) (ap (λ (xs : List Effect). length (above z xs)) (below_pushed z (record { at = at; done = d }) p.done top))
    (settled h p is_h refl))
  where
    more : {x y : ℕ} → x ≡ suc (length (above z p.done)) → y ≡ length (above z (below z p.done))
        → length (above z h.done) - length (above z (below z p.done)) ≤ length (above z p.done) → length (above z h.done) - y ≤ x
    more is_x is_y le = omega (arith, is_x, is_y, le)

pub next_step : (ahead : ℕ) (b bn a less extra now g : ℕ) → b < 2 ^ 64 → less ≡ 0 → bn ≡ next_count b → now ≡ min (extra + 1) (2 ^ 64 - 1)
    → min (b + g) most ≡ calls_by ahead a less extra → min (bn + g) most ≡ calls_by ahead a less now
next_step ahead b bn a less extra now g fits less_is bn_is now_is step = omega (arith, fits, less_is, bn_is, now_is, step)

pub extra_up : (ahead : ℕ) (a less extra now : ℕ) → now ≡ min (extra + 1) (2 ^ 64 - 1) → calls_by ahead a less extra ≤ calls_by ahead a less now
extra_up ahead a less extra now is = omega (arith, is)

pub second_did : (ahead : ℕ) (a b b' : Told) (left : Left) (alive : Bool) (less extra now : ℕ) (d : Done)
    → left ≡ Second → alive ≡ true → IsSoundBy ahead a b left alive less extra → IsCounted b → is_label (a.size - 1) d ≡ false
    → now ≡ min (extra + 1) (2 ^ 64 - 1)
    → b'.calls ≡ next_count b.calls → b'.trace ≡ did d b'.calls b.trace
    → joint ahead (a.size - 1) left a.calls a.trace b'.trace ≡ did d (calls_by ahead a.calls less now) (joint ahead (a.size - 1) left a.calls a.trace b.trace)
second_did ahead a b b' left alive less extra now d is lives sound counted apart now_is calls b_trace =
    let second = sound.second (live_second left alive is lives) in
    rw is (ap (joint ahead (a.size - 1) Second a.calls a.trace) b_trace
    ∙ second_any ahead (a.size - 1) a.calls b'.calls (calls_by ahead a.calls less now) d a.trace b.trace apart second.top second.settled
    (λ k is_k. next_step ahead b.calls b'.calls a.calls less extra now (a.calls + ahead - 2 - label_at (a.size - 1) k.done) counted.fits second.none_less calls now_is (second.step k is_k)))

pub sound_second_did : (ahead : ℕ) (a b b' : Told) (left : Left) (alive : Bool) (less extra now : ℕ) (d : Done)
    → left ≡ Second → alive ≡ true → IsSoundBy ahead a b left alive less extra → IsCounted b → is_label (a.size - 1) d ≡ false
    → now ≡ min (extra + 1) (2 ^ 64 - 1)
    → b'.size ≡ b.size → b'.calls ≡ next_count b.calls → b'.trace ≡ did d b'.calls b.trace
    → IsSoundBy ahead a b' left alive less now
sound_second_did ahead a b b' left alive less extra now d is lives sound counted apart now_is size calls b_trace =
    let second = sound.second (live_second left alive is lives) in
    let before : IsSoundBy ahead a b Second true less extra = subst (λ (x : Bool). IsSoundBy ahead a b Second x less extra) lives
    (subst (λ (x : Left). IsSoundBy ahead a b x alive less extra) is sound) in
    let t_is = second_did ahead a b b' Second true less extra now d refl refl before counted apart now_is calls b_trace in
    let after : SecondLives ahead a b' less now = record {
      none_less = second.none_less;
      settled = rw b_trace (settled_did (a.size - 1) b'.calls d a.trace b.trace second.top second.settled);
      top = rw b_trace (top_did (a.size - 1) b'.calls d b.trace apart);
      reads = rw (t_is, b_trace) (alike_did (a.size - 1) b'.calls (calls_by ahead a.calls less now) d b.trace _ second.reads);
      step = λ h is_h.
          let from = label_did (a.size - 1) b'.calls d b.trace h apart (sym b_trace ∙ is_h) in
          rw from.1.1 (next_step ahead b.calls b'.calls a.calls less extra now (a.calls + ahead - 2 - label_at (a.size - 1) from.0.done) counted.fits second.none_less calls now_is (second.step from.0 from.1.0));
    } in
    let number : ahead ≡ ahead_by (a.size - 1) Second b'.trace = rw b_trace (before.number ∙ sym (ahead_did (a.size - 1) b'.calls Second d b.trace second.top)) in
    rw (is, lives) (sound_second ahead a b a b' Second less extra less now before number refl size (extra_up ahead a.calls less extra now now_is) (inr (d, t_is)) after)

asked : (ahead : ℕ) (a b an m bn at less extra : ℕ) → a < 2 ^ 64 → b < 2 ^ 64 → b + 4 ≤ a + ahead → less ≡ 0 → extra ≡ 0 → an ≡ next_count a
    → m ≡ next_count (next_count b) → bn ≡ next_count m → at ≡ next_count b
    → min (bn + (an + ahead - 2 - at)) most ≡ calls_by ahead an less extra
asked ahead a b an m bn at less extra fits_a fits_b lag less_is extra_is an_is m_is bn_is at_is = omega (arith, fits_a, fits_b, lag, less_is, extra_is, an_is, m_is, bn_is, at_is)

-- the first has made it too
settled_again : (z at fence made again : ℕ) (words : List ℕ) (d : Done) (o p : Option Trace) → top_is_label z (done_in o) ≡ false → SameMade z o p
    → Settled z (did d made o) (did d again (did Fenced fence (did (Wrote z words) at p)))
settled_again z at fence made again words d None p top same h k is_h is_k = cc
settled_again z at fence made again words d (Some o) None top same h k is_h is_k = cc
settled_again z at fence made again words d (Some o) (Some p) top same h k is_h is_k =
    subst (λ (x : Trace). length (above z x.done) - length (above z (below z k.done)) ≤ length (above z k.done)) (some_is is_h)
    (subst (λ (x : Trace). length (above z (record { at = made; done = d } ∷ o.done)) - length (above z (below z x.done)) ≤ length (above z x.done)) (some_is is_k)
    (one (ap length (above_pushed z (record { at = made; done = d }) o.done top))
    (ap length (above_pushed z (record { at = again; done = d }) (marked_on z words at fence p.done) refl ∙ ap (λ (xs : List Effect). record { at = again; done = d } ∷ xs) (above_marked z at fence words p.done)))
    (ap (λ (xs : List Effect). length (above z xs)) (below_pushed z (record { at = again; done = d }) (marked_on z words at fence p.done) refl ∙ below_marked z at fence words p.done))))
  where
    one : {w x y : ℕ} → w ≡ suc (length (above z o.done)) → x ≡ 1 → y ≡ length (above z p.done) → w - y ≤ x
    one is_w is_x is_y = omega (arith, is_w, is_x, is_y, same o p refl refl)

-- The first half failed and may have made it; the second one was marked.
module _ (ahead : ℕ) (a b a' m : Told) (left : Left) (alive : Bool) (less extra z generation : ℕ) (d : Done)
    (is : left ≡ Both) (lives : alive ≡ true) (sound : IsSoundBy ahead a b left alive less extra) (counted_a : IsCounted a) (counted_b : IsCounted b)
    (apart : is_label (a.size - 1) d ≡ false)
    (size : a'.size ≡ a.size) (calls : a'.calls ≡ next_count a.calls) (made : May d a'.calls a.trace a'.trace)
    (z_is : z ≡ a.size - 1) (marked : IsMarked z generation b m) where
  abbrev mirror_trace : Option Trace
  mirror_trace = joint ahead (a.size - 1) left a.calls a.trace b.trace

  halves_live : BothLive ahead a b less extra
  halves_live = sound.both (live left alive is lives)

  mirror_is : joint ahead (a.size - 1) Both a.calls a.trace b.trace ≡ mirror_trace
  mirror_is = ap (λ (x : Left). joint ahead (a.size - 1) x a.calls a.trace b.trace) (sym is)

  half_is : joint ahead (a'.size - 1) Second a'.calls a'.trace ≡ joint ahead (a.size - 1) Second a'.calls a'.trace
  half_is = ap (λ (n : ℕ). joint ahead (n - 1) Second a'.calls a'.trace) size

  pub m_is : m.trace ≡ did Fenced m.calls (did (Wrote (a.size - 1) (label_words generation)) (next_count b.calls) b.trace)
  m_is = marked.trace ∙ ap (λ (z : ℕ). did Fenced m.calls (did (Wrote z (label_words generation)) (next_count b.calls) b.trace)) z_is

  pub m_top : top_is_label (a.size - 1) (done_in m.trace) ≡ false
  m_top = rw m_is (top_marked (a.size - 1) (next_count b.calls) m.calls (label_words generation) b.trace)

  pub number_m : ahead ≡ ahead_by (a.size - 1) Second m.trace
  number_m = rw m_is (number_both ahead a b left alive less extra is sound ∙ sym (ahead_marked (a.size - 1) (next_count b.calls) m.calls (label_words generation) b.trace))

  pub m_step : (bn : ℕ) (k : Trace) → bn ≡ next_count m.calls → m.trace ≡ Some k
      → min (bn + (a'.calls + ahead - 2 - label_at (a.size - 1) k.done)) most ≡ calls_by ahead a'.calls less extra
  m_step bn k bn_is is_k =
      asked ahead a.calls b.calls a'.calls m.calls bn (label_at (a.size - 1) k.done) less extra counted_a.fits counted_b.fits
      (halves_live.lag (told_marked (next_count b.calls) m.calls (a.size - 1) (label_words generation) b.trace k (sym m_is ∙ is_k)))
      halves_live.none_less halves_live.none_extra calls marked.calls bn_is
      (label_marked (a.size - 1) (next_count b.calls) m.calls (label_words generation) b.trace k (sym m_is ∙ is_k))

  settled_m : Settled (a.size - 1) a.trace m.trace
  settled_m = subst (Settled (a.size - 1) a.trace) (sym m_is)
      (settled_marked (a.size - 1) (next_count b.calls) m.calls (label_words generation) a.trace b.trace (no_more (a.size - 1) a.trace b.trace halves_live.same))

  -- the first has made nothing: the second one makes it
  alone_did : a'.trace ≡ a.trace → (b' : Told) → b'.calls ≡ next_count m.calls → b'.trace ≡ did d b'.calls m.trace
      → joint ahead (a.size - 1) Second a'.calls a'.trace b'.trace ≡ did d (calls_by ahead a'.calls less extra) mirror_trace
  alone_did same b' b_calls b_trace =
      ap (joint ahead (a.size - 1) Second a'.calls a'.trace) b_trace
      ∙ second_any ahead (a.size - 1) a'.calls b'.calls (calls_by ahead a'.calls less extra) d a'.trace m.trace apart m_top
      (subst (λ (o : Option Trace). Settled (a.size - 1) o m.trace) (sym same) settled_m)
      (λ k is_k. m_step b'.calls k b_calls is_k)
      ∙ ap (did d (calls_by ahead a'.calls less extra)) (alone_none same)
    where
      alone_none : a'.trace ≡ a.trace → joint ahead (a.size - 1) Second a'.calls a'.trace m.trace ≡ mirror_trace
      alone_none same = ap (joint ahead (a.size - 1) Second a'.calls a'.trace) m_is
          ∙ second_marked ahead (a.size - 1) a'.calls a.calls (next_count b.calls) m.calls (label_words generation) a'.trace b.trace
          ∙ ap (λ (o : Option Trace). joint ahead (a.size - 1) Both a.calls o b.trace) same ∙ mirror_is

  -- the first has made it: the second one makes it again
  again_did : a'.trace ≡ did d a'.calls a.trace → (b' : Told) → b'.calls ≡ next_count m.calls → b'.trace ≡ did d b'.calls m.trace
      → joint ahead (a.size - 1) Second a'.calls a'.trace b'.trace ≡ did d (calls_by ahead a'.calls less extra) mirror_trace
  again_did same b' b_calls b_trace =
      ap (joint ahead (a.size - 1) Second a'.calls a'.trace) (b_trace ∙ ap (did d b'.calls) m_is)
      ∙ ap (λ (o : Option Trace). joint ahead (a.size - 1) Second a'.calls o
      (did d b'.calls (did Fenced m.calls (did (Wrote (a.size - 1) (label_words generation)) (next_count b.calls) b.trace)))) same
      ∙ second_remade ahead (a.size - 1) a'.calls a.calls (next_count b.calls) m.calls a'.calls b'.calls (label_words generation) d a.trace b.trace apart halves_live.top_a halves_live.same
      ∙ did_at d _ _ (joint ahead (a.size - 1) Both a.calls a.trace b.trace)
      (λ tells. asked ahead a.calls b.calls a'.calls m.calls b'.calls (next_count b.calls) less extra counted_a.fits counted_b.fits
      (halves_live.lag (joint_tells ahead (a.size - 1) a.calls Both a.trace b.trace tells)) halves_live.none_less halves_live.none_extra calls marked.calls b_calls refl)
      ∙ ap (did d (calls_by ahead a'.calls less extra)) mirror_is

  pub moved_did : (b' : Told) → b'.calls ≡ next_count m.calls → b'.trace ≡ did d b'.calls m.trace
      → joint ahead (a'.size - 1) Second a'.calls a'.trace b'.trace ≡ did d (calls_by ahead a'.calls less extra) (joint ahead (a.size - 1) left a.calls a.trace b.trace)
  moved_did b' b_calls b_trace =
      ap (λ (of : Option Trace → Option Trace). of b'.trace) half_is ∙ by_made made
    where
      by_made : May d a'.calls a.trace a'.trace → joint ahead (a.size - 1) Second a'.calls a'.trace b'.trace ≡ did d (calls_by ahead a'.calls less extra) mirror_trace
      by_made (inl same) = again_did same b' b_calls b_trace
      by_made (inr same) = alone_did same b' b_calls b_trace

  -- The second one was only marked.
  pub moved_none : joint ahead (a'.size - 1) Second a'.calls a'.trace m.trace ≡ joint ahead (a.size - 1) Both a'.calls a'.trace b.trace
  moved_none =
      ap (λ (of : Option Trace → Option Trace). of m.trace) half_is
      ∙ ap (joint ahead (a.size - 1) Second a'.calls a'.trace) m_is
      ∙ second_marked ahead (a.size - 1) a'.calls a'.calls (next_count b.calls) m.calls (label_words generation) a'.trace b.trace

  pub moved_made : a'.trace ≡ did d a'.calls a.trace → joint ahead (a'.size - 1) Second a'.calls a'.trace m.trace ≡ did d (calls_by ahead a'.calls less extra) (joint ahead (a.size - 1) left a.calls a.trace b.trace)
  moved_made same =
      let number : min (a'.calls + ahead) most ≡ calls_by ahead a'.calls less extra = omega (arith, halves_live.none_less, halves_live.none_extra) in
      moved_none ∙ ap (λ (o : Option Trace). joint ahead (a.size - 1) Both a'.calls o b.trace) same
      ∙ both_pushed ahead (a.size - 1) a'.calls a.calls a'.calls d a.trace b.trace apart halves_live.top_a
      ∙ ap (λ (n : ℕ). did d n (joint ahead (a.size - 1) Both a.calls a.trace b.trace)) number
      ∙ ap (did d (calls_by ahead a'.calls less extra)) mirror_is

  settled_moved : (n : ℕ) → Settled (a.size - 1) a'.trace (did d n m.trace)
  settled_moved n = by_made made
    where
      by_made : May d a'.calls a.trace a'.trace → Settled (a.size - 1) a'.trace (did d n m.trace)
      by_made (inl same) = subst (λ (o : Option Trace). Settled (a.size - 1) o (did d n m.trace)) (sym same)
          (subst (λ (p : Option Trace). Settled (a.size - 1) (did d a'.calls a.trace) (did d n p)) (sym m_is)
          (settled_again (a.size - 1) (next_count b.calls) m.calls a'.calls n (label_words generation) d a.trace b.trace halves_live.top_a halves_live.same))
      by_made (inr same) = subst (λ (o : Option Trace). Settled (a.size - 1) o (did d n m.trace)) (sym same)
          (settled_did (a.size - 1) n d a.trace m.trace m_top settled_m)

  pub sound_moved_did : (b' : Told) → b'.size ≡ m.size → b'.calls ≡ next_count m.calls → b'.trace ≡ did d b'.calls m.trace
      → IsSoundBy ahead a' b' Second alive less extra
  sound_moved_did b' b_size b_calls b_trace =
      let told_is = moved_did b' b_calls b_trace in
      let old_reads : LeavesAlike (a.size - 1) b.trace (joint ahead (a.size - 1) left a.calls a.trace b.trace) = rw is halves_live.reads in
      let after : SecondLives ahead a' b' less extra = record {
        none_less = halves_live.none_less;
        settled = rw (size, b_trace) (settled_moved b'.calls);
        top = rw (size, b_trace) (top_did (a.size - 1) b'.calls d m.trace apart);
        reads = rw (told_is, size, b_trace) (alike_did (a.size - 1) b'.calls (calls_by ahead a'.calls less extra) d m.trace _
            (rw m_is (alike_marked (a.size - 1) (next_count b.calls) m.calls (label_words generation) b.trace _ old_reads)));
        step = λ h is_h.
            let from = label_did (a.size - 1) b'.calls d m.trace h apart (sym b_trace ∙ is_h) in
            ap (λ (n : ℕ). min (b'.calls + (a'.calls + ahead - 2 - n)) most) (ap (λ (n : ℕ). label_at (n - 1) h.done) size ∙ from.1.1)
            ∙ m_step b'.calls from.0 b_calls from.1.0;
      } in
      let number : ahead ≡ ahead_by (a'.size - 1) Second b'.trace = rw (size, b_trace) (number_m ∙ sym (ahead_did (a.size - 1) b'.calls Second d m.trace m_top)) in
      rw lives (sound_second ahead a b a' b' left less extra less extra (subst (λ (x : Bool). IsSoundBy ahead a b left x less extra) lives sound) number size
      (b_size ∙ marked.size) (calls_up ahead a.calls a'.calls less extra counted_a.fits calls) (inr (d, told_is)) after)

-- The second half failed in a write that the first has made, and the first one was marked.
left_numbers : (ahead : ℕ) (a an m less extra : ℕ) → 4 ≤ ahead → a < 2 ^ 64 → less ≡ 0 → extra ≡ 0 → an ≡ next_count a → m ≡ next_count (next_count an)
    → min (an + ahead) most ≡ calls_by ahead m 2 extra
left_numbers ahead a an m less extra two fits less_is extra_is an_is m_is = omega (arith, two, fits, less_is, extra_is, an_is, m_is)

pub left_first_trace : (ahead : ℕ) (a b a' b' m : Told) (left : Left) (alive : Bool) (less extra z generation at : ℕ) (d : Done)
    → left ≡ Both → alive ≡ true → IsSoundBy ahead a b left alive less extra → IsCounted a → is_label (a.size - 1) d ≡ false
    → a'.size ≡ a.size → a'.calls ≡ next_count a.calls → a'.trace ≡ did d a'.calls a.trace → May d at b.trace b'.trace
    → z ≡ a.size - 1 → IsMarked z generation a' m
    → joint ahead (m.size - 1) First m.calls m.trace b'.trace ≡ did d (calls_by ahead m.calls 2 extra) (joint ahead (a.size - 1) left a.calls a.trace b.trace)
left_first_trace ahead a b a' b' m left alive less extra z generation at d is lives sound counted apart size calls a_trace b_trace z_is marked =
    let both = sound.both (live left alive is lives) in
    rw (marked.size, size, is, marked.trace, z_is)
    (first_marked ahead (a.size - 1) m.calls a'.calls (next_count a'.calls) m.calls (label_words generation) a'.trace b'.trace
    ∙ both_may ahead (a.size - 1) a'.calls a'.calls at d a'.trace b.trace b'.trace b_trace
    ∙ ap (λ (o : Option Trace). joint ahead (a.size - 1) Both a'.calls o b.trace) a_trace
    ∙ both_pushed ahead (a.size - 1) a'.calls a.calls a'.calls d a.trace b.trace apart both.top_a
    ∙ ap (λ (n : ℕ). did d n (joint ahead (a.size - 1) Both a.calls a.trace b.trace)) (left_numbers ahead a.calls a'.calls m.calls less extra (four_of ahead a b left alive less extra sound) counted.fits both.none_less both.none_extra calls marked.calls))

left_later : (ahead : ℕ) (a an m less extra : ℕ) → a < 2 ^ 64 → less ≡ 0 → extra ≡ 0 → an ≡ next_count a → m ≡ next_count (next_count an)
    → calls_by ahead a less extra ≤ calls_by ahead m 2 extra
left_later ahead a an m less extra fits less_is extra_is an_is m_is = omega (arith, fits, less_is, extra_is, an_is, m_is)

pub sound_left_first : (ahead : ℕ) (a b a' b' m : Told) (left : Left) (alive : Bool) (less extra z generation at : ℕ) (d : Done)
    → left ≡ Both → alive ≡ true → IsSoundBy ahead a b left alive less extra → IsCounted a → is_label (a.size - 1) d ≡ false
    → a'.size ≡ a.size → a'.calls ≡ next_count a.calls → a'.trace ≡ did d a'.calls a.trace
    → b'.size ≡ b.size → May d at b.trace b'.trace
    → z ≡ a.size - 1 → IsMarked z generation a' m
    → IsSoundBy ahead m b' First alive 2 extra
sound_left_first ahead a b a' b' m left alive less extra z generation at d is lives sound counted apart size calls a_trace b_size b_trace z_is marked =
    let both = sound.both (live left alive is lives) in
    let t_is = left_first_trace ahead a b a' b' m left alive less extra z generation at d is lives sound counted apart size calls a_trace b_trace z_is marked in
    let now : FirstLives m 2 extra = record {
      two_less = refl;
      none_extra = both.none_extra;
      top = rw (marked.trace, marked.size, size, z_is) (top_marked (a.size - 1) (next_count a'.calls) m.calls (label_words generation) a'.trace);
    } in
    let number : ahead ≡ ahead_by (m.size - 1) First b'.trace =
    rw (marked.size, size) (number_both ahead a b left alive less extra is sound ∙ sym (ahead_first (a.size - 1) b.trace)
    ∙ sym (number_may (a.size - 1) at First d b.trace b'.trace both.top_b b_trace)) in
    rw lives (sound_first ahead a b m b' left less extra 2 extra (subst (λ (x : Bool). IsSoundBy ahead a b left x less extra) lives sound) number (marked.size ∙ size) b_size
    (left_later ahead a.calls a'.calls m.calls less extra counted.fits both.none_less both.none_extra calls marked.calls) (inr (d, t_is)) now)

-- The same, and the first one wasn't marked.
lost_numbers : (ahead : ℕ) (a an m made less extra : ℕ) → 4 ≤ ahead → a < 2 ^ 64 → less ≡ 0 → extra ≡ 0 → made ≤ 2 → an ≡ next_count a → m ≡ min (an + made) most
    → (min (an + ahead) most ≡ calls_by ahead m made extra) × (calls_by ahead a less extra ≤ calls_by ahead m made extra)
lost_numbers ahead a an m made less extra two fits less_is extra_is few an_is m_is =
    (omega (arith, two, fits, less_is, extra_is, an_is, m_is, few), omega (arith, two, fits, less_is, extra_is, an_is, m_is, few))

pub label_may : (ahead : ℕ) (z n at : ℕ) (words : List ℕ) (o q p : Option Trace) → May (Wrote z words) at o q → joint ahead z Both n q p ≡ joint ahead z Both n o p
label_may ahead z n at words o q p (inl is) = ap (λ (x : Option Trace). joint ahead z Both n x p) is ∙ both_labelled ahead z n n at words o p
label_may ahead z n at words o q p (inr is) = ap (λ (x : Option Trace). joint ahead z Both n x p) is

pub lost_trace : (ahead : ℕ) (a b a' b' m : Told) (left : Left) (alive : Bool) (less extra z generation made at : ℕ) (d : Done)
    → left ≡ Both → alive ≡ true → IsSoundBy ahead a b left alive less extra → IsCounted a → is_label (a.size - 1) d ≡ false
    → a'.size ≡ a.size → a'.calls ≡ next_count a.calls → a'.trace ≡ did d a'.calls a.trace → May d at b.trace b'.trace
    → z ≡ a.size - 1 → IsNotMarked z generation made a' m
    → joint ahead (m.size - 1) left m.calls m.trace b'.trace ≡ did d (calls_by ahead m.calls made extra) (joint ahead (a.size - 1) left a.calls a.trace b.trace)
lost_trace ahead a b a' b' m left alive less extra z generation made at d is lives sound counted apart size calls a_trace b_trace z_is unmarked =
    let both = sound.both (live left alive is lives) in
    let label : May (Wrote (a.size - 1) (label_words generation)) (next_count a'.calls) a'.trace m.trace =
    subst (λ (z : ℕ). May (Wrote z (label_words generation)) (next_count a'.calls) a'.trace m.trace) z_is unmarked.trace in
    rw (unmarked.size, size, is)
    (label_may ahead (a.size - 1) m.calls (next_count a'.calls) (label_words generation) a'.trace m.trace b'.trace label
    ∙ both_may ahead (a.size - 1) m.calls a'.calls at d a'.trace b.trace b'.trace b_trace
    ∙ ap (λ (o : Option Trace). joint ahead (a.size - 1) Both a'.calls o b.trace) a_trace
    ∙ both_pushed ahead (a.size - 1) a'.calls a.calls a'.calls d a.trace b.trace apart both.top_a
    ∙ ap (λ (n : ℕ). did d n (joint ahead (a.size - 1) Both a.calls a.trace b.trace))
    (lost_numbers ahead a.calls a'.calls m.calls made less extra (four_of ahead a b left alive less extra sound) counted.fits both.none_less both.none_extra unmarked.range.1 calls unmarked.calls).0)

-- a read of both, which the first half answers
pub sound_both_read : (ahead : ℕ) (a b a' : Told) (left : Left) (alive : Bool) (less extra : ℕ)
    → left ≡ Both → alive ≡ true → IsSoundBy ahead a b left alive less extra → IsCounted a
    → a'.size ≡ a.size → a'.calls ≡ next_count a.calls → a'.trace ≡ a.trace
    → IsSoundBy ahead a' b left alive less extra
sound_both_read ahead a b a' left alive less extra is lives sound counted size calls trace =
    let both = sound.both (live left alive is lives) in
    let before : IsSoundBy ahead a b Both true less extra = subst (λ (x : Bool). IsSoundBy ahead a b Both x less extra) lives
    (subst (λ (x : Left). IsSoundBy ahead a b x alive less extra) is sound) in
    let t_is : joint ahead (a'.size - 1) Both a'.calls a'.trace b.trace ≡ joint ahead (a.size - 1) Both a.calls a.trace b.trace =
    rw (size, trace) (both_same ahead (a.size - 1) a'.calls a.calls a.trace b.trace) in
    let now : BothLive ahead a' b less extra = record {
      none_less = both.none_less;
      none_extra = both.none_extra;
      lag = λ tells. omega (arith, both.lag tells, calls, counted.fits);
      top_a = rw (size, trace) both.top_a;
      top_b = rw size both.top_b;
      same = rw (size, trace) both.same;
      reads = rw (t_is, size) both.reads;
    } in
    rw (is, lives) (sound_both ahead a b a' b less extra before (rw size before.number) size refl (calls_up ahead a.calls a'.calls less extra counted.fits calls) (inl t_is) now)

-- a read that the second half answers alone
pub sound_second_read : (ahead : ℕ) (a b b' : Told) (left : Left) (alive : Bool) (less extra now : ℕ)
    → left ≡ Second → alive ≡ true → IsSoundBy ahead a b left alive less extra → IsCounted b
    → now ≡ min (extra + 1) (2 ^ 64 - 1)
    → b'.size ≡ b.size → b'.calls ≡ next_count b.calls → b'.trace ≡ b.trace
    → IsSoundBy ahead a b' left alive less now
sound_second_read ahead a b b' left alive less extra now is lives sound counted now_is size calls trace =
    let second = sound.second (live_second left alive is lives) in
    let before : IsSoundBy ahead a b Second true less extra = subst (λ (x : Bool). IsSoundBy ahead a b Second x less extra) lives
    (subst (λ (x : Left). IsSoundBy ahead a b x alive less extra) is sound) in
    let t_is : joint ahead (a.size - 1) Second a.calls a.trace b'.trace ≡ joint ahead (a.size - 1) Second a.calls a.trace b.trace = ap (joint ahead (a.size - 1) Second a.calls a.trace) trace in
    let after : SecondLives ahead a b' less now = record {
      none_less = second.none_less;
      settled = rw trace second.settled;
      top = rw trace second.top;
      reads = rw (t_is, trace) second.reads;
      step = λ h is_h. next_step ahead b.calls b'.calls a.calls less extra now (a.calls + ahead - 2 - label_at (a.size - 1) h.done) counted.fits second.none_less calls now_is
          (second.step h (sym trace ∙ is_h));
    } in
    rw (is, lives) (sound_second ahead a b a b' Second less extra less now before (rw trace before.number) refl size (extra_up ahead a.calls less extra now now_is) (inl t_is) after)
