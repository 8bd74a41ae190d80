-- The frames by the acts, after changes of what threads are about and of their own frames.
use Rattle.std.proofs.Common.{◌≡◌, inl, inr, ℕ, zero, suc, ◌<◌, ◌≤◌, List, [], ◌∷◌, ◌++◌, length, Option, Some, None, refl, ap}
use Rattle.std.proofs.Common.{sym, ◌∙◌, arith}
use Rattle.std.specs.Prelude.{slice_get, slice_set, slice_index_or}
use Rattle.std.specs.Option.{option_map}
use Rattle.run_forms.specs.Views.{ThreadFrames}
use Rattle.run_forms.specs.Standing.{Launch}
use Rattle.machine_forms.specs.declared.doing.Doing.{Doing}
use Rattle.machine_forms.specs.declared.doing.Doing.TheVariants.{Nothing, Fencing}
use Rattle.machine_laws.specs.Frames.{acted_frames, all_acted, stored_frames, IsReady}

none-some : {X : Type 0} (v : X) {P : Type 0} → ◌≡◌ {A = Option X} None (Some v) → P
none-some v e = absurd (let no = e in cc)

some-same : {X : Type 0} (v w : X) → ◌≡◌ {A = Option X} (Some v) (Some w) → v ≡ w
some-same v w e = cc

nothing-fencing : {P : Type 0} → Nothing ≡ Fencing → P
nothing-fencing e = absurd (let no = e in cc)

-- ---- what a thread is about

pub about-other : (ds : List Doing) (t u : ℕ) (d : Doing) → t < u
    → slice_index_or (slice_set ds t d) u Nothing ≡ slice_index_or ds u Nothing
about-other [] t u d lt = refl
about-other (x ∷ ds) zero zero d lt = absurd (omega (arith, lt))
about-other (x ∷ ds) zero (suc u) d lt = refl
about-other (x ∷ ds) (suc t) zero d lt = absurd (omega (arith, lt))
about-other (x ∷ ds) (suc t) (suc u) d lt = about-other ds t u d (omega (arith, lt))

-- it is about what it was
pub about-same : (ds : List Doing) (t : ℕ) → slice_set ds t (slice_index_or ds t Nothing) ≡ ds
about-same [] t = refl
about-same (d ∷ ds) zero = refl
about-same (d ∷ ds) (suc t) = ap (λ xs. d ∷ xs) (about-same ds t)

module _ (launch : Launch) where
  -- a ready thread doesn't lag
  pub ready-own : (d : Doing) (fs : ThreadFrames) → IsReady d → acted_frames launch d fs ≡ fs
  ready-own d fs (inl nothing) = ap (λ x. acted_frames launch x fs) nothing
  ready-own d fs (inr converting) = ap (λ x. acted_frames launch x fs) converting

  pub frames-at : (ds : List Doing) (threads : List ThreadFrames) (t : ℕ) (fs : ThreadFrames)
      → slice_get threads t ≡ Some fs
      → slice_get (all_acted launch ds threads) t
      ≡ Some (acted_frames launch (slice_index_or ds t Nothing) fs)
  frames-at [] threads t fs here = here
  frames-at (d ∷ ds) [] t fs here = none-some fs here
  frames-at (d ∷ ds) (g ∷ gs) zero fs here = ap (option_map (acted_frames launch d)) here
  frames-at (d ∷ ds) (g ∷ gs) (suc t) fs here = frames-at ds gs t fs here

  -- ---- while threads are about nothing

  pub none-lags : (ds : List Doing) (threads : List ThreadFrames)
      → ((u : ℕ) → slice_index_or ds u Nothing ≡ Nothing) → all_acted launch ds threads ≡ threads
  none-lags [] threads none = refl
  none-lags (d ∷ ds) [] none = refl
  none-lags (d ∷ ds) (g ∷ gs) none =
      let own : acted_frames launch d g ≡ g = ap (λ x. acted_frames launch x g) (none zero) in
      let others = none-lags ds gs (λ u. none (suc u)) in
      λ i. own i ∷ others i

  -- threads that begin are about nothing
  pub frames-append : (ds : List Doing) (threads begun : List ThreadFrames)
      → ((u : ℕ) → length threads ≤ u → slice_index_or ds u Nothing ≡ Nothing)
      → all_acted launch ds (threads ++ begun) ≡ all_acted launch ds threads ++ begun
  frames-append [] threads begun none = refl
  frames-append (d ∷ ds) [] begun none = none-lags (d ∷ ds) begun (λ u. none u (omega arith))
  frames-append (d ∷ ds) (g ∷ gs) begun none =
      ap (λ xs. acted_frames launch d g ∷ xs)
      (frames-append ds gs begun (λ u past. none (suc u) (omega (arith, past))))

  -- ---- one thread

  -- it is about something else, and lags as before
  pub frames-same : (ds : List Doing) (threads : List ThreadFrames) (t : ℕ) (d : Doing)
      → ((fs : ThreadFrames)
      → acted_frames launch d fs ≡ acted_frames launch (slice_index_or ds t Nothing) fs)
      → all_acted launch (slice_set ds t d) threads ≡ all_acted launch ds threads
  frames-same [] threads t d same = refl
  frames-same (x ∷ ds) [] zero d same = refl
  frames-same (x ∷ ds) [] (suc t) d same = refl
  frames-same (x ∷ ds) (g ∷ gs) zero d same = ap (λ y. y ∷ all_acted launch ds gs) (same g)
  frames-same (x ∷ ds) (g ∷ gs) (suc t) d same =
      ap (λ xs. acted_frames launch x g ∷ xs) (frames-same ds gs t d same)

  -- it is about something else, and its own frames stay
  pub frames-set : (ds : List Doing) (threads : List ThreadFrames) (t : ℕ) (d : Doing) (fs : ThreadFrames)
      → t < length ds → slice_get threads t ≡ Some fs
      → all_acted launch (slice_set ds t d) threads
      ≡ slice_set (all_acted launch ds threads) t (acted_frames launch d fs)
  frames-set [] threads t d fs lt here = absurd (omega (arith, lt))
  frames-set (x ∷ ds) [] t d fs lt here = none-some fs here
  frames-set (x ∷ ds) (g ∷ gs) zero d fs lt here =
      ap (λ f. acted_frames launch d f ∷ all_acted launch ds gs) (some-same g fs here)
  frames-set (x ∷ ds) (g ∷ gs) (suc t) d fs lt here =
      ap (λ xs. acted_frames launch x g ∷ xs) (frames-set ds gs t d fs (omega (arith, lt)) here)

  -- its own frames are answered, and threads begin
  pub frames-answered : (ds : List Doing) (threads : List ThreadFrames) (t : ℕ) (d : Doing)
      (fs : ThreadFrames) (begun : List ThreadFrames) → t < length threads → acted_frames launch d fs ≡ fs
      → ((u : ℕ) → length threads ≤ u → slice_index_or ds u Nothing ≡ Nothing)
      → all_acted launch (slice_set ds t d) (slice_set threads t fs ++ begun)
      ≡ slice_set (all_acted launch ds threads) t fs ++ begun
  frames-answered [] threads t d fs begun lt own none = refl
  frames-answered (x ∷ ds) [] t d fs begun lt own none = absurd (omega (arith, lt))
  frames-answered (x ∷ ds) (g ∷ gs) zero d fs begun lt own none =
      let others = frames-append ds gs begun (λ u past. none (suc u) (omega (arith, past))) in
      λ i. own i ∷ others i
  frames-answered (x ∷ ds) (g ∷ gs) (suc t) d fs begun lt own none =
      ap (λ xs. acted_frames launch x g ∷ xs) (frames-answered ds gs t d fs begun (omega (arith, lt)) own
      (λ u past. none (suc u) (omega (arith, past))))

  -- its store is fenced, and its own frames lag no more
  pub frames-fenced : (ds : List Doing) (threads : List ThreadFrames) (t : ℕ) (fs : ThreadFrames)
      → slice_index_or ds t Nothing ≡ Fencing → slice_get threads t ≡ Some fs
      → all_acted launch (slice_set ds t Nothing) (slice_set threads t (stored_frames launch fs))
      ≡ all_acted launch ds threads
  frames-fenced [] threads t fs is here = nothing-fencing is
  frames-fenced (x ∷ ds) [] t fs is here = none-some fs here
  frames-fenced (x ∷ ds) (g ∷ gs) zero fs is here =
      ap (λ y. y ∷ all_acted launch ds gs)
      (sym (ap (λ d. acted_frames launch d g) is ∙ ap (stored_frames launch) (some-same g fs here)))
  frames-fenced (x ∷ ds) (g ∷ gs) (suc t) fs is here =
      ap (λ xs. acted_frames launch x g ∷ xs) (frames-fenced ds gs t fs is here)
