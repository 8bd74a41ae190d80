-- The frames of threads, one by one.
use Rattle.std.proofs.Common.{◌≡◌, ℕ, zero, suc, ◌<◌, ◌≤◌, List, [], ◌∷◌, ◌++◌, length, get_or, set, Option, Some, None, refl}
use Rattle.std.proofs.Common.{ap, sym, subst, ◌∙◌, arith}
use Rattle.std.specs.Prelude.{slice_get, slice_set}
use Rattle.std.proofs.lemmas.List.{get_or-set_same, set-set}
use Rattle.frame_steps.specs.Sized.{AreOf}
use Rattle.run_forms.specs.Views.{ThreadFrames}
use Rattle.run_forms.specs.Standing.{Launch}
use Rattle.plain_machine.specs.declared.lanes.Lane.{Lane}
use Rattle.plain_machine.specs.Standing.{AreAhead, AreOfProgram, IsAhead}

some-same : (v w : ThreadFrames) → ◌≡◌ {A = Option ThreadFrames} (Some v) (Some w) → v ≡ w
some-same v w e = cc

none-some : {X P : Type 0} (v : X) → ◌≡◌ {A = Option X} None (Some v) → P
none-some v e = absurd (let no = e in cc)

module _ (launch : Launch) where
  -- the thread of a lane
  pub ahead-at : (threads : List ThreadFrames) (lanes : List Lane) (t : ℕ) (lane : Lane)
      → AreAhead launch threads lanes → t < length lanes → lane ≡ get_or lanes t lane
      → (fs : ThreadFrames) × (slice_get threads t ≡ Some fs) × IsAhead launch fs lane.asked lane.frames
  ahead-at [] [] t lane h below is = absurd (omega (arith, below))
  ahead-at [] (l ∷ ls) t lane h below is = absurd h
  ahead-at (f ∷ fs) [] t lane h below is = absurd h
  ahead-at (f ∷ fs) (l ∷ ls) zero lane h below is =
      (f, refl, subst (λ (x : Lane). IsAhead launch f x.asked x.frames) (sym is) h.0)
  ahead-at (f ∷ fs) (l ∷ ls) (suc t) lane h below is =
      ahead-at fs ls t lane h.1 (omega (arith, below)) is

  pub ahead-none : (threads : List ThreadFrames) (lanes : List Lane) (t : ℕ) → AreAhead launch threads lanes
      → length lanes ≤ t → slice_get threads t ≡ None
  ahead-none [] lanes t h above = refl
  ahead-none (f ∷ fs) [] t h above = absurd h
  ahead-none (f ∷ fs) (l ∷ ls) zero h above = absurd (omega (arith, above))
  ahead-none (f ∷ fs) (l ∷ ls) (suc t) h above = ahead-none fs ls t h.1 (omega (arith, above))

  -- another state of the same thread
  pub ahead-same : (threads : List ThreadFrames) (lanes : List Lane) (t : ℕ) (fs : ThreadFrames) (lane : Lane)
      → AreAhead launch threads lanes → slice_get threads t ≡ Some fs
      → IsAhead launch fs lane.asked lane.frames
      → AreAhead launch threads (set lanes t lane)
  ahead-same [] [] t fs lane h at is = h
  ahead-same [] (l ∷ ls) t fs lane h at is = absurd h
  ahead-same (f ∷ gs) [] t fs lane h at is = absurd h
  ahead-same (f ∷ gs) (l ∷ ls) zero fs lane h at is = (
    subst (λ (g : ThreadFrames). IsAhead launch g lane.asked lane.frames) (sym (some-same f fs at)) is,
    h.1,
  )
  ahead-same (f ∷ gs) (l ∷ ls) (suc t) fs lane h at is = (h.0, ahead-same gs ls t fs lane h.1 at is)

  -- other frames of the thread
  pub ahead-set : (threads : List ThreadFrames) (lanes : List Lane) (t : ℕ) (fs : ThreadFrames) (lane : Lane)
      → AreAhead launch threads lanes → IsAhead launch fs lane.asked lane.frames
      → AreAhead launch (slice_set threads t fs) (set lanes t lane)
  ahead-set [] [] t fs lane h is = h
  ahead-set [] (l ∷ ls) t fs lane h is = absurd h
  ahead-set (f ∷ gs) [] t fs lane h is = absurd h
  ahead-set (f ∷ gs) (l ∷ ls) zero fs lane h is = (is, h.1)
  ahead-set (f ∷ gs) (l ∷ ls) (suc t) fs lane h is = (h.0, ahead-set gs ls t fs lane h.1 is)

  pub ahead-more : (threads begun : List ThreadFrames) (lanes more : List Lane)
      → AreAhead launch threads lanes
      → AreAhead launch begun more → AreAhead launch (threads ++ begun) (lanes ++ more)
  ahead-more [] begun [] more h is = is
  ahead-more [] begun (l ∷ ls) more h is = absurd h
  ahead-more (f ∷ gs) begun [] more h is = absurd h
  ahead-more (f ∷ gs) begun (l ∷ ls) more h is = (h.0, ahead-more gs begun ls more h.1 is)

  -- ---- the program

  pub of-at : (lanes : List Lane) (t : ℕ) (lane : Lane) → AreOfProgram launch lanes → t < length lanes
      → lane ≡ get_or lanes t lane → AreOf launch.program lane.frames.frames
  of-at [] t lane h below is = absurd (omega (arith, below))
  of-at (l ∷ ls) zero lane h below is = subst (λ (x : Lane). AreOf launch.program x.frames.frames) (sym is)
      h.0
  of-at (l ∷ ls) (suc t) lane h below is = of-at ls t lane h.1 (omega (arith, below)) is

  pub of-set : (lanes : List Lane) (t : ℕ) (lane : Lane) → AreOfProgram launch lanes
      → AreOf launch.program lane.frames.frames → AreOfProgram launch (set lanes t lane)
  of-set [] t lane h is = h
  of-set (l ∷ ls) zero lane h is = (is, h.1)
  of-set (l ∷ ls) (suc t) lane h is = (h.0, of-set ls t lane h.1 is)

  pub of-more : (lanes more : List Lane) → AreOfProgram launch lanes → AreOfProgram launch more
      → AreOfProgram launch (lanes ++ more)
  of-more [] more h is = is
  of-more (l ∷ ls) more h is = (h.0, of-more ls more h.1 is)

-- ---- writes to the list

pub lane-is : (lanes : List Lane) (at : ℕ) (a x : Lane) → at < length lanes → x ≡ get_or (set lanes at a) at x
    → x ≡ a
lane-is lanes at a x below is = is ∙ get_or-set_same lanes at a x below

pub set-twice : (before lanes : List Lane) (at t : ℕ) (a b : Lane) → before ≡ lanes → at ≡ t
    → set (set before at a) at b ≡ set lanes t b
set-twice before lanes at t a b same at_t = set-set before at a b ∙ ap (λ (ls : List Lane). set ls at b) same
    ∙ ap (λ (k : ℕ). set lanes k b) at_t

pub lane-there : (before lanes : List Lane) (at t : ℕ) (lane : Lane) → before ≡ lanes → at ≡ t
    → lane ≡ get_or before at lane → lane ≡ get_or lanes t lane
lane-there before lanes at t lane same at_t is = is ∙ ap (λ (ls : List Lane). get_or ls at lane) same
    ∙ ap (λ (k : ℕ). get_or lanes k lane) at_t
