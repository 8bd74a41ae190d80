-- The parts of a turn.
use Rattle.std.proofs.Common.{◌≡◌, ℕ, suc, false, List, ◌∷◌, Option, None, Some, refl, ap, sym, ◌∙◌}
use Rattle.run_types.specs.declared.key.Key.{Key}
use Rattle.run_types.specs.declared.resolved.At.{At}
use Rattle.code_form.specs.declared.ins.Sort.{Sort}
use Rattle.natives.specs.declared.requests.Request.{Request}
use Rattle.frame_cells.specs.Own.{Own, After}
use Rattle.frames.specs.declared.op.Link.{Link}
use Rattle.frames.specs.declared.op.Op.{Op}
use Rattle.frames.specs.declared.op.Op.TheVariants as op
use Rattle.frames.specs.Tables.{from_of}
use Rattle.frames.specs.Settings.{Frame, Running, Runs, Frames, Setting}
use Rattle.frames.specs.Private.{private_step}
use Rattle.frames.specs.Requests.{request_of}
use Rattle.frames.specs.Calls.{Stepped, is_bad, after}
use Rattle.frames.specs.Turns.{asked_by, asks_or, asks_with, one_of, does, turn_of}
use Rattle.frame_thread.specs.declared.form.Form.TheVariants as form
use Rattle.frame_thread.specs.declared.form.Standing.{Standing}
use Rattle.frame_thread.specs.Stacked.{Stacked, frames_of}
use Rattle.frame_thread.specs.Stops.{is_of_cells, running, asking, asked_or_bad}
use Rattle.frame_thread.proofs.Running.{other-stays}
use Rattle.private_steps.specs.Turning.{asked_or_left, goes_alone}

module _ {M R N V : Type 0} (x : Setting M R N V) where
  -- the thread asks before it does an instruction
  pub turn-asked : (fs : Frames R N) (r : Request R V) (n k : ℕ) → n ≡ suc k →
      asked_by x fs.doing fs.frames ≡ Some r → turn_of x n fs ≡ asks_with x r fs
  turn-asked fs r n k h e =
      ap (λ n. turn_of x n fs) h ∙ ap (λ a. let s : Stepped R N V = one_of x a fs in
      elim s.asks as (λ _. Stepped R N V) [ None ↦ turn_of x k s.frames | Some r ↦ s ]) e

  -- it runs a native method
  pub turn-native : (s : Stacked R N) (from : At) (state : N) (n k : ℕ) → n ≡ suc k → s.doing ≡ Runs →
      s.form ≡ Some (form.Native from state) →
      turn_of x n (frames_of s) ≡ record { frames = frames_of s; asks = Some (x.asks state) }
  turn-native s from state n k h d f = rw (h, d, f) refl

  step-or : (k : ℕ) (a : Option (Request R V)) (fs : Frames R N) → asked_or_left x a k fs ≡
      (let s : Stepped R N V = record { frames = fs; asks = a } in
      elim a as (λ _. Stepped R N V) [ None ↦ turn_of x k fs | Some r ↦ s ])
  step-or k None fs = refl
  step-or k (Some r) fs = refl

  -- an instruction asks of its operands, or finds them wrong
  asks-or-bad : (a : Option (Request R V)) (m at : ℕ) (own : Own R) (held : Option (Key R))
      (below : List (Frame R N)) →
      asks_or x a (Running m at own held ∷ below) (is_bad x m at (Running m at own held ∷ below)) ≡
      record { frames = running m at own held below; asks = asked_or_bad x a m at }
  asks-or-bad None m at own held below = refl
  asks-or-bad (Some r) m at own held below = refl

  does-other : (o : Op) (m at : ℕ) (own : Own R) (held : Option (Key R)) (below : List (Frame R N)) →
      goes_alone o ≡ false → does x o m at own held below ≡
      asks_or x (request_of x o (from_of x.program m at) own) (Running m at own held ∷ below)
      (after x m at held below (private_step x o own))
  does-other op.Return m at own held below e = absurd cc
  does-other (op.ReturnValue sort) m at own held below e = absurd cc
  does-other (op.InvokeSpecial k) m at own held below e = absurd cc
  does-other (op.InvokeStatic k) m at own held below e = absurd cc
  does-other (op.Unlinked link) m at own held below e = absurd cc
  does-other o m at own held below e = refl

  pub does-shared : (o : Op) (m at : ℕ) (own : Own R) (held : Option (Key R)) (below : List (Frame R N)) →
      goes_alone o ≡ false → is_of_cells o ≡ false → does x o m at own held below ≡ record {
        frames = running m at own held below;
        asks = asked_or_bad x (request_of x o (from_of x.program m at) own) m at;
      }
  does-shared o m at own held below e c =
      does-other o m at own held below e ∙
      ap (λ (a : After R). asks_or x (request_of x o (from_of x.program m at) own) (Running m at own held ∷ below)
      (after x m at held below a)) (other-stays x o own c) ∙ asks-or-bad _ m at own held below

  pub shared-step : (o : Op) (s : Stacked R N) (standing : Standing R) (asked : Option (Request R V)) →
      s.form ≡ Some (form.Running standing) → s.doing ≡ Runs → goes_alone o ≡ false → is_of_cells o ≡ false →
      asked ≡ asked_or_bad x (request_of x o (from_of x.program standing.method standing.at) s.own)
      standing.method standing.at →
      asking asked s ≡ does x o standing.method standing.at s.own standing.held s.below
  shared-step o s standing asked f d e c a =
      rw (f, d, a) (sym (does-shared o standing.method standing.at s.own standing.held s.below e c))

-- an instruction that isn't one of these
pub alone-none : (o : Op) → (o ≡ op.Return → ⊥) → ((s : Sort) → o ≡ op.ReturnValue s → ⊥) →
    ((k : ℕ) → o ≡ op.InvokeSpecial k → ⊥) → ((k : ℕ) → o ≡ op.InvokeStatic k → ⊥) →
    ((l : Link) → o ≡ op.Unlinked l → ⊥) → goes_alone o ≡ false
alone-none op.Return a b c d e = absurd (a refl)
alone-none (op.ReturnValue s) a b c d e = absurd (b s refl)
alone-none (op.InvokeSpecial k) a b c d e = absurd (c k refl)
alone-none (op.InvokeStatic k) a b c d e = absurd (d k refl)
alone-none (op.Unlinked l) a b c d e = absurd (e l refl)
alone-none o a b c d e = refl
