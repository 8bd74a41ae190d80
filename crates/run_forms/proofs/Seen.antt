-- Frames that are in a world are the same under a later view of their references.
use Rattle.std.proofs.Common.{◌≡◌, ℕ, ◌<◌, List, [], ◌∷◌, length, map, unwrap_or, Option, Some, None, refl, ap, subst, arith}
use Rattle.std.specs.Prelude.{All}
use Rattle.std.proofs.lemmas.List.Elements.{All-head, All-tail}
use Rattle.ap_base.specs.declared.reference.Ref.{Ref}
use Rattle.ap_base.specs.declared.reference.Ref.TheVariants as ref
use Rattle.run_types.specs.declared.key.Key.{Key}
use Rattle.run_types.specs.declared.key.Key.TheVariants as key
use Rattle.graph_model.specs.declared.types.Value.{Value}
use Rattle.graph_model.specs.declared.types.Value.TheVariants as value
use Rattle.natives.specs.declared.states.NativeState.{NativeState}
use Rattle.run_history.specs.Worlds.{World}
use Rattle.plain_model.specs.Facts.{SetFacts}
use Rattle.plain_model.specs.Duties.{IsReferenceIn}
use Rattle.frame_cells.specs.declared.cell.Cell.{Cell}
use Rattle.frame_cells.specs.declared.cell.Cell.TheVariants.{Empty, Int, Long, Half, Reference}
use Rattle.frame_cells.specs.Own.{Own}
use Rattle.frames.specs.Settings.{Frame, Running, Native, Initialiser, Main, Doing, Runs, BeginsMain, BeginsThread, Enters}
use Rattle.frames.specs.Settings.{Unwinds, Initialises, Initialised, Breaks, Ends}
use Rattle.frames.specs.Maps.{map_cell, map_own, map_held, map_doing, map_frame, map_frames}
use Rattle.plain_frames.specs.Sound.{IsCellIn, IsOwnIn, IsHeldIn, IsFrameIn, IsDoingIn, AreIn}
use Rattle.plain_frames.specs.Coded.{plain_reference}
use Rattle.plain_frames.specs.Moves.{map_state}
use Rattle.plain_frames.specs.Worlds.{is_in}
use Rattle.shared_objects.specs.Shown.{Shown, Keeps}
use Rattle.run_forms.specs.Views.{ThreadFrames, numbered, plain_frames}
use Rattle.run_forms.proofs.States.{IsRefIn, state-same}

-- f' is as f is where f gives null or an object of the world
module _ (set : SetFacts) (world : World) (t : ℕ) (f f' : Ref → Value) (same : (r : Ref) → IsReferenceIn world (f r) → f' r ≡ f r) where
  abbrev g : NativeState Ref → NativeState Value
  g = map_state f

  abbrev g' : NativeState Ref → NativeState Value
  g' = map_state f'

  in-world : (v : Value) → IsRefIn (length world.heap.objects) v → IsReferenceIn world v
  in-world value.Null h = tt
  in-world (value.Obj k) h = h
  in-world (value.Int i) h = h
  in-world (value.Long i) h = h

  cell-same : (c : Cell Ref) → IsCellIn world (map_cell f c) → map_cell f' c ≡ map_cell f c
  cell-same Empty h = refl
  cell-same (Int i) h = refl
  cell-same (Long i) h = refl
  cell-same Half h = refl
  cell-same (Reference r) h = λ i. Reference (same r h i)

  cells-same : (cs : List (Cell Ref)) → All (IsCellIn world) (map (map_cell f) cs)
      → map (map_cell f') cs ≡ map (map_cell f) cs
  cells-same [] h = refl
  cells-same (c ∷ cs) h =
      let first = cell-same c (All-head (IsCellIn world) (map_cell f c) (map (map_cell f) cs) h) in
      let others = cells-same cs (All-tail (IsCellIn world) (map_cell f c) (map (map_cell f) cs) h) in
      λ i. first i ∷ others i

  own-same : (own : Own Ref) → IsOwnIn world (map_own f own) → map_own f' own ≡ map_own f own
  own-same own h =
      let locals = cells-same own.locals h.locals in
      let stack = cells-same own.stack h.stack in
      λ i. record { locals = locals i; stack = stack i; room = own.room }

  held-same : (held : Option (Key Ref)) → IsHeldIn set (is_in set) world (map_held f held)
      → map_held f' held ≡ map_held f held
  held-same None h = refl
  held-same (Some (key.Object r)) h = λ i. Some (key.Object (same r h i))
  held-same (Some (key.Class c)) h = refl

  frame-same : (frame : Frame Ref (NativeState Ref)) → IsFrameIn set (is_in set) world t (map_frame f g frame)
      → map_frame f' g' frame ≡ map_frame f g frame
  frame-same (Running m at own held) h = λ i. Running m at (own-same own h.0 i) (held-same held h.1 i)
  frame-same (Native from state) h =
      λ i. Native from
      (state-same f f' (length world.heap.objects) (λ r is. same r (in-world (f r) is)) set state h i)
  frame-same (Initialiser class from) h = refl
  frame-same (Main m arguments) h = λ i. Main m (same arguments h i)

  frames-same : (frames : List (Frame Ref (NativeState Ref)))
      → All (IsFrameIn set (is_in set) world t) (map (map_frame f g) frames)
      → map (map_frame f' g') frames ≡ map (map_frame f g) frames
  frames-same [] h = refl
  frames-same (x ∷ xs) h =
      let first = frame-same x
      (All-head (IsFrameIn set (is_in set) world t) (map_frame f g x) (map (map_frame f g) xs) h) in
      let others = frames-same xs
      (All-tail (IsFrameIn set (is_in set) world t) (map_frame f g x) (map (map_frame f g) xs) h) in
      λ i. first i ∷ others i

  doing-same : (doing : Doing Ref) (frames : List (Frame Value (NativeState Value)))
      → IsDoingIn set (is_in set) world t (map_doing f doing) frames → map_doing f' doing ≡ map_doing f doing
  doing-same Runs frames h = refl
  doing-same (BeginsMain class) frames h = refl
  doing-same (BeginsThread r) frames h = λ i. BeginsThread (same r h i)
  doing-same Enters frames h = refl
  doing-same (Unwinds r class) frames h = λ i. Unwinds (same r h.0 i) class
  doing-same (Initialises super) frames h = refl
  doing-same Initialised frames h = refl
  doing-same (Breaks fault) frames h = refl
  doing-same (Ends uncaught) frames h = refl

  pub seen-same : (fs : ThreadFrames) → AreIn set (is_in set) world t (map_frames f g fs)
      → map_frames f' g' fs ≡ map_frames f g fs
  seen-same fs h =
      let doing = doing-same fs.doing (map (map_frame f g) fs.frames) h.doing in
      let frames = frames-same fs.frames h.frames in
      λ i. record { doing = doing i; frames = frames i; paused = fs.paused }

-- what a reference stands for, under a view that only grows
module _ (before now : Shown) (keeps : Keeps before.number now.number) where
  number-kept : (r : Ref) (n : Option ℕ) → before.number r ≡ n
      → unwrap_or n (length before.objects) < length before.objects
      → numbered now r ≡ unwrap_or n (length before.objects)
  number-kept r None e below = absurd (omega (arith, below))
  number-kept r (Some n) e below = ap (λ o. unwrap_or o (length now.objects)) (keeps r n e)

  reference-kept : (world : World) → world.heap.objects ≡ before.objects → (r : Ref)
      → IsReferenceIn world (plain_reference (numbered before) r)
      → plain_reference (numbered now) r ≡ plain_reference (numbered before) r
  reference-kept world e ref.Null h = refl
  reference-kept world e (ref.Persistent line) h =
      ap value.Obj (number-kept (ref.Persistent line) (before.number (ref.Persistent line)) refl
      (subst (λ os. numbered before (ref.Persistent line) < length os) e h))
  reference-kept world e (ref.Volatile index) h =
      ap value.Obj (number-kept (ref.Volatile index) (before.number (ref.Volatile index)) refl
      (subst (λ os. numbered before (ref.Volatile index) < length os) e h))

  -- frames that are in the world are the same in a later one
  pub frames-kept : (set : SetFacts) (world : World) (t : ℕ) → world.heap.objects ≡ before.objects
      → (fs : ThreadFrames) → AreIn set (is_in set) world t (plain_frames before fs)
      → plain_frames now fs ≡ plain_frames before fs
  frames-kept set world t e fs h = seen-same set world t (plain_reference (numbered before))
      (plain_reference (numbered now)) (reference-kept world e) fs h
