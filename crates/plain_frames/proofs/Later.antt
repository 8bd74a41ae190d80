-- Frames that are in a world are in a later one.
use Rattle.std.proofs.Common.{ℕ, ◌≤◌, Bool, List, [], ◌∷◌, length, Option, Some, None, arith}
use Rattle.std.specs.Prelude.{All}
use Rattle.std.proofs.lemmas.List.Elements.{All-nil, All-cons, All-head, All-tail, All-weaker}
use Rattle.run_types.specs.declared.key.Key.{Key}
use Rattle.run_types.specs.declared.key.Key.TheVariants as key
use Rattle.graph_model.specs.declared.types.Value.{Value}
use Rattle.graph_model.specs.declared.types.Value.TheVariants as value
use Rattle.run_history.specs.Worlds.{World}
use Rattle.plain_model.specs.Facts.{SetFacts}
use Rattle.plain_model.specs.Duties.{IsReferenceIn}
use Rattle.frame_cells.specs.declared.cell.Cell.{Cell}
use Rattle.frame_cells.specs.declared.cell.Cell.TheVariants.{Empty, Int, Long, Half, Reference}
use Rattle.frames.specs.Settings.{Frame, Running, Native, Initialiser, Main, Doing, Runs, BeginsMain, BeginsThread, Enters}
use Rattle.frames.specs.Settings.{Unwinds, Initialises, Initialised, Breaks, Ends, Frames}
use Rattle.plain_frames.specs.Codes.{PlainNatives}
use Rattle.plain_frames.specs.Sound.{IsCellIn, IsHeldIn, IsBegun, IsFrameIn, IsInitialiser, IsDoingIn, AreIn, KeepIn}
use Rattle.plain_frames.specs.Sound.{initialised_by}

module _ (set : SetFacts) {M N : Type 0} (natives : PlainNatives M N) (is_in : ℕ → N →
    Bool) (keeps : KeepIn set natives is_in)
    (world later : World) (t : ℕ) (more : length world.heap.objects ≤ length later.heap.objects) where
  reference-later : (r : Value) → IsReferenceIn world r → IsReferenceIn later r
  reference-later value.Null is = tt
  reference-later (value.Obj n) is = omega (arith, is, more)
  reference-later (value.Int i) is = absurd is
  reference-later (value.Long i) is = absurd is

  cell-later : (c : Cell Value) → IsCellIn world c → IsCellIn later c
  cell-later (Reference r) is = reference-later r is
  cell-later Empty is = tt
  cell-later (Int i) is = tt
  cell-later (Long i) is = tt
  cell-later Half is = tt

  cells-later : (cells : List (Cell Value)) → All (IsCellIn world) cells → All (IsCellIn later) cells
  cells-later cells all = All-weaker (IsCellIn world) (IsCellIn later) cell-later cells all

  held-later : (held : Option (Key Value)) → IsHeldIn set is_in world held → IsHeldIn set is_in later held
  held-later None is = tt
  held-later (Some (key.Object r)) is = reference-later r is
  held-later (Some (key.Class c)) is = is

  frames-later : (fs : List (Frame Value N)) → All (IsFrameIn set is_in world t) fs →
      All (IsBegun set is_in later t) (initialised_by fs) → All (IsFrameIn set is_in later t) fs
  frames-later [] all begun = All-nil (IsFrameIn set is_in later t)
  frames-later (Running m at own held ∷ fs) all begun =
      let (own_in, held_in) = All-head (IsFrameIn set is_in world t) (Running m at own held) fs all in
      All-cons (IsFrameIn set is_in later t) (Running m at own held) fs (
        record {
          locals = cells-later own.locals own_in.locals;
          stack =
              cells-later own.stack own_in.stack;
        },
        held-later held held_in,
      )
      (frames-later fs (All-tail (IsFrameIn set is_in world t) (Running m at own held) fs all) begun)
  frames-later (Native from state ∷ fs) all begun =
      All-cons (IsFrameIn set is_in later t) (Native from state) fs
      (keeps.more (length world.heap.objects) (length later.heap.objects) state more
      (All-head (IsFrameIn set is_in world t) (Native from state) fs all))
      (frames-later fs (All-tail (IsFrameIn set is_in world t) (Native from state) fs all) begun)
  frames-later (Initialiser class from ∷ fs) all begun =
      All-cons (IsFrameIn set is_in later t) (Initialiser class from) fs
      (All-head (IsBegun set is_in later t) class (initialised_by fs) begun)
      (frames-later fs (All-tail (IsFrameIn set is_in world t) (Initialiser class from) fs all)
      (All-tail (IsBegun set is_in later t) class (initialised_by fs) begun))
  frames-later (Main m arguments ∷ fs) all begun =
      All-cons (IsFrameIn set is_in later t) (Main m arguments) fs
      (reference-later arguments (All-head (IsFrameIn set is_in world t) (Main m arguments) fs all))
      (frames-later fs (All-tail (IsFrameIn set is_in world t) (Main m arguments) fs all) begun)

  initialiser-later : (fs : List (Frame Value N)) → IsInitialiser set is_in world t fs →
      IsInitialiser set is_in later t fs
  initialiser-later [] is = absurd is
  initialiser-later (Running m at own held ∷ below) is = absurd is
  initialiser-later (Native from state ∷ below) is = absurd is
  initialiser-later (Initialiser class from ∷ below) is = tt
  initialiser-later (Main m arguments ∷ below) is = absurd is

  doing-later : (doing : Doing Value) (fs : List (Frame Value N)) → IsDoingIn set is_in world t doing fs →
      IsDoingIn set is_in later t doing fs
  doing-later Runs fs is = tt
  doing-later (BeginsMain class) fs is = is
  doing-later (BeginsThread r) fs is = reference-later r is
  doing-later Enters fs is = tt
  doing-later (Unwinds r class) fs is = (reference-later r is.0, is.1)
  doing-later (Initialises super) fs is = (is.0, initialiser-later fs is.1)
  doing-later Initialised fs is = initialiser-later fs is
  doing-later (Breaks f) fs is = is
  doing-later (Ends None) fs is = tt
  doing-later (Ends (Some class)) fs is = is

  pub are-later : (fs : Frames Value N) → AreIn set is_in world t fs →
      All (IsBegun set is_in later t) (initialised_by fs.frames) → AreIn set is_in later t fs
  are-later fs is begun = record {
    doing = doing-later fs.doing fs.frames is.doing;
    frames = frames-later fs.frames is.frames begun;
    once = is.once;
  }
