-- The slots that are left, by the cells that frames have and by what their methods say.
use Rattle.std.proofs.Common.{◌≡◌, ℕ, ◌-◌, ◌≤◌, ◌<◌, List, [], ◌∷◌, map, sum, nat_le, true, false, refl, ap, ◌∙◌, arith}
use Rattle.std.proofs.lemmas.List.Sums.{sum_by-cons}
use Rattle.std.proofs.lemmas.Bool.{le-leb, lt-leb}
use Rattle.frames.specs.declared.program.Program.{Program}
use Rattle.frames.specs.Settings.{Frame, Running, Native, Initialiser, Main, Runs, Setting, slots_of, slots_left}
use Rattle.frames.specs.Calls.{Stepped, if_room}
use Rattle.frame_thread.specs.declared.said.Fault.TheVariants.{Slots}
use Rattle.frame_thread.specs.declared.said.Said.{Said}
use Rattle.frame_thread.specs.declared.said.Said.TheVariants.{Breaks}
use Rattle.frame_steps.specs.Sized.{AreOf, IsSized}
use Rattle.frame_thread.specs.Stacked.{Stacked, size_of, sizes_of, room_left, list_of, stepped}

module _ {M R N : Type 0} (p : Program M) where
  slots-are : (f : Frame R N) → IsSized p f → slots_of p f ≡ size_of f
  slots-are (Running m at own held) h = omega (arith, h)
  slots-are (Native from state) h = refl
  slots-are (Initialiser class from) h = refl
  slots-are (Main m arguments) h = refl

  sizes-are : (fs : List (Frame R N)) → AreOf p fs → sum (map (slots_of p) fs) ≡ sizes_of fs
  sizes-are [] h = refl
  sizes-are (f ∷ fs) h =
      sum_by-cons (λ n. n) (slots_of p f) (map (slots_of p) fs) ∙
      omega (arith, slots-are f h.0, sizes-are fs h.1)

  pub left-is : (fs : List (Frame R N)) → AreOf p fs → slots_left p fs ≡ room_left fs
  left-is fs h = ap (λ n. 65536 - n) (sizes-are fs h)

module _ {M R N V : Type 0} (x : Setting M R N V) where
  -- there is room for one more frame
  pub room-yes : (need : ℕ) (fs : List (Frame R N)) (go : Stepped R N V) → AreOf x.program fs →
      need ≤ room_left fs → if_room x need fs go ≡ go
  room-yes need fs go h n =
      let e : nat_le need (slots_left x.program fs) ≡ true = le-leb _ _ (omega (arith, left-is x.program fs h)) in
      rw e refl

  -- there isn't
  pub room-no : (need : ℕ) (s new : Stacked R N) (said : Said R) (go : Stepped R N V) →
      AreOf x.program (list_of s) → room_left (list_of s) < need → new ≡ record s { doing = Runs } →
      said ≡ Breaks (Slots need (room_left (list_of s))) → stepped said new ≡ if_room x need (list_of s) go
  room-no need s new said go h n w e =
      let l = left-is x.program (list_of s) h in
      let no : nat_le need (slots_left x.program (list_of s)) ≡ false = lt-leb _ _ (omega (arith, l)) in
      rw (w, e, no, l) refl
