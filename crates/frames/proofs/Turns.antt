-- A change of references commutes with turns and answers.
use Rattle.std.proofs.Common.{◌≡◌, ℕ, zero, suc, ◌-◌, Bool, true, false, List, [], ◌∷◌, drop, map, pos, negsuc, Option, Some}
use Rattle.std.proofs.Common.{None, refl, ap, sym, ◌∙◌, subst}
use Rattle.std.proofs.lemmas.List.{drop-map}
use Rattle.std.specs.Option.{option_map}
use Rattle.run_types.specs.declared.resolved.At.{At}
use Rattle.run_types.specs.declared.key.Key.{Key}
use Rattle.natives.specs.declared.requests.Request.{Request}
use Rattle.natives.specs.declared.requests.Request.TheVariants as ask
use Rattle.natives.specs.declared.requests.Reply.{Reply}
use Rattle.natives.specs.declared.requests.Reply.TheVariants as reply
use Rattle.frame_cells.specs.declared.cell.Cell.{Cell}
use Rattle.frame_cells.specs.declared.cell.Cell.TheVariants.{Empty, Int, Long, Half, Reference}
use Rattle.frame_cells.specs.declared.cell.Did.TheVariants.{Next}
use Rattle.frame_cells.specs.Own.{Own, reference_at}
use Rattle.frame_cells.specs.Families.{to}
use Rattle.frames.specs.declared.given.Given.{Given}
use Rattle.frames.specs.declared.op.Op.{Op}
use Rattle.frames.specs.declared.op.Op.TheVariants as op
use Rattle.frames.specs.declared.program.Selector.{Selector}
use Rattle.frames.specs.declared.program.Target.{Target}
use Rattle.frames.specs.declared.program.Target.TheVariants as target
use Rattle.frames.specs.Tables.{placed_at, method_at, selector_at, from_of, dispatched}
use Rattle.frames.specs.Settings.{Frame, Running, Native, Initialiser, Main, Doing, Runs, BeginsMain, BeginsThread, Enters}
use Rattle.frames.specs.Settings.{Unwinds, Initialises, Initialised, Breaks, Ends, Frames, Setting}
use Rattle.frames.specs.Private.{private_step}
use Rattle.frames.specs.Requests.{request_of, taken_by}
use Rattle.frames.specs.Calls.{Stepped, after, calls, cells_taken, result_of, returns_to, native_does, throws, runs_initialiser}
use Rattle.frames.specs.Calls.{initialises, resumes}
use Rattle.frames.specs.Turns.{asks_or, calls_special, does, at_of, key_of, class_of, frame_does, asked_by, one_of, one}
use Rattle.frames.specs.Turns.{turn_of, turn_if, turn, is_yes, is_so, gives_back, throws_top, calls_selected, replied}
use Rattle.frames.specs.Turns.{instruction_answered, native_answered, frame_answered, answered, settled, answer_of, answer_if}
use Rattle.frames.specs.Turns.{answer}
use Rattle.frames.specs.Maps.{map_cell, map_own, map_key, map_held, map_given, map_doing, map_frame, map_frames, map_reply}
use Rattle.frames.specs.Maps.{map_asks, map_stepped, Keeps, GoAlike}
use Rattle.frames.proofs.Cells.{reference-map}
use Rattle.frames.proofs.Moved.{moved, private_step-map, request_of-map}
use Rattle.frames.proofs.Calls.{if-map, result_of-map, after-map, put-after, begins_found-map, native_does-map, returns_to-map}
use Rattle.frames.proofs.Calls.{calls-map, runs_initialiser-map, initialises-map, resumes-map, returns-map, throws-map}

yes-map : {R S : Type 0} (f : R → S) → (cells : List (Cell R)) → is_yes (map (map_cell f) cells) ≡
    is_yes cells
yes-map f [] = refl
yes-map f (Empty ∷ cells) = refl
yes-map f (Int (pos zero) ∷ []) = refl
yes-map f (Int (pos zero) ∷ c ∷ cells) = refl
yes-map f (Int (pos (suc n)) ∷ cells) = refl
yes-map f (Int (negsuc n) ∷ cells) = refl
yes-map f (Long i ∷ cells) = refl
yes-map f (Half ∷ cells) = refl
yes-map f (Reference r ∷ cells) = refl

module _ {M R S N O V W : Type 0} (f : R → S) (g : N → O) (h : V →
    W) (a : Setting M R N V) (b : Setting M S O W) (k : Keeps f g h a b) where
  asks-map : (x : Option (Request R V)) (frames : List (Frame R N)) (y : Stepped R N V) (z : Stepped S O W)
      →
      z ≡ map_stepped f g h y →
      asks_or (moved a b) (map_asks f h x) (map (map_frame f g) frames) z ≡
      map_stepped f g h (asks_or a x frames y)
  asks-map None frames y z e = e
  asks-map (Some request) frames y z e = refl

  special-map : (x : Option R) (n m at : ℕ) (own : Own R) (held : Option (Key R)) (below : List (Frame R N))
      →
      calls_special (moved a b) (option_map f x) n m at (map_own f own) (map_held f held)
      (map (map_frame f g) below)
      ≡ map_stepped f g h (calls_special a x n m at own held below)
  special-map None n m at own held below = refl
  special-map (Some r) n m at own held below =
      rw (k.is_null r) (if-map f g h (a.is_null r) _ _ _ _ refl
      (calls-map f g h a b k n m at own held below))

  -- what an instruction does that asks, or changes the cells of its frame alone
  asks_or_steps : (o : Op) (m at : ℕ) (own : Own R) (held : Option (Key R)) (below : List (Frame R N)) →
      asks_or (moved a b) (request_of (moved a b) o (from_of a.program m at) (map_own f own))
      (Running m at (map_own f own) (map_held f held) ∷ map (map_frame f g) below)
      (after (moved a b) m at (map_held f held) (map (map_frame f g) below)
      (private_step (moved a b) o (map_own f own)))
      ≡ map_stepped f g h (asks_or a (request_of a o (from_of a.program m at) own) (Running m at own held ∷
      below) (after a m at held below (private_step a o own)))
  asks_or_steps o m at own held below =
      ap (λ x. asks_or (moved a b) x (Running m at (map_own f own) (map_held f held) ∷
      map (map_frame f g) below)
      (after (moved a b) m at (map_held f held) (map (map_frame f g) below)
      (private_step (moved a b) o (map_own f own))))
      (request_of-map f g h a b k o (from_of a.program m at) own) ∙
      asks-map (request_of a o (from_of a.program m at) own) (Running m at own held ∷ below) _ _
      (after-map f g h a b m at held below (private_step a o own) _ (private_step-map f g h a b k o own))

  does-map : (o : Op) (m at : ℕ) (own : Own R) (held : Option (Key R)) (below : List (Frame R N)) →
      does (moved a b) o m at (map_own f own) (map_held f held) (map (map_frame f g) below)
      ≡ map_stepped f g h (does a o m at own held below)
  does-map op.Return m at own held below = returns-map f g h a b k (result_of None own) m at own held below
  does-map (op.ReturnValue sort) m at own held below =
      rw (result_of-map f (Some sort) own)
      (returns-map f g h a b k (result_of (Some sort) own) m at own held below)
  does-map (op.InvokeSpecial n) m at own held below =
      rw (reference-map f own.stack (cells_taken (method_at a.program n).parameters - 1))
      (special-map (reference_at (cells_taken (method_at a.program n).parameters - 1) own) n m at own held
      below)
  does-map (op.InvokeStatic n) m at own held below =
      ap (λ x. asks_or (moved a b) x (Running m at (map_own f own) (map_held f held) ∷
      map (map_frame f g) below)
      (calls (moved a b) n m at (map_own f own) (map_held f held) (map (map_frame f g) below)))
      (request_of-map f g h a b k (op.InvokeStatic n) (from_of a.program m at) own) ∙
      asks-map (request_of a (op.InvokeStatic n) (from_of a.program m at) own) (Running m at own held ∷
      below) _ _
      (calls-map f g h a b k n m at own held below)
  does-map (op.Unlinked link) m at own held below = refl
  does-map other m at own held below = asks_or_steps other m at own held below

  at_of-map : (frames : List (Frame R N)) → at_of (moved a b) (map (map_frame f g) frames) ≡ at_of a frames
  at_of-map [] = refl
  at_of-map (Running m at own held ∷ below) = refl
  at_of-map (Native from state ∷ below) = refl
  at_of-map (Initialiser class from ∷ below) = refl
  at_of-map (Main m arguments ∷ below) = refl

  key_of-map : (frames : List (Frame R N)) → key_of (moved a b) (map (map_frame f g) frames) ≡
      map_key f (key_of a frames)
  key_of-map [] = refl
  key_of-map (Running m at own None ∷ below) = refl
  key_of-map (Running m at own (Some monitor) ∷ below) = refl
  key_of-map (Native from state ∷ below) = refl
  key_of-map (Initialiser class from ∷ below) = refl
  key_of-map (Main m arguments ∷ below) = refl

  class_of-map : (frames : List (Frame R N)) → class_of (moved a b) (map (map_frame f g) frames) ≡
      class_of a frames
  class_of-map [] = refl
  class_of-map (Running m at own held ∷ below) = refl
  class_of-map (Native from state ∷ below) = refl
  class_of-map (Initialiser class from ∷ below) = refl
  class_of-map (Main m arguments ∷ below) = refl

  frame_does-map : (frames : List (Frame R N)) →
      frame_does (moved a b) (map (map_frame f g) frames) ≡ map_stepped f g h (frame_does a frames)
  frame_does-map [] = refl
  frame_does-map (Running m at own held ∷ below) = does-map (placed_at a.program at).op m at own held below
  frame_does-map (Native from state ∷ below) = rw (k.asks state) refl
  frame_does-map (Initialiser class from ∷ below) = refl
  frame_does-map (Main m arguments ∷ below) = refl

  asked_by-map : (doing : Doing R) (frames : List (Frame R N)) →
      asked_by (moved a b) (map_doing f doing) (map (map_frame f g) frames) ≡
      map_asks f h (asked_by a doing frames)
  asked_by-map Runs frames = refl
  asked_by-map (BeginsMain class) frames = refl
  asked_by-map (BeginsThread thread) frames = refl
  asked_by-map Enters frames = simp (at_of-map, key_of-map)
  asked_by-map (Unwinds r class) frames = simp (at_of-map, key_of-map)
  asked_by-map (Initialises super) frames = simp (at_of-map)
  asked_by-map Initialised frames = simp (at_of-map, class_of-map)
  asked_by-map (Breaks fault) frames = refl
  asked_by-map (Ends uncaught) frames = refl

  one_of-map : (x : Option (Request R V)) (fs : Frames R N) →
      one_of (moved a b) (map_asks f h x) (map_frames f g fs) ≡ map_stepped f g h (one_of a x fs)
  one_of-map None fs = frame_does-map fs.frames
  one_of-map (Some request) fs = refl

  one-map : (fs : Frames R N) → one (moved a b) (map_frames f g fs) ≡ map_stepped f g h (one a fs)
  one-map fs = ap (λ x. one_of (moved a b) x (map_frames f g fs)) (asked_by-map fs.doing fs.frames) ∙
      one_of-map (asked_by a fs.doing fs.frames) fs

  next-map : (s : Stepped R N V) (go : Frames R N → Stepped R N V) (go' : Frames S O → Stepped S O W) →
      ((fs : Frames R N) → go' (map_frames f g fs) ≡ map_stepped f g h (go fs)) →
      (elim (map_asks f h s.asks) as (λ _. Stepped S O W) [
        | None ↦
            go' (map_frames f g s.frames)
        | Some request ↦ map_stepped f g h s
      ])
      ≡ map_stepped f g h (elim s.asks as (λ _. Stepped R N V) [ None ↦ go s.frames | Some request ↦ s ])
  next-map s go go' e =
      elim s.asks as (λ x. (elim (map_asks f h x) as (λ _. Stepped S O W)
      [ None ↦ go' (map_frames f g s.frames) | Some request ↦ map_stepped f g h s ])
      ≡ map_stepped f g h (elim x as (λ _. Stepped R N V) [ None ↦ go s.frames | Some request ↦ s ])) [
        | None ↦
            e s.frames
        | Some request ↦ refl
      ]

  turn_of-map : (fuel : ℕ) (fs : Frames R N) → turn_of (moved a b) fuel (map_frames f g fs) ≡
      map_stepped f g h (turn_of a fuel fs)
  turn_of-map zero fs = refl
  turn_of-map (suc fuel) fs =
      let P : Stepped S O W → Type 0 =
      λ s. (elim s.asks as (λ _. Stepped S O W) [
        | None ↦
            turn_of (moved a b) fuel s.frames
        | Some request ↦ s
      ]) ≡
      map_stepped f g h (turn_of a (suc fuel) fs) in
      subst P (sym (one-map fs)) (next-map (one a fs) (turn_of a fuel) (turn_of (moved a b) fuel)
      (turn_of-map fuel))

  gives_back-map : (x : Option (Given R)) (m at : ℕ) (own : Own R) (held : Option (Key R))
      (below : List (Frame R N)) →
      gives_back (moved a b) (option_map (map_given f) x) m at (map_own f own) (map_held f held)
      (map (map_frame f g) below)
      ≡ map_stepped f g h (gives_back a x m at own held below)
  gives_back-map None m at own held below = refl
  gives_back-map (Some value) m at own held below = returns_to-map f g h a b k value below

  throws_top-map : (x : Option R) (class m at : ℕ) (own : Own R) (held : Option (Key R))
      (below : List (Frame R N)) →
      throws_top (moved a b) (option_map f x) class m at (map_own f own) (map_held f held)
      (map (map_frame f g) below)
      ≡ map_stepped f g h (throws_top a x class m at own held below)
  throws_top-map None class m at own held below = refl
  throws_top-map (Some r) class m at own held below =
      throws-map f g h a b k r class (Running m at own held ∷ below)

  selected-map : (t : Target) (s : Selector) (m at : ℕ) (own : Own R) (held : Option (Key R))
      (below : List (Frame R N)) →
      calls_selected (moved a b) t s m at (map_own f own) (map_held f held) (map (map_frame f g) below)
      ≡ map_stepped f g h (calls_selected a t s m at own held below)
  selected-map (target.Method n) s m at own held below = calls-map f g h a b k n m at own held below
  selected-map (target.Fails kind) s m at own held below = refl

  replied-map : (o : Op) (m at : ℕ) (own : Own R) (held : Option (Key R)) (below : List (Frame R N))
      (cells : List (Cell R)) (cells' : List (Cell S)) → cells' ≡ map (map_cell f) cells →
      replied (moved a b) o m at (map_own f own) (map_held f held) (map (map_frame f g) below) cells'
      ≡ map_stepped f g h (replied a o m at own held below cells)
  replied-map o m at own held below cells cells' e =
      rw e (put-after f g h a b (taken_by a o) cells Next m at own held below)

  instruction-map : (o : Op) (m at : ℕ) (own : Own R) (held : Option (Key R)) (below : List (Frame R N))
      (r : Reply R V) →
      instruction_answered (moved a b) o m at (map_own f own) (map_held f held) (map (map_frame f g) below)
      (map_reply f h r)
      ≡ map_stepped f g h (instruction_answered a o m at own held below r)
  instruction-map o m at own held below (reply.Thrown r class) =
      throws-map f g h a b k r class (Running m at own held ∷ below)
  instruction-map o m at own held below (reply.Init class) =
      initialises-map f g h a b k class (from_of a.program m at) (Running m at own held ∷ below)
  instruction-map (op.InvokeStatic n) m at own held below r = calls-map f g h a b k n m at own held below
  instruction-map (op.InvokeVirtual s) m at own held below (reply.Shape class) =
      selected-map (dispatched a.program class (selector_at a.program s).signature)
      (selector_at a.program s)
      m at own held below
  instruction-map op.Throw m at own held below (reply.Shape class) =
      rw (reference-map f own.stack 0) (throws_top-map (reference_at 0 own) class m at own held below)
  instruction-map op.Return m at own held below r = gives_back-map (result_of None own) m at own held below
  instruction-map (op.ReturnValue sort) m at own held below r =
      rw (result_of-map f (Some sort) own) (gives_back-map (result_of (Some sort) own) m at own held below)
  instruction-map (op.IfSame equality target) m at own held below (reply.Item v) =
      rw (k.cells v) (rw (yes-map f (a.cells v))
      (put-after f g h a b 2 [] (to (is_so equality (is_yes (a.cells v))) target) m at own held below))
  instruction-map o m at own held below (reply.Item v) =
      replied-map o m at own held below (a.cells v) _ (k.cells v)
  instruction-map o m at own held below (reply.Made r) =
      replied-map o m at own held below (Reference r ∷ []) _ refl
  instruction-map o m at own held below r = replied-map o m at own held below [] _ refl

  native-next : (from : At) (state : N) (below : List (Frame R N)) (r : Reply R V) →
      native_does (moved a b) (b.next (g state) (map_reply f h r)) from (map (map_frame f g) below)
      (λ v. returns_to (moved a b) v (map (map_frame f g) below))
      ≡ map_stepped f g h (native_does a (a.next state r) from below (λ v. returns_to a v below))
  native-next from state below r =
      ap (λ step. native_does (moved a b) step from (map (map_frame f g) below)
      (λ v. returns_to (moved a b) v (map (map_frame f g) below))) (k.next state r) ∙
      native_does-map f g h a b k (a.next state r) from below _ _ (λ v. returns_to-map f g h a b k v below)

  native-map : (from : At) (state : N) (below : List (Frame R N)) (r : Reply R V) →
      native_answered (moved a b) from (g state) (map (map_frame f g) below) (map_reply f h r)
      ≡ map_stepped f g h (native_answered a from state below r)
  native-map from state below (reply.Thrown r class) = throws-map f g h a b k r class below
  native-map from state below r = native-next from state below r

  frame_answered-map : (frames : List (Frame R N)) (r : Reply R V) →
      frame_answered (moved a b) (map (map_frame f g) frames) (map_reply f h r) ≡
      map_stepped f g h (frame_answered a frames r)
  frame_answered-map [] r = refl
  frame_answered-map (Running m at own held ∷ below) r =
      instruction-map (placed_at a.program at).op m at own held below r
  frame_answered-map (Native from state ∷ below) r = native-map from state below r
  frame_answered-map (Initialiser class from ∷ below) r = refl
  frame_answered-map (Main m arguments ∷ below) r = refl

  drop-throws : (r : R) (class : ℕ) (frames : List (Frame R N)) →
      throws (moved a b) (f r) class (drop 1 (map (map_frame f g) frames)) ≡
      map_stepped f g h (throws a r class (drop 1 frames))
  drop-throws r class frames = ap (throws (moved a b) (f r) class) (drop-map (map_frame f g) 1 frames) ∙
      throws-map f g h a b k r class (drop 1 frames)

  super-map : (class : ℕ) (frames : List (Frame R N)) (class' : ℕ) → class' ≡ class →
      runs_initialiser (moved a b) class' (map (map_frame f g) frames) ≡
      map_stepped f g h (runs_initialiser a class frames)
  super-map class frames class' e = rw e (runs_initialiser-map f g h a b k class frames)

  from-map : (class : ℕ) (frames : List (Frame R N)) (from from' : At) → from' ≡ from →
      initialises (moved a b) class from' (map (map_frame f g) frames) ≡
      map_stepped f g h (initialises a class from frames)
  from-map class frames from from' e = rw e (initialises-map f g h a b k class from frames)

  answered-map : (doing : Doing R) (frames : List (Frame R N)) (r : Reply R V) →
      answered (moved a b) (map_doing f doing) (map (map_frame f g) frames) (map_reply f h r) ≡
      map_stepped f g h (answered a doing frames r)
  answered-map Runs frames r = frame_answered-map frames r
  answered-map (BeginsMain class) frames (reply.Init c) = initialises-map f g h a b k c a.main frames
  answered-map (BeginsMain class) frames r = resumes-map f g h a b k frames
  answered-map (BeginsThread thread) frames (reply.Shape class) =
      begins_found-map f g h a b k (dispatched a.program class a.program.run) class thread frames [] _ _
      refl
  answered-map (BeginsThread thread) frames (reply.Thrown r class) = refl
  answered-map Enters frames (reply.Thrown r class) = drop-throws r class frames
  answered-map Enters frames r = refl
  answered-map (Unwinds r class) frames (reply.Thrown s other) = drop-throws s other frames
  answered-map (Unwinds r class) frames reply = drop-throws r class frames
  answered-map (Initialises super) frames (reply.Init c) =
      from-map c frames (at_of a frames) _ (at_of-map frames)
  answered-map (Initialises super) frames r = super-map (class_of a frames) frames _ (class_of-map frames)
  answered-map Initialised frames r =
      ap (resumes (moved a b)) (drop-map (map_frame f g) 1 frames) ∙ resumes-map f g h a b k (drop 1 frames)
  answered-map doing frames r = refl

  settled-map : (x : Option (Request R V)) (fs : Frames R N) →
      settled (moved a b) (map_asks f h x) (map_frames f g fs) ≡ map_frames f g (settled a x fs)
  settled-map None fs = refl
  settled-map (Some (ask.Broken fault)) fs = refl
  settled-map (Some request) fs = refl

  answer_of-map : (s : Stepped R N V) (t : Stepped S O W) → t ≡ map_stepped f g h s →
      answer_of (moved a b) t ≡ map_frames f g (answer_of a s)
  answer_of-map s t e = rw e (settled-map s.asks s.frames)

  turn_if-map : (paused : Bool) (fs : Frames R N) →
      turn_if (moved a b) paused (map_frames f g fs) ≡ map_stepped f g h (turn_if a paused fs)
  turn_if-map true fs = refl
  turn_if-map false fs = turn_of-map 1024 fs

  answer_if-map : (paused : Bool) (fs : Frames R N) (r : Reply R V) →
      answer_if (moved a b) paused (map_frames f g fs) (map_reply f h r) ≡
      map_frames f g (answer_if a paused fs r)
  answer_if-map true fs r = refl
  answer_if-map false fs r =
      answer_of-map (answered a fs.doing fs.frames r) _ (answered-map fs.doing fs.frames r)

  moved-alike : GoAlike f g h a (moved a b)
  unfolding turn answer
  moved-alike = record {
    turns = λ fs. turn_if-map fs.paused fs;
    answers = λ fs r. answer_if-map fs.paused fs r;
  }

  pub turns_and_answers_go_alike : GoAlike f g h a b
  turns_and_answers_go_alike =
      subst (GoAlike f g h a) (sym (λ i. record b { program = k.program i; main = k.main i })) moved-alike
