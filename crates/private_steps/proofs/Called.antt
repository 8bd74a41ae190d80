-- The frame of a method that another one calls.
use Rattle.std.proofs.Common.{◌≡◌, ℕ, ◌+◌, ◌-◌, ◌≤◌, ◌<◌, nat_le, true, false, List, [], ◌++◌, length, take, reverse}
use Rattle.std.proofs.Common.{replicate, Option, None, Some, refl, ap, sym, ◌∙◌, arith, length-append}
use Rattle.std.proofs.lemmas.List.{length-take-le, length-reverse, length-replicate}
use Rattle.std.proofs.lemmas.Bool.{le-leb, lt-leb}
use Rattle.frame_cells.specs.declared.cell.Cell.{Cell}
use Rattle.frame_cells.specs.declared.cell.Cell.TheVariants.{Empty}
use Rattle.frame_cells.specs.declared.cell.Did.TheVariants.{Next}
use Rattle.frame_cells.specs.Own.{Own, put}
use Rattle.frames.specs.declared.given.Given.{Given}
use Rattle.frames.specs.declared.given.Given.TheVariants as given
use Rattle.frames.specs.declared.program.Body.{Body}
use Rattle.frames.specs.declared.program.Body.TheVariants as body
use Rattle.frames.specs.declared.program.Program.{Program}
use Rattle.frames.specs.Tables.{method_at, start_of, from_of}
use Rattle.frames.specs.Settings.{Frame, Runs, Setting}
use Rattle.frames.specs.Calls.{Stepped, first_own, begins_body, arguments_on, returns_to, calls}
use Rattle.frame_thread.specs.declared.form.Form.{Form}
use Rattle.frame_thread.specs.declared.form.Form.TheVariants as form
use Rattle.frame_thread.specs.declared.form.Standing.{Standing}
use Rattle.frame_thread.specs.declared.said.Fault.TheVariants.{Slots, BadCode}
use Rattle.frame_thread.specs.declared.said.Said.{Said}
use Rattle.frame_thread.specs.declared.said.Said.TheVariants.{Nothing, Breaks}
use Rattle.frame_thread.specs.declared.tables.Outline.{Outline}
use Rattle.private_steps.specs.Arguments.{IsTaken}
use Rattle.frame_thread.specs.Outlines.{outline_of}
use Rattle.frame_thread.specs.Stacked.{Stacked, list_of, frames_with, stepped, room_left, called_own, without}
use Rattle.frame_steps.specs.Sized.{AreOf}
use Rattle.frame_steps.specs.Beginnings.{entered}
use Rattle.frame_steps.proofs.Sizes.{room-yes, room-no}

-- cells go, and nothing comes in their place
pub put-nothing : {R : Type 0} (own : Own R) (n : ℕ) → n ≤ length own.stack → length own.stack ≤ own.room →
    put n [] Next own ≡ record { did = Next; own = without n own }
put-nothing own n h r =
    let a : nat_le n (length own.stack) ≡ true = le-leb _ _ h in
    let b : nat_le (0 + (length own.stack - n)) own.room ≡ true = le-leb _ _ (omega (arith, h, r)) in
    rw (a, b) refl

module _ {M R N : Type 0} (p : Program M) where
  -- a frame has its sizes without its arguments too
  pub without-of : (taken : ℕ) (f : Option (Form R N)) (own : Own R) (below : List (Frame R N)) →
      AreOf p (frames_with f own below) → AreOf p (frames_with f (without taken own) below)
  without-of taken None own below h = tt
  without-of taken (Some (form.Running s)) own below h = h
  without-of taken (Some (form.Native from state)) own below h = h
  without-of taken (Some (form.Initialiser class from)) own below h = h
  without-of taken (Some (form.Main m arguments)) own below h = h

pub locals-called : {R : Type 0} → (taken locals room : ℕ) (own : Own R) → taken ≤ length own.stack →
    taken ≤ locals → length (called_own taken locals room own).locals ≡ locals
locals-called taken locals room own there fit =
    simp (length-append, length-reverse, length-replicate)
    (omega (arith, length-take-le taken own.stack there, fit))

module _ {M R N V : Type 0} (x : Setting M R N V) (m entry taken : ℕ) (s : Stacked R N)
    (args : List (Given R)) (empty : Stepped R N V) (o : Outline M)
    (oe : o ≡ outline_of (method_at x.program m)) (of : AreOf x.program (list_of s))
    (there : taken ≤ length s.own.stack) where
  taken-is : length (take taken s.own.stack) ≡ taken
  taken-is = length-take-le taken s.own.stack there

  locals-are : o.max_locals ≡ (method_at x.program m).max_locals
  locals-are = ap (λ (o : Outline M). o.max_locals) oe

  room-is : o.max_stack ≡ (method_at x.program m).max_stack
  room-is = ap (λ (o : Outline M). o.max_stack) oe

  abbrev caller : List (Frame R N)
  caller = frames_with s.form (without taken s.own) s.below

  -- there are too few local variables for its arguments
  pub called-bad : (new : Stacked R N) (said : Said R) → o.max_locals < taken → new ≡ record s { doing = Runs } →
      said ≡ Breaks (BadCode (start_of x.program m)) → stepped said new ≡
      begins_body x m (take taken s.own.stack) args (list_of s) caller empty (body.Code entry)
  called-bad new said h e1 e2 =
      let no : nat_le (length (take taken s.own.stack)) (method_at x.program m).max_locals ≡ false =
      lt-leb _ _ (omega (arith, h, taken-is, locals-are)) in rw (e1, e2, no) refl

  module _ (fit : taken ≤ o.max_locals) where
    fits-so : nat_le (length (take taken s.own.stack)) (method_at x.program m).max_locals ≡ true
    fits-so = le-leb _ _ (omega (arith, fit, taken-is, locals-are))

    -- there are too few slots
    pub called-full : (new : Stacked R N) (said : Said R) →
        room_left (list_of s) < 4 + o.max_locals + o.max_stack → new ≡ record s { doing = Runs } →
        said ≡ Breaks (Slots (4 + o.max_locals + o.max_stack) (room_left (list_of s))) → stepped said new ≡
        begins_body x m (take taken s.own.stack) args (list_of s) caller empty (body.Code entry)
    unfolding fits-so
    called-full new said room e1 e2 =
        let L : ℕ = (method_at x.program m).max_locals in
        let r : ℕ = (method_at x.program m).max_stack in
        let n : 4 + o.max_locals + o.max_stack ≡ 4 + L + r = omega (arith, locals-are, room-is) in
        rw fits-so (room-no x (4 + L + r) s new said _ of (omega (arith, room, n)) e1
        (e2 ∙ ap (λ k. let t : Said R = Breaks (Slots k (room_left (list_of s))) in t) n))

    own-called : called_own taken o.max_locals o.max_stack s.own ≡
        first_own (method_at x.program m) (take taken s.own.stack)
    own-called =
        let c : List (Cell R) = take taken s.own.stack in
        let n : o.max_locals - taken ≡ (method_at x.program m).max_locals - length c =
        omega (arith, taken-is, locals-are) in
        ap (λ k. let w : Own R = record { locals = reverse c ++ replicate k Empty; stack = []; room = o.max_stack } in w)
        n ∙ ap (λ k. let w : Own R = record {
          locals = reverse c ++ replicate ((method_at x.program m).max_locals - length c) Empty;
          stack = [];
          room = k;
        } in w) room-is

    made_so : Own R → Stacked R N
    made_so own = record {
      doing = s.doing;
      form = Some (form.Running (record { method = m; at = entry; held = None }));
      own = own;
      below = caller;
    }

    -- the frame is made, and asks for its monitor if it is synchronized
    pub called-begun : (made new : Stacked R N) → 4 + o.max_locals + o.max_stack ≤ room_left (list_of s) →
        made ≡ record s {
          form = Some (form.Running (record { method = m; at = entry; held = None }));
          own = called_own taken o.max_locals o.max_stack s.own;
          below = caller;
        } → new ≡ entered (method_at x.program m) made → stepped Nothing new ≡
        begins_body x m (take taken s.own.stack) args (list_of s) caller empty (body.Code entry)
    unfolding made_so fits-so
    called-begun made new room e1 e2 =
        let L : ℕ = (method_at x.program m).max_locals in
        let r : ℕ = (method_at x.program m).max_stack in
        ap (stepped Nothing) (e2 ∙ ap (entered (method_at x.program m)) (e1 ∙ ap made_so own-called)) ∙
        sym (rw fits-so (room-yes x (4 + L + r) (list_of s) _ of (omega (arith, room, locals-are, room-is))))

    -- and has the sizes of its method
    pub called-of : (made new : Stacked R N) → made ≡ record s {
      form = Some (form.Running (record { method = m; at = entry; held = None }));
      own = called_own taken o.max_locals o.max_stack s.own;
      below = caller;
    } → new ≡ entered (method_at x.program m) made → AreOf x.program (list_of new)
    called-of made new e1 e2 = rw (e2, e1) (
      (locals-called taken o.max_locals o.max_stack s.own there fit ∙ locals-are, room-is),
      without-of x.program taken s.form s.own s.below of,
    )

-- a call by the method that runs
module _ {M R N V : Type 0} (x : Setting M R N V) (k : ℕ) (s : Stacked R N) (standing : Standing R)
    (f : s.form ≡ Some (form.Running standing)) where
  pub calls-bad : (said : Said R) → s.doing ≡ Runs →
      arguments_on (method_at x.program k).parameters s.own.stack [] ≡ None →
      said ≡ Breaks (BadCode (from_of x.program standing.method standing.at)) →
      stepped said s ≡ calls x k standing.method standing.at s.own standing.held s.below
  calls-bad said d a e = rw (a, d, f, e) refl

  pub calls-so : (taken : ℕ) (b : Body M) (t : Stepped R N V)
      (it : IsTaken (method_at x.program k).parameters s.own.stack taken) → (method_at x.program k).body ≡ b →
      (let caller = frames_with s.form (without taken s.own) s.below in
      t ≡ begins_body x k (take taken s.own.stack) it.arguments (list_of s) caller
      (returns_to x given.Nothing caller) b) →
      t ≡ calls x k standing.method standing.at s.own standing.held s.below
  calls-so taken b t it be e = rw (it.are, ← it.count, be) (rw f at e)
