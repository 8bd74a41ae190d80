-- The cells with which a method begins.
use Rattle.std.proofs.Common.{◌≡◌, ℕ, zero, suc, ◌+◌, ◌-◌, ◌≤◌, ◌<◌, nat_le, true, List, [], ◌∷◌, ◌++◌, length, reverse}
use Rattle.std.proofs.Common.{replicate, slice_set, Option, None, Some, refl, ap, sym, ◌∙◌, arith}
use Rattle.frame_cells.specs.declared.cell.Cell.{Cell}
use Rattle.frame_cells.specs.declared.cell.Cell.TheVariants.{Empty, Reference}
use Rattle.frame_cells.specs.Own.{Own}
use Rattle.std.proofs.lemmas.Bool.{le-leb}
use Rattle.frames.specs.declared.given.Given.{Given}
use Rattle.frames.specs.declared.program.Body.TheVariants as body
use Rattle.frames.specs.Tables.{method_at}
use Rattle.frames.specs.Settings.{Frame, Runs, Setting}
use Rattle.frames.specs.Calls.{Stepped, goes_on, first_own, begins_body}
use Rattle.frame_thread.specs.declared.form.Form.{Form}
use Rattle.frame_thread.specs.declared.form.Form.TheVariants as form
use Rattle.frame_thread.specs.declared.said.Fault.TheVariants.{Slots}
use Rattle.frame_thread.specs.declared.said.Said.{Said}
use Rattle.frame_thread.specs.declared.said.Said.TheVariants.{Nothing, Breaks}
use Rattle.frame_thread.specs.declared.tables.Outline.{Outline}
use Rattle.frame_thread.specs.Outlines.{outline_of}
use Rattle.frame_thread.specs.Stacked.{Stacked, frame_of, received, list_of, stepped, room_left}
use Rattle.frame_steps.specs.declared.begins.Base.{Base}
use Rattle.frame_steps.specs.Sized.{AreOf}
use Rattle.frame_steps.specs.Beginnings.{cells_given, below_of, entered}
use Rattle.frame_steps.proofs.Sizes.{room-yes, room-no}

module _ {R : Type 0} where
  first-set : (n : ℕ) (r : R) → 1 ≤ n →
      slice_set (replicate n (let e : Cell R = Empty in e)) 0 (Reference r) ≡ Reference r ∷ replicate (n - 1) Empty
  first-set zero r h = absurd (omega arith)
  first-set (suc n) r h = ap (λ k. Reference r ∷ replicate k Empty) (omega arith)

  pub own-begun : (receiver : Option R) (n room : ℕ) → length (cells_given receiver) ≤ n →
      received receiver (record { locals = replicate n Empty; stack = []; room = room }) ≡
      record {
        locals = reverse (cells_given receiver) ++ replicate (n - length (cells_given receiver)) Empty;
        stack = [];
        room = room;
      }
  own-begun None n room h =
      ap (λ k. let o : Own R = record { locals = replicate k Empty; stack = []; room = room } in o) (omega arith)
  own-begun (Some r) n room h =
      ap (λ l. let o : Own R = record { locals = l; stack = []; room = room } in o) (first-set n r h)

module _ {M R N V : Type 0} (x : Setting M R N V) (m entry : ℕ) (base : Base) (receiver : Option R)
    (s : Stacked R N) (args : List (Given R)) (empty : Stepped R N V) (o : Outline M)
    (oe : o ≡ outline_of (method_at x.program m)) (of : AreOf x.program (list_of s))
    (fit : length (cells_given receiver) ≤ o.max_locals) where
  fits-so : nat_le (length (cells_given receiver)) (method_at x.program m).max_locals ≡ true
  fits-so = le-leb _ _ (omega (arith, fit, ap (λ (o : Outline M). o.max_locals) oe))

  begun : (o : Outline M) → Own R → Stacked R N
  begun o own = record {
    doing = s.doing;
    form = Some (form.Running (record { method = m; at = entry; held = None }));
    own = own;
    below = below_of base (list_of s);
  }

  -- the frame is made, and asks for its monitor if it is synchronized
  pub code-begun : (made got new : Stacked R N) → 4 + o.max_locals + o.max_stack ≤ room_left (list_of s) →
      made ≡ record s {
        form = Some (form.Running (record { method = m; at = entry; held = None }));
        own = record { locals = replicate o.max_locals Empty; stack = []; room = o.max_stack };
        below = below_of base (list_of s);
      } → got ≡ record made { own = received receiver made.own } →
      new ≡ entered (method_at x.program m) got →
      stepped Nothing new ≡
      begins_body x m (cells_given receiver) args (list_of s) (below_of base (list_of s)) empty (body.Code entry)
  unfolding begun fits-so
  code-begun made got new room e1 e2 e3 =
      let L : ℕ = (method_at x.program m).max_locals in
      let r : ℕ = (method_at x.program m).max_stack in
      let l : o.max_locals ≡ L = ap (λ (o : Outline M). o.max_locals) oe in
      let q : o.max_stack ≡ r = ap (λ (o : Outline M). o.max_stack) oe in
      let g1 : got ≡ begun o (received receiver
      (record { locals = replicate o.max_locals Empty; stack = []; room = o.max_stack })) =
      e2 ∙ ap (λ (k : Stacked R N). let t : Stacked R N = record k { own = received receiver k.own } in t) e1 in
      let g2 = ap (begun o) (own-begun receiver o.max_locals o.max_stack fit) in
      let g3 : begun o (record {
        locals = reverse (cells_given receiver) ++
            replicate (o.max_locals - length (cells_given receiver)) Empty;
        stack = [];
        room = o.max_stack;
      }) ≡ begun o (first_own (method_at x.program m) (cells_given receiver)) =
      ap (λ k. begun o (record {
        locals = reverse (cells_given receiver) ++ replicate (k - length (cells_given receiver)) Empty;
        stack = [];
        room = o.max_stack;
      })) l ∙ ap (λ k. begun o (record {
        locals = reverse (cells_given receiver) ++ replicate (L - length (cells_given receiver)) Empty;
        stack = [];
        room = k;
      })) q in
      ap (stepped Nothing) (e3 ∙ ap (entered (method_at x.program m)) (g1 ∙ g2 ∙ g3)) ∙
      sym (rw fits-so (room-yes x (4 + L + r) (list_of s) _ of (omega (arith, room, l, q))))

  -- there are too few slots for it
  pub code-full : (new : Stacked R N) (said : Said R) → room_left (list_of s) < 4 + o.max_locals + o.max_stack →
      new ≡ record s { doing = Runs } →
      said ≡ Breaks (Slots (4 + o.max_locals + o.max_stack) (room_left (list_of s))) →
      stepped said new ≡
      begins_body x m (cells_given receiver) args (list_of s) (below_of base (list_of s)) empty (body.Code entry)
  unfolding fits-so
  code-full new said room e1 e2 =
      let L : ℕ = (method_at x.program m).max_locals in
      let r : ℕ = (method_at x.program m).max_stack in
      let l : o.max_locals ≡ L = ap (λ (o : Outline M). o.max_locals) oe in
      let q : o.max_stack ≡ r = ap (λ (o : Outline M). o.max_stack) oe in
      let n : 4 + o.max_locals + o.max_stack ≡ 4 + L + r = omega (arith, l, q) in
      rw fits-so (room-no x (4 + L + r) s new said _ of (omega (arith, room, n)) e1
      (e2 ∙ ap (λ k. let t : Said R = Breaks (Slots k (room_left (list_of s))) in t) n))

-- a frame without cells is the last one, and goes on
pub other-begun : {R N V : Type 0} → (pushed new : Stacked R N) (f : Form R N) (b : List (Frame R N)) →
    pushed.form ≡ Some f → pushed.below ≡ b → new ≡ record pushed { doing = Runs } →
    (let t : Stepped R N V = stepped Nothing new in t) ≡ goes_on Runs (frame_of f pushed.own ∷ b)
other-begun pushed new f b e1 e2 e3 = rw (e3, e1, e2) refl
