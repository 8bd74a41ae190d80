use Rattle.std.proofs.Common.{◌≡◌, ◌+◌, ◌≤◌, ◌∙◌, length, Option, IsSome, IfSome, refl, sym, ap, subst, arith}
use Rattle.frame_thread.specs.declared.form.Form.{Form}
use Rattle.frame_thread.specs.Stacked.{Stacked, list_of, frames_with, called_own, without, callers_of, room_left, IsBelowEnd}
use Rattle.frame_thread.proofs.Slots.{room-left, may-do, top-of, laid-called, callers-called}
use Rattle.frame_thread.proofs.thread.Thread.call.Goals as goal

pub call-requires-clause-form : goal.call-requires-clause-form
call-requires-clause-form g c =
    let P : Option (Form _ _) → Type 0 = λ f. IsSome f in
    subst P (sym (ap (λ (s : Stacked _ _). s.form) c.self.view_is)) c.requires.caller

pub call-requires-clause-few : goal.call-requires-clause-few
call-requires-clause-few g c =
    let i = c.self.inside in
    let P : Option (Form _ _) → Type 0 = λ f. IsSome f in
    let s = subst P (sym (ap (λ (s : Stacked _ _). s.form) c.self.view_is)) c.requires.caller in
    let t = top-of i.forms.form i.left i.cells i.forms.saved c.self.invariant.0 s in
    let r : room_left (list_of c.args.self.now) ≡ i.left =
    rw (← c.self.view_is) (room-left i.forms.form i.left i.cells i.forms.saved c.self.invariant.0) in
    omega (arith, t.2.few, r, c.requires.slots)

pub enter-requires-clause-room : goal.enter-requires-clause-room
enter-requires-clause-room g c =
    let i = c.self.inside in
    let P : Option (Form _ _) → Type 0 = λ f. IsSome f in
    let s = subst P (sym (ap (λ (s : Stacked _ _). s.form) c.self.view_is)) c.requires.caller in
    let t = top-of i.forms.form i.left i.cells i.forms.saved c.self.invariant.0 s in
    let r : room_left (list_of c.args.self.now) ≡ i.left =
    rw (← c.self.view_is) (room-left i.forms.form i.left i.cells i.forms.saved c.self.invariant.0) in
    omega (arith, t.2.cells, c.depth-depth.ensures.room, r, c.requires.slots)

pub overflow_sub-self : goal.overflow_sub-self
overflow_sub-self g c =
    let i = c.self.inside in
    let r : room_left (list_of c.args.self.now) ≡ i.left =
    rw (← c.self.view_is) (room-left i.forms.form i.left i.cells i.forms.saved c.self.invariant.0) in
    omega (arith, r, c.requires.slots)

pub invariant_of-self : goal.invariant_of-self
invariant_of-self g c =
    let i = c.self.inside in
    let P : Option (Form _ _) → Type 0 = λ f. IsSome f in
    let v = ap (λ (s : Stacked _ _). s.form) c.self.view_is in
    let t = top-of i.forms.form i.left i.cells i.forms.saved c.self.invariant.0 (subst P (sym v) c.requires.caller) in
    let r : room_left (list_of c.args.self.now) ≡ i.left =
    rw (← c.self.view_is) (room-left i.forms.form i.left i.cells i.forms.saved c.self.invariant.0) in
    let Q : Option (Form _ _) → Type 0 = λ f. IfSome f IsBelowEnd in
    let b : IsBelowEnd t.0 = subst Q (sym v ∙ t.1) c.requires.waits in
    let k : c.args.taken ≤ length i.cells.own.stack =
    omega (arith, c.requires.taken, ap (λ (s : Stacked _ _). length s.own.stack) c.self.view_is) in (
      rw (c.call.ensures t.0 t.1, c.enter.ensures) (laid-called t.0 _ i.left (4 + c.args.locals + c.args.room) i.cells
          i.forms.saved c.args.taken c.args.locals c.args.room c.places-places.result t.2 b
          c.depth-depth.ensures.room k c.requires.locals refl (omega arith) (omega (arith, r, c.requires.slots))
          c.places-places.ensures.locals c.places-places.ensures.base c.places-places.ensures.room),
      rw (c.call.ensures t.0 t.1) (may-do i.doing _ c.requires.entry),
    )

pub returns : goal.returns
returns g c =
    let i = c.self.inside in
    let v = c.self.view_is in
    let P : Option (Form _ _) → Type 0 = λ f. IsSome f in
    let w = ap (λ (s : Stacked _ _). s.form) v in
    let t = top-of i.forms.form i.left i.cells i.forms.saved c.self.invariant.0 (subst P (sym w) c.requires.caller) in
    let n = c.call.ensures t.0 t.1 in
    let b = callers-called t.0 i.left i.cells i.forms.saved c.args.taken c.args.locals
    c.args.room c.places-places.result c.places-places.ensures.locals c.places-places.ensures.base
    c.places-places.ensures.room in
    let b2 : callers_of c.call.new.self.saved c.enter.new.self.under ≡
    frames_with c.args.self.now.form (without c.args.taken c.args.self.now.own) c.args.self.now.below =
    rw (← v, n, c.enter.ensures) (b ∙ ap (λ f. frames_with f (without c.args.taken i.cells.own)
    (callers_of i.forms.saved i.cells.under)) (sym t.1)) in
    let o : c.enter.new.self.own ≡ called_own c.args.taken c.args.locals c.args.room c.args.self.now.own =
    rw (← v, c.enter.ensures) refl in
    let d = ap (λ (s : Stacked _ _). s.doing) v in
    let f = ap (λ p. p.form) n in
    cc (b2, o, d, f)
