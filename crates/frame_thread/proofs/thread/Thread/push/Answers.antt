use Rattle.std.proofs.Common.{◌≡◌, ◌+◌, ◌∙◌, Option, IsSome, IfSome, sym, ap, subst, arith}
use Rattle.frame_thread.specs.declared.form.Form.{Form}
use Rattle.frame_thread.specs.Stacked.{Stacked, list_of, room_left, apart_of, apart_in, frames_with, without, callers_of}
use Rattle.frame_thread.specs.Stacked.{IsBelowEnd}
use Rattle.frame_thread.specs.Forms.{Piled, all_apart}
use Rattle.frame_thread.proofs.Slots.{room-left, may-do, top-of, laid-called, callers-called}
use Rattle.frame_thread.proofs.thread.Thread.push.Goals as goal

pub push-requires-clause-below : goal.push-requires-clause-below
push-requires-clause-below g c =
    let P : Option (Form _ _) → Type 0 = λ f. IsSome f in
    subst P (sym (ap (λ (s : Stacked _ _). s.form) c.self.view_is)) c.requires.below

pub push-requires-clause-few : goal.push-requires-clause-few
push-requires-clause-few g c =
    let i = c.self.inside in
    let P : Option (Form _ _) → Type 0 = λ f. IsSome f in
    let s = subst P (sym (ap (λ (s : Stacked _ _). s.form) c.self.view_is)) c.requires.below in
    let t = top-of i.forms.form i.left i.cells i.forms.saved c.self.invariant.0 s in
    let r : room_left (list_of c.args.self.now) ≡ i.left =
    rw (← c.self.view_is) (room-left i.forms.form i.left i.cells i.forms.saved c.self.invariant.0) in
    omega (arith, t.2.few, r, c.requires.slots)

pub push-requires-clause-apart : goal.push-requires-clause-apart
push-requires-clause-apart g c =
    let i = c.self.inside in
    let P : Option (Form _ _) → Type 0 = λ f. IsSome f in
    let s = subst P (sym (ap (λ (s : Stacked _ _). s.form) c.self.view_is)) c.requires.below in
    let t = top-of i.forms.form i.left i.cells i.forms.saved c.self.invariant.0 s in
    let r : room_left (list_of c.args.self.now) ≡ i.left =
    rw (← c.self.view_is) (room-left i.forms.form i.left i.cells i.forms.saved c.self.invariant.0) in
    let a : all_apart i.forms ≡ apart_of t.0 + apart_in i.forms.saved =
    ap (λ f. all_apart (let p : Piled _ _ = record { form = f; saved = i.forms.saved } in p)) t.1 in
    omega (arith, t.2.apart, a, r, c.requires.slots)

pub overflow_sub-self : goal.overflow_sub-self
overflow_sub-self g c =
    let i = c.self.inside in
    let r : room_left (list_of c.args.self.now) ≡ i.left =
    rw (← c.self.view_is) (room-left i.forms.form i.left i.cells i.forms.saved c.self.invariant.0) in
    omega (arith, r, c.requires.slots)

pub invariant_of-self : goal.invariant_of-self
invariant_of-self g c =
    let i = c.self.inside in
    let P : Option (Form _ _) → Type 0 = λ f. IsSome f in
    let v = ap (λ (s : Stacked _ _). s.form) c.self.view_is in
    let t = top-of i.forms.form i.left i.cells i.forms.saved c.self.invariant.0 (subst P (sym v) c.requires.below) in
    let r : room_left (list_of c.args.self.now) ≡ i.left =
    rw (← c.self.view_is) (room-left i.forms.form i.left i.cells i.forms.saved c.self.invariant.0) in
    let Q : Option (Form _ _) → Type 0 = λ f. IfSome f IsBelowEnd in
    let b : IsBelowEnd t.0 = subst Q (sym v ∙ t.1) c.requires.waits in (
      rw (c.push.ensures t.0 t.1, c.enter.ensures) (laid-called t.0 c.args.form i.left 16 i.cells
          i.forms.saved 0 0 0 c.places-places.result t.2 b
          c.depth-depth.ensures.room (omega arith) (omega arith) c.requires.few (omega arith)
          (omega (arith, r, c.requires.slots))
          c.places-places.ensures.locals c.places-places.ensures.base c.places-places.ensures.room),
      rw (c.push.ensures t.0 t.1) (may-do i.doing _ c.requires.form.1),
    )

pub returns-clause-form : goal.returns-clause-form
returns-clause-form g c =
    let i = c.self.inside in
    let P : Option (Form _ _) → Type 0 = λ f. IsSome f in
    let v = ap (λ (s : Stacked _ _). s.form) c.self.view_is in
    let t = top-of i.forms.form i.left i.cells i.forms.saved c.self.invariant.0 (subst P (sym v) c.requires.below) in
    ap (λ (p : Piled _ _). p.form) (c.push.ensures t.0 t.1)

pub returns-clause-below : goal.returns-clause-below
returns-clause-below g c =
    let i = c.self.inside in
    let P : Option (Form _ _) → Type 0 = λ f. IsSome f in
    let v = ap (λ (s : Stacked _ _). s.form) c.self.view_is in
    let t = top-of i.forms.form i.left i.cells i.forms.saved c.self.invariant.0 (subst P (sym v) c.requires.below) in
    let b = callers-called t.0 i.left i.cells i.forms.saved 0 0 0
    c.places-places.result c.places-places.ensures.locals c.places-places.ensures.base
    c.places-places.ensures.room in
    rw (← c.self.view_is, c.push.ensures t.0 t.1, c.enter.ensures) (b ∙ ap (λ f. frames_with f (without 0 i.cells.own)
    (callers_of i.forms.saved i.cells.under)) (sym t.1))
