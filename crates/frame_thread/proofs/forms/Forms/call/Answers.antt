use Rattle.std.proofs.Common.{◌∙◌, length, reverse, Option, IsSome, ap, sym, subst, arith}
use Rattle.std.proofs.lemmas.List.{reverse-append, length-reverse}
use Rattle.frame_thread.specs.declared.form.Form.{Form}
use Rattle.frame_thread.specs.declared.form.Form.TheVariants as form
use Rattle.frame_thread.specs.Forms.{Piled, others_below, kept_apart}
use Rattle.frame_thread.proofs.Piles.{saved-kept, others-there, length-saved}
use Rattle.frame_thread.proofs.forms.Forms.call.Goals as goal

pub push_reserved-requires : goal.push_reserved-requires
push_reserved-requires g c =
    let i = c.self.inside in
    let l = length-saved (reverse i.kept.items) (others_below i.is_method (reverse i.others.items)) in
    omega (
      arith,
      l,
      length-reverse i.kept.items,
      ap (λ (p : Piled _ _). length p.saved) c.self.view_is,
      c.requires.few,
      c.self.invariant.1,
    )

pub invariant_of-self : goal.invariant_of-self
invariant_of-self g c =
    let i = c.self.inside in
    let P : Option (Form _ _) → Type 0 = λ f. IsSome f in
    let s = subst P (sym (ap (λ (p : Piled _ _). p.form) c.self.view_is)) c.requires.form in
    let n = ap reverse c.push_reserved.ensures.items ∙ reverse-append i.kept.items _ in
    let t = others-there i.is_method i.standing (reverse i.others.items) s in (
      omega (arith, t, ap kept_apart n, c.self.invariant.0),
      omega (arith, c.push_reserved.ensures.capacity, c.self.invariant.1),
      c.self.invariant.2,
    )

pub returns : goal.returns
returns g c f e =
    let i = c.self.inside in
    let n = ap reverse c.push_reserved.ensures.items ∙ reverse-append i.kept.items _ in
    saved-kept i.is_method i.standing (reverse i.kept.items) (reverse i.others.items) c.args.self.now f c.args.places c.args.left
    (form.Running c.args.standing) _ c.self.view_is e n
