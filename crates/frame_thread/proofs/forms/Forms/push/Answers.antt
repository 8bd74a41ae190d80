use Rattle.std.proofs.Common.{◌∙◌, ◌∷◌, Some, false, length, reverse, Option, IsSome, ap, sym, subst, arith}
use Rattle.std.proofs.lemmas.List.{reverse-append, length-reverse}
use Rattle.frame_thread.specs.declared.form.Form.{Form}
use Rattle.frame_thread.specs.Forms.{Piled, form_of, last_form, others_below, saved_of, all_apart, kept_apart}
use Rattle.frame_thread.proofs.Piles.{piled, saved-kept, others-there, count-piled, length-saved}
use Rattle.frame_thread.proofs.forms.Forms.push.Goals as goal

pub push_reserved-requires : goal.push_reserved-requires
push_reserved-requires g c =
    let i = c.self.inside in
    let l = length-saved (reverse i.kept.items) (others_below i.is_method (reverse i.others.items)) in
    omega (
      arith,
      l,
      length-reverse i.kept.items,
      ap (λ (p : Piled _ _). length p.saved) c.self.view_is,
      c.requires.few,
      c.self.invariant.1,
    )

pub push_reserved-requires-2 : goal.push_reserved-requires-2
push_reserved-requires-2 g c =
    let i = c.self.inside in
    let P : Option (Form _ _) → Type 0 = λ f. IsSome f in
    let s = subst P (sym (ap (λ (p : Piled _ _). p.form) c.self.view_is)) c.requires.below in
    let n = count-piled i.is_method i.standing (reverse i.kept.items) (reverse i.others.items) c.self.invariant.0 s in
    omega (arith, n, length-reverse i.others.items, ap all_apart c.self.view_is, c.requires.apart, c.self.invariant.2)

pub invariant_of-self : goal.invariant_of-self
invariant_of-self g c =
    let i = c.self.inside in
    let P : Option (Form _ _) → Type 0 = λ f. IsSome f in
    let s = subst P (sym (ap (λ (p : Piled _ _). p.form) c.self.view_is)) c.requires.below in
    let n = ap reverse c.push_reserved.ensures.items ∙ reverse-append i.kept.items _ in
    let m = ap reverse c.push_reserved-2.ensures.items ∙ reverse-append i.others.items _ in
    let t = others-there i.is_method i.standing (reverse i.others.items) s in (
      omega (arith, t, ap kept_apart n, ap (λ os. length (others_below false os)) m, c.self.invariant.0),
      omega (arith, c.push_reserved.ensures.capacity, c.self.invariant.1),
      omega (arith, c.push_reserved-2.ensures.capacity, c.self.invariant.2),
    )

pub returns : goal.returns
returns g c f e =
    let i = c.self.inside in
    let n = ap reverse c.push_reserved.ensures.items ∙ reverse-append i.kept.items _ in
    let m = ap reverse c.push_reserved-2.ensures.items ∙ reverse-append i.others.items _ in
    let kept = reverse c.push_reserved.new.self.items in
    ap (λ os. piled (last_form false i.standing os) (saved_of kept (others_below false os))) m ∙
    saved-kept i.is_method i.standing (reverse i.kept.items) (reverse i.others.items) c.args.self.now f c.args.places c.args.left
    (form_of c.other_of.result) _ c.self.view_is e n ∙
    ap (λ g. piled (Some g) (record { form = f; places = c.args.places; left = c.args.left } ∷ c.args.self.now.saved))
    c.other_of.ensures
