use Rattle.std.proofs.Common.{Option, IsSome, reverse, sym, ap, subst}
use Rattle.frame_thread.specs.declared.form.Form.{Form}
use Rattle.frame_thread.specs.Forms.{Piled, standing_in}
use Rattle.frame_thread.proofs.Piles.{stood}
use Rattle.frame_thread.proofs.forms.Forms.stand.Goals as goal

pub returns : goal.returns
returns g c =
    let i = c.self.inside in
    let P : Option (Form _ _) → Type 0 = λ f. IsSome (standing_in f) in
    let s = subst P (sym (ap (λ (p : Piled _ _). p.form) c.self.view_is)) c.requires in
    let e = stood i.is_method i.standing c.args.standing (reverse i.others.items) s in
    let d = ap (λ (p : Piled _ _). p.saved) c.self.view_is in
    cc (e, d)
