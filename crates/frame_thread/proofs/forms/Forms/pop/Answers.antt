use Rattle.std.proofs.Common.{◌≤◌, ◌∙◌, ◌∷◌, length, reverse, ap, sym, arith}
use Rattle.std.proofs.lemmas.List.{reverse-append}
use Rattle.frame_thread.specs.Forms.{Piled, others_below, form_at, saved_of, apart_by, kept_apart}
use Rattle.frame_thread.proofs.Piles.{form-back, others-length}
use Rattle.frame_thread.proofs.forms.Forms.pop.Goals as goal

pub invariant_of-self-2 : goal.invariant_of-self-2
invariant_of-self-2 g c =
    let i = c.self.inside in
    let k = c.in-Some.kept in
    let n = ap reverse c.in-Some.ensures.items ∙ reverse-append c.pop.new.self.items _ in
    let d = ap length c.drop_last.ensures.others in
    let l = others-length k.is_method (reverse c.drop_last.new.others.items) in (
      omega (arith, l, d, ap kept_apart n, c.self.invariant.0),
      omega (arith, c.in-Some.ensures.capacity, c.self.invariant.1),
      omega (arith, c.drop_last.ensures.room, c.self.invariant.2),
    )

pub returns : goal.returns
returns g c =
    let i = c.self.inside in
    let k = c.in-Some.kept in
    let n = ap reverse c.in-Some.ensures.items ∙ reverse-append c.pop.new.self.items _ in
    let rest = reverse c.pop.new.self.items in
    let others = reverse c.drop_last.new.others.items in
    let d = c.drop_last.ensures.others in
    let h : apart_by k.is_method ≤ length others =
    omega (arith, ap length d, ap kept_apart n, c.self.invariant.0) in
    record {
      last = form_at k.is_method k.standing others;
      form = form-back k.is_method k.standing others h;
      saved = sym (ap (λ (p : Piled _ _). p.saved) c.self.view_is) ∙
          ap (λ ks. saved_of ks (others_below i.is_method (reverse i.others.items))) n ∙
          ap (saved_of (k ∷ rest)) (sym d);
    }
