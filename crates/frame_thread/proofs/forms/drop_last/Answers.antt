use Rattle.std.proofs.Common.{◌≡◌, ◌-◌, ◌∙◌, length, take, reverse, ap, sym, vec_len, arith}
use Rattle.frame_thread.specs.Forms.{others_below}
use Rattle.frame_thread.proofs.Piles.{last-popped}
use Rattle.frame_thread.proofs.forms.drop_last.Goals as goal

pub returns-clause-others : goal.returns-clause-others
returns-clause-others g c =
    let all = c.args.others.now.items in
    let n : vec_len c.args.others.now - 1 ≡ length all - 1 = omega arith in
    ap reverse (c.pop.ensures.rest ∙ ap (λ k. take k all) n) ∙ sym (last-popped all) ∙
    ap (λ b. others_below b (reverse all)) (sym c.if-is_method.false)
