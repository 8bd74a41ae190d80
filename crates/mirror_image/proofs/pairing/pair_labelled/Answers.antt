use Rattle.std.proofs.Common.{◌≡◌, ◌∙◌, ℕ, Bool, Option, Result, Ok, Err, OnOk, nat_le, inr, refl, subst}
use Rattle.mirror_image.specs.Labels.{leads, generation}
use Rattle.mirror_image.specs.Pairing.{ArePaired}
use Rattle.mirror_image.proofs.Paired.{paired_from}
use Rattle.mirror_image.proofs.Halfway.{both_uncleared_lead, both_uncleared_other, both_half_cleared_lead, both_half_cleared_other, both_led}
use Rattle.mirror_image.proofs.pairing.pair_labelled.Goals as goal

over : {T E P Q R S X : Type 0} (r : Result T E) → (P → Q → R → S → X) → OnOk r P → OnOk r Q → OnOk r R → OnOk r S → OnOk r X
over (Ok x) f p q r s = f p q r s
over (Err e) f p q r s = tt

pub returns-clause-paired : goal.returns-clause-paired
returns-clause-paired g c =
    let a = g.A.Image.told c.args.a.now in
    let b = g.B.Image.told c.args.b.now in
    let a1 = g.A.Image.told c.clear_foreign.new.half in
    let b1 = g.B.Image.told c.clear_foreign-2.new.half in
    let a2 = g.A.Image.told c.lead_either.new.a in
    let b2 = g.B.Image.told c.lead_either.new.b in
    let leads_is : nat_le c.generation_of.result c.generation_of-2.result ≡ leads c.args.labels.first c.args.labels.second =
    rw (c.generation_of.ensures, c.generation_of-2.ensures) refl in
    let paired = subst (λ (first : Bool). ArePaired c.args.line c.args.generation first a1 b1 a2 b2) leads_is c.in_ok-lead_either.ensures.paired in
    over c.settle.result
    (λ calls_a calls_b fenced_a fenced_b. paired_from c.args.line c.args.generation (leads c.args.labels.first c.args.labels.second)
    c.args.labels.first c.args.labels.second a b a1 b1 a2 b2 (g.A.Image.told c.settle.new.a) (g.B.Image.told c.settle.new.b)
    c.requires.a c.requires.b
    (g.met.A.Image.in_order c.lead_either.new.a) (g.met.B.Image.in_order c.lead_either.new.b)
    c.in_ok-clear_foreign.ensures.cleared c.in_ok-clear_foreign-2.ensures.cleared paired
    c.clear_foreign.ensures.size c.clear_foreign-2.ensures.size c.lead_either.ensures.a_size c.lead_either.ensures.b_size
    c.settle.ensures.a_size c.settle.ensures.b_size calls_a calls_b fenced_a fenced_b)
    c.settle.ensures.a_calls c.settle.ensures.b_calls c.settle.ensures.a_fenced c.settle.ensures.b_fenced

nat_le_is : (first second : Option ℕ) {m n : ℕ} → m ≡ generation second → n ≡ generation first → nat_le m n ≡ leads first second
nat_le_is first second one other = rw (one, other) refl

pub returns-in_err-clear_foreign-clause-first : goal.returns-in_err-clear_foreign-clause-first
returns-in_err-clear_foreign-clause-first g c = λ e. both_uncleared_lead c.args.line c.args.generation c.args.labels.first c.args.labels.second (g.A.Image.told c.args.a.now) (g.A.Image.told c.clear_foreign.new.half) (g.B.Image.told c.args.b.now) c.in_err-clear_foreign.ensures.uncleared

pub returns-in_err-clear_foreign-clause-second : goal.returns-in_err-clear_foreign-clause-second
returns-in_err-clear_foreign-clause-second g c = λ e. both_uncleared_other c.args.line c.args.generation c.args.labels.second c.args.labels.first (g.B.Image.told c.args.b.now) (g.A.Image.told c.args.a.now) (g.A.Image.told c.clear_foreign.new.half) c.in_err-clear_foreign.ensures.uncleared

pub returns-in_err-clear_foreign-2-clause-first : goal.returns-in_err-clear_foreign-2-clause-first
returns-in_err-clear_foreign-2-clause-first g c = λ e. both_half_cleared_lead c.args.line c.args.generation c.args.labels.first c.args.labels.second _ _ _ _ c.in_ok-clear_foreign.ensures.cleared c.in_err-clear_foreign-2.ensures.uncleared

pub returns-in_err-clear_foreign-2-clause-second : goal.returns-in_err-clear_foreign-2-clause-second
returns-in_err-clear_foreign-2-clause-second g c = λ e. both_half_cleared_other c.args.line c.args.generation c.args.labels.second c.args.labels.first _ _ _ _ c.in_err-clear_foreign-2.ensures.uncleared c.in_ok-clear_foreign.ensures.cleared

pub returns-in_err-lead_either-clause-first : goal.returns-in_err-lead_either-clause-first
returns-in_err-lead_either-clause-first g c = λ e. both_led c.args.line c.args.generation 0 0 c.args.labels.first c.args.labels.second (g.A.Image.told c.args.a.now) (g.A.Image.told c.clear_foreign.new.half) (g.A.Image.told c.lead_either.new.a) (g.A.Image.told c.lead_either.new.a) (g.B.Image.told c.args.b.now) (g.B.Image.told c.clear_foreign-2.new.half) (g.B.Image.told c.lead_either.new.b) (g.B.Image.told c.lead_either.new.b) c.in_ok-clear_foreign.ensures.cleared c.in_ok-clear_foreign-2.ensures.cleared (c.lead_either.ensures.first (nat_le_is c.args.labels.first c.args.labels.second c.generation_of.ensures c.generation_of-2.ensures ∙ e)).0 (c.lead_either.ensures.first (nat_le_is c.args.labels.first c.args.labels.second c.generation_of.ensures c.generation_of-2.ensures ∙ e)).1 (inr refl) (inr refl)

pub returns-in_err-lead_either-clause-second : goal.returns-in_err-lead_either-clause-second
returns-in_err-lead_either-clause-second g c = λ e. both_led c.args.line c.args.generation 0 0 c.args.labels.second c.args.labels.first (g.B.Image.told c.args.b.now) (g.B.Image.told c.clear_foreign-2.new.half) (g.B.Image.told c.lead_either.new.b) (g.B.Image.told c.lead_either.new.b) (g.A.Image.told c.args.a.now) (g.A.Image.told c.clear_foreign.new.half) (g.A.Image.told c.lead_either.new.a) (g.A.Image.told c.lead_either.new.a) c.in_ok-clear_foreign-2.ensures.cleared c.in_ok-clear_foreign.ensures.cleared (c.lead_either.ensures.second (nat_le_is c.args.labels.first c.args.labels.second c.generation_of.ensures c.generation_of-2.ensures ∙ e)).0 (c.lead_either.ensures.second (nat_le_is c.args.labels.first c.args.labels.second c.generation_of.ensures c.generation_of-2.ensures ∙ e)).1 (inr refl) (inr refl)

pub returns-clause-first : goal.returns-clause-first
returns-clause-first g c = λ e. both_led c.args.line c.args.generation _ _ c.args.labels.first c.args.labels.second (g.A.Image.told c.args.a.now) (g.A.Image.told c.clear_foreign.new.half) (g.A.Image.told c.lead_either.new.a) (g.A.Image.told c.settle.new.a) (g.B.Image.told c.args.b.now) (g.B.Image.told c.clear_foreign-2.new.half) (g.B.Image.told c.lead_either.new.b) (g.B.Image.told c.settle.new.b) c.in_ok-clear_foreign.ensures.cleared c.in_ok-clear_foreign-2.ensures.cleared (c.lead_either.ensures.first (nat_le_is c.args.labels.first c.args.labels.second c.generation_of.ensures c.generation_of-2.ensures ∙ e)).0 (c.lead_either.ensures.first (nat_le_is c.args.labels.first c.args.labels.second c.generation_of.ensures c.generation_of-2.ensures ∙ e)).1 c.settle.ensures.a_may c.settle.ensures.b_may

pub returns-clause-second : goal.returns-clause-second
returns-clause-second g c = λ e. both_led c.args.line c.args.generation _ _ c.args.labels.second c.args.labels.first (g.B.Image.told c.args.b.now) (g.B.Image.told c.clear_foreign-2.new.half) (g.B.Image.told c.lead_either.new.b) (g.B.Image.told c.settle.new.b) (g.A.Image.told c.args.a.now) (g.A.Image.told c.clear_foreign.new.half) (g.A.Image.told c.lead_either.new.a) (g.A.Image.told c.settle.new.a) c.in_ok-clear_foreign-2.ensures.cleared c.in_ok-clear_foreign.ensures.cleared (c.lead_either.ensures.second (nat_le_is c.args.labels.first c.args.labels.second c.generation_of.ensures c.generation_of-2.ensures ∙ e)).0 (c.lead_either.ensures.second (nat_le_is c.args.labels.first c.args.labels.second c.generation_of.ensures c.generation_of-2.ensures ∙ e)).1 c.settle.ensures.b_may c.settle.ensures.a_may
