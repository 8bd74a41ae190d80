use Rattle.std.proofs.Common.{◌≡◌, ◌∙◌, Some, None, inr, refl, subst, sym, arith}
use Rattle.shared_objects.specs.declared.rest.Rest.{Rest}
use Rattle.plain_heap.specs.Heaps.{shown_back, shown_of}
use Rattle.plain_machine.specs.Trying.{DoesOr, IsKept, IsShort, MakesTo, with_left}
use Rattle.plain_machine.proofs.Acting.{back-changed, back-kept, back-unchanged, did-ready, did-silent, did-so, no-step-refuses}
use Rattle.plain_machine.proofs.Acting.{refuses}
use Rattle.plain_machine.proofs.Keeping.{kept-ready, kept-self}
use Rattle.plain_machine.proofs.Making.{on-err}
use Rattle.plain_machine.proofs.Possible.{no-true}
use Rattle.plain_machine.proofs.Prints.{print-is, print-refuses}
use Rattle.plain_machine.proofs.world.PlainWorld.act.Goals as goal

pub returns-in-Some-clause-does : goal.returns-in-Some-clause-does
returns-in-Some-clause-does g c =
    let facts = g.C.Types.facts c.args.set.now in
    let old = c.args.self.now.heap in
    let rest = c.args.self.now.rest in
    let q = c.args.request.now in
    let monitors = c.requires.ready.agrees.monitors in (
      old.left,
      print-is facts c.args.t (shown_of old) rest q c.args.op.now c.in-Some.n c.in-Some.ensures
          monitors,
    )

pub returns-in-None-clause-does : goal.returns-in-None-clause-does
returns-in-None-clause-does g c =
    let facts = g.C.Types.facts c.args.set.now in
    let old = c.args.self.now.heap in
    let rest = c.args.self.now.rest in
    let q = c.args.request.now in
    let monitors = c.requires.ready.agrees.monitors in (
      kept-self (shown_of old) rest old.left monitors,
      print-refuses facts c.args.t (shown_of old) rest q c.args.op.now
          (sym c.asks_print.ensures ∙ c.if-asks_print.true) c.in-None.ensures,
    )

pub returns-then-not-may_be-clause-does : goal.returns-then-not-may_be-clause-does
returns-then-not-may_be-clause-does g c =
    let facts = g.C.Types.facts c.args.set.now in
    let old = c.args.self.now.heap in
    let rest = c.args.self.now.rest in
    let q = c.args.request.now in
    let monitors = c.requires.ready.agrees.monitors in
    subst (λ (r : Rest). DoesOr facts c.args.t q c.args.op.now (shown_of old) rest None (shown_of old) r)
    (sym c.may_be.ensures.same) (
      kept-self (shown_of old) rest old.left monitors,
      λ roots. c.if-not-may_be.ensures.may facts c.requires.ready.agrees c.requires.asks roots _,
    )

pub returns-in_err-did-clause-ready : goal.returns-in_err-did-clause-ready
returns-in_err-did-clause-ready g c =
    let facts = g.C.Types.facts c.args.set.now in
    let old = c.args.self.now.heap in
    let rest = c.args.self.now.rest in
    let q = c.args.request.now in
    let monitors = c.requires.ready.agrees.monitors in
    let same = c.may_be.ensures.same in
    let kept = subst (λ (r : Rest). IsKept (shown_of old) r (shown_of c.made.new.heap) c.made.new.rest) same
    c.in_err-did.ensures.same in
    kept-ready facts (shown_of old) rest (shown_of c.made.new.heap) c.made.new.rest kept c.args.self.now.steps
    c.requires.ready

pub returns-in_err-did-clause-same : goal.returns-in_err-did-clause-same
returns-in_err-did-clause-same g c =
    let facts = g.C.Types.facts c.args.set.now in
    let old = c.args.self.now.heap in
    let rest = c.args.self.now.rest in
    let q = c.args.request.now in
    let monitors = c.requires.ready.agrees.monitors in
    let same = c.may_be.ensures.same in
    let kept = subst (λ (r : Rest). IsKept (shown_of old) r (shown_of c.made.new.heap) c.made.new.rest) same
    c.in_err-did.ensures.same in
    on-err c.from_residual.result kept

pub returns-in_err-did-clause-cause : goal.returns-in_err-did-clause-cause
returns-in_err-did-clause-cause g c =
    let facts = g.C.Types.facts c.args.set.now in
    let old = c.args.self.now.heap in
    let rest = c.args.self.now.rest in
    let q = c.args.request.now in
    let monitors = c.requires.ready.agrees.monitors in
    let same = c.may_be.ensures.same in
    on-err c.from_residual.result (inr (subst (λ (r : Rest). IsShort facts c.args.t q (shown_of old) r) same
    c.in_err-did.ensures.short))

pub returns-in_default-clause-ready : goal.returns-in_default-clause-ready
returns-in_default-clause-ready g c =
    let facts = g.C.Types.facts c.args.set.now in
    let old = c.args.self.now.heap in
    let rest = c.args.self.now.rest in
    let q = c.args.request.now in
    let monitors = c.requires.ready.agrees.monitors in
    let same = c.may_be.ensures.same in
    let made = subst (λ (r : Rest). MakesTo facts c.args.t q (shown_of old) r None (shown_of c.made.new.heap)
    (shown_back c.made.new.heap) c.made.new.rest) same (subst (λ d. MakesTo facts c.args.t q (shown_of old)
    c.may_be.new.rest d (shown_of c.made.new.heap) (shown_back c.made.new.heap) c.made.new.rest)
    c.in_default.is
    c.in_ok-did.ensures.made) in
    kept-ready facts (shown_of old) rest (shown_of c.made.new.heap) c.made.new.rest made.0
    c.args.self.now.steps
    c.requires.ready

pub returns-in_default-clause-does : goal.returns-in_default-clause-does
returns-in_default-clause-does g c =
    let facts = g.C.Types.facts c.args.set.now in
    let old = c.args.self.now.heap in
    let rest = c.args.self.now.rest in
    let q = c.args.request.now in
    let monitors = c.requires.ready.agrees.monitors in
    let same = c.may_be.ensures.same in
    let made = subst (λ (r : Rest). MakesTo facts c.args.t q (shown_of old) r None (shown_of c.made.new.heap)
    (shown_back c.made.new.heap) c.made.new.rest) same (subst (λ d. MakesTo facts c.args.t q (shown_of old)
    c.may_be.new.rest d (shown_of c.made.new.heap) (shown_back c.made.new.heap) c.made.new.rest)
    c.in_default.is
    c.in_ok-did.ensures.made) in
    (made.0, no-step-refuses facts c.args.t q (shown_of old) rest c.args.op.now made.1)

pub is_same-requires : goal.is_same-requires
is_same-requires g c =
    let facts = g.C.Types.facts c.args.set.now in
    let old = c.args.self.now.heap in
    let rest = c.args.self.now.rest in
    let q = c.args.request.now in
    let monitors = c.requires.ready.agrees.monitors in
    let same = c.may_be.ensures.same in
    let made = subst (λ (r : Rest). MakesTo facts c.args.t q (shown_of old) r (Some c.in-Some-2.did)
    (shown_of c.made.new.heap) (shown_back c.made.new.heap) c.made.new.rest) same
    (subst (λ d. MakesTo facts c.args.t q (shown_of old) c.may_be.new.rest d (shown_of c.made.new.heap)
    (shown_back c.made.new.heap) c.made.new.rest) c.in-Some-2.is c.in_ok-did.ensures.made) in
    let silent = sym c.asks_print.ensures ∙ c.if-asks_print.false in
    record {
      silent = did-silent facts c.args.t q old c.made.new.heap rest c.made.new.rest c.in-Some-2.did silent
          c.requires.asks made;
    }

pub returns-then-is_same-clause-ready : goal.returns-then-is_same-clause-ready
returns-then-is_same-clause-ready g c =
    let facts = g.C.Types.facts c.args.set.now in
    let old = c.args.self.now.heap in
    let rest = c.args.self.now.rest in
    let q = c.args.request.now in
    let monitors = c.requires.ready.agrees.monitors in
    let same = c.may_be.ensures.same in
    let made = subst (λ (r : Rest). MakesTo facts c.args.t q (shown_of old) r (Some c.in-Some-2.did)
    (shown_of c.made.new.heap) (shown_back c.made.new.heap) c.made.new.rest) same
    (subst (λ d. MakesTo facts c.args.t q (shown_of old) c.may_be.new.rest d (shown_of c.made.new.heap)
    (shown_back c.made.new.heap) c.made.new.rest) c.in-Some-2.is c.in_ok-did.ensures.made) in
    let silent = sym c.asks_print.ensures ∙ c.if-asks_print.false in
    did-ready facts c.args.t q old c.made.new.heap rest c.made.new.rest c.in-Some-2.did silent
    c.requires.asks made
    c.a_step_leaves_what_agrees.ensures.agrees c.a_step_leaves_what_agrees.ensures.counts
    c.args.self.now.steps
    _ refl (omega (arith, c.if-self-ge-MOST_STEPS.false)) c.requires.ready

pub returns-then-is_same-clause-does : goal.returns-then-is_same-clause-does
returns-then-is_same-clause-does g c =
    let facts = g.C.Types.facts c.args.set.now in
    let old = c.args.self.now.heap in
    let rest = c.args.self.now.rest in
    let q = c.args.request.now in
    let monitors = c.requires.ready.agrees.monitors in
    let same = c.may_be.ensures.same in
    let made = subst (λ (r : Rest). MakesTo facts c.args.t q (shown_of old) r (Some c.in-Some-2.did)
    (shown_of c.made.new.heap) (shown_back c.made.new.heap) c.made.new.rest) same
    (subst (λ d. MakesTo facts c.args.t q (shown_of old) c.may_be.new.rest d (shown_of c.made.new.heap)
    (shown_back c.made.new.heap) c.made.new.rest) c.in-Some-2.is c.in_ok-did.ensures.made) in
    let silent = sym c.asks_print.ensures ∙ c.if-asks_print.false in
    did-so facts c.args.t q old c.made.new.heap rest c.made.new.rest c.in-Some-2.did silent c.requires.asks
    made
    c.args.op.now (c.is_same.ensures.0 c.if-is_same.true)

pub returns-then-changes_heap-clause-ready : goal.returns-then-changes_heap-clause-ready
returns-then-changes_heap-clause-ready g c =
    let facts = g.C.Types.facts c.args.set.now in
    let old = c.args.self.now.heap in
    let rest = c.args.self.now.rest in
    let q = c.args.request.now in
    let monitors = c.requires.ready.agrees.monitors in
    let same = c.may_be.ensures.same in
    let made = subst (λ (r : Rest). MakesTo facts c.args.t q (shown_of old) r (Some c.in-Some-2.did)
    (shown_of c.made.new.heap) (shown_back c.made.new.heap) c.made.new.rest) same
    (subst (λ d. MakesTo facts c.args.t q (shown_of old) c.may_be.new.rest d (shown_of c.made.new.heap)
    (shown_back c.made.new.heap) c.made.new.rest) c.in-Some-2.is c.in_ok-did.ensures.made) in
    let silent = sym c.asks_print.ensures ∙ c.if-asks_print.false in
    let other = λ (e : c.in-Some-2.did.op ≡ c.args.op.now). no-true (sym (c.is_same.ensures.1 e)
    ∙ c.if-is_same.false) in
    let may = c.if-not-may_be.ensures.may facts c.requires.ready.agrees c.requires.asks in
    let back = back-changed c.in-Some-2.did.op (with_left (shown_of old) made.0) (shown_of c.made.new.heap)
    (shown_back c.made.new.heap) (sym c.changes_heap.ensures ∙ c.if-changes_heap.true) made.2 in
    let kept = back-kept facts c.args.t q old c.made.new.heap rest c.made.new.rest c.in-Some-2.did silent
    c.requires.asks made c.args.op.now other may (shown_of c.take_back.new.self) monitors
    (c.take_back.ensures ∙ back) in
    kept-ready facts (shown_of old) rest (shown_of c.take_back.new.self) c.made.new.rest kept
    c.args.self.now.steps c.requires.ready

pub returns-then-changes_heap-clause-does : goal.returns-then-changes_heap-clause-does
returns-then-changes_heap-clause-does g c =
    let facts = g.C.Types.facts c.args.set.now in
    let old = c.args.self.now.heap in
    let rest = c.args.self.now.rest in
    let q = c.args.request.now in
    let monitors = c.requires.ready.agrees.monitors in
    let same = c.may_be.ensures.same in
    let made = subst (λ (r : Rest). MakesTo facts c.args.t q (shown_of old) r (Some c.in-Some-2.did)
    (shown_of c.made.new.heap) (shown_back c.made.new.heap) c.made.new.rest) same
    (subst (λ d. MakesTo facts c.args.t q (shown_of old) c.may_be.new.rest d (shown_of c.made.new.heap)
    (shown_back c.made.new.heap) c.made.new.rest) c.in-Some-2.is c.in_ok-did.ensures.made) in
    let silent = sym c.asks_print.ensures ∙ c.if-asks_print.false in
    let other = λ (e : c.in-Some-2.did.op ≡ c.args.op.now). no-true (sym (c.is_same.ensures.1 e)
    ∙ c.if-is_same.false) in
    let may = c.if-not-may_be.ensures.may facts c.requires.ready.agrees c.requires.asks in
    let back = back-changed c.in-Some-2.did.op (with_left (shown_of old) made.0) (shown_of c.made.new.heap)
    (shown_back c.made.new.heap) (sym c.changes_heap.ensures ∙ c.if-changes_heap.true) made.2 in
    let kept = back-kept facts c.args.t q old c.made.new.heap rest c.made.new.rest c.in-Some-2.did silent
    c.requires.asks made c.args.op.now other may (shown_of c.take_back.new.self) monitors
    (c.take_back.ensures ∙ back) in (
      kept,
      refuses facts c.args.t q old c.made.new.heap rest c.made.new.rest c.in-Some-2.did silent c.requires.asks
          made c.args.op.now other may,
    )

pub returns-else-changes_heap-clause-ready : goal.returns-else-changes_heap-clause-ready
returns-else-changes_heap-clause-ready g c =
    let facts = g.C.Types.facts c.args.set.now in
    let old = c.args.self.now.heap in
    let rest = c.args.self.now.rest in
    let q = c.args.request.now in
    let monitors = c.requires.ready.agrees.monitors in
    let same = c.may_be.ensures.same in
    let made = subst (λ (r : Rest). MakesTo facts c.args.t q (shown_of old) r (Some c.in-Some-2.did)
    (shown_of c.made.new.heap) (shown_back c.made.new.heap) c.made.new.rest) same
    (subst (λ d. MakesTo facts c.args.t q (shown_of old) c.may_be.new.rest d (shown_of c.made.new.heap)
    (shown_back c.made.new.heap) c.made.new.rest) c.in-Some-2.is c.in_ok-did.ensures.made) in
    let silent = sym c.asks_print.ensures ∙ c.if-asks_print.false in
    let other = λ (e : c.in-Some-2.did.op ≡ c.args.op.now). no-true (sym (c.is_same.ensures.1 e)
    ∙ c.if-is_same.false) in
    let may = c.if-not-may_be.ensures.may facts c.requires.ready.agrees c.requires.asks in
    let back = back-unchanged c.in-Some-2.did.op (with_left (shown_of old) made.0) (shown_of c.made.new.heap)
    (shown_back c.made.new.heap) (sym c.changes_heap.ensures ∙ c.if-changes_heap.false) made.2 in
    let kept = back-kept facts c.args.t q old c.made.new.heap rest c.made.new.rest c.in-Some-2.did silent
    c.requires.asks made c.args.op.now other may (shown_of c.made.new.heap) monitors back in
    kept-ready facts (shown_of old) rest (shown_of c.made.new.heap) c.made.new.rest kept
    c.args.self.now.steps c.requires.ready

pub returns-else-changes_heap-clause-does : goal.returns-else-changes_heap-clause-does
returns-else-changes_heap-clause-does g c =
    let facts = g.C.Types.facts c.args.set.now in
    let old = c.args.self.now.heap in
    let rest = c.args.self.now.rest in
    let q = c.args.request.now in
    let monitors = c.requires.ready.agrees.monitors in
    let same = c.may_be.ensures.same in
    let made = subst (λ (r : Rest). MakesTo facts c.args.t q (shown_of old) r (Some c.in-Some-2.did)
    (shown_of c.made.new.heap) (shown_back c.made.new.heap) c.made.new.rest) same
    (subst (λ d. MakesTo facts c.args.t q (shown_of old) c.may_be.new.rest d (shown_of c.made.new.heap)
    (shown_back c.made.new.heap) c.made.new.rest) c.in-Some-2.is c.in_ok-did.ensures.made) in
    let silent = sym c.asks_print.ensures ∙ c.if-asks_print.false in
    let other = λ (e : c.in-Some-2.did.op ≡ c.args.op.now). no-true (sym (c.is_same.ensures.1 e)
    ∙ c.if-is_same.false) in
    let may = c.if-not-may_be.ensures.may facts c.requires.ready.agrees c.requires.asks in
    let back = back-unchanged c.in-Some-2.did.op (with_left (shown_of old) made.0) (shown_of c.made.new.heap)
    (shown_back c.made.new.heap) (sym c.changes_heap.ensures ∙ c.if-changes_heap.false) made.2 in
    let kept = back-kept facts c.args.t q old c.made.new.heap rest c.made.new.rest c.in-Some-2.did silent
    c.requires.asks made c.args.op.now other may (shown_of c.made.new.heap) monitors back in (
      kept,
      refuses facts c.args.t q old c.made.new.heap rest c.made.new.rest c.in-Some-2.did silent c.requires.asks
          made c.args.op.now other may,
    )
