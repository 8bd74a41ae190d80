use Rattle.std.proofs.Common.{◌≡◌, ◌∙◌, Bool, List, None, Some, refl, ap, sym, subst}
use Rattle.ap_base.specs.declared.reference.Item.{Item}
use Rattle.ap_base.specs.declared.reference.Ref.{Ref}
use Rattle.natives.specs.declared.requests.Request.{Request}
use Rattle.run_history.specs.declared.plain.Progress.{Progress}
use Rattle.shared_objects.specs.declared.rest.Rest.{Rest}
use Rattle.object_steps.specs.declared.storing.Planned.{Planned}
use Rattle.plain_heap.specs.declared.heap.PlainHeap.{PlainHeap}
use Rattle.plain_heap.specs.Heaps.{shown_of}
use Rattle.plain_machine.specs.Telling.{IsAwaited, PlansTo, begins_class}
use Rattle.plain_machine.specs.Trying.{IsKept}
use Rattle.plain_machine.proofs.Keeping.{kept-agrees, kept-askable, kept-ready, kept-self}
use Rattle.plain_machine.proofs.Making.{closed-kept}
use Rattle.plain_machine.proofs.Telling.{class-awaits, end-awaited, ends-await, others-await, store-awaited}
use Rattle.plain_machine.proofs.world.PlainWorld.ahead.Goals as goal

pub returns-in-End-clause-tells : goal.returns-in-End-clause-tells
returns-in-End-clause-tells g c =
    let facts = g.C.Types.facts c.args.set.now in
    let shown = shown_of c.args.self.now.heap in
    let rest = c.args.self.now.rest in
    subst (λ (q : Request Ref Item). IsAwaited facts shown rest c.args.t q c.raised.result) (sym c.in-End.is)
    (λ roots. c.raised.ensures ∙ ends-await facts shown rest c.args.t c.in-End.from roots)

pub returns-then-begins_class : goal.returns-then-begins_class
returns-then-begins_class g c =
    let facts = g.C.Types.facts c.args.set.now in
    let shown = shown_of c.args.self.now.heap in
    let rest = c.args.self.now.rest in
    let q = c.args.request.now in
    record {
      ready = c.requires.ready;
      kept = kept-self shown rest shown.left c.requires.ready.agrees.monitors;
      tells = class-awaits facts shown rest c.args.t q (sym (c.begins_class.ensures
          ∙ ap (λ (ps : List Progress). begins_class ps q) c.as_slice.ensures.value) ∙ c.if-begins_class.true);
    }

pub planned-requires : goal.planned-requires
planned-requires g c =
    let facts = g.C.Types.facts c.args.set.now in
    let before = shown_of c.args.self.now.heap in
    let rest = c.args.self.now.rest in
    let start = shown_of c.close.new.self in
    let kept = closed-kept before rest start c.close.ensures.shown c.requires.ready.agrees.monitors in
    record {
      agrees = kept-agrees facts before rest start rest kept c.requires.ready.agrees;
      asks = kept-askable facts before rest start rest kept c.args.t c.args.request.now c.requires.asks;
      room = c.close.ensures.room;
    }

pub returns-in-Some-Stores : goal.returns-in-Some-Stores
returns-in-Some-Stores g c =
    let facts = g.C.Types.facts c.args.set.now in
    let before = shown_of c.args.self.now.heap in
    let rest = c.args.self.now.rest in
    let q = c.args.request.now in
    let start = shown_of c.close.new.self in
    let now = shown_of c.planned.new.heap in
    let monitors = c.requires.ready.agrees.monitors in
    let makes = subst (λ (p : Planned). PlansTo facts c.args.t q start rest now c.planned.new.rest p) c.in-Some-Stores.field-0-is
    c.in-Some-Stores.ensures.plans in
    let both = store-awaited facts c.args.t q before rest start c.close.ensures.shown monitors c.in-Some-Stores.store now
    c.planned.new.rest c.op_stored.result makes c.op_stored.ensures in
    record {
      ready = kept-ready facts before rest now c.planned.new.rest both.0 c.args.self.now.steps c.requires.ready;
      kept = both.0;
      tells = both.1;
    }

pub returns-in-Some-Ends : goal.returns-in-Some-Ends
returns-in-Some-Ends g c =
    let facts = g.C.Types.facts c.args.set.now in
    let before = shown_of c.args.self.now.heap in
    let rest = c.args.self.now.rest in
    let q = c.args.request.now in
    let start = shown_of c.close.new.self in
    let now = shown_of c.planned.new.heap in
    let monitors = c.requires.ready.agrees.monitors in
    let ends = subst (λ (p : Planned). PlansTo facts c.args.t q start rest now c.planned.new.rest p) c.in-Some-Ends.field-0-is
    c.in-Some-Ends.ensures.plans in
    let begun = sym (c.begins_class.ensures ∙ ap (λ (ps : List Progress). begins_class ps q) c.as_slice.ensures.value)
    ∙ c.if-begins_class.false in
    let both = end-awaited facts c.args.t q before rest start c.close.ensures.shown monitors c.in-Some-Ends.field-0-0 now
    c.planned.new.rest ends (λ none. let no = sym c.in-Some-Ends.is ∙ c.planned.ensures.none.1 none in cc) begun in
    record {
      ready = kept-ready facts before rest now c.planned.new.rest both.0 c.args.self.now.steps c.requires.ready;
      kept = both.0;
      tells = both.1;
    }

pub returns-in-None : goal.returns-in-None
returns-in-None g c =
    let facts = g.C.Types.facts c.args.set.now in
    let before = shown_of c.args.self.now.heap in
    let rest = c.args.self.now.rest in
    let q = c.args.request.now in
    let start = shown_of c.close.new.self in
    let now = shown_of c.planned.new.heap in
    let same = c.planned.ensures.same c.in-None.is in
    let kept = subst (λ (r : Rest). IsKept before rest now r) (sym same.1)
    (subst (λ (h : PlainHeap). IsKept before rest (shown_of h) rest) (sym same.0)
    (closed-kept before rest start c.close.ensures.shown c.requires.ready.agrees.monitors)) in
    record {
      ready = kept-ready facts before rest now c.planned.new.rest kept c.args.self.now.steps c.requires.ready;
      kept = kept;
      tells = others-await facts before rest c.args.t q c.requires.asks.fit (c.planned.ensures.none.0 c.in-None.is)
          c.in_default.not-End;
    }
