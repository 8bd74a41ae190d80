use Rattle.std.proofs.Common.{◌≤◌, length, slice_index_or, inl, inr, arith, ap, sym, ◌∙◌}
use Rattle.std.proofs.lemmas.Bool.{cases_lt}
use Rattle.std.proofs.lemmas.Option.{slice_get-get_or}
use Rattle.graph_model.specs.Canon.{with_new}
use Rattle.graph_model.proofs.FoundAfter.{found_after-more, found_after-end}
use Rattle.live_heap.proofs.walk.Walk.of.Goals as goal

pub values-requires : goal.values-requires
values-requires c =
    let more = found_after-more c.args.heap.now c.args.start.now c.requires.sound c.requires.start c.loop-object.walk.numbers
    c.loop-object.next c.in-Some.object c.loop-object.invariant.found (sym c.in-Some.ensures) in
    more.0

pub loop-object-smaller : goal.loop-object-smaller
loop-object-smaller c =
    let more = found_after-more c.args.heap.now c.args.start.now c.requires.sound c.requires.start c.loop-object.walk.numbers
    c.loop-object.next c.in-Some.object c.loop-object.invariant.found (sym c.in-Some.ensures) in
    omega (arith, more.1)

pub loop-object-preserved : goal.loop-object-preserved
loop-object-preserved c =
    let more = found_after-more c.args.heap.now c.args.start.now c.requires.sound c.requires.start c.loop-object.walk.numbers
    c.loop-object.next c.in-Some.object c.loop-object.invariant.found (sym c.in-Some.ensures) in
    record {
      found = c.in_ok-add_each-2.ensures.added
          ∙ ap (λ values. with_new c.loop-object.walk.numbers values) c.values.ensures ∙ sym more.2;
      objects = c.in_ok-add_each-2.ensures.objects ∙ c.loop-object.invariant.objects;
      within = omega (arith, more.1);
    }

pub returns : goal.returns
returns c =
    let past : length c.loop-object.walk.numbers ≤ c.loop-object.next =
    elim (cases_lt c.loop-object.next (length c.loop-object.walk.numbers)) [
      | inl a ↦ absurd (c.in_default.not-Some (slice_index_or c.loop-object.walk.numbers c.loop-object.next 0)
          (c.get.ensures ∙ slice_get-get_or c.loop-object.walk.numbers c.loop-object.next 0 a))
      | inr a ↦ a
    ] in
    record {
      numbers = found_after-end c.args.heap.now c.args.start.now c.loop-object.walk.numbers c.loop-object.next
          c.loop-object.invariant.found past c.loop-object.invariant.within;
    }
