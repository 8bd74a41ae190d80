use Rattle.std.proofs.Common.{rules, refl, w32}
use Rattle.std.proofs.lemmas.Int.{to_z-of_z}
use Rattle.natives.specs.declared.requests.Request.TheVariants as ask
use Rattle.plain_heap.specs.Heaps.{shown_of}
use Rattle.plain_machine.proofs.Telling.{plans-slot, plans-static}
use Rattle.plain_machine.proofs.awaiting.planned.Goals as goal

pub returns-in-PutStatic-clause-plans : goal.returns-in-PutStatic-clause-plans
returns-in-PutStatic-clause-plans g c =
    let x = c.in-PutStatic in
    let e = c.plan_static.ensures in
    plans-static (g.C.Types.facts c.args.set.now) c.args.t c.args.request.now (λ from. ask.PutStatic from x.field x.value) x.from x.is
    (shown_of c.args.heap.now) c.args.rest.now c.plan_static.new.rest c.plan_static.result c.requires.agrees.monitors e.plan e.quiet

pub returns-in-PutField-clause-plans : goal.returns-in-PutField-clause-plans
returns-in-PutField-clause-plans g c =
    let x = c.in-PutField in
    let e = c.plan_field.ensures in
    plans-slot (g.C.Types.facts c.args.set.now) c.args.t c.args.request.now (λ from. ask.PutField from x.holder x.field x.value) x.from
    x.is c.args.heap.now c.plan_field.new.objects c.args.rest.now c.plan_field.result c.requires.agrees.monitors e.plan e.heap e.no_store

pub returns-in-PutElement-clause-plans : goal.returns-in-PutElement-clause-plans
returns-in-PutElement-clause-plans g c =
    let x = c.in-PutElement in
    let e = c.plan_element.ensures in
    plans-slot (g.C.Types.facts c.args.set.now) c.args.t c.args.request.now
    (λ from. ask.PutElement from x.array x.index x.kind x.value) x.from x.is c.args.heap.now c.plan_element.new.objects
    c.args.rest.now c.plan_element.result c.requires.agrees.monitors (rw (← to_z-of_z w32 x.index (search rules)) e.plan) e.heap
    e.no_store
