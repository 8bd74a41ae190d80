use Rattle.std.proofs.Common.{◌<◌, sym, ◌∙◌, subst, rules}
use Rattle.ap_base.specs.References.{reference_word}
use Rattle.ap_base.specs.declared.reference.Ref.TheVariants.{Volatile}
use Rattle.twin_forms.specs.Table.{entry, InP}
use Rattle.twin_forms.specs.Moves.{LiesAt}
use Rattle.twin_forms.specs.Sights.{Twin}
use Rattle.convert_queue.specs.Queues.{queue_of}
use Rattle.converter.specs.Beginning.{IsAsked}
use Rattle.converter.specs.Stepping.{keys_of}
use Rattle.converter.proofs.Goings.{past}
use Rattle.convert_rows.proofs.Keeping.{begun_world, named, none_at}
use Rattle.convert_rows.proofs.world.World.begin.Goals as goal

pub begin_conversion-requires-clause-empty : goal.begin_conversion-requires-clause-empty
begin_conversion-requires-clause-empty c = none_at (queue_of c.args.self.now.queue c.args.t) (past (queue_of c.args.self.now.queue c.args.t) 0 (sym c.in-None.is ∙ c.queued.ensures.queued))

pub returns : goal.returns
returns c =
    let w = c.requires.whole in
    let now = c.args.self.now in
    let at = c.in_ok-object.field-0 in
    let found = c.in_ok-object.ensures.object in
    let h : Twin = record { space = now.heap.space; memory = now.heap.memory; marks = now.heap.marks } in
    let n = c.begin_conversion.new in
    let h' : Twin = record { space = n.heap.space; memory = n.heap.memory; marks = n.heap.marks } in
    let told = c.begin_conversion.ensures in
    let there = subst (λ x. c.args.number < x) (sym w.long) found.0 in
    let lies = subst (λ x. LiesAt x (entry w.table c.args.number)) (sym found.1) (w.made c.args.number there) in
    let asked : IsAsked w.table (reference_word (Volatile at)) c.args.number = record {
      there = there;
      names = named (entry w.table c.args.number) at lies;
      outside = λ (p : InP w.table c.args.number). search rules;
    } in
    let b = told.begins (keys_of now.monitors) w.table c.args.number w.agrees asked in
    record {
      whole = begun_world c.args.t c.args.number c.begin_conversion.result h h' now.queue n.queue now.space n.space now.monitors now.objects.items w b.0 b.1 told.lines told.within told.memory;
    }
