use Rattle.std.proofs.Common.{sym, ◌∙◌}
use Rattle.twin_forms.specs.Table.{entry}
use Rattle.convert_words.specs.Scenes.{Scene, scene}
use Rattle.converter.proofs.Starting.{begin_needs}
use Rattle.converter.proofs.Looked.{none_some, index_free}
use Rattle.converter.proofs.begin.begin_conversion.Goals as goal

pub claimed_by-requires : goal.claimed_by-requires
claimed_by-requires g c = let q = c.requires.agrees in record { object = (q.1, q.2, q.3.lies, q.4.there, q.4.names) }

pub returns-in-Some-clause-begins : goal.returns-in-Some-clause-begins
returns-in-Some-clause-begins g c = λ keys es m a x.
    let h = c.args.heap.now in
    let s : Scene = scene h.space h.memory h.marks c.args.queue.now c.args.space.now.free keys in
    let told = c.needs.ensures in
    begin_needs s c.go_to.new.queue c.needs.new.self es c.args.t c.in-Some.u m a c.requires.empty c.go_to.ensures.goes c.go_to.ensures.whole
    ((c.claimed_by.ensures.claimer es m a.lies x.there x.names c.in-Some.u).0 c.in-Some.is) told.here told.others told.long told.same

pub begin_claim-requires-clause-agrees : goal.begin_claim-requires-clause-agrees
begin_claim-requires-clause-agrees g c =
    let q = c.requires.agrees in
    let x = q.4 in
    let f = index_free q.1 q.2 c.args.value q.3.lies x.there x.names x.outside (λ u own. none_some u (sym c.in-None.is ∙ (c.claimed_by.ensures.claimer q.1 q.2 q.3.lies x.there x.names u).1 own)) in
    (q.0, q.1, q.2, q.3, x.there, sym (c.index_of.ensures (entry q.1 q.2).at f.2), f.0, f.1)

pub returns-in-None-clause-begins : goal.returns-in-None-clause-begins
returns-in-None-clause-begins g c = λ keys es m a x.
    let f = index_free es m c.args.value a.lies x.there x.names x.outside (λ u own. none_some u (sym c.in-None.is ∙ (c.claimed_by.ensures.claimer es m a.lies x.there x.names u).1 own)) in
    c.begin_claim.ensures.begins keys es m a x.there (sym (c.index_of.ensures (entry es m).at f.2)) f.0 f.1
