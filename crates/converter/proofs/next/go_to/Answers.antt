use Rattle.std.proofs.Common.{◌≡◌, sym, ◌∙◌, ap, subst, arith, slice_set}
use Rattle.convert_queue.specs.Queues.{Queues}
use Rattle.convert_words.specs.Steps.{GoesTo}
use Rattle.convert_words.proofs.Noting.{goes_to}
use Rattle.converter.proofs.next.go_to.Goals as goal

pub returns-clause-goes : goal.returns-clause-goes
returns-clause-goes c =
    let whole : c.set_place.new.self ≡ record c.args.queue.now {
      places = slice_set c.args.queue.now.places c.args.t (c.args.n, c.args.line);
      phases = slice_set
          c.args.queue.now.phases c.args.t c.args.phase;
    } =
    c.set_place.ensures.place ∙ ap (λ (q : Queues). record q { places = slice_set q.places c.args.t (c.args.n, c.args.line) }) c.set_phase.ensures.phase in
    let few = c.phase-phase.ensures.threads in
    let below = c.number-number.ensures.below in
    let same = c.number-number.ensures.same in
    subst (GoesTo c.args.t c.args.phase c.args.n c.args.line c.args.queue.now) (sym whole)
    (goes_to c.args.queue.now c.args.t c.args.phase c.args.n c.args.line (let x = few.1 in omega (arith, x, below, same)) (let x = few.2 in omega (arith, x, below, same)))

pub returns-clause-whole : goal.returns-clause-whole
returns-clause-whole c = c.set_place.ensures.place ∙ ap (λ (q : Queues). record q { places = slice_set q.places c.args.t (c.args.n, c.args.line) }) c.set_phase.ensures.phase
