use Rattle.std.proofs.Common.{inl, inr, ◌≤◌, sym, ◌∙◌, ap, subst, arith}
use Rattle.twin_forms.specs.Sights.{sight}
use Rattle.convert_queue.specs.Queues.{Queues}
use Rattle.convert_queue.specs.Threads.{needs_of}
use Rattle.convert_words.specs.Agreeing.{Met}
use Rattle.converter.specs.Looking.{Asks, Refers}
use Rattle.converter.proofs.Looked.{old_less, need_asks, met_more, asked_met, met_below}
use Rattle.converter.proofs.looks.note_needs.Goals as goal

pub asked_at-asked-requires : goal.asked_at-asked-requires
asked_at-asked-requires g c = let v = sight c.args.heap.now.space c.args.heap.now.memory c.args.heap.now.marks in
    let q = c.requires.object in record { object = (q.0, q.1, old_less v c.args.object c.args.to c.loop-k.k q.0 q.1 (omega arith) q.2) }

pub loop-k-preserved : goal.loop-k-preserved
loop-k-preserved g c =
    let v = sight c.args.heap.now.space c.args.heap.now.memory c.args.heap.now.marks in
    let before = c.loop-k.invariant in
    let k = c.loop-k.k in
    let asked = c.asked_at-asked.result in
    let q = c.requires.object in
    record {
      kept = λ a b h. c.note.ensures.kept a b (before.kept a b h);
      met = λ a b h. elim (c.note.ensures.met a b h) [
        | inl old ↦ before.met a b old
        | inr x ↦ (
            let some = c.asked_at-asked.ensures.some (λ e. need_asks b (sym x.1 ∙ e)) in
            let less0 = old_less v c.args.object c.args.to k q.0 q.1 (omega arith) q.2 in
            let s0 = some q.0 q.1 less0 in
            let other = (subst (λ y. Asks y c.args.t q.0 s0.0) x.1 (c.asked_at-asked.ensures.asks q.0 q.1 s0.0 less0 s0.1)).0 in
            inr (
              x.0,
              other,
              λ es n o.
                  let less = old_less v c.args.object c.args.to k es n (omega arith) o in
                  let s = some es n less in
                  (k, s.0, omega arith, omega arith, s.1, (subst (λ y. Asks y c.args.t es s.0) x.1 (c.asked_at-asked.ensures.asks es n s.0 less s.1)).1),
            ))
      ];
      all = λ es n j m o lo hi r taken. met_below k (λ y. c.args.from ≤ y → Refers v es n y m → Met es (needs_of c.note.new.queue.needs) c.args.t m)
          (λ y lt l z. met_more c.loop-k.queue.needs c.note.new.queue.needs c.args.t es m c.note.ensures.kept (before.all es n y m o l lt z taken))
          (λ l z. asked_met asked c.note.new.queue.needs c.args.t es m c.note.ensures.here taken
          (c.asked_at-asked.ensures.asks es n m (old_less v c.args.object c.args.to k es n (omega arith) o) z))
          j hi lo r;
      long = c.note.ensures.long ∙ before.long;
      same = c.note.ensures.same ∙ ap (λ (y : Queues). record y { needs = c.note.new.queue.needs }) before.same;
    }

pub returns-clause-all : goal.returns-clause-all
returns-clause-all g c = λ es n k m o lo hi r taken. c.loop-k.invariant.all es n k m o lo (omega (arith, hi)) r taken
