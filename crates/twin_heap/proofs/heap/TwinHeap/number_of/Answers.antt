use Rattle.std.proofs.Common.{◌+◌, sym, ◌∙◌, ap, arith}
use Rattle.std.specs.Prelude.{slice_index}
use Rattle.twin_forms.specs.Table.{entry}
use Rattle.twin_forms.proofs.Led.{even_moved}
use Rattle.twin_heap.proofs.Reading.{there, by_index, by_line}
use Rattle.twin_heap.proofs.heap.TwinHeap.number_of.Goals as goal

pub returns-in-Volatile : goal.returns-in-Volatile
returns-in-Volatile g c = let s = c.args.self.now.space in let m = c.args.self.now.memory in let k = c.args.self.now.marks in
    record {
      number = λ es n h ln names.
          let t = there s m k es n c.in-Volatile.at h ln (by_index (entry es n) c.args.r c.in-Volatile.at c.in-Volatile.is names) in
          c.word.ensures.word ∙ ap (λ a. slice_index s.words (a + 2)) (sym t.at_is) ∙ (h.sits n ln).number t.young;
    }

pub returns-in-Persistent : goal.returns-in-Persistent
returns-in-Persistent g c = let s = c.args.self.now.space in let m = c.args.self.now.memory in let k = c.args.self.now.marks in
    record {
      number = λ es n h ln names.
          let x = even_moved (entry es n) c.in-Persistent.line (by_line (entry es n) c.args.r c.in-Persistent.line c.in-Persistent.is names) in
          c.number.ensures ∙ ap (λ l. slice_index k.numbers l) (sym x.1) ∙ (h.sits n ln).copy_number (omega (arith, x.0));
    }
