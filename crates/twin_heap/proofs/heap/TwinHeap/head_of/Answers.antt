use Rattle.std.proofs.Common.{◌*◌, sym, ◌∙◌, arith}
use Rattle.twin_forms.specs.Table.{entry}
use Rattle.twin_forms.proofs.Led.{even_moved}
use Rattle.twin_heap.proofs.Reading.{spot_is, by_line}
use Rattle.twin_heap.proofs.heap.TwinHeap.head_of.Goals as goal

pub returns-in-Persistent : goal.returns-in-Persistent
returns-in-Persistent g c = let s = c.args.self.now.space in let m = c.args.self.now.memory in let k = c.args.self.now.marks in
    record {
      head = λ es n h ln names.
          let e = entry es n in
          let x = even_moved (entry es n) c.in-Persistent.line (by_line (entry es n) c.args.r c.in-Persistent.line c.in-Persistent.is names) in
          c.load.ensures ∙ sym (spot_is m (8 * e.line) c.in-Persistent.line 0 (omega (arith, x.1)) (omega arith)) ∙ (h.sits n ln).copy_head (omega (arith, x.0));
    }
