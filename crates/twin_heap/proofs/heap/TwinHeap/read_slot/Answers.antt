use Rattle.std.proofs.Common.{◌+◌, ◌*◌, ◌%◌, sym, ◌∙◌, ap, arith}
use Rattle.std.specs.Prelude.{slice_index}
use Rattle.line_memory.specs.Memory.{shown}
use Rattle.twin_forms.specs.Table.{entry, line_of}
use Rattle.twin_forms.specs.Sights.{sight}
use Rattle.twin_forms.proofs.Led.{word_young, word_moved}
use Rattle.twin_heap.proofs.Reading.{current_old, current_copy, spot_is}
use Rattle.twin_heap.proofs.heap.TwinHeap.read_slot.Goals as goal

pub returns-in-Volatile : goal.returns-in-Volatile
returns-in-Volatile g c = let s = c.args.self.now.space in let m = c.args.self.now.memory in let k = c.args.self.now.marks in
    record {
      word = λ es n h ln names.
          let x = current_old (entry es n) c.in-Volatile.at (sym c.in-Volatile.is ∙ c.resolved.ensures.current es n h ln names) in
          c.word.ensures.word ∙ ap (λ a. slice_index s.words (a + 3 + c.args.index)) (sym x.1) ∙ sym (word_young (sight s m k) (entry es n) c.args.index x.0);
    }

pub returns-in-Persistent : goal.returns-in-Persistent
returns-in-Persistent g c = let s = c.args.self.now.space in let m = c.args.self.now.memory in let k = c.args.self.now.marks in
    record {
      word = λ es n h ln names.
          let i = c.args.index in
          let x = current_copy (entry es n) c.in-Persistent.line (sym c.in-Persistent.is ∙ c.resolved.ensures.current es n h ln names) in
          c.load.ensures ∙ ap (λ l. shown m l c.slot_of.result.word) c.slot_of.ensures.line ∙ ap (λ w. shown m (c.in-Persistent.line + line_of i) w) c.slot_of.ensures.word
          ∙ sym (spot_is m (8 * (entry es n).line + 1 + i) (c.in-Persistent.line + line_of i) ((1 + i) % 8) (omega (arith, x.1)) (omega arith))
          ∙ sym (word_moved (sight s m k) (entry es n) i x.0);
    }
