use Rattle.std.proofs.Common.{◌∙◌, ap}
use Rattle.ap_base.specs.References.{reference_word}
use Rattle.twin_forms.specs.Sights.{sight}
use Rattle.two_spaces.proofs.Valuing.{ref_word_of}
use Rattle.two_spaces.proofs.words.word_of_ref.Goals as goal

pub returns-in_default : goal.returns-in_default
returns-in_default g c =
    record {
      word = λ es h to. ref_word_of (sight c.args.heap.now.space c.args.heap.now.memory c.args.heap.now.marks) es c.args.r
          c.word_of.result h to
          (λ m lm names. c.word_of.ensures.word ∙ ap reference_word (c.resolved.ensures.current es m h lm names))
          c.in_default.not-Null;
    }
