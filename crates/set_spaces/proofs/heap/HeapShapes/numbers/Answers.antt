use Rattle.std.proofs.Common.{◌∙◌, ◌+◌, ap, refl, subst, sym, length, slice_index_or, None}
use Rattle.std.proofs.lemmas.List.{get_or_default, length_push}
use Rattle.graph_model.specs.Heaps.{no_shape}
use Rattle.set_spaces.specs.Numbering.{AreNumbers}
use Rattle.set_spaces.proofs.Numbered.{number_more}
use Rattle.set_spaces.proofs.heap.HeapShapes.numbers.Goals as goal

pub loop-class-preserved : goal.loop-class-preserved
loop-class-preserved c =
    let shapes = c.args.shapes.now in
    let places = c.args.places.now in
    let i = c.loop-class.class in
    let numbers = c.loop-class.numbers.items in
    let number = c.in_ok-number.number in
    let pushed = c.in_ok-push.ensures.items in (
      ap length pushed ∙ length_push numbers number ∙ ap (λ n. n + 1) c.loop-class.invariant.0,
      subst (λ ns. AreNumbers shapes places c.args.self.now c.number.new.self ns) (sym pushed)
          (number_more shapes places c.args.self.now c.loop-class.self c.number.new.self numbers
          (slice_index_or places i None) c.index-shapes-class.result i number c.loop-class.invariant.1
          c.requires.places c.requires.are.long c.loop-class.invariant.0 refl
          (c.index-shapes-class.is
          ∙ get_or_default shapes i c.index-shapes-class.result no_shape c.loop-class-test.true)
          c.in_ok-number.ensures),
    )
