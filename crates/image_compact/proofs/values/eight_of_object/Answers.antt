use Rattle.std.proofs.Common.{◌≡◌, ◌∙◌, ◌<◌, ◌+◌, ◌*◌, ◌∷◌, ℕ, List, length, map, slice_index_or, arith}
use Rattle.std.proofs.lemmas.List.{length-set}
use Rattle.image_compact.proofs.Plans.{next_of_eight}
use Rattle.image_compact.specs.Planning.{word_by}
use Rattle.image_compact.proofs.values.eight_of_object.Goals as goal

pub loop-w-preserved : goal.loop-w-preserved
loop-w-preserved c =
    let words = c.loop-w.words in
    let w = c.loop-w.w in
    let eight = c.loop-w.invariant.eight in
    let below = c.loop-w-test.true in
    record {
      eight = length-set words w c.object_word.result ∙ eight;
      each = next_of_eight words (c.args.head ∷ map (word_by c.args.lines.now) c.args.values.now) (8 * c.args.line) w c.object_word.result
          (omega (arith, eight, below)) c.loop-w.invariant.each c.object_word.ensures;
    }
