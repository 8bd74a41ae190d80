use Rattle.std.proofs.Common.{◌≡◌, ◌-◌, length, drop, arith}
use Rattle.image_meaning.specs.Entries.{word_of_bytes}
use Rattle.image_compact.proofs.Spellings.{AllBelow, word_step, word_fits}
use Rattle.image_compact.proofs.spelling.word_of.Goals as goal

pub overflow_mul-word : goal.overflow_mul-word
overflow_mul-word c =
    let bytes = c.args.bytes.now in
    let all : AllBelow bytes = λ k. omega (arith, c.type_inv.bytes k) in
    let is : c.loop-i.word ≡ word_of_bytes (drop (length bytes - c.loop-i.i) bytes) = c.loop-i.invariant in
    omega (arith, word_fits bytes c.loop-i.i c.loop-i-test.true c.requires all, is)

pub overflow_add-word : goal.overflow_add-word
overflow_add-word c =
    let bytes = c.args.bytes.now in
    let all : AllBelow bytes = λ k. omega (arith, c.type_inv.bytes k) in
    let is : c.loop-i.word ≡ word_of_bytes (drop (length bytes - c.loop-i.i) bytes) = c.loop-i.invariant in
    omega (arith, word_fits bytes c.loop-i.i c.loop-i-test.true c.requires all, is, c.from.ensures)

pub loop-i-preserved : goal.loop-i-preserved
loop-i-preserved c =
    let bytes = c.args.bytes.now in
    let is : c.loop-i.word ≡ word_of_bytes (drop (length bytes - c.loop-i.i) bytes) = c.loop-i.invariant in
    omega (arith, word_step bytes c.loop-i.i c.loop-i-test.true, is, c.from.ensures)
