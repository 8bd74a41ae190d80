use Rattle.std.proofs.Common.{◌-◌, ◌+◌, ◌/◌, ◌++◌, List, ℕ, ap, ◌∙◌}
use Rattle.image_meaning.specs.Entries.{bytes_of_word}
use Rattle.directories.proofs.Readings.{bytes_step}
use Rattle.directories.proofs.entries.push_bytes.Goals as goal

pub loop-i-preserved : goal.loop-i-preserved
loop-i-preserved c =
    ap (λ (done : List ℕ). done ++ bytes_of_word (c.args.count - (c.loop-i.i + 1)) (c.loop-i.rest / 256)) c.in_ok-push.ensures.items
    ∙ bytes_step c.loop-i.bytes.items (c.args.bytes.now.items ++ bytes_of_word c.args.count c.args.word) c.args.count c.loop-i.i c.loop-i.rest
    c.loop-i-test.true c.loop-i.invariant
