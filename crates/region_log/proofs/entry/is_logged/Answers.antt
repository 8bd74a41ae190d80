-- The entry that is of the word.
use Rattle.std.proofs.Common.{◌≡◌, refl, sym, arith}
use Rattle.std.proofs.lemmas.Bool.Decides.{nat_tests}
use Rattle.region_log.proofs.entry.is_logged.Goals as goal

pub returns-then-eq : goal.returns-then-eq
returns-then-eq c =
    let line : c.entry-item.result.spot.line ≡ c.args.spot.line = grind (arith, nat_tests) in
    let word : c.entry-item.result.spot.word ≡ c.args.spot.word = grind (arith, nat_tests) in (
      λ yes. (
        c.loop-entry.entry-index,
        c.entry-item.result,
        c.loop-entry-test.true,
        sym c.entry-item.is,
        (line, word),
      ),
      λ logged. refl,
    )
