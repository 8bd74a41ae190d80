use Rattle.std.proofs.Common.{◌≡◌, ◌*◌, ◌+◌, ◌-◌, ◌/◌, length, ◌++◌, ◌∷◌, [], ◌∙◌, drop, take, ap, arith}
use Rattle.std.proofs.lemmas.List.{take_all, length-drop}
use Rattle.image_meaning.specs.Entries.{name_words, some_words, word_of_bytes}
use Rattle.image_compact.proofs.Spellings.{name_step}
use Rattle.image_compact.proofs.spelling.push_name.Goals as goal

pub loop-i-preserved : goal.loop-i-preserved
loop-i-preserved c =
    let name = c.args.name.now in
    let before = c.loop-i.words.items in
    let count = (length name + 7) / 8 in
    let pushed : c.push.new.self.items ≡ before ++ word_of_bytes (take 8 (drop (8 * c.loop-i.i) name)) ∷ [] =
    c.in_ok-push.ensures.items ∙ ap (λ n. before ++ n ∷ []) c.first_word.ensures
    ∙ ap (λ rest. before ++ word_of_bytes (take 8 rest) ∷ [])
    (take_all (length name - 8 * c.loop-i.i) (drop (8 * c.loop-i.i) name) (omega (arith, length-drop (8 * c.loop-i.i) name))) in
    ap (λ done. done ++ some_words (count - (c.loop-i.i + 1)) (drop (8 * (c.loop-i.i + 1)) name)) pushed
    ∙ name_step before (c.args.words.now.items ++ name_words name) name count c.loop-i.i c.loop-i-test.true c.loop-i.invariant
