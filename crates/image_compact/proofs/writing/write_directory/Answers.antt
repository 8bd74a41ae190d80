use Rattle.std.proofs.Common.{◌≡◌, ◌≤◌, ◌∙◌, ℕ, List, length, ap, refl, arith}
use Rattle.std.proofs.lemmas.Result.{on_ok_weaker}
use Rattle.image_layout.specs.Places.{directory_line}
use Rattle.image_meaning.specs.Directories.{spelled_all}
use Rattle.dense_image.specs.Written.{entries_of}
use Rattle.image_compact.specs.Writing.{lines_for}
use Rattle.image_compact.proofs.LineWords.{changes_as, wrote_as}
use Rattle.image_compact.proofs.writing.write_directory.Goals as goal

pub lines_for-lines-requires : goal.lines_for-lines-requires
lines_for-lines-requires g c =
    omega (arith, ap length (c.as_slice-words.ensures.value ∙ c.requires.plan.words), c.requires.plan.room.directory)

pub write_words-requires-clause-within : goal.write_words-requires-clause-within
write_words-requires-clause-within g c =
    omega (
      arith,
      c.lines_for-lines.ensures,
      ap length (c.as_slice-words.ensures.value ∙ c.requires.plan.words),
      c.requires.plan.room.directory,
      c.requires.enough,
    )

pub returns-clause-wrote : goal.returns-clause-wrote
returns-clause-wrote g c =
    let words = spelled_all (entries_of c.args.graph.now) in
    let same = c.as_slice-words.ensures.value ∙ c.requires.plan.words in
    on_ok_weaker c.write_words.result
    (λ wrote. wrote_as c.as_slice-words.result.now words 33 (directory_line 0) c.lines_for-lines.result (lines_for (length words))
    c.args.memory.now c.write_words.new.memory same refl
    (c.lines_for-lines.ensures ∙ ap (λ (ws : List ℕ). lines_for (length ws)) same) wrote)
    c.write_words.ensures.wrote

pub returns-clause-changes : goal.returns-clause-changes
returns-clause-changes g c =
    let words = spelled_all (entries_of c.args.graph.now) in
    let same = c.as_slice-words.ensures.value ∙ c.requires.plan.words in
    changes_as c.as_slice-words.result.now words 33 (directory_line 0) c.lines_for-lines.result (lines_for (length words))
    c.args.memory.now c.write_words.new.memory same refl
    (c.lines_for-lines.ensures ∙ ap (λ (ws : List ℕ). lines_for (length ws)) same) c.write_words.ensures.changes
