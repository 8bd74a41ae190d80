use Rattle.std.proofs.Common.{◌++◌, ℕ, List, Vec, Global, sym, ◌∙◌, ap}
use Rattle.listing_lines.proofs.Steps.{after_between, after_byte}
use Rattle.listing_lines.proofs.words.words.Goals.{then-is_between+in_ok-end_word, else-is_between+in_ok-push}
use Rattle.listing_lines.specs.Words.{ended, words}
use Rattle.listing_lines.proofs.words.words.Goals as goal

pub loop-b-preserved : goal.loop-b-preserved
loop-b-preserved c =
    let line = c.args.line.now in
    let before = c.loop-b in
    let now = c.next-mode in
    let done = c.if-is_between.words.items in
    let word = c.if-is_between.word.items in
    elim c.if-is_between.branch [
      | then-is_between+in_ok-end_word w ↦
          after_between before.words.items before.mode before.word.items line before.b-index (words line)
          now.result done word c.loop-b-test.true now.ensures
          (sym c.is_between.ensures ∙ w.if-is_between.true)
          (ap (λ (v : Vec (List ℕ) Global). v.items) w.words-is ∙ w.in_ok-end_word.ensures
          ∙ ap (λ (b : List ℕ). before.words.items ++ ended b) w.deref.ensures.value)
          (ap (λ (v : Vec ℕ Global). v.items) w.word-is ∙ w.clear.ensures.items) before.invariant
      | else-is_between+in_ok-push w ↦
          after_byte before.words.items before.mode before.word.items line before.b-index (words line)
          now.result done word c.loop-b-test.true now.ensures
          (sym c.is_between.ensures ∙ w.if-is_between.false)
          (ap (λ (v : Vec (List ℕ) Global). v.items) w.words-is)
          (ap (λ (v : Vec ℕ Global). v.items) w.word-is ∙ w.in_ok-push.ensures.items) before.invariant
    ]
