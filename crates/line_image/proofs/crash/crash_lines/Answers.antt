use Rattle.std.proofs.Common.{◌≡◌, ◌<◌, ◌+◌, ℕ, List, [], ◌∷◌, ◌++◌, length, get_or, slice_index, reverse, ap, sym, ◌∙◌, subst}
use Rattle.std.proofs.Common.{arith, All}
use Rattle.std.proofs.lemmas.List.{length_push}
use Rattle.std.proofs.lemmas.List.Elements.{All-push}
use Rattle.std.proofs.lemmas.Grind.{common_steps}
use Rattle.line_image.specs.Trace.{Trace, versions, newest}
use Rattle.line_image.specs.Crash.{word_left, version_word, state_at, state_past}
use Rattle.line_image.proofs.Generator.{state_at-one, state_past-one, version_word-one, word_left_lem}
use Rattle.line_image.proofs.Versions.{each_pushed}
use Rattle.line_image.proofs.crash.crash_lines.Goals as goal

abbrev IsLeft : ℕ → Trace → ℕ → List ℕ → Type 0
IsLeft pick h l words = (w : ℕ) → w < 8 → slice_index words w ≡ word_left pick h l w

-- the words that are picked, with those of one more line
all_left : (pick line : ℕ) (h : Trace) (lines new : List (List ℕ)) (words : List ℕ)
    → new ≡ lines ++ words ∷ [] → length lines ≡ line
    → ((k w : ℕ) → k < line → w < 8 → slice_index (get_or lines k []) w ≡ word_left pick h k w)
    → IsLeft pick h line words
    → (k w : ℕ) → k < line + 1 → w < 8 → slice_index (get_or new k []) w ≡ word_left pick h k w
all_left pick line h lines new words is size before one k w lt eight =
    subst (λ (all : List (List ℕ)). slice_index (get_or all k []) w ≡ word_left pick h k w) (sym is)
    (each_pushed lines words [] line (IsLeft pick h) size (λ j below v e. before j v below e) one k lt w eight)

-- one more line of eight words
eight_more : (lines new : List (List ℕ)) (words : List ℕ) → new ≡ lines ++ words ∷ []
    → All (λ (line : List ℕ). length line ≡ 8) lines → length words ≡ 8
    → All (λ (line : List ℕ). length line ≡ 8) new
eight_more lines new words is eights eight =
    let IsEight = λ (line : List ℕ). length line ≡ 8 in
    subst (All IsEight) (sym is) (All-push IsEight lines words eights eight)

one_longer : (lines new : List (List ℕ)) (words : List ℕ) (line : ℕ) → new ≡ lines ++ words ∷ []
    → length lines ≡ line → length new ≡ line + 1
one_longer lines new words line is size = omega (arith, ap length is, length_push lines words)

pub loop-line-preserved-then-index-fences : goal.loop-line-preserved-then-index-fences
loop-line-preserved-then-index-fences c =
    let h : Trace = record { first = c.args.first.now; done = reverse c.args.done.now } in
    let line = c.loop-line.line in
    let before = c.loop-line.invariant in
    let is = c.in_ok-push.ensures.items in
    let unwritten : get_or c.in_ok-writes.writes.items line 0 < c.in_ok-writes.fences = grind (arith, common_steps) in
    let single : length (versions h line) ≡ 1 = c.in_ok-writes.ensures.fenced line unwritten in
    let latest : c.words_at.result ≡ newest (versions h line) =
    c.words_at.ensures.words ∙ c.requires.reads line in
    let one : IsLeft c.args.pick h line c.words_at.result = λ w eight.
    ap (λ (words : List ℕ). slice_index words w) latest
    ∙ sym (version_word-one (versions h line) c.args.pick (state_at c.args.pick h line) w single)
    ∙ sym (word_left_lem c.args.pick h line w) in
    record {
      size = one_longer c.loop-line.lines.items _ c.words_at.result line is before.size;
      eights = eight_more c.loop-line.lines.items _ c.words_at.result is before.eights c.words_at.ensures.eight;
      state = before.state ∙ sym (state_past-one (versions h line) (state_at c.args.pick h line) single) ∙ sym (state_at-one c.args.pick h line);
      behind = all_left c.args.pick line h c.loop-line.lines.items _ c.words_at.result is before.size before.behind one;
    }

pub loop-line-preserved : goal.loop-line-preserved
loop-line-preserved c =
    let h : Trace = record { first = c.args.first.now; done = reverse c.args.done.now } in
    let line = c.loop-line.line in
    let before = c.loop-line.invariant in
    let is = c.in_ok-push-2.ensures.items in
    let picked = c.in_ok-words.ensures in
    record {
      size = one_longer c.loop-line.lines.items _ c.in_ok-words.words line is before.size;
      eights = eight_more c.loop-line.lines.items _ c.in_ok-words.words is before.eights picked.eight;
      state = picked.state ∙ ap (state_past (versions h line)) before.state ∙ sym (state_at-one c.args.pick h line);
      behind = all_left c.args.pick line h c.loop-line.lines.items _ c.in_ok-words.words is before.size before.behind
          (λ w eight. picked.words w eight
          ∙ ap (λ (s : ℕ). version_word (reverse (versions h line)) c.args.pick s w) before.state
          ∙ sym (word_left_lem c.args.pick h line w));
    }
