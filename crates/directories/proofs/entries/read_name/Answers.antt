use Rattle.std.proofs.Common.{◌≡◌, ◌⊎◌, inl, inr, ◌≤◌, ◌<◌, ◌-◌, ◌+◌, ◌++◌, min, List, ℕ, length, drop, get_or, ap, ◌∙◌, arith}
use Rattle.image_meaning.specs.Entries.{bytes_of_word, name_from}
use Rattle.directories.proofs.Readings.{name_step, name_end}
use Rattle.directories.proofs.entries.read_name.Goals as goal
use Rattle.directories.proofs.entries.read_name.Goals.{else-loop-word-test, then-loop-word-test+then-left-eq0}

pub loop-word-preserved : goal.loop-word-preserved
loop-word-preserved c =
    let words = c.args.words.now in
    let i = c.loop-word.word-index in
    let left = c.loop-word.left in
    let count : c.at_most_eight-count.result ≡ min left 8 = c.at_most_eight-count.ensures in
    let some : 0 < left = omega arith in
    ap (λ (done : List ℕ). done ++ name_from (left - c.at_most_eight-count.result) (drop (i + 1) words)) c.in_ok-push_bytes.ensures
    ∙ ap (λ (n : ℕ). (c.loop-word.bytes.items ++ bytes_of_word n (get_or words i 0)) ++ name_from (left - n) (drop (i + 1) words)) count
    ∙ name_step c.loop-word.bytes.items (name_from c.args.len words) words left i some c.loop-word-test.true c.loop-word.invariant

pub returns : goal.returns
returns c =
    let end : (c.loop-word.left ≡ 0) ⊎ (length c.args.words.now ≤ c.loop-word.word-index) =
    elim c.loop-word-test.branch [
      | else-loop-word-test w ↦ inr (omega arith)
      | then-loop-word-test+then-left-eq0 w ↦ inl (omega arith)
    ] in
    c.from_vec.ensures.same
    ∙ name_end c.loop-word.bytes.items (name_from c.args.len c.args.words.now) c.args.words.now c.loop-word.left c.loop-word.word-index
    end c.loop-word.invariant
