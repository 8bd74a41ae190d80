use Rattle.std.proofs.Common.{◌≡◌, ℕ, List, [], ◌∷◌, ◌<◌, length, get_or, below_more, ◌∙◌, ap, arith}
use Rattle.std.proofs.lemmas.List.{length-append, get_or_append_left}
use Rattle.image_layout.specs.Places.{directory_line, directory_word}
use Rattle.line_memory.specs.Memory.{Memory, shown}
use Rattle.line_memory.proofs.Residence.{every_line_is_resident}
use Rattle.word_changes.specs.Changes.{Nothing}
use Rattle.word_changes.proofs.Changing.{changes_more}
use Rattle.directories.proofs.Readings.{pushed_last, words_read}
use Rattle.directories.proofs.reading.read_words.Goals as goal

pub returns-in_err-fetch_line-clause-changes : goal.returns-in_err-fetch_line-clause-changes
returns-in_err-fetch_line-clause-changes g c =
    changes_more Nothing c.args.memory.now c.loop-i.memory c.fetch_line.new.memory c.loop-i.invariant.changes c.fetch_line.ensures.changes

pub returns-in_err-push-clause-changes : goal.returns-in_err-push-clause-changes
returns-in_err-push-clause-changes g c =
    changes_more Nothing c.args.memory.now c.loop-i.memory c.fetch_line.new.memory c.loop-i.invariant.changes c.fetch_line.ensures.changes

pub returns-in_err-fetch_line-clause-calls : goal.returns-in_err-fetch_line-clause-calls
returns-in_err-fetch_line-clause-calls g c =
    let below : c.word_spot-spot.result.line < c.loop-i.memory.size = omega (
      arith,
      c.requires.enough,
      c.requires.some,
      c.loop-i-test.true,
      c.word_spot-spot.ensures.line,
      c.loop-i.invariant.changes.size,
    ) in
    (c.fetch_line.ensures.at_once (every_line_is_resident c.loop-i.memory c.word_spot-spot.result.line below)).1.calls ∙ c.loop-i.invariant.calls

pub returns-in_err-push-clause-calls : goal.returns-in_err-push-clause-calls
returns-in_err-push-clause-calls g c =
    let below : c.word_spot-spot.result.line < c.loop-i.memory.size = omega (
      arith,
      c.requires.enough,
      c.requires.some,
      c.loop-i-test.true,
      c.word_spot-spot.ensures.line,
      c.loop-i.invariant.changes.size,
    ) in
    (c.fetch_line.ensures.at_once (every_line_is_resident c.loop-i.memory c.word_spot-spot.result.line below)).1.calls ∙ c.loop-i.invariant.calls

pub loop-i-preserved : goal.loop-i-preserved
loop-i-preserved g c =
    let first : Memory = c.args.memory.now in
    let before : Memory = c.loop-i.memory in
    let after : Memory = c.fetch_line.new.memory in
    let changes = changes_more Nothing first before after c.loop-i.invariant.changes c.fetch_line.ensures.changes in
    let items = c.loop-i.words.items in
    let i = c.loop-i.i in
    let below : c.word_spot-spot.result.line < c.loop-i.memory.size = omega (
      arith,
      c.requires.enough,
      c.requires.some,
      c.loop-i-test.true,
      c.word_spot-spot.ensures.line,
      c.loop-i.invariant.changes.size,
    ) in
    let same = c.fetch_line.ensures.at_once (every_line_is_resident before c.word_spot-spot.result.line below) in
    record {
      count = omega (arith, ap length c.in_ok-push.ensures.items, length-append items (c.load.result ∷ []), c.loop-i.invariant.count);
      reads = λ known. below_more (λ (k : ℕ). get_or c.push.new.self.items k 0 ≡ shown first (directory_line k) (directory_word k)) i
          (λ k under. ap (λ (all : List ℕ). get_or all k 0) c.in_ok-push.ensures.items
          ∙ get_or_append_left items (c.load.result ∷ []) 0 k (omega (arith, under, c.loop-i.invariant.count))
          ∙ c.loop-i.invariant.reads known k under)
          (ap (λ (all : List ℕ). get_or all i 0) c.in_ok-push.ensures.items
          ∙ pushed_last items c.load.result i c.loop-i.invariant.count
          ∙ c.load.ensures
          ∙ ap (λ (l : ℕ). shown after l c.word_spot-spot.result.word) c.word_spot-spot.ensures.line
          ∙ ap (λ (w : ℕ). shown after (directory_line i) w) c.word_spot-spot.ensures.word
          ∙ changes.shows known (directory_line i) (directory_word i) (omega (arith, c.requires.enough, c.requires.some, c.loop-i-test.true)) (λ v none. none));
      changes = changes;
      counts = λ begin counts. c.fetch_line.ensures.counts begin (c.loop-i.invariant.counts begin counts);
      calls = same.1.calls ∙ c.loop-i.invariant.calls;
      spared = c.in_ok-fetch_line.ensures.cause.spared ∙ c.loop-i.invariant.spared;
    }

pub returns-clause-words : goal.returns-clause-words
returns-clause-words g c known =
    words_read c.args.used c.loop-i.words.items (shown c.args.memory.now) (omega (arith, c.loop-i.invariant.count))
    (λ k below. c.loop-i.invariant.reads known k (omega (arith, below)))
