use Rattle.std.proofs.Common.{◌+◌, ◌∷◌, [], length, arith, subst, ◌∙◌, ap, length-append}
use Rattle.std.proofs.lemmas.Result.{err_from_is_err_and}
use Rattle.one_space.specs.First.{LacksWords, text_object}
use Rattle.two_spaces.specs.Seen.{shown_of}
use Rattle.first_spaces.specs.Growing.{Grows}
use Rattle.first_spaces.specs.Spaces.{spaces_of}
use Rattle.first_spaces.proofs.Objects.{numbered_more, texts_lack, texts_long, texts_more}
use Rattle.first_spaces.proofs.adding.add_texts.Goals as goal

pub returns-in_err-add_text-clause-full : goal.returns-in_err-add_text-clause-full
returns-in_err-add_text-clause-full g c =
    let p = err_from_is_err_and c.from_residual-in_err-add_text.result
    c.from_residual-in_err-add_text.ensures.1 in
    rw (p.1, p.2) (texts_lack c.args.class c.args.texts.now c.loop-text.text-index c.text-item.result
    c.loop-text-test.true
    c.text-item.is (spaces_of c.args.spaces.now) (spaces_of c.loop-text.spaces) c.loop-text.invariant.grown
    c.in_err-add_text.field-0.0
    (subst (λ text. LacksWords c.loop-text.spaces.heap.space.left (text_object c.args.class text ∷ [])
    c.in_err-add_text.field-0.0)
    c.as_slice.ensures c.in_err-add_text.ensures.full))

pub loop-text-preserved : goal.loop-text-preserved
loop-text-preserved g c =
    let grown : Grows (text_object c.args.class c.text-item.result ∷ []) (spaces_of c.loop-text.spaces)
    (spaces_of c.add_text.new.spaces) =
    subst (λ text. Grows (text_object c.args.class text ∷ []) (spaces_of c.loop-text.spaces) (spaces_of
    c.add_text.new.spaces))
    c.as_slice.ensures c.in_ok-add_text.ensures.grown in
    let many = texts_long c.args.class c.args.texts.now c.loop-text.text-index c.text-item.result
    c.loop-text-test.true
    c.text-item.is (spaces_of c.args.spaces.now) (spaces_of c.loop-text.spaces) c.loop-text.invariant.grown in
    let count = c.loop-text.invariant.long in
    let pushed = c.push_reserved.ensures.items in
    let long = length-append c.loop-text.references.items (c.in_ok-add_text.field-0 ∷ []) in
    let room = c.loop-text.invariant.room in
    let same = c.push_reserved.ensures.capacity in
    record {
      grown = texts_more c.args.class c.args.texts.now c.loop-text.text-index c.text-item.result
          c.loop-text-test.true
          c.text-item.is (spaces_of c.args.spaces.now) (spaces_of c.loop-text.spaces)
          c.loop-text.invariant.grown
          (spaces_of c.add_text.new.spaces) grown;
      numbers = numbered_more (shown_of (spaces_of c.loop-text.spaces)).number (shown_of (spaces_of
          c.add_text.new.spaces)).number
          (length (shown_of (spaces_of c.args.spaces.now)).objects) c.loop-text.references.items
          c.push_reserved.new.self.items
          c.in_ok-add_text.field-0 (length (shown_of (spaces_of c.loop-text.spaces)).objects)
          grown.spares.goes_on.keeps
          c.loop-text.invariant.numbers c.in_ok-add_text.ensures.number (omega (arith, many, count)) pushed;
      long = ap length pushed ∙ long ∙ ap (λ n. n + 1) count;
      room = omega (arith, room, same);
    }
