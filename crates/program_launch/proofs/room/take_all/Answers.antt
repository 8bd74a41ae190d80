use Rattle.std.proofs.Common.{◌≡◌, ◌+◌, ℕ, List, length, ap, sym, ◌∙◌, subst, arith}
use Rattle.std.specs.Prelude.{sum_by}
use Rattle.run_types.specs.declared.fault.Which.TheVariants.{VolatileWords}
use Rattle.std.proofs.lemmas.Result.{err_from_is_err_and}
use Rattle.program_launch.proofs.Rooms.{all_fit, lacks_arguments, lacks_stream, lacks_text, take_whole, text_words, texts_more}
use Rattle.program_launch.proofs.room.take_all.Goals as goal

pub returns-in_err-behind_stream-clause-full : goal.returns-in_err-behind_stream-clause-full
returns-in_err-behind_stream-clause-full c = λ parts are.
    let p = err_from_is_err_and c.from_residual.result c.from_residual.ensures.1 in
    rw (p.1, p.2) (lacks_stream c.args.words c.from.result parts c.in_err-behind_stream.field-0.0 (sym c.from.ensures)
    c.in_err-behind_stream.ensures.short c.in_err-behind_stream.ensures.full)

pub returns-in_err-left-clause-full : goal.returns-in_err-left-clause-full
returns-in_err-left-clause-full c = λ parts are.
    let p = err_from_is_err_and c.from_residual-in_err-left.result c.from_residual-in_err-left.ensures.1 in
    rw (p.1, p.2) (lacks_arguments c.args.words c.in_ok-behind_stream.behind_stream parts c.in_err-left.field-0.0
    (sym c.from.ensures ∙ c.in_ok-behind_stream.ensures.taken) c.in_err-left.ensures.short c.in_err-left.ensures.full)

pub loop-text-init : goal.loop-text-init
loop-text-init c =
    let one = c.in_ok-behind_stream.ensures.taken in
    let other = c.in_ok-left.ensures.taken in
    omega (arith, one, other)

pub returns-in_err-rest-clause-full : goal.returns-in_err-rest-clause-full
returns-in_err-rest-clause-full c = λ parts are.
    let p = err_from_is_err_and c.from_residual-in_err-rest.result c.from_residual-in_err-rest.ensures.1 in
    rw (p.1, p.2) (lacks_text c.args.words c.loop-text.left parts c.in_err-rest.field-0.0 c.args.literals.now
    c.loop-text.text-index c.text-item.result are c.loop-text-test.true c.text-item.is c.loop-text.invariant
    (let same = ap (λ (t : List ℕ). length t) c.as_slice.ensures in let short = c.in_err-rest.ensures.short in
    omega (arith, same, short))
    (subst (λ (t : List ℕ). c.in_err-rest.field-0.0 ≡ record { which = VolatileWords; need = 3 + length t; left = c.loop-text.left })
    c.as_slice.ensures c.in_err-rest.ensures.full))

pub loop-text-preserved : goal.loop-text-preserved
loop-text-preserved c =
    let more = texts_more c.args.literals.now c.loop-text.text-index c.text-item.result c.loop-text-test.true
    c.text-item.is in
    let sum = c.loop-text.invariant in
    let taken = c.in_ok-rest.ensures.taken in
    let same = ap (λ (t : List ℕ). length t) c.as_slice.ensures in
    omega (arith, more, sum, taken, same)

pub returns-clause-room : goal.returns-clause-room
returns-clause-room c = λ parts are.
    all_fit c.args.words c.loop-text.left parts c.args.literals.now are
    (c.loop-text.invariant ∙ ap (λ (ts : List (List ℕ)). c.loop-text.left + (6 + sum_by text_words ts))
    (take_whole c.loop-text.text-index c.args.literals.now (let past = c.loop-text-test.false in omega (arith, past))))
