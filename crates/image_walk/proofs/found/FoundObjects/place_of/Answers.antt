use Rattle.std.proofs.Common.{◌≡◌, ◌<◌, ◌≤◌, length, ◌∙◌, ap, sym, arith, ℕ}
use Rattle.std.specs.Option.{unwrap_or}
use Rattle.graph_model.proofs.Placed.{few_found, read_place}
use Rattle.image_walk.proofs.Placing.{past_all, place_or_end}
use Rattle.image_walk.proofs.found.FoundObjects.place_of.Goals as goal

pub overflow_cast-end : goal.overflow_cast-end
overflow_cast-end c =
    let few = few_found c.self.inside.lines.items c.self.inside.places.items c.self.invariant.placed in
    omega (arith, few, c.self.invariant.placed.few, c.len-end.ensures)

pub returns : goal.returns
returns c =
    let found = c.self.inside.lines.items in
    let places = c.self.inside.places.items in
    let end : c.len-end.result ≡ length found = omega (arith, c.len-end.ensures) in
    let there : c.args.line < length places = omega (arith, c.if-line-len.false, c.len.ensures) in
    let place = read_place found places c.args.line c.index.result.now c.self.invariant.placed there c.index.ensures in
    rw (← c.self.view_is) (c.unwrap_or.ensures ∙ ap (λ (n : ℕ). unwrap_or c.index.result.now n) end ∙ place_or_end found c.args.line c.index.result.now place)

pub returns-then-line-len : goal.returns-then-line-len
returns-then-line-len c =
    let found = c.self.inside.lines.items in
    let places = c.self.inside.places.items in
    let end : c.len-end.result ≡ length found = omega (arith, c.len-end.ensures) in
    let past : length places ≤ c.args.line = omega (arith, c.if-line-len.true, c.len.ensures) in
    rw (← c.self.view_is) (end ∙ sym (past_all found places c.args.line c.self.invariant past))
