use Rattle.std.proofs.Common.{◌<◌, length, arith}
use Rattle.image_walk.proofs.Placing.{some_few}
use Rattle.image_walk.proofs.found.FoundObjects.get.Goals as goal

pub returns-then-place-len-clause-few : goal.returns-then-place-len-clause-few
returns-then-place-len-clause-few c =
    let within : c.args.place < length c.self.inside.lines.items = omega (arith, c.if-place-len.true, c.len.ensures) in
    rw (← c.self.view_is) (some_few c.self.inside.lines.items c.self.inside.places.items c.args.place c.self.invariant within)
