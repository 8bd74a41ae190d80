use Rattle.std.proofs.Common.{◌-◌, ℕ, refl, subst}
use Rattle.mirror_image.specs.Stops.{KeepsLeader}
use Rattle.mirror_image.proofs.Halfway.{keeps_none}
use Rattle.mirror_image.proofs.state.Mirror.pair.Goals as goal

pub returns-then-lines-clause-stops_failed : goal.returns-then-lines-clause-stops_failed
returns-then-lines-clause-stops_failed g c =
    keeps_none ((g.A.Image.told c.args.a).size - 1) (g.A.Image.told c.args.a).trace (g.B.Image.told c.args.b).trace
    (g.A.Image.told c.args.a).trace (g.B.Image.told c.args.b).trace refl refl

pub returns-in-Ok-clause-stops : goal.returns-in-Ok-clause-stops
returns-in-Ok-clause-stops g c =
    subst (λ (n : ℕ). KeepsLeader (n - 1) (g.A.Image.told c.args.a).trace (g.B.Image.told c.args.b).trace
    (g.A.Image.told c.pair_halves.new.a).trace (g.B.Image.told c.pair_halves.new.b).trace)
    c.lines-lines.ensures.size c.pair_halves.ensures.kept

pub returns-in-Err-clause-stops_failed : goal.returns-in-Err-clause-stops_failed
returns-in-Err-clause-stops_failed g c =
    subst (λ (n : ℕ). KeepsLeader (n - 1) (g.A.Image.told c.args.a).trace (g.B.Image.told c.args.b).trace
    (g.A.Image.told c.pair_halves.new.a).trace (g.B.Image.told c.pair_halves.new.b).trace)
    c.lines-lines.ensures.size c.pair_halves.ensures.kept
