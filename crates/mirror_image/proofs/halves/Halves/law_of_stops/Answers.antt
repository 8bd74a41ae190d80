use Rattle.std.proofs.Common.{◌-◌}
use Rattle.mirror_image.proofs.Leaving.{used_leave}
use Rattle.mirror_image.proofs.Safety.{safe_shows}
use Rattle.mirror_image.proofs.halves.Halves.law_of_stops.Goals as goal

pub returns-clause-paired : goal.returns-clause-paired
returns-clause-paired g c =
    safe_shows _ ((g.A.Image.told c.args.self.now.a).size - 1) c.args.self.now.generation (g.A.Image.told c.args.self.now.a).calls c.args.self.now.left c.args.self.now.alive
    (g.A.Image.told c.args.self.now.a).trace (g.B.Image.told c.args.self.now.b).trace c.args.self.now.safe

pub returns-clause-used : goal.returns-clause-used
returns-clause-used g c =
    used_leave (g.A.Image.told c.args.self.now.a) (g.B.Image.told c.args.self.now.b) c.args.self.now.left c.args.self.now.alive
    c.args.self.now.less c.args.self.now.extra c.args.self.now.sound
