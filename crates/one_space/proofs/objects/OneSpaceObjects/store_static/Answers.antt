use Rattle.one_space.proofs.Statics.{stores_static}
use Rattle.one_space.proofs.objects.OneSpaceObjects.store_static.Goals as goal

pub returns-clause-stored : goal.returns-clause-stored
returns-clause-stored c =
    let h = c.args.self.now in
    stores_static h.shapes h.space.words h.starts.items h.statics.items h.space.left c.args.field c.args.item
