use Rattle.live_view.proofs.Watched.{published_kept, published_told}
use Rattle.live_view.proofs.writer.LiveWriter.publish.Goals as goal

pub invariant_of-self : goal.invariant_of-self
invariant_of-self g c =
    published_kept c.publish_in.result _ _ _ _ _ _ _ _ c.self.invariant c.publish_in.ensures.view c.publish_in.ensures.values

pub returns : goal.returns
returns g c =
    published_told c.publish_in.result c.is_ok.result _ _ _ _ _ _ _ _ _ c.self.view_is c.self.invariant.1
    c.publish_in.ensures.view c.publish_in.ensures.values c.is_ok.ensures.value
