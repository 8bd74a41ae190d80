use Rattle.std.proofs.Common.{◌≡◌, ◌<◌, ◌-◌, suc, false, arith, sym, subst, ◌∙◌}
use Rattle.monitors.specs.declared.monitor.Monitor.{Monitor}
use Rattle.monitors.specs.Keys.{is_key}
use Rattle.monitors.proofs.Indexing.{IsSearched, search_begins, search_next}
use Rattle.monitors.proofs.index.Index.find.Goals as goal

pub loop-at-init : goal.loop-at-init
loop-at-init c = search_begins c.args.held.now c.args.key c.args.self.now.latest.items c.args.self.now.earlier.items c.bucket.result
    c.index.result.now c.requires.indexed c.bucket.ensures.bucket c.bucket.ensures.below c.index.ensures

stepped : (c : goal.After-row_known-in-loop-at-1) → IsSearched c.args.held.now c.args.key c.index-in-loop-at.result.now × (c.index-in-loop-at.result.now < c.loop-at.at)
stepped c =
    let before : c.loop-at.at ≡ suc (c.loop-at.at - 1) = omega (arith, c.loop-at-test.true) in
    search_next c.args.held.now c.args.key c.args.self.now.latest.items c.args.self.now.earlier.items c.loop-at.at (c.loop-at.at - 1)
    c.index-in-loop-at.result.now c.index-held-at.result c.requires.indexed c.requires.few c.loop-at.invariant before c.index-held-at.is
    (subst (λ (m : Monitor). is_key m.key c.args.key ≡ false) (sym c.index-held-at.is) (sym c.same_key.ensures.same ∙ c.if-same_key.false))
    c.index-in-loop-at.ensures

pub loop-at-smaller : goal.loop-at-smaller
loop-at-smaller c = (stepped c).1

pub loop-at-preserved : goal.loop-at-preserved
loop-at-preserved c = (stepped c).0
