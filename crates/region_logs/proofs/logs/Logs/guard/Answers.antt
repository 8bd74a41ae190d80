use Rattle.std.proofs.Common.{◌≡◌, ◌<◌, ◌∙◌, ℕ, inl, length, sym, subst, arith}
use Rattle.region_log.specs.declared.entry.Underway.TheVariants.{Nothing}
use Rattle.region_log.specs.Guarding.{IsGuarded}
use Rattle.region_log.specs.Log.{Log}
use Rattle.region_logs.specs.Logs.{AllLogs, HasGuarded, log_at}
use Rattle.region_logs.proofs.Tables.{log-is, table-guards-at}
use Rattle.region_logs.proofs.logs.Logs.guard.Goals as goal

pub guard-requires-clause-unlogged : goal.guard-requires-clause-unlogged
guard-requires-clause-unlogged c logged =
    let inside = c.self.inside in
    let was : Log = c.index_mut-log.result.now in
    let there : c.number.result < length inside.logs.items = omega (arith, c.number.ensures.below, c.self.invariant.count) in
    let is : was ≡ log_at c.args.self.now c.args.t = log-is inside.logs.items inside.lines c.args.self.now c.number.result
    c.args.t was c.self.view_is c.number.ensures.same there c.index_mut-log.ensures.value in
    let guarded : IsGuarded was c.args.spot = inl logged in
    c.requires.free c.args.t (subst (λ (l : Log). IsGuarded l c.args.spot) is guarded)

pub invariant_of-self : goal.invariant_of-self
invariant_of-self c =
    let inside = c.self.inside in
    let was : Log = c.index_mut-log.result.now in
    let there : c.number.result < length inside.logs.items = omega (arith, c.number.ensures.below, c.self.invariant.count) in
    let is : was ≡ log_at c.args.self.now c.args.t = log-is inside.logs.items inside.lines c.args.self.now c.number.result
    c.args.t was c.self.view_is c.number.ensures.same there c.index_mut-log.ensures.value in
    let idle : was.underway ≡ Nothing = subst (λ (l : Log). l.underway ≡ Nothing) (sym is) c.requires.idle in
    let line : c.args.spot.line < inside.lines = subst (λ (all : AllLogs). c.args.spot.line < all.lines)
    (sym c.self.view_is) c.requires.within in
    let free = subst (λ (all : AllLogs). (s : ℕ) → HasGuarded all s c.args.spot → ⊥) (sym c.self.view_is) c.requires.free in
    table-guards-at inside.logs.items inside.lines c.number.result c.number-2.result c.number-3.result c.args.old
    inside.table.items c.args.spot was c.guard.new.self c.self.invariant c.number.ensures.below line
    c.index_mut-log.ensures.value idle c.guard.ensures.named (c.number-2.ensures.same ∙ sym c.number.ensures.same)
    c.number-3.ensures free
