use Rattle.std.proofs.Common.{◌≡◌, ◌<◌, ◌*◌, ◌∙◌, ℕ, length, slice_index_or, sym, ap, subst, arith}
use Rattle.std.specs.Prelude.{◌↔◌, IfSome, IsNone}
use Rattle.std.proofs.lemmas.List.{get_or_default}
use Rattle.region_logs.specs.Logs.{AllLogs, HasGuarded}
use Rattle.region_logs.specs.Table.{owner_of, word_of}
use Rattle.region_logs.proofs.Tables.{guarded-by, guarded-by-none, word_below}
use Rattle.region_logs.proofs.logs.Logs.guard_of.Goals as goal

pub returns-clause-some : goal.returns-clause-some
returns-clause-some c =
    let inside = c.self.inside in
    let line : c.args.spot.line < inside.lines = subst (λ (all : AllLogs). c.args.spot.line < all.lines)
    (sym c.self.view_is) c.requires in
    let owner : ℕ = c.index.result.now in
    let there : word_of c.args.spot < length inside.table.items =
    omega (arith, word_below c.args.spot inside.lines line, c.self.invariant.size) in
    let at : owner ≡ owner_of inside.table.items c.args.spot = c.index.ensures
    ∙ ap (λ (i : ℕ). slice_index_or inside.table.items i owner) c.number.ensures
    ∙ get_or_default inside.table.items (word_of c.args.spot) owner 0 there in
    subst (λ (all : AllLogs). IfSome c.thread_of.result (λ (t : ℕ). HasGuarded all t c.args.spot)) c.self.view_is
    (guarded-by inside.logs.items inside.lines owner inside.table.items c.args.spot c.thread_of.result c.self.invariant
    line at c.thread_of.ensures.some)

pub returns-clause-none : goal.returns-clause-none
returns-clause-none c =
    let inside = c.self.inside in
    let line : c.args.spot.line < inside.lines = subst (λ (all : AllLogs). c.args.spot.line < all.lines)
    (sym c.self.view_is) c.requires in
    let owner : ℕ = c.index.result.now in
    let there : word_of c.args.spot < length inside.table.items =
    omega (arith, word_below c.args.spot inside.lines line, c.self.invariant.size) in
    let at : owner ≡ owner_of inside.table.items c.args.spot = c.index.ensures
    ∙ ap (λ (i : ℕ). slice_index_or inside.table.items i owner) c.number.ensures
    ∙ get_or_default inside.table.items (word_of c.args.spot) owner 0 there in
    subst (λ (all : AllLogs). IsNone c.thread_of.result ↔ ((t : ℕ) → HasGuarded all t c.args.spot → ⊥)) c.self.view_is
    (guarded-by-none inside.logs.items inside.lines owner inside.table.items c.args.spot c.thread_of.result
    c.self.invariant line at c.thread_of.ensures.some c.thread_of.ensures.none)
