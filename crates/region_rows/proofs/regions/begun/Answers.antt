use Rattle.std.proofs.Common.{◌≡◌, ◌<◌, ◌≤◌, ℕ, [], sym, ◌∙◌, ap, subst, rules, arith}
use Rattle.image_layout.specs.Places.{min_lines}
use Rattle.line_memory.specs.Memory.{Memory, shown, IsDurable}
use Rattle.region_log.specs.declared.entry.Underway.TheVariants.{Nothing}
use Rattle.region_log.specs.Kept.{KeepsLog}
use Rattle.region_log.specs.Log.{Log}
use Rattle.region_rows.proofs.regions.begun.Goals as goal

pub returns-clause-keeps : goal.returns-clause-keeps
returns-clause-keeps c =
    let m : Memory = c.in-Ok.memory in
    let attached = c.in-Ok.ensures.attached in
    let enough : min_lines ≤ m.size = attached.range.0 in
    let below : 4129 < m.size = omega (arith, enough) in
    let durable : IsDurable m 4129 0 = attached.durable c.in_ok-image.ensures.fenced 4129 0 below in
    let zero : shown m 4129 0 ≡ 0 = search rules in
    let fresh : Log = record { thread = 0; depth = 0; entries = []; underway = Nothing } in
    let empty : KeepsLog fresh m = c.a_log_begins_empty.ensures 0 0 m (omega arith) enough (λ tells v left. durable v left ∙ zero) in
    let is : c.in_ok-log.log ≡ fresh =
    c.in_ok-log.ensures ∙ ap (λ (t : ℕ). record fresh { thread = t }) c.main.ensures.zero in
    c.begin.ensures.keeps m (subst (λ (log : Log). KeepsLog log m) (sym is) empty)
