use Rattle.std.proofs.Common.{◌≡◌, ◌<◌, ◌≤◌, ◌∙◌, rules, arith}
use Rattle.image_layout.specs.Places.{min_lines}
use Rattle.line_memory.specs.Memory.{Memory, shown, IsDurable}
use Rattle.region_logs.proofs.rows.attached.Goals as goal

pub returns-clause-keeps : goal.returns-clause-keeps
returns-clause-keeps c =
    let m : Memory = c.in-Ok.memory in
    let attached = c.in-Ok.ensures.attached in
    let enough : min_lines ≤ m.size = attached.range.0 in
    let below : 4129 < m.size = omega (arith, enough) in
    let durable : IsDurable m 4129 0 = attached.durable c.in_ok-image.ensures.fenced 4129 0 below in
    let zero : shown m 4129 0 ≡ 0 = search rules in
    c.a_log_begins_empty.ensures 0 0 m (omega arith) enough (λ tells v left. durable v left ∙ zero)
