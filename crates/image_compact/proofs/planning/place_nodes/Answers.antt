use Rattle.std.proofs.Common.{◌≡◌, ◌∙◌, ◌++◌, ◌∷◌, ◌+◌, ◌≤◌, [], ℕ, List, length, ap, arith, take}
use Rattle.std.proofs.lemmas.List.{length-append}
use Rattle.image_compact.proofs.Plans.{lines_next, lines_within, places_more}
use Rattle.image_compact.proofs.planning.place_nodes.Goals as goal

pub overflow_cast-values : goal.overflow_cast-values
overflow_cast-values c =
    let next = lines_next c.args.nodes.now c.loop-node.node-index c.node-item.result c.loop-node-test.true c.node-item.is in
    let within = lines_within c.args.nodes.now (c.loop-node.node-index + 1) in
    omega (arith, next, within, c.requires, ap length c.values.ensures.same)

pub overflow_add-line : goal.overflow_add-line
overflow_add-line c =
    let next = lines_next c.args.nodes.now c.loop-node.node-index c.node-item.result c.loop-node-test.true c.node-item.is in
    let within = lines_within c.args.nodes.now (c.loop-node.node-index + 1) in
    omega (arith, next, within, c.requires, ap length c.values.ensures.same, c.lines_of-line.ensures.lines, c.loop-node.invariant.line)

pub loop-node-preserved : goal.loop-node-preserved
loop-node-preserved c =
    let next = lines_next c.args.nodes.now c.loop-node.node-index c.node-item.result c.loop-node-test.true c.node-item.is in
    let items : c.push.new.self.items ≡ c.loop-node.lines.items ++ c.loop-node.line ∷ [] = c.in_ok-push.ensures.items in
    let had = c.loop-node.invariant.count in
    let longer = length-append c.loop-node.lines.items (c.loop-node.line ∷ []) in
    record {
      count = omega (arith, ap length items, had, longer);
      line = omega (arith, next, ap length c.values.ensures.same, c.lines_of-line.ensures.lines, c.loop-node.invariant.line);
      each = rw items (places_more c.args.nodes.now c.loop-node.lines.items c.loop-node.node-index c.loop-node.line had
          c.loop-node.invariant.each c.loop-node.invariant.line);
    }
