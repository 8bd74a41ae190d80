use Rattle.std.proofs.Common.{◌≡◌, length, slice_set, ap, sym, ◌∙◌, arith}
use Rattle.std.proofs.lemmas.List.{length-take-le}
use Rattle.std.proofs.Math.Seq.{take-set-lt}
use Rattle.frame_cells.specs.Window.{Stack}
use Rattle.frame_cells.proofs.stack.CellStack.set.Goals as goal

pub returns-clause-entries : goal.returns-clause-entries
returns-clause-entries g c =
    let i = c.self.inside in
    let v = ap (λ (s : Stack _). s.entries) c.self.view_is in
    let n : length c.args.self.now.entries ≡ i.top = ap length (sym v) ∙
    length-take-le i.top i.items.items (omega arith) in
    take-set-lt i.top i.items.items c.args.at c.args.value (omega (arith, n)) ∙
    ap (λ s. slice_set s c.args.at c.args.value) v
