use Rattle.std.proofs.Common.{◌≡◌, ◌-◌, ◌++◌, [], ◌∷◌, length, take, arith, true, ap, ◌∙◌}
use Rattle.std.proofs.lemmas.Grind.{common_steps}
use Rattle.frame_cells.specs.declared.cell.Did.TheVariants.{Next}
use Rattle.frame_cells.specs.Own.{is_whole}
use Rattle.frame_cells.proofs.Windows.{put-window}
use Rattle.frame_cells.proofs.Moves.{take-one, take-two}
use Rattle.frame_cells.proofs.cells.Cells.swap.Goals as goal

pub returns-clause-own : goal.returns-clause-own
returns-clause-own g c =
    let i = c.self.inside in
    let x = c.unwrap-top.result in
    let y = c.unwrap-second.result in
    let e : c.push-2.new.self.entries ≡ take (length i.items.entries - 2) i.items.entries ++ (x ∷ y ∷ []) =
    grind (arith, common_steps) in
    let t : take 2 c.args.self.now.own.stack ≡ x ∷ y ∷ [] =
    take-two c.args.self.now.own.stack x y (cc) (cc) in
    let o : take 1 c.args.self.now.own.stack ≡ x ∷ [] = take-one c.args.self.now.own.stack x (cc) in
    let p : is_whole 1 c.args.self.now.own ≡ true = grind (arith, common_steps) in
    let q : is_whole 2 c.args.self.now.own ≡ true = grind (arith, common_steps) in
    let r : i.room ≡ c.args.self.now.own.room = ap (λ w. w.own.room) c.self.view_is in
    put-window c.args.self.now i.items.entries (x ∷ y ∷ []) c.push-2.new.self.entries i.locals i.base i.room 2 Next
    c.self.view_is e (omega arith) (omega arith) (omega arith) (omega (arith, r)) ∙ simp (p, q, t, o)
