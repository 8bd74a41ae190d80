use Rattle.std.proofs.Common.{◌≡◌, ◌-◌, ◌+◌, ◌++◌, [], ◌∷◌, length, take, drop, arith, refl, true}
use Rattle.std.proofs.lemmas.Grind.{common_steps}
use Rattle.frame_cells.specs.Own.{is_whole}
use Rattle.frame_cells.proofs.Moves.{copies-window, take-one}
use Rattle.frame_cells.proofs.cells.Cells.copy_one.Goals as goal

pub returns-clause-own : goal.returns-clause-own
returns-clause-own g c =
    let i = c.self.inside in
    let k = length i.items.entries - (1 + c.args.under) in
    let f : c.insert.new.self.entries ≡ take k i.items.entries ++ (c.unwrap-top.result ∷ [] ++ drop k i.items.entries) =
    grind (arith, common_steps) in
    let t : take 1 c.args.self.now.own.stack ≡ c.unwrap-top.result ∷ [] =
    take-one c.args.self.now.own.stack c.unwrap-top.result (cc) in
    let p : is_whole 1 c.args.self.now.own ≡ true = grind (arith, common_steps) in
    let q : is_whole (1 + c.args.under) c.args.self.now.own ≡ true = grind (arith, common_steps) in
    copies-window c.args.self.now i.items.entries (c.unwrap-top.result ∷ []) c.insert.new.self.entries i.locals i.base i.room
    1
    c.args.under c.self.view_is f t p q (omega arith) (omega arith) (omega arith) (omega arith) refl
