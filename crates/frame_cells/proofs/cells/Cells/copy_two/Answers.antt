use Rattle.std.proofs.Common.{◌≡◌, ◌-◌, ◌+◌, ◌++◌, [], ◌∷◌, length, take, drop, arith, refl, true}
use Rattle.std.proofs.lemmas.Grind.{common_steps}
use Rattle.frame_cells.specs.Own.{is_whole}
use Rattle.frame_cells.proofs.Windows.{window-depth}
use Rattle.frame_cells.proofs.Moves.{copies-window, take-two, insert_twice}
use Rattle.frame_cells.proofs.cells.Cells.copy_two.Goals as goal

pub overflow_sub-end-2 : goal.overflow_sub-end-2
overflow_sub-end-2 g c = let i = c.self.inside in omega
    (arith, window-depth c.args.self.now i.items.entries i.locals i.base i.room c.self.view_is)

pub returns-clause-own : goal.returns-clause-own
returns-clause-own g c =
    let i = c.self.inside in
    let k = length i.items.entries - (2 + c.args.under) in
    let x = c.unwrap-top.result in
    let y = c.unwrap-second.result in
    let f : c.insert-2.new.self.entries ≡ take k i.items.entries ++ (y ∷ x ∷ [] ++ drop k i.items.entries) =
    grind (arith, common_steps, insert_twice i.items.entries k x y (omega arith)) in
    let t : take 2 c.args.self.now.own.stack ≡ x ∷ y ∷ [] =
    take-two c.args.self.now.own.stack x y (cc) (cc) in
    let p : is_whole 2 c.args.self.now.own ≡ true = grind (arith, common_steps) in
    let q : is_whole (2 + c.args.under) c.args.self.now.own ≡ true = grind (arith, common_steps) in
    copies-window c.args.self.now i.items.entries (y ∷ x ∷ []) c.insert-2.new.self.entries i.locals i.base i.room 2
    c.args.under
    c.self.view_is f t p q (omega arith) (omega arith) (omega arith) (omega arith) refl
