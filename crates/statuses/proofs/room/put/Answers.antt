use Rattle.std.proofs.Common.{rules, ◌≡◌, ℕ, ◌-◌, ◌++◌, List, length, take, ap, ◌∙◌, arith, vec_len}
use Rattle.statuses.proofs.Shortened.{take_behind}
use Rattle.statuses.proofs.room.put.Goals as goal

pub returns-clause-put : goal.returns-clause-put
returns-clause-put c =
    let out = c.args.out.now in
    let text = c.args.text.now in
    let size : vec_len out ≡ length out.items = search rules in
    let left : 196606 - c.len-left.result ≡ 196606 - length out.items = ap (λ (n : ℕ). 196606 - n) (c.len-left.ensures ∙ size) in
    let added : c.extend_from_slice.new.self.items ≡ out.items ++ c.front.result.now = search rules in
    added
    ∙ ap (λ (ts : List ℕ). out.items ++ ts) (c.front.ensures.front ∙ ap (λ (n : ℕ). take n text) left)
    ∙ take_behind 196606 out.items text (omega (arith, size, c.requires.within))
