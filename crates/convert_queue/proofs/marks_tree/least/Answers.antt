use Rattle.std.proofs.Common.{◌≡◌, ◌+◌, ◌-◌, ℕ, suc, inl, inr, subst, length, arith, sym, ◌∙◌}
use Rattle.convert_queue.specs.Notes.{node_has}
use Rattle.convert_queue.proofs.TreeLemmas.{none_at_all, found, Descends, goes_left, goes_right}
use Rattle.convert_queue.proofs.marks_tree.least.Goals as goal

pub returns-then-not-member-clause-none : goal.returns-then-not-member-clause-none
returns-then-not-member-clause-none c = λ _ l h.
    none_at_all c.args.notes.now c.args.tree.now c.args.t c.args.levels c.requires.size c.requires.fit c.requires.tree
    (sym (c.threads_at.ensures.threads c.args.t) ∙ sym c.member.ensures ∙ c.if-not-member.true) l h

pub loop-level-preserved : goal.loop-level-preserved
loop-level-preserved c =
    let f = node_has c.args.notes.now c.args.tree.now c.args.t in
    let size = length c.args.tree.now in
    let h = c.args.levels - (c.loop-level.level + 1) in
    let n = c.loop-level.n in
    let e : c.args.levels - c.loop-level.level ≡ suc (c.args.levels - (c.loop-level.level + 1)) = omega arith in
    let d : Descends f size (suc h) n = subst (λ (k : ℕ). Descends f size k n) e c.loop-level.invariant in
    elim c.child-n.ensures.child [
      | inl p ↦ subst (λ (m : ℕ). Descends f size h m) (sym p.0) (goes_left f size h n d p.1)
      | inr p ↦ subst (λ (m : ℕ). Descends f size h m) (sym p.0) (goes_right f size h n (c.requires.tree c.args.t) d p.1)
    ]

pub returns-clause-some : goal.returns-clause-some
returns-clause-some c =
    let notes = c.args.notes.now in
    let tree = c.args.tree.now in
    let n = c.loop-level.n in
    let e : c.args.levels - c.loop-level.level ≡ 0 = omega arith in
    found notes tree c.args.t n (subst (λ (k : ℕ). Descends (node_has notes tree c.args.t) (length tree) k n) e c.loop-level.invariant)
