use Rattle.std.proofs.Common.{◌⊎◌, ◌<◌, ◌≤◌, ℕ, inl, inr, sym, ◌∙◌, arith}
use Rattle.convert_queue.proofs.Sets.{none_beyond}
use Rattle.convert_queue.proofs.groups.clear_needs.Goals as goal

below_or : (u : ℕ) → (u < 64) ⊎ (64 ≤ u)
below_or u = grind arith

pub returns-clause-others : goal.returns-clause-others
returns-clause-others c = λ a b x y. elim (below_or a) [
  | inl lt ↦ c.loop-u.invariant.others a b (omega arith) x y
  | inr le ↦ none_beyond c.loop-u.needs a b c.loop-u.invariant.long le ∙ sym (none_beyond c.args.needs.now a b c.requires le)
]
