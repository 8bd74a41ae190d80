use Rattle.std.proofs.Common.{◌≡◌, ℕ, List, ◌∷◌, Some, Option, sym, refl, subst}
use Rattle.atomic_table.specs.Table.{rest}
use Rattle.turnstile.proofs.turnstile.Turnstile.take.Goals as goal

pub exchange-requires : goal.exchange-requires
exchange-requires g c =
    let h = c.requires.has in
    (c.requires.of, (Some h.0, subst (λ (l : List (ℕ × Option g.row.T.Denot)). l ≡ (0, Some h.0) ∷ rest l) (sym h.1) refl))
