use Rattle.std.proofs.Common.{◌≡◌, ◌∙◌, ℕ, ◌+◌, ◌%◌, List, [], ◌∷◌, Some, Option, sym, ap, subst, arith}
use mathlib.Core.Option.{none}
use Rattle.turnstile.specs.Hands.{Agree}
use Rattle.turnstile.proofs.Held.{same_held}
use Rattle.atomic_table.specs.Table.{rest, Me, Allows, step}
use Rattle.turnstile.specs.declared.view.View.{View}
use Rattle.turnstile.specs.Rules.{Keeps, Raised}
use Rattle.turnstile.proofs.Moves.{raise_allows}
use Rattle.turnstile.proofs.turnstile.Turnstile.end_turn.Goals as goal

pub fetch_add-served-requires : goal.fetch_add-served-requires
fetch_add-served-requires g c =
    let words = c.args.self.now.two_words in
    let e = c.exchange-nothing.ensures in
    let seat = c.args.seat.now in
    let is : c.exchange-nothing.new.seat.me ≡ (seat.me.0, (0, Some c.args.value) ∷ []) =
    e.3 ∙ ap (λ (l : List (ℕ × Option g.row.T.Denot)). (seat.me.0, (0, Some c.args.value) ∷ rest l)) c.requires.holds.1 in
    let entries = g.T.Kept.entries in let worker = g.T.Kept.worker in let parts = g.T.Kept.parts in (
      e.0 ∙ c.requires.of,
      omega arith,
      subst (λ (m : Me (Option g.row.T.Denot) (View g.row.T-Entry.Denot g.row.T-Part.Denot)). Allows
          (Keeps worker entries parts c.args.self.now.table.shared.key.0) c.args.self.now.table.shared.table_id.slots c.exchange-nothing.new.seat.id m 1 (λ n. (n + 1) % 18446744073709551616)
          (Raised worker entries parts (step 1 1 1 0 none) m)) (sym is)
          (raise_allows worker entries parts _ _ _ seat.me.0 c.args.value (step 1 1 1 0 none) c.requires.holds.0 c.requires.adds),
    )

pub returns-then-load-ne0-clause-agree : goal.returns-then-load-ne0-clause-agree
returns-then-load-ne0-clause-agree g c =
    let e = c.exchange-nothing.ensures in
    let seat = c.args.seat.now in
    let is : c.exchange-nothing.new.seat.me ≡ (seat.me.0, (0, Some c.args.value) ∷ []) =
    e.3 ∙ ap (λ (l : List (ℕ × Option g.row.T.Denot)). (seat.me.0, (0, Some c.args.value) ∷ rest l)) c.requires.holds.1 in
    let r = c.fetch_add-served.ensures in
    let same : r.2.0 ≡ c.args.value = same_held c.exchange-nothing.new.seat.me.1 [] r.2.0 c.args.value r.2.1 (ap (λ m. m.1) is) in
    subst (λ (x : g.row.T.Denot). Agree g.T.Kept.worker c.fetch_add-served.new.seat.me.0.hands (g.T.Kept.entries x) (g.T.Kept.parts x)) same r.2.3

pub returns-clause-agree : goal.returns-clause-agree
returns-clause-agree g c =
    let e = c.exchange-nothing.ensures in
    let seat = c.args.seat.now in
    let is : c.exchange-nothing.new.seat.me ≡ (seat.me.0, (0, Some c.args.value) ∷ []) =
    e.3 ∙ ap (λ (l : List (ℕ × Option g.row.T.Denot)). (seat.me.0, (0, Some c.args.value) ∷ rest l)) c.requires.holds.1 in
    let r = c.fetch_add-served.ensures in
    let same : r.2.0 ≡ c.args.value = same_held c.exchange-nothing.new.seat.me.1 [] r.2.0 c.args.value r.2.1 (ap (λ m. m.1) is) in
    subst (λ (x : g.row.T.Denot). Agree g.T.Kept.worker c.fetch_add-served.new.seat.me.0.hands (g.T.Kept.entries x) (g.T.Kept.parts x)) same r.2.3
