-- Turnstiles and passes as callers see them.
use Rattle.std.specs.Prelude.{◌≡◌, ℕ, List, Option, true, length, sum_by}
use Rattle.atomic_table.specs.Seated.{TableId}
use Rattle.turnstile.specs.declared.kept.Kept.{Ghosts}
use Rattle.turnstile.specs.declared.view.Hand.{Hand}
use Rattle.turnstile.specs.declared.view.Phase.{Phase}
use Rattle.turnstile.specs.declared.view.Phase.TheVariants.{Idle}
use Rattle.turnstile.specs.declared.pass.Pass.{Pass}
use Rattle.turnstile.specs.declared.turnstile.Turnstile.{Turnstile}
use Rattle.turnstile.specs.Hands.{own_number, own_entries, own_part, own_left, stock}
use Rattle.turnstile.specs.Views.{is_holding}

-- by what a turnstile is told from others
abbrev pub TurnstileId : Type 0
TurnstileId = TableId

abbrev pub turnstile_id : {T E P : Type 0} → Turnstile T E P → TurnstileId
turnstile_id t = t.table.shared.table_id

-- for how many workers a turnstile has passes
abbrev pub passes_of : {T E P : Type 0} → Turnstile T E P → ℕ
passes_of t = t.passes

module _ {T E P : Type 0} {K : Ghosts T E P} where
  -- what is known of the workers of a pass: of its own, and behind that of those in its stock
  abbrev pub hands_of : Pass T E P K → List (Hand E P)
  hands_of p = p.seat.me.0.hands

  -- the number of its worker, the entries that it has added, the part that it left last, and all entries that stood there then
  abbrev pub number_of : Pass T E P K → ℕ
  number_of p = own_number (hands_of p)

  abbrev pub entries_of : Pass T E P K → List E
  entries_of p = own_entries (hands_of p)

  abbrev pub part_of : Pass T E P K → Option P
  part_of p = own_part (hands_of p)

  abbrev pub left_of : Pass T E P K → List E
  left_of p = own_left (hands_of p)

  -- what is known of the workers for which passes may be split from it, least number first
  abbrev pub stock_of : Pass T E P K → List (Hand E P)
  stock_of p = stock (hands_of p)

  abbrev pub phase_of : Pass T E P K → Phase E P
  phase_of p = p.seat.me.0.phase

  abbrev pub IsIdle : Pass T E P K → Type 0
  IsIdle p = phase_of p ≡ Idle

  abbrev pub IsHolding : Pass T E P K → Type 0
  IsHolding p = is_holding (phase_of p) ≡ true

  -- of which turnstile it is a pass
  abbrev pub pass_id : Pass T E P K → TurnstileId
  pass_id p = p.seat.table_id

  -- the pass is one of this turnstile
  abbrev pub IsOf : Pass T E P K → Turnstile T E P → Type 0
  IsOf p t = pass_id p ≡ turnstile_id t

  -- No pass of the turnstile is elsewhere: each of its workers has one pass, or stands in the stock of one.
  abbrev pub AreAll : List (Pass T E P K) → Turnstile T E P → Type 0
  AreAll ps t = sum_by (λ p. length (hands_of p)) ps ≡ passes_of t
