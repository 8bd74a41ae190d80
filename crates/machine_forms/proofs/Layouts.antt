-- The layout of a table depends on its durable objects alone.
use Rattle.std.proofs.Common.{◌≡◌, inl, inr, ℕ, zero, suc, ◌<◌, ◌≤◌, ◌==◌, ltb, Bool, true, false, List, [], ◌∷◌, length, refl}
use Rattle.std.proofs.Common.{◌∙◌, ap, arith, if◌then◌else◌}
use Rattle.std.proofs.lemmas.Bool.{and_parts, and_from, cases_order, ltb-true, lt-ltb, eqb-true, eq-eqb}
use Rattle.std.proofs.Math.Path.{fun_ext}
use Rattle.twin_forms.specs.Table.{Entry, entry, head_word, InP, no_entry}
use Rattle.stop_theorem.specs.Layouts.{Layout}
use Rattle.machine_forms.specs.Machines.{Opening, is_durable, layout_in, SameDurable, LayoutsFollowTables}

-- behind the table's end there is no object
entry_past : (es : List Entry) (n : ℕ) → length es ≤ n → entry es n ≡ no_entry
entry_past [] n past = refl
entry_past (e ∷ es) zero past = absurd (omega (arith, past))
entry_past (e ∷ es) (suc n) past = entry_past es n (omega (arith, past))

below : (es : List Entry) (n : ℕ) → 1 < (entry es n).stage → n < length es
below es n high = elim (cases_order n (length es)) [
  | inr (inl less) ↦ less
  | inl same ↦ absurd (past (omega (arith, same)))
  | inr (inr more) ↦ absurd (past (omega (arith, more)))
]
  where
    past : length es ≤ n → ⊥
    past more = let none = ap (λ (e : Entry). e.stage) (entry_past es n more) in omega (arith, high, none)

durable_in : (es : List Entry) (n : ℕ) → is_durable (entry es n) ≡ true → InP es n
durable_in es n is = let parts = and_parts (ltb 1 (entry es n).stage) ((entry es n).owner == 0) is in
    let high = ltb-true 1 (entry es n).stage parts.0 in
    (below es n high, high, eqb-true (entry es n).owner 0 parts.1)

in_durable : (es : List Entry) (n : ℕ) → InP es n → is_durable (entry es n) ≡ true
in_durable es n p = and_from (ltb 1 (entry es n).stage) ((entry es n).owner == 0) (lt-ltb 1 (entry es n).stage p.1)
    (eq-eqb (entry es n).owner 0 p.2)

choose_same : (b c : Bool) (x y : ℕ) → c ≡ b → (b ≡ true → y ≡ x) → (if c then y else 0) ≡ (if b then x else 0)
choose_same true c x y e same = rw e (same refl)
choose_same false c x y e same = rw e refl

module _ (o : Opening) (es es' : List Entry) (s : SameDurable es es') where
  abbrev line_in : List Entry → ℕ → ℕ
  line_in table n = if is_durable (entry table n) then (entry table n).line else 0

  abbrev head_in : List Entry → ℕ → ℕ
  head_in table n = if is_durable (entry table n) then head_word (entry table n) else 0

  lines : line_in es' ≡ line_in es
  lines = fun_ext (λ n. choose_same (is_durable (entry es n)) (is_durable (entry es' n)) (entry es n).line
      (entry es' n).line (s.kept n) (s.lines n))

  heads : head_in es' ≡ head_in es
  heads = fun_ext (λ n. choose_same (is_durable (entry es n)) (is_durable (entry es' n))
      (head_word (entry es n)) (head_word (entry es' n)) (s.kept n) (s.heads n))

  abbrev layout_with : (ℕ → ℕ) → (ℕ → ℕ) → Layout
  layout_with line head = record { size = o.start.size; directory = o.directory; line_of = line; head = head }

  same_layout : layout_in o es' ≡ layout_in o es
  same_layout = ap (λ line. layout_with line (head_in es')) lines ∙ ap (layout_with (line_in es)) heads

pub layouts : LayoutsFollowTables
layouts = record { durable = λ es n. (durable_in es n, in_durable es n); same = same_layout }
