-- A monitor that was entered and left again.
use Rattle.std.proofs.Common.{◌≡◌, ℕ, suc, pred, ◌<◌, ◌-◌, ◌^◌, Bool, true, false, nat_eq, List, [], ◌∷◌, length, Option, Some}
use Rattle.std.proofs.Common.{None, refl, ap, sym, subst, ◌∙◌, arith, if◌then◌else◌}
use Rattle.std.specs.Prelude.{All}
use Rattle.std.proofs.lemmas.Bool.{eq-eqb, eqb-true, ne_eqb}
use Rattle.std.proofs.lemmas.List.Elements.{All-head, All-tail}
use Rattle.ap_base.specs.Causes.{next_count}
use Rattle.ap_base.specs.declared.reference.Ref.TheVariants.{Null as NoRef, Persistent, Volatile}
use Rattle.run_types.specs.declared.key.Key.TheVariants as key
use Rattle.monitors.specs.declared.monitor.Monitor.{Monitor}
use Rattle.monitors.specs.Keys.{RefKey, is_key}
use Rattle.monitors.specs.Held.{IsHeldBy, enter_answer, entered, entry_of, exited, monitor_of, one_less}
use Rattle.monitors.specs.declared.monitor.Enter.TheVariants.{Taken, Held}

same-key : (k : RefKey) → is_key k k ≡ true
same-key (key.Object NoRef) = refl
same-key (key.Object (Persistent m)) = eq-eqb m m refl
same-key (key.Object (Volatile m)) = eq-eqb m m refl
same-key (key.Class m) = eq-eqb m m refl

left-again : (m : Monitor) (ms : List Monitor) → 0 < m.count → m.count < 2 ^ 64 - 1
    → one_less (record m { count = next_count m.count }) ms ≡ m ∷ ms
left-again m ms some few =
    let more : next_count m.count ≡ suc m.count = omega (arith, few) in
    let two : suc m.count ≡ 1 → ⊥ = λ e. absurd (omega (arith, some, e)) in
    ap (λ (n : ℕ). if nat_eq n 1 then ms else record m { count = pred n } ∷ ms) more
    ∙ ap (λ (b : Bool). if b then ms else m ∷ ms) (ne_eqb (suc m.count) 1 two)

pub tried-same : (ms : List Monitor) (k : RefKey) (u : ℕ) → All (λ (m : Monitor). 0 < m.count) ms
    → All (λ (m : Monitor). m.count < 2 ^ 64 - 1) ms → exited (entered ms k u) k ≡ ms
tried-same [] k u some few = ap (λ (b : Bool). if b then (if nat_eq 1 1 then [] else
    record { key = k; owner = u; count = pred 1 } ∷ []) else record { key = k; owner = u; count = 1 } ∷ [])
    (same-key k)
tried-same (m ∷ ms) k u some few = by-key (is_key m.key k) refl
    (tried-same ms k u (All-tail (λ (x : Monitor). 0 < x.count) m ms some)
    (All-tail (λ (x : Monitor). x.count < 2 ^ 64 - 1) m ms few))
  where
    by-key : (b : Bool) → is_key m.key k ≡ b → exited (entered ms k u) k ≡ ms
        → exited (if b then record m { count = next_count m.count } ∷ ms else m ∷ entered ms k u) k ≡ m ∷ ms
    by-key true is others = ap (λ (b : Bool). if b then one_less (record m { count = next_count m.count }) ms
        else record m { count = next_count m.count } ∷ exited ms k) is
        ∙ left-again m ms (All-head (λ (x : Monitor). 0 < x.count) m ms some)
        (All-head (λ (x : Monitor). x.count < 2 ^ 64 - 1) m ms few)
    by-key false is others =
        ap (λ (b : Bool). if b then one_less m (entered ms k u) else m ∷ exited (entered ms k u) k) is
        ∙ ap (λ (xs : List Monitor). m ∷ xs) others

-- what was entered is held
entry-own : (u count : ℕ) (o : Option Monitor) → Taken ≡ entry_of u count o → (m : Monitor) → o ≡ Some m
    → m.owner ≡ u
entry-own u count None e m is = absurd (let no : ◌≡◌ {A = Option Monitor} None (Some m) = is in cc)
entry-own u count (Some m) e n is =
    let same : m ≡ n = cc in subst (λ (x : Monitor). x.owner ≡ u) same (by-owner (nat_eq m.owner u) refl e)
  where
    by-owner : (b : Bool) → nat_eq m.owner u ≡ b → Taken ≡ (if b then Taken else Held m.owner) → m.owner ≡ u
    by-owner true test h = eqb-true m.owner u test
    by-owner false test h = absurd (let no = h in cc)

abbrev IsOwn : RefKey → ℕ → List Monitor → Type 0
IsOwn k u ms = (m : Monitor) → monitor_of ms k ≡ Some m → m.owner ≡ u

held-here : (k : RefKey) (u : ℕ) (m : Monitor) (ms : List Monitor) (b : Bool) → is_key m.key k ≡ b
    → IsOwn k u (m ∷ ms) → (IsOwn k u ms → IsHeldBy u (monitor_of (entered ms k u) k))
    → IsHeldBy u (monitor_of (if b then record m { count = next_count m.count } ∷ ms else m ∷ entered ms k
    u) k)
held-here k u m ms true is own below =
    subst (λ (b : Bool). IsHeldBy u (if b then Some (record m { count = next_count m.count })
    else monitor_of ms k)) (sym is) (own m (ap (λ (b : Bool). if b then Some m else monitor_of ms k) is))
held-here k u m ms false is own below =
    subst (λ (b : Bool). IsHeldBy u (if b then Some m else monitor_of (entered ms k u) k)) (sym is)
    (below (λ x at. own x (ap (λ (b : Bool). if b then Some m else monitor_of ms k) is ∙ at)))

held-all : (k : RefKey) (u : ℕ) (ms : List Monitor) → IsOwn k u ms
    → IsHeldBy u (monitor_of (entered ms k u) k)
held-all k u [] own = subst (λ (b : Bool). IsHeldBy u (if b then Some (record {
  key = k;
  owner = u;
  count =
      1;
})
    else None)) (sym (same-key k)) refl
held-all k u (m ∷ ms) own =
    held-here k u m ms (is_key m.key k) refl own (λ others. held-all k u ms others)

pub own-held : (ms : List Monitor) (k : RefKey) (u : ℕ) → Taken ≡ enter_answer u ms k
    → IsHeldBy u (monitor_of (entered ms k u) k)
own-held ms k u e = held-all k u ms (entry-own u (length ms) (monitor_of ms k) e)
