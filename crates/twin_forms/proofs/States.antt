-- What an object's state tells of its entry.
use Rattle.std.proofs.Common.{◌≡◌, inl, inr, ℕ, ◌+◌, ◌-◌, ◌<◌, ◌==◌, ◌^◌, false, List, length, refl, sym, ◌∙◌, ap, subst, arith}
use Rattle.std.proofs.lemmas.Grind.{common_steps}
use Rattle.object_header.specs.States.{IsState}
use Rattle.object_header.specs.declared.state.State.{State}
use Rattle.object_header.specs.declared.state.State.TheVariants.{Ordinary, Claimed, Copying, Converted, Durable}
use Rattle.twin_forms.specs.Table.{Entry, entry, state_in, Table}
use Rattle.twin_forms.proofs.Led.{same_or_not}

pub when_ordinary : (e : Entry) → e.stage ≡ 0 → e.owner ≡ 0 → state_in e ≡ Ordinary
when_ordinary e s o = rw (s, o) refl

pub when_claimed : (e : Entry) → e.stage ≡ 0 → 0 < e.owner → state_in e ≡ Claimed (e.owner - 1)
when_claimed e s o = let p : (e.owner == 0) ≡ false = grind (arith, common_steps) in rw (s, p) refl

pub when_copying : (e : Entry) → e.stage ≡ 1 → state_in e ≡ Copying (e.owner - 1) e.line
when_copying e s = rw s refl

pub when_converted : (e : Entry) → e.stage ≡ 2 → 0 < e.owner → state_in e ≡ Converted (e.owner - 1) e.line
when_converted e s o = let p : (e.owner == 0) ≡ false = grind (arith, common_steps) in rw (s, p) refl

pub when_durable : (e : Entry) → e.stage ≡ 2 → e.owner ≡ 0 → state_in e ≡ Durable e.line
when_durable e s o = rw (s, o) refl

-- the cases of an object that lies in the space
pub data Cases (e : Entry) : Type 0 where
  is_ordinary : e.stage ≡ 0 → e.owner ≡ 0 → Cases e
  is_claimed : e.stage ≡ 0 → 0 < e.owner → Cases e
  is_copying : e.stage ≡ 1 → Cases e
  is_converted : e.stage ≡ 2 → 0 < e.owner → Cases e
  is_durable : e.stage ≡ 2 → e.owner ≡ 0 → Cases e

pub cases : (e : Entry) → e.stage < 3 → Cases e
cases e lt = elim (same_or_not e.owner 0) [
  | inl o ↦ (elim (same_or_not e.stage 0) [ inl s ↦ is_ordinary s o | inr ns ↦ (elim (same_or_not e.stage 1) [ inl s ↦ is_copying s | inr nt ↦ is_durable (omega (arith, lt, ns, nt)) o ]) ])
  | inr o ↦ (elim (same_or_not e.stage 0) [
    | inl s ↦ is_claimed s (omega (arith, o))
    | inr ns ↦
        (elim (same_or_not e.stage 1)
        [ inl s ↦ is_copying s | inr nt ↦ is_converted (omega (arith, lt, ns, nt)) (omega (arith, o)) ])
  ])
]

abbrev tag : State → ℕ
tag Ordinary = 0
tag (Claimed t) = 1
tag (Copying t l) = 2
tag (Converted t l) = 3
tag (Durable l) = 4

abbrev thread : State → ℕ
thread Ordinary = 0
thread (Claimed t) = t
thread (Copying t l) = t
thread (Converted t l) = t
thread (Durable l) = 0

abbrev first : State → ℕ
first Ordinary = 0
first (Claimed t) = 0
first (Copying t l) = l
first (Converted t l) = l
first (Durable l) = l

pub from_ordinary : (e : Entry) → e.stage < 3 → state_in e ≡ Ordinary → (e.stage ≡ 0) × (e.owner ≡ 0)
from_ordinary e lt eq = elim (cases e lt) [
  | is_ordinary s o ↦ (s, o)
  | is_claimed s o ↦ (let x : 1 ≡ 0 = sym (ap tag (when_claimed e s o)) ∙ ap tag eq in absurd (omega (arith, x)))
  | is_copying s ↦ (let x : 2 ≡ 0 = sym (ap tag (when_copying e s)) ∙ ap tag eq in absurd (omega (arith, x)))
  | is_converted s o ↦ (let x : 3 ≡ 0 = sym (ap tag (when_converted e s o)) ∙ ap tag eq in absurd (omega (arith, x)))
  | is_durable s o ↦ (let x : 4 ≡ 0 = sym (ap tag (when_durable e s o)) ∙ ap tag eq in absurd (omega (arith, x)))
]

pub from_claimed : (e : Entry) (t : ℕ) → e.stage < 3 → state_in e ≡ Claimed t → (e.stage ≡ 0) × (e.owner ≡ t + 1)
from_claimed e t lt eq = elim (cases e lt) [
  | is_ordinary s o ↦ (let x : 0 ≡ 1 = sym (ap tag (when_ordinary e s o)) ∙ ap tag eq in absurd (omega (arith, x)))
  | is_claimed s o ↦ (let x : e.owner - 1 ≡ t = sym (ap thread (when_claimed e s o)) ∙ ap thread eq in (s, omega (arith, x, o)))
  | is_copying s ↦ (let x : 2 ≡ 1 = sym (ap tag (when_copying e s)) ∙ ap tag eq in absurd (omega (arith, x)))
  | is_converted s o ↦ (let x : 3 ≡ 1 = sym (ap tag (when_converted e s o)) ∙ ap tag eq in absurd (omega (arith, x)))
  | is_durable s o ↦ (let x : 4 ≡ 1 = sym (ap tag (when_durable e s o)) ∙ ap tag eq in absurd (omega (arith, x)))
]

pub from_copying : (e : Entry) (t l : ℕ) → e.stage < 3 → (e.stage ≡ 1 → 0 < e.owner) → state_in e ≡ Copying t l → (e.stage ≡ 1) × (e.owner ≡ t + 1) × (e.line ≡ l)
from_copying e t l lt some eq = elim (cases e lt) [
  | is_ordinary s o ↦ (let x : 0 ≡ 2 = sym (ap tag (when_ordinary e s o)) ∙ ap tag eq in absurd (omega (arith, x)))
  | is_claimed s o ↦ (let x : 1 ≡ 2 = sym (ap tag (when_claimed e s o)) ∙ ap tag eq in absurd (omega (arith, x)))
  | is_copying s ↦ (let x : e.owner - 1 ≡ t = sym (ap thread (when_copying e s)) ∙ ap thread eq in let o = some s in (s, omega (arith, x, o), sym (ap first (when_copying e s)) ∙ ap first eq))
  | is_converted s o ↦ (let x : 3 ≡ 2 = sym (ap tag (when_converted e s o)) ∙ ap tag eq in absurd (omega (arith, x)))
  | is_durable s o ↦ (let x : 4 ≡ 2 = sym (ap tag (when_durable e s o)) ∙ ap tag eq in absurd (omega (arith, x)))
]

pub from_converted : (e : Entry) (t l : ℕ) → e.stage < 3 → state_in e ≡ Converted t l → (e.stage ≡ 2) × (e.owner ≡ t + 1) × (e.line ≡ l)
from_converted e t l lt eq = elim (cases e lt) [
  | is_ordinary s o ↦ (let x : 0 ≡ 3 = sym (ap tag (when_ordinary e s o)) ∙ ap tag eq in absurd (omega (arith, x)))
  | is_claimed s o ↦ (let x : 1 ≡ 3 = sym (ap tag (when_claimed e s o)) ∙ ap tag eq in absurd (omega (arith, x)))
  | is_copying s ↦ (let x : 2 ≡ 3 = sym (ap tag (when_copying e s)) ∙ ap tag eq in absurd (omega (arith, x)))
  | is_converted s o ↦ (let x : e.owner - 1 ≡ t = sym (ap thread (when_converted e s o)) ∙ ap thread eq in (s, omega (arith, x, o), sym (ap first (when_converted e s o)) ∙ ap first eq))
  | is_durable s o ↦ (let x : 4 ≡ 3 = sym (ap tag (when_durable e s o)) ∙ ap tag eq in absurd (omega (arith, x)))
]

pub from_durable : (e : Entry) (l : ℕ) → e.stage < 3 → state_in e ≡ Durable l → (e.stage ≡ 2) × (e.owner ≡ 0) × (e.line ≡ l)
from_durable e l lt eq = elim (cases e lt) [
  | is_ordinary s o ↦ (let x : 0 ≡ 4 = sym (ap tag (when_ordinary e s o)) ∙ ap tag eq in absurd (omega (arith, x)))
  | is_claimed s o ↦ (let x : 1 ≡ 4 = sym (ap tag (when_claimed e s o)) ∙ ap tag eq in absurd (omega (arith, x)))
  | is_copying s ↦ (let x : 2 ≡ 4 = sym (ap tag (when_copying e s)) ∙ ap tag eq in absurd (omega (arith, x)))
  | is_converted s o ↦ (let x : 3 ≡ 4 = sym (ap tag (when_converted e s o)) ∙ ap tag eq in absurd (omega (arith, x)))
  | is_durable s o ↦ (s, o, sym (ap first (when_durable e s o)) ∙ ap first eq)
]

-- The state of each object of a table is one that has a word.
pub is_state : {words lines shapes : ℕ} {es : List Entry} → Table words lines shapes es → (n : ℕ) → n < length es → (entry es n).stage < 3 → IsState (state_in (entry es n))
is_state {words} {lines} {shapes} {es} t n ln lt =
    let e = entry es n in
    let most = t.owners n ln in
    let few : lines < 2 ^ 32 = t.few_lines in
    elim (cases e lt) [
      | is_ordinary s o ↦ subst IsState (sym (when_ordinary e s o)) tt
      | is_claimed s o ↦ (let k : e.owner - 1 < 64 = omega (arith, most, o) in subst IsState (sym (when_claimed e s o)) k)
      | is_copying s ↦ (let c = t.copy_in n ln (omega (arith, s)) in let o = t.copying n ln s in let k : e.owner - 1 < 64 =
          omega (arith, most, o) in let l : e.line < 2 ^ 32 = omega (arith, c, few) in subst IsState
          (sym (when_copying e s)) (k, l))
      | is_converted s o ↦ (let c = t.copy_in n ln (omega (arith, s)) in let k : e.owner - 1 < 64 = omega (arith, most, o)
          in let l : e.line < 2 ^ 32 = omega (arith, c, few) in subst IsState (sym (when_converted e s o)) (k, l))
      | is_durable s o ↦ (let c = t.copy_in n ln (omega (arith, s)) in let l : e.line < 2 ^ 32 = omega (arith, c, few) in subst IsState (sym (when_durable e s o)) l)
    ]
