-- The guards of a thread, and how deep its regions are, after an act of its own.
use Rattle.std.proofs.Common.{◌≡◌, ◌≢◌, ◌⊎◌, inl, inr, ℕ, zero, suc, pred, ◌+◌, ◌<◌, Bool, true, false, List, [], ◌∷◌, ◌++◌}
use Rattle.std.proofs.Common.{length, filter, not, cond, Option, Some, None, refl, sym, ◌∙◌, ap, arith, nat_eq, if◌then◌else◌}
use Rattle.std.proofs.Common.{eq-eqb, ne_eqb, eqb-true}
use Rattle.std.specs.Prelude.{slice_get}
use Rattle.std.proofs.lemmas.Bool.{true≢false, or_parts, or_right}
use Rattle.ap_base.specs.declared.place.Place.{Place}
use Rattle.graph_model.specs.Heaps.{has_number, place_is}
use Rattle.run_history.specs.Worlds.{Thread, at_thread, depth_in}
use Rattle.run_history.specs.Knowing.{Guard, guard_of, has_guards, without_number}
use Rattle.plain_model.specs.Limits.{guards_of}

-- ---- guards

-- one more guard
pub guard_cases : (gs : List Guard) (g : Guard) (p : Place) (t : ℕ) → guard_of (gs ++ g ∷ []) p ≡ Some t
    → (guard_of gs p ≡ Some t) ⊎ (place_is g.place p ≡ true)
guard_cases [] g p t is = elim (place_is g.place p) as (λ b. (if b then Some g.thread else None) ≡ Some t
    → (None ≡ Some t) ⊎ (b ≡ true)) [ true ↦ λ _. inr refl | false ↦ λ none. inl none ] is
guard_cases (h ∷ gs) g p t is = elim (place_is h.place p) as (λ b.
    (if b then Some h.thread else guard_of (gs ++ g ∷ []) p) ≡ Some t
    → ((if b then Some h.thread else guard_of gs p) ≡ Some t) ⊎ (place_is g.place p ≡ true)) [
      | true ↦ λ own. inl own
      | false ↦ λ rest. guard_cases gs g p t rest
    ] is

pub guards_some : (gs : List Guard) (t : ℕ) (p : Place)
    → has_guards (gs ++ record { thread = t; place = p } ∷ []) t ≡ true
guards_some [] t p = rw (eq-eqb t t refl) refl
guards_some (g ∷ gs) t p = or_right (nat_eq g.thread t)
    (has_guards (gs ++ record { thread = t; place = p } ∷ []) t) (guards_some gs t p)

abbrev pub not_of : ℕ → Guard → Bool
not_of t g = not (nat_eq g.thread t)

-- a thread whose guards are given up has none
pub none_guarded : (gs : List Guard) (t : ℕ) → has_guards (filter (not_of t) gs) t ≡ false
none_guarded [] t = refl
none_guarded (g ∷ gs) t = elim (nat_eq g.thread t) as (λ b. nat_eq g.thread t ≡ b
    → has_guards (cond (not b) (g ∷ filter (not_of t) gs) (filter (not_of t) gs)) t ≡ false) [
      | true ↦ λ own. none_guarded gs t
      | false ↦ λ other. rw other (none_guarded gs t)
    ] refl

-- ---- how many guards a thread has

pub guards_none : (gs : List Guard) (t : ℕ) → has_guards gs t ≡ false → guards_of gs t ≡ []
guards_none [] t none = refl
guards_none (g ∷ gs) t none =
    let parts = or_parts (nat_eq g.thread t) (has_guards gs t) none in
    rw (parts.0) (guards_none gs t parts.1)

-- one more, and those of another thread stay
pub guards_more : (gs : List Guard) (t : ℕ) (p : Place)
    → length (guards_of (gs ++ record { thread = t; place = p } ∷ []) t) ≡ length (guards_of gs t) + 1
guards_more [] t p = rw (eq-eqb t t refl) refl
guards_more (g ∷ gs) t p = elim (nat_eq g.thread t) as (λ b.
    length (cond b (g ∷ guards_of (gs ++ record { thread = t; place = p } ∷ []) t)
    (guards_of (gs ++ record { thread = t; place = p } ∷ []) t))
    ≡ length (cond b (g ∷ guards_of gs t) (guards_of gs t)) + 1) [
      | true ↦ (let more = guards_more gs t p in omega (arith, more))
      | false ↦ guards_more gs t p
    ]

pub guards_beside : (gs : List Guard) (t u : ℕ) (p : Place) → t ≢ u
    → guards_of (gs ++ record { thread = t; place = p } ∷ []) u ≡ guards_of gs u
guards_beside [] t u p other = rw (ne_eqb t u other) refl
guards_beside (g ∷ gs) t u p other = elim (nat_eq g.thread u) as (λ b.
    cond b (g ∷ guards_of (gs ++ record { thread = t; place = p } ∷ []) u)
    (guards_of (gs ++ record { thread = t; place = p } ∷ []) u)
    ≡ cond b (g ∷ guards_of gs u) (guards_of gs u)) [
      | true ↦ ap (λ rest. g ∷ rest) (guards_beside gs t u p other)
      | false ↦ guards_beside gs t u p other
    ]

-- those of a thread are given up, and those of another stay
pub guards_given : (gs : List Guard) (t : ℕ) → guards_of (filter (not_of t) gs) t ≡ []
guards_given [] t = refl
guards_given (g ∷ gs) t = elim (nat_eq g.thread t) as (λ b. nat_eq g.thread t ≡ b
    → guards_of (cond (not b) (g ∷ filter (not_of t) gs) (filter (not_of t) gs)) t ≡ []) [
      | true ↦ λ own. guards_given gs t
      | false ↦ λ other. rw other (guards_given gs t)
    ] refl

pub guards_left : (gs : List Guard) (t u : ℕ) → t ≢ u → guards_of (filter (not_of t) gs) u ≡ guards_of gs u
guards_left [] t u other = refl
guards_left (g ∷ gs) t u other = elim (nat_eq g.thread t) as (λ b. nat_eq g.thread t ≡ b
    → guards_of (cond (not b) (g ∷ filter (not_of t) gs) (filter (not_of t) gs)) u
    ≡ guards_of (g ∷ gs) u) [
      | true ↦ λ own. (let same = eqb-true g.thread t own in
          let apart : nat_eq g.thread u ≡ false = ne_eqb g.thread u (λ is. other (sym same ∙ is)) in
          rw apart (guards_left gs t u other))
      | false ↦ λ mine. (elim (nat_eq g.thread u) as (λ b.
          cond b (g ∷ guards_of (filter (not_of t) gs) u) (guards_of (filter (not_of t) gs) u)
          ≡ cond b (g ∷ guards_of gs u) (guards_of gs u)) [
            | true ↦ ap (λ rest. g ∷ rest) (guards_left gs t u other)
            | false ↦ guards_left gs t u other
          ])
    ] refl

-- ---- places

pub no_place : (gs : List Guard) (t : ℕ) (p : Place) → has_guards gs t ≡ false → guard_of gs p ≡ Some t → ⊥
no_place [] t p none is = let wrong : None ≡ Some t = is in cc
no_place (g ∷ gs) t p none is =
    let parts = or_parts (nat_eq g.thread t) (has_guards gs t) none in
    elim (place_is g.place p) as (λ b. (if b then Some g.thread else guard_of gs p) ≡ Some t → ⊥) [
      | true ↦ λ mine. true≢false (sym (eq-eqb g.thread t
          (ap (λ (o : Option ℕ). elim o [ None ↦ g.thread | Some k ↦ k ]) mine)) ∙ parts.0)
      | false ↦ λ rest. no_place gs t p parts.1 rest
    ] is

-- ---- numbers

pub no_number : (ns : List ℕ) (t : ℕ) → has_number (without_number ns t) t ≡ false
no_number [] t = refl
no_number (n ∷ ns) t = elim (nat_eq n t) as (λ b. nat_eq n t ≡ b
    → has_number (cond (not b) (n ∷ without_number ns t) (without_number ns t)) t ≡ false) [
      | true ↦ λ own. no_number ns t
      | false ↦ λ other. rw other (no_number ns t)
    ] refl

pub last_number : (ns : List ℕ) (t : ℕ) → has_number (ns ++ t ∷ []) t ≡ true
last_number [] t = rw (eq-eqb t t refl) refl
last_number (n ∷ ns) t = or_right (nat_eq n t) (has_number (ns ++ t ∷ []) t) (last_number ns t)

-- ---- depths

abbrev pub deeper : Thread → Thread
deeper thread = record thread { depth = suc thread.depth }

abbrev pub less_deep : Thread → Thread
less_deep thread = record thread { depth = pred thread.depth }

pub depth_begun : (threads : List Thread) (t : ℕ) → t < length threads
    → depth_in (slice_get (at_thread deeper threads t) t) ≡ suc (depth_in (slice_get threads t))
depth_begun [] t there = absurd (omega (arith, there))
depth_begun (thread ∷ threads) zero there = refl
depth_begun (thread ∷ threads) (suc t) there = depth_begun threads t (omega (arith, there))

pub depth_ended : (threads : List Thread) (t : ℕ)
    → depth_in (slice_get (at_thread less_deep threads t) t) ≡ pred (depth_in (slice_get threads t))
depth_ended [] t = refl
depth_ended (thread ∷ threads) zero = refl
depth_ended (thread ∷ threads) (suc t) = depth_ended threads t
