-- The acts of a history, and the threads of a run, by their numbers.
use Rattle.std.proofs.Common.{◌≡◌, ℕ, zero, suc, ◌<◌, List, [], ◌∷◌, ◌++◌, take, map, length, refl, sym, ◌∙◌, ap, subst, arith}
use Rattle.std.specs.Prelude.{All, Option, Some, None, option_map, slice_get}
use Rattle.std.proofs.lemmas.List.Elements.{All-head, All-tail}
use Rattle.run_history.specs.declared.act.Act.{Act}
use Rattle.run_history.specs.Recorded.{NamesRightly, Recorded, names_of}
use Rattle.shared_objects.specs.declared.threads.ThreadState.{ThreadState}
use Rattle.shared_objects.specs.Threads.{depth_at}
use Rattle.plain_machine.specs.Standing.{recorded}

some-same : {A : Type 0} (x y : A) → ◌≡◌ {A = Option A} (Some x) (Some y) → x ≡ y
some-same x y e = cc

acts-get : (acts : List Recorded) (i : ℕ)
    → slice_get (map (λ (r : Recorded). r.act) acts) i ≡ option_map (λ (r : Recorded). r.act) (slice_get acts i)
acts-get [] i = refl
acts-get (a ∷ acts) zero = refl
acts-get (a ∷ acts) (suc i) = acts-get acts i

is-recorded : (o : Option Recorded) (act : Act) (named : List ℕ) → Some act ≡ option_map (λ (r : Recorded). r.act) o
    → named ≡ names_of o → o ≡ Some (recorded act named)
is-recorded None act named e n = absurd (let no = e in cc)
is-recorded (Some r) act named e n =
    ap (λ (a : Act). Some (recorded a r.named)) (sym (some-same act r.act e)) ∙ ap (λ (ns : List ℕ). Some (recorded act ns)) (sym n)

-- act i with the objects that it names
pub act-at : (acts : List Recorded) (i : ℕ) (act : Act) (named : List ℕ)
    → Some act ≡ slice_get (map (λ (r : Recorded). r.act) acts) i → named ≡ names_of (slice_get acts i)
    → slice_get acts i ≡ Some (recorded act named)
act-at acts i act named e n = is-recorded (slice_get acts i) act named (e ∙ acts-get acts i) n

pub take-next : (acts : List Recorded) (i : ℕ) (r : Recorded) → slice_get acts i ≡ Some r → take (suc i) acts ≡ take i acts ++ r ∷ []
take-next [] i r e = absurd (let no = e in cc)
take-next (a ∷ acts) zero r e = ap (λ (x : Recorded). x ∷ []) (some-same a r e)
take-next (a ∷ acts) (suc i) r e = ap (λ (xs : List Recorded). a ∷ xs) (take-next acts i r e)

pub named-rightly : (acts : List Recorded) (i : ℕ) (r : Recorded) → All (λ (x : Recorded). NamesRightly x.act.op x.named) acts
    → slice_get acts i ≡ Some r → NamesRightly r.act.op r.named
named-rightly [] i r all e = absurd (let no = e in cc)
named-rightly (a ∷ acts) zero r all e =
    subst (λ (x : Recorded). NamesRightly x.act.op x.named) (some-same a r e)
    (All-head (λ (x : Recorded). NamesRightly x.act.op x.named) a acts all)
named-rightly (a ∷ acts) (suc i) r all e =
    named-rightly acts i r (All-tail (λ (x : Recorded). NamesRightly x.act.op x.named) a acts all) e

-- there is an act at each place before the end
pub act-there : (acts : List Recorded) (i : ℕ) → None ≡ slice_get (map (λ (r : Recorded). r.act) acts) i → i < length acts → ⊥
act-there [] i e below = omega arith
act-there (a ∷ acts) zero e below = let no = e in cc
act-there (a ∷ acts) (suc i) e below = act-there acts i e (omega (arith, below))

pub depth-there : (threads : List ThreadState) (t : ℕ) (state : ThreadState) → Some state ≡ slice_get threads t
    → state.depth ≡ depth_at threads t
depth-there [] t state e = absurd (let no = e in cc)
depth-there (s ∷ threads) zero state e = ap (λ (x : ThreadState). x.depth) (some-same state s e)
depth-there (s ∷ threads) (suc t) state e = depth-there threads t state e

pub depth-none : (threads : List ThreadState) (t : ℕ) → None ≡ slice_get threads t → 0 ≡ depth_at threads t
depth-none [] t e = refl
depth-none (s ∷ threads) zero e = absurd (let no = e in cc)
depth-none (s ∷ threads) (suc t) e = depth-none threads t e
