-- What references stand for stays, and so do monitors.
use Rattle.std.proofs.Common.{◌≡◌, ℕ, List, [], ◌∷◌, map, Option, Some, None, IsSome, refl, ap, ◌∙◌, sym, subst}
use Rattle.std.specs.List.{AllByRecursion}
use Rattle.ap_base.specs.declared.reference.Ref.{Ref}
use Rattle.ap_base.specs.declared.reference.Ref.TheVariants.{Null as NoRef, Persistent, Volatile}
use Rattle.run_types.specs.declared.key.Key.{Key}
use Rattle.run_types.specs.declared.key.Key.TheVariants as key
use Rattle.run_history.specs.declared.plain.Monitor.{Monitor as PlainMonitor}
use Rattle.monitors.specs.declared.monitor.Monitor.{Monitor}
use Rattle.shared_objects.specs.Shown.{Numbers, Shown, Keeps, IsKnown}
use Rattle.shared_objects.specs.Changes.{GoesOn}
use Rattle.shared_objects.specs.Worlds.{plain_key, plain_monitor, number_or, IsHeldKey}

has_number : (a b : Option ℕ) → IsSome a → ((n : ℕ) → a ≡ Some n → b ≡ Some n) → b ≡ a
has_number None b some keeps = cc
has_number (Some n) b some keeps = keeps n refl

pub kept_number : (before now : Numbers) (r : Ref) → Keeps before now → IsSome (before r) → now r ≡ before r
kept_number before now r keeps some = has_number (before r) (now r) some (keeps r)

kept_key : (before now : Shown) (k : Key Ref) → Keeps before.number now.number → IsHeldKey before k
    → plain_key now.number k ≡ plain_key before.number k
kept_key before now (key.Object r) keeps is =
    ap (λ n. plain_key (λ _. n) (key.Object r)) (kept_number before.number now.number r keeps is.0)
kept_key before now (key.Class n) keeps is = refl

kept_is_key : (before now : Shown) (k : Key Ref) → GoesOn before now → IsHeldKey before k → IsHeldKey now k
kept_is_key before now (key.Object r) goes is =
    (subst IsSome (sym (kept_number before.number now.number r goes.keeps is.0)) is.0, goes.keys r is.1)
kept_is_key before now (key.Class n) goes is = tt

-- monitors stay those of the same objects
pub kept_monitors : (before now : Shown) (ms : List Monitor) → Keeps before.number now.number
    → AllByRecursion (λ (m : Monitor). IsHeldKey before m.key) ms
    → map (plain_monitor now.number) ms ≡ map (plain_monitor before.number) ms
kept_monitors before now [] keeps all = refl
kept_monitors before now (m ∷ ms) keeps all =
    ap (λ k. record { key = k; owner = m.owner; count = m.count } ∷ map (plain_monitor now.number) ms)
    (kept_key before now m.key keeps all.0)
    ∙ ap (λ (rest : List PlainMonitor). plain_monitor before.number m ∷ rest) (kept_monitors before now ms
    keeps all.1)

pub kept_known : (before now : Shown) (ms : List Monitor) → GoesOn before now
    → AllByRecursion (λ (m : Monitor). IsHeldKey before m.key) ms
    → AllByRecursion (λ (m : Monitor). IsHeldKey now m.key) ms
kept_known before now [] goes all = all
kept_known before now (m ∷ ms) goes all = (
  kept_is_key before now m.key goes all.0,
  kept_known before now ms
      goes all.1,
)

pub known_ref : (number : Numbers) (r : Ref) → IsSome (number r) → IsKnown number r
known_ref number NoRef some = tt
known_ref number (Persistent line) some = some
known_ref number (Volatile index) some = some

pub some_of : {o : Option ℕ} {n : ℕ} → o ≡ Some n → IsSome o
some_of {o} {n} e = let s : IsSome (Some n) = refl in subst IsSome (sym e) s

pub same_number : (m n : ℕ) → Some m ≡ Some n → m ≡ n
same_number m n e = ap number_or e
