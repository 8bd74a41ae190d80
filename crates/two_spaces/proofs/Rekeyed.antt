-- Monitors after a forward, once one is held under its new key.
use Rattle.std.proofs.Common.{◌≡◌, ℕ, Bool, true, false, List, [], ◌∷◌, map, Option, Some, None, rules, refl, sym, ◌∙◌, ap}
use Rattle.std.proofs.Common.{subst, if◌then◌else◌}
use Rattle.std.specs.List.{AllByRecursion}
use Rattle.std.proofs.lemmas.Bool.{false≢true}
use Rattle.ap_base.specs.declared.reference.Ref.{Ref}
use Rattle.ap_base.specs.declared.reference.Ref.TheVariants.{Null as NoRef, Persistent, Volatile}
use Rattle.run_types.specs.declared.key.Key.{Key}
use Rattle.run_types.specs.declared.key.Key.TheVariants as key
use Rattle.run_history.specs.declared.act.PlainKey.TheVariants.{Object as PlainObject}
use Rattle.monitors.specs.declared.monitor.Monitor.{Monitor}
use Rattle.monitors.specs.Held.{monitor_of, rekeyed}
use Rattle.monitors.specs.Keys.{is_key}
use Rattle.one_space.proofs.Laid.{some_is}
use Rattle.shared_objects.specs.declared.rest.Rest.{Rest}
use Rattle.shared_objects.specs.Shown.{Shown}
use Rattle.shared_objects.specs.Worlds.{IsHeldKey, KnowsMonitors, number_or, plain_key, plain_monitor, plain_thread}
use Rattle.two_spaces.specs.Moving.{ShowsSame, MovesKey, ShowsRekeyed, rekeyed_to}
use Rattle.two_spaces.proofs.Numbering.{is_some}
use Rattle.two_spaces.proofs.Moved.{key_kept, monitors_kept}

key_is : (at : ℕ) → is_key (key.Object (Volatile at)) (key.Object (Volatile at)) ≡ true
key_is at = search rules

key_same : (k : Key Ref) (at : ℕ) → is_key k (key.Object (Volatile at)) ≡ true → k ≡ key.Object (Volatile at)
key_same (key.Class c) at e = cc
key_same (key.Object NoRef) at e = cc
key_same (key.Object (Persistent line)) at e = cc
key_same (key.Object (Volatile i)) at e =
    let same : i ≡ at = search (rules, e) in ap (λ (x : ℕ). key.Object (Volatile x)) same

not_some : (b : Bool) (m : Monitor) (o : Option Monitor) → (if b then Some m else o) ≡ None → b ≡ false
not_some true m o e = cc
not_some false m o e = refl

none_head : (m : Monitor) (ms : List Monitor) (k : Key Ref) → monitor_of (m ∷ ms) k ≡ None → is_key m.key k ≡ false
none_head m ms k none = not_some (is_key m.key k) m (monitor_of ms k) none

tail_none : (m : Monitor) (ms : List Monitor) (k : Key Ref) → is_key m.key k ≡ false → monitor_of (m ∷ ms) k ≡ None
    → monitor_of ms k ≡ None
tail_none m ms k e none = sym (ap (λ b. if b then Some m else monitor_of ms k) e) ∙ none

module _ (before now : Shown) (n at line : ℕ) (same : ShowsSame before now) (moves : MovesKey before now n at line)
    (was : before.number (Volatile at) ≡ Some n) where
  -- another key is one still
  key_stays : (k : Key Ref) → is_key k (key.Object (Volatile at)) ≡ false → IsHeldKey before k → IsHeldKey now k
  key_stays (key.Class c) other held = tt
  key_stays (key.Object r) other held =
      let some = some_is (before.number r) held.0 in (
        is_some (now.number r) some.0 (same.keeps r some.0 some.1),
        moves.others r (λ e. false≢true (sym other
            ∙ subst (λ (x : Ref). is_key (key.Object x) (key.Object (Volatile at)) ≡ true) (sym e)
            (key_is at))) held.1,
      )

  all_stay : (ms : List Monitor) → monitor_of ms (key.Object (Volatile at)) ≡ None
      → AllByRecursion (λ (m : Monitor). IsHeldKey before m.key) ms
      → AllByRecursion (λ (m : Monitor). IsHeldKey now m.key) ms
  all_stay [] none all = tt
  all_stay (m ∷ ms) none all =
      let other = none_head m ms (key.Object (Volatile at)) none in (
        key_stays m.key other all.0,
        all_stay ms (tail_none m ms (key.Object (Volatile at)) other none) all.1,
      )

  -- what the monitors are after
  abbrev After : List Monitor → List Monitor → Type 0
  After xs ms = monitor_of xs (key.Object (Volatile at)) ≡ None
      → (map (plain_monitor now.number) xs ≡ map (plain_monitor before.number) ms)
      × AllByRecursion (λ (m : Monitor). IsHeldKey now m.key) xs

  new_plain : (k : Key Ref) → is_key k (key.Object (Volatile at)) ≡ true
      → plain_key now.number (key.Object (Persistent line)) ≡ plain_key before.number k
  new_plain k e =
      ap (λ o. PlainObject (number_or o)) (moves.number ∙ sym was)
      ∙ sym (ap (plain_key before.number) (key_same k at e))

  first_after : (m : Monitor) (ms : List Monitor) → is_key m.key (key.Object (Volatile at)) ≡ true
      → AllByRecursion (λ (m : Monitor). IsHeldKey before m.key) ms
      → After (record m { key = key.Object (Persistent line) } ∷ ms) (m ∷ ms)
  first_after m ms e all none =
      let head = new_plain m.key e in
      let others = monitors_kept before now ms same.keeps all in (
        λ i. record { key = head i; owner = m.owner; count = m.count } ∷ others i,
        ((is_some (now.number (Persistent line)) n moves.number, moves.is), all_stay ms none all),
      )

  later_after : (m : Monitor) (ms : List Monitor) → is_key m.key (key.Object (Volatile at)) ≡ false
      → IsHeldKey before m.key → After (rekeyed ms (key.Object (Volatile at)) (key.Object (Persistent line))) ms
      → After (m ∷ rekeyed ms (key.Object (Volatile at)) (key.Object (Persistent line))) (m ∷ ms)
  later_after m ms e held after none =
      let head = key_kept before now m.key same.keeps held in
      let rest = after (tail_none m (rekeyed ms (key.Object (Volatile at)) (key.Object (Persistent line)))
      (key.Object (Volatile at)) e none) in
      let others = rest.0 in (
        λ i. record { key = head i; owner = m.owner; count = m.count } ∷ others i,
        (key_stays m.key e held, rest.1),
      )

  by_test : (m : Monitor) (ms : List Monitor) (b : Bool) → is_key m.key (key.Object (Volatile at)) ≡ b
      → AllByRecursion (λ (m : Monitor). IsHeldKey before m.key) (m ∷ ms)
      → After (rekeyed ms (key.Object (Volatile at)) (key.Object (Persistent line))) ms
      → After (if b then record m { key = key.Object (Persistent line) } ∷ ms
      else m ∷ rekeyed ms (key.Object (Volatile at)) (key.Object (Persistent line))) (m ∷ ms)
  by_test m ms true e all after = first_after m ms e all.1
  by_test m ms false e all after = later_after m ms e all.0 after

  all_after : (ms : List Monitor) → AllByRecursion (λ (m : Monitor). IsHeldKey before m.key) ms
      → After (rekeyed ms (key.Object (Volatile at)) (key.Object (Persistent line))) ms
  all_after [] all = λ none. (refl, tt)
  all_after (m ∷ ms) all =
      by_test m ms (is_key m.key (key.Object (Volatile at))) refl all (all_after ms all.1)

pub rekeyed_world : (before now : Shown) (rest : Rest) (n at line : ℕ) → ShowsSame before now
    → MovesKey before now n at line → before.number (Volatile at) ≡ Some n → KnowsMonitors before rest
    → monitor_of (rekeyed_to rest at line).monitors (key.Object (Volatile at)) ≡ None
    → ShowsRekeyed before now rest (rekeyed_to rest at line)
rekeyed_world before now rest n at line same moves was known none =
    let after = all_after before now n at line same moves was rest.monitors known none in
    let shapes = same.shapes in
    let objects = same.objects in
    let statics = same.statics in
    let monitors = after.0 in
    record {
      world = λ roots i. record {
        heap = record { shapes = shapes i; objects = objects i; statics = statics i; roots = roots };
        monitors = monitors i;
        classes = rest.classes.items;
        threads = map plain_thread rest.threads;
      };
      monitors = after.1;
    }
