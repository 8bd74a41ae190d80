-- What a step that isn't the act's leaves once it is taken back.
use Rattle.std.proofs.Common.{◌≡◌, ◌↔◌, ℕ, zero, suc, pred, ◌<◌, Bool, true, false, IsTrue, nat_lt, nat_eq, List, [], ◌∷◌, map}
use Rattle.std.proofs.Common.{length, Some, None, refl, ap, sym, subst, ◌∙◌, inl, arith, rules, if◌then◌else◌}
use Rattle.std.specs.Prelude.{All, IsSome}
use Rattle.std.specs.List.{AllByRecursion}
use Rattle.std.proofs.lemmas.Bool.{eq-eqb}
use Rattle.std.proofs.lemmas.List.Elements.{All-cons, All-head, All-map, All-nil, All-tail}
use Rattle.ap_base.specs.declared.reference.Ref.{Ref}
use Rattle.ap_base.specs.declared.reference.Ref.TheVariants.{Null as NoRef, Persistent, Volatile}
use Rattle.ap_base.specs.declared.reference.Item.{Item}
use Rattle.run_types.specs.declared.key.Key.{Key}
use Rattle.run_types.specs.declared.key.Key.TheVariants as key
use Rattle.natives.specs.declared.requests.Request.{Request}
use Rattle.natives.specs.declared.requests.Reply.{Reply}
use Rattle.monitors.specs.declared.monitor.Monitor.{Monitor}
use Rattle.run_history.specs.declared.act.Op.{Op}
use Rattle.run_history.specs.declared.act.Op.TheVariants as op
use Rattle.run_history.specs.declared.act.PlainKey.{PlainKey}
use Rattle.run_history.specs.declared.act.PlainKey.TheVariants as plain
use Rattle.run_history.specs.declared.act.Stage.TheVariants as stage
use Rattle.run_history.specs.declared.plain.Monitor.{Monitor as PlainMonitor}
use Rattle.run_history.specs.declared.plain.Progress.{Progress}
use Rattle.run_history.specs.Worlds.{Thread, World, after, classes_after_op, entered, exited, key_is, monitors_after_op}
use Rattle.run_history.specs.Worlds.{one_less, threads_after_op}
use Rattle.plain_model.specs.Facts.{SetFacts}
use Rattle.shared_objects.specs.declared.rest.Rest.{Rest}
use Rattle.shared_objects.specs.Shown.{Shown}
use Rattle.shared_objects.specs.Worlds.{KnowsMonitors, number_or, plain_key, plain_monitor, plain_thread, world_of}
use Rattle.step_forms.specs.declared.stepped.Stepped.TheVariants as stepped
use Rattle.step_forms.specs.Follows.{IsStep}
use Rattle.plain_heap.specs.declared.heap.PlainHeap.{PlainHeap}
use Rattle.plain_heap.specs.Heaps.{shown_of}
use Rattle.plain_heap.specs.Shows.{number_in}
use Rattle.plain_machine.specs.Foreseeing.{Foresees}
use Rattle.plain_machine.specs.Ops.{changes_rest}
use Rattle.plain_machine.specs.Trying.{IsKept, MayBe, with_left}
use Rattle.plain_machine.proofs.Keeping.{unmapped}
use Rattle.plain_machine.proofs.Possible.{no-false, no-true}

pred-more : (n : ℕ) → 0 < n → (n ≡ 1 → ⊥) → 0 < pred n
pred-more zero some other = some
pred-more (suc zero) some other = absurd (other refl)
pred-more (suc (suc n)) some other = omega arith

module _ (set : SetFacts) (t : ℕ) (q : Request Ref Item) (o : Op) (before : Shown) (rest : Rest) where
  pub may-some : (only : Op) (b : Bool) → IsTrue b ↔ (only ≡ o) → Foresees set before rest t q (Some only)
      → MayBe set t q o before rest b
  may-some only true is sees = λ roots taken p e. inl (sees.1 roots taken p e ∙ is.0 refl)
  may-some only false is sees = λ roots taken e. no-false (is.1 (sym (sees.1 roots taken o e)))

-- ---- the rest after an operation that changes the heap at most

calm-monitors : (ms : List PlainMonitor) (t : ℕ) (p : Op) → changes_rest p ≡ false
    → monitors_after_op ms t p ≡ ms
calm-monitors ms t (op.Enter k) e = no-true e
calm-monitors ms t (op.Exit k) e = no-true e
calm-monitors ms t p e = refl

calm-classes : (cs : List Progress) (t : ℕ) (p : Op) → changes_rest p ≡ false → classes_after_op cs t p ≡ cs
calm-classes cs t (op.Init class stage.Begun) e = no-true e
calm-classes cs t (op.Init class stage.Done) e = no-true e
calm-classes cs t (op.Init class stage.Ready) e = refl
calm-classes cs t p e = refl

calm-threads : (ts : List Thread) (t : ℕ) (p : Op) → changes_rest p ≡ false → threads_after_op ts t p ≡ ts
calm-threads ts t (op.Start n child) e = no-true e
calm-threads ts t op.Begin e = no-true e
calm-threads ts t op.End e = no-true e
calm-threads ts t (op.Ended uncaught) e = no-true e
calm-threads ts t p e = refl

-- ---- keys in a heap where references are numbers

-- what a reference stands for is its own number, if it is below the count
own-number : (count : ℕ) (r : Ref) → IsSome (number_in count r) → (n : ℕ) × (r ≡ Volatile n) × (n < count)
own-number count NoRef h = no-false h
own-number count (Persistent line) h = no-false h
own-number count (Volatile n) h = (n, refl, below (nat_lt n count) refl h)
  where
    below : (b : Bool) → nat_lt n count ≡ b → IsSome (if b then Some n else None) → n < count
    below true e h = search (rules, e)
    below false e h = no-false h

number-at : (count n : ℕ) → n < count → number_in count (Volatile n) ≡ Some n
number-at count n below =
    let test : nat_lt n count ≡ true = search (rules, below) in
    ap (λ (b : Bool). if b then Some n else None) test

same-object : (m n : ℕ) → ◌≡◌ {A = PlainKey} (plain.Object m) (plain.Object n) → m ≡ n
same-object m n e = cc

abbrev IsKey : ℕ → Key Ref → Type 0
IsKey count (key.Object r) = IsSome (number_in count r) × (true ≡ true)
IsKey count (key.Class n) = Unit {0}

abbrev AreKeys : ℕ → List Monitor → Type 0
AreKeys count ms = AllByRecursion (λ (m : Monitor). IsKey count m.key) ms

module _ (small big : ℕ) where
  object-back : (r s : Ref) → plain_key (number_in big) (key.Object r)
      ≡ plain_key (number_in small) (key.Object s)
      → IsSome (number_in big r) → IsSome (number_in small s)
      → IsSome (number_in small r)
      × (plain_key (number_in small) (key.Object r) ≡ plain_key (number_in small) (key.Object s))
  object-back r s e a b =
      let (i, is_i, low_i) = own-number big r a in
      let (j, is_j, low_j) = own-number small s b in
      let number_i : number_in big r ≡ Some i = ap (number_in big) is_i ∙ number-at big i low_i in
      let number_j : number_in small s ≡ Some j = ap (number_in small) is_j ∙ number-at small j low_j in
      let same : i ≡ j = same-object i j (sym (ap (λ o. plain.Object (number_or o)) number_i) ∙ e
      ∙ ap (λ o. plain.Object (number_or o)) number_j) in
      let here : number_in small r ≡ Some j = ap (number_in small) is_i
      ∙ ap (λ n. number_in small (Volatile n)) same ∙ number-at small j low_j in (
        subst (λ o. IsSome o) (sym here) refl,
        ap (λ o. plain.Object (number_or o)) here ∙ sym (ap (λ o. plain.Object (number_or o)) number_j),
      )

  key-back : (k l : Key Ref) → plain_key (number_in big) k ≡ plain_key (number_in small) l → IsKey big k
      → IsKey small l → IsKey small k × (plain_key (number_in small) k ≡ plain_key (number_in small) l)
  key-back (key.Object r) (key.Object s) e a b =
      let both = object-back r s e a.0 b.0 in ((both.0, refl), both.1)
  key-back (key.Object r) (key.Class n) e a b = absurd (let no = e in cc)
  key-back (key.Class m) (key.Object s) e a b = absurd (let no = e in cc)
  key-back (key.Class m) (key.Class n) e a b = (tt, e)

  monitor-back : (m k : Monitor) → plain_monitor (number_in big) m ≡ plain_monitor (number_in small) k
      → IsKey big m.key → IsKey small k.key
      → IsKey small m.key × (plain_monitor (number_in small) m ≡ plain_monitor (number_in small) k)
  monitor-back m k e a b =
      let both = key-back m.key k.key (ap (λ (x : PlainMonitor). x.key) e) a b in (
        both.0,
        ap (λ (x : PlainKey). record (plain_monitor (number_in big) m) { key = x }) both.1
            ∙ ap (λ (x : PlainMonitor). record x { key = plain_key (number_in small) k.key }) e,
      )

  monitors-back : (ms ks : List Monitor)
      → map (plain_monitor (number_in big)) ms ≡ map (plain_monitor (number_in small)) ks
      → AreKeys big ms → AreKeys small ks
      → AreKeys small ms
      × (map (plain_monitor (number_in small)) ms ≡ map (plain_monitor (number_in small)) ks)
  monitors-back [] [] e a b = (tt, refl)
  monitors-back [] (k ∷ ks) e a b = absurd (let no = e in cc)
  monitors-back (m ∷ ms) [] e a b = absurd (let no = e in cc)
  monitors-back (m ∷ ms) (k ∷ ks) e a b =
      let first : plain_monitor (number_in big) m ≡ plain_monitor (number_in small) k = cc in
      let others : map (plain_monitor (number_in big)) ms ≡ map (plain_monitor (number_in small)) ks = cc in
      let one = monitor-back m k first a.0 b.0 in
      let all = monitors-back ms ks others a.1 b.1 in
      ((one.0, all.0), λ i. one.1 i ∷ all.1 i)

world_with : World → List PlainMonitor → List Progress → List Thread → World
world_with world ms cs ts = record { heap = world.heap; monitors = ms; classes = cs; threads = ts }

-- ---- the step is taken back

module _ (set : SetFacts) (t : ℕ) (q : Request Ref Item) (p : Op) (r : Reply Ref Item) (old new : PlainHeap)
    (left : ℕ) (rest rest_now : Rest) (monitors : KnowsMonitors (shown_of old) rest)
    (calm : changes_rest p ≡ false)
    (is : IsStep set t q (with_left (shown_of old) left) rest (stepped.Did p r) (shown_of new) rest_now) where
  abbrev world : World
  world = world_of [] (shown_of old) rest

  moves : world_of [] (shown_of new) rest_now ≡ after world t p
  moves = (is.follows []).2

  monitors-are : map (plain_monitor (shown_of new).number) rest_now.monitors
      ≡ map (plain_monitor (shown_of old).number) rest.monitors
  monitors-are = ap (λ (w : World). w.monitors) moves ∙ calm-monitors world.monitors t p calm

  classes-are : rest_now.classes.items ≡ rest.classes.items
  classes-are = ap (λ (w : World). w.classes) moves ∙ calm-classes world.classes t p calm

  threads-are : map plain_thread rest_now.threads ≡ map plain_thread rest.threads
  threads-are = ap (λ (w : World). w.threads) moves ∙ calm-threads world.threads t p calm

  both : AreKeys (length old.objects.items) rest_now.monitors
      × (map (plain_monitor (shown_of old).number) rest_now.monitors
      ≡ map (plain_monitor (shown_of old).number) rest.monitors)
  both = monitors-back (length old.objects.items) (length new.objects.items) rest_now.monitors rest.monitors
      monitors-are is.monitors monitors

  pub undone : (now : Shown) → now ≡ with_left (shown_of old) left → IsKept (shown_of old) rest now rest_now
  unfolding world_with
  undone now e = subst (λ (s : Shown). IsKept (shown_of old) rest s rest_now) (sym e) (record {
    shown = refl;
    world = λ roots.
        ap (λ ms. world_with (world_of roots (shown_of old) rest) ms rest_now.classes.items
        (map plain_thread rest_now.threads)) both.1
        ∙ ap (λ cs. world_with (world_of roots (shown_of old) rest)
        (map (plain_monitor (shown_of old).number) rest.monitors) cs (map plain_thread rest_now.threads))
        classes-are
        ∙ ap (λ ts. world_with (world_of roots (shown_of old) rest)
        (map (plain_monitor (shown_of old).number) rest.monitors) rest.classes.items ts) threads-are;
    monitors = both.0;
  })

-- ---- each held monitor was entered

abbrev WasEntered : PlainMonitor → Type 0
WasEntered m = 0 < m.count

entered-all : (ms : List PlainMonitor) (k : PlainKey) (t : ℕ) → All WasEntered ms
    → All WasEntered (entered ms k t)
entered-all [] k t all = All-cons WasEntered (record { key = k; owner = t; count = 1 }) [] (omega arith)
    (All-nil WasEntered)
entered-all (m ∷ ms) k t all = by-key (key_is m.key k) (entered-all ms k t (All-tail WasEntered m ms all))
  where
    by-key : (b : Bool) → All WasEntered (entered ms k t)
        → All WasEntered (if b then record m { count = suc m.count } ∷ ms else m ∷ entered ms k t)
    by-key true others = All-cons WasEntered (record m { count = suc m.count }) ms (omega arith)
        (All-tail WasEntered m ms all)
    by-key false others = All-cons WasEntered m (entered ms k t) (All-head WasEntered m ms all) others

less-all : (m : PlainMonitor) (ms : List PlainMonitor) → 0 < m.count → All WasEntered ms
    → All WasEntered (one_less m ms)
less-all m ms some all = by-count (nat_eq m.count 1) refl
  where
    by-count : (b : Bool) → nat_eq m.count 1 ≡ b
        → All WasEntered (if b then ms else record m { count = pred m.count } ∷ ms)
    by-count true e = all
    by-count false e =
        let other : m.count ≡ 1 → ⊥ = λ is. no-true (sym (eq-eqb m.count 1 is) ∙ e) in
        let more : 0 < pred m.count = pred-more m.count some other in
        All-cons WasEntered (record m { count = pred m.count }) ms more all

exited-all : (ms : List PlainMonitor) (k : PlainKey) → All WasEntered ms → All WasEntered (exited ms k)
exited-all [] k all = all
exited-all (m ∷ ms) k all = by-key (key_is m.key k) (exited-all ms k (All-tail WasEntered m ms all))
  where
    by-key : (b : Bool) → All WasEntered (exited ms k)
        → All WasEntered (if b then one_less m ms else m ∷ exited ms k)
    by-key true others = less-all m ms (All-head WasEntered m ms all) (All-tail WasEntered m ms all)
    by-key false others = All-cons WasEntered m (exited ms k) (All-head WasEntered m ms all) others

after-all : (ms : List PlainMonitor) (t : ℕ) (o : Op) → All WasEntered ms
    → All WasEntered (monitors_after_op ms t o)
after-all ms t (op.Enter k) all = entered-all ms k t all
after-all ms t (op.Exit k) all = exited-all ms k all
after-all ms t o all = all

pub still-entered : (set : SetFacts) (t : ℕ) (q : Request Ref Item) (o : Op) (r : Reply Ref Item) (before :
    Shown)
    (rest : Rest) (now : Shown) (rest_now : Rest)
    → IsStep set t q before rest (stepped.Did o r) now rest_now
    → All (λ (m : Monitor). 0 < m.count) rest.monitors → All (λ (m : Monitor). 0 < m.count) rest_now.monitors
still-entered set t q o r before rest now rest_now is all =
    let plain_all : All WasEntered (map (plain_monitor before.number) rest.monitors) =
    All-map WasEntered (plain_monitor before.number) rest.monitors all in
    let moved : map (plain_monitor now.number) rest_now.monitors
    ≡ monitors_after_op (map (plain_monitor before.number) rest.monitors) t o =
    ap (λ (w : World). w.monitors) (is.follows []).2 in
    unmapped (plain_monitor now.number) WasEntered rest_now.monitors
    (subst (All WasEntered) (sym moved) (after-all (map (plain_monitor before.number) rest.monitors) t o
    plain_all))
