-- Who owns monitors: a thread with more Enters than Exits of the key.
use Rattle.std.proofs.Common.{◌≡◌, ◌⊎◌, ℕ, zero, suc, pred, ◌+◌, ◌<◌, Bool, true, false, List, [], ◌∷◌, ◌++◌, refl, ap, sym}
use Rattle.std.proofs.Common.{◌∙◌, subst, arith, inl, inr, nat_eq, ◌&&◌, if◌then◌else◌}
use Rattle.std.specs.Prelude.{◌≢◌, Option, Some, None}
use Rattle.std.proofs.lemmas.Bool.{eqb-true, false≢true, eq-eqb}
use Rattle.graph_model.specs.declared.types.Graph.{Graph}
use Rattle.run_history.specs.declared.act.PlainKey.{PlainKey}
use Rattle.run_history.specs.declared.act.PlainKey.TheVariants.{Object, Class}
use Rattle.run_history.specs.declared.act.Op.{Op}
use Rattle.run_history.specs.declared.act.Op.TheVariants as op
use Rattle.run_history.specs.declared.plain.Monitor.{Monitor}
use Rattle.run_history.specs.Recorded.{Recorded}
use Rattle.run_history.specs.Worlds.{key_is, held, entered, exited, one_less}
use Rattle.run_history.specs.Knowing.{Knowledge, known_after_op, is_outermost}
use Rattle.run_history.specs.Wanted.{Wishes}
use Rattle.plain_model.specs.Facts.{SetFacts}
use Rattle.plain_model.specs.First.{first_known, first_world}
use Rattle.plain_model.specs.Requests.{PlainRequest}
use Rattle.plain_model.specs.Codes.{Code, request_of}
use Rattle.plain_model.specs.Runs.{IsAbout, Rule, MayAct, IsPlainRun, known_of, wants_of, request_after}
use Rattle.plain_model.specs.RunLaws.{is_enter, is_exit, is_by, enters, exits}
use Rattle.plain_model.proofs.RunKeeps.{run_keeps, how_many-push}
use Rattle.plain_model.proofs.Depths.{one_if, end_world}
use Rattle.plain_model.proofs.Sanctioned.{Owns, sanctioned}
use Rattle.plain_model.proofs.Visible.{may_act, plain_front}

key_same : (a b : PlainKey) → key_is a b ≡ true → a ≡ b
key_same (Object m) (Object n) is = ap Object (eqb-true m n is)
key_same (Class m) (Class n) is = ap Class (eqb-true m n is)
key_same (Object m) (Class n) is = absurd (false≢true is)
key_same (Class m) (Object n) is = absurd (false≢true is)

key_own : (a : PlainKey) → key_is a a ≡ true
key_own (Object m) = eq-eqb m m refl
key_own (Class m) = eq-eqb m m refl

-- how often the thread has entered the monitor, where it owns it
abbrev count_of : ℕ → Option Monitor → ℕ
count_of t None = 0
count_of t (Some m) = if nat_eq m.owner t then m.count else 0

abbrev owned : List Monitor → ℕ → PlainKey → ℕ
owned ms t key = count_of t (held ms key)

-- each monitor that is held was entered, and each key is held once
abbrev AreKept : List Monitor → Type 0
AreKept [] = Unit {0}
AreKept (m ∷ ms) = (m.count ≢ 0) × (held ms m.key ≡ None) × AreKept ms

abbrev MayEnter : List Monitor → ℕ → PlainKey → Type 0
MayEnter ms u key = (held ms key ≡ None) ⊎ Owns ms u key

-- a key other than the entered one
held-entered : (ms : List Monitor) (u : ℕ) (key k : PlainKey) → key_is key k ≡ false
    → held (entered ms key u) k ≡ held ms k
held-entered [] u key k other = rw other refl
held-entered (m ∷ ms) u key k other = elim (key_is m.key key) as (λ b. key_is m.key key ≡ b
    → held (if b then record m { count = suc m.count } ∷ ms else m ∷ entered ms key u) k ≡ held (m ∷ ms) k) [
      | true ↦ λ same.
          let differ : key_is m.key k ≡ false = subst (λ a. key_is a k ≡ false)
          (sym (key_same m.key key same)) other in
          rw differ refl
      | false ↦ λ not_here. ap (λ rest. if key_is m.key k then Some m else rest)
          (held-entered ms u key k other)
    ] refl

entered_kept : (ms : List Monitor) (u : ℕ) (key : PlainKey) → AreKept ms → AreKept (entered ms key u)
entered_kept [] u key kept = (λ none. let no : 1 ≡ 0 = none in absurd (omega arith), refl, tt)
entered_kept (m ∷ ms) u key (some, once, rest) = elim (key_is m.key key) as (λ b. key_is m.key key ≡ b
    → AreKept (if b then record m { count = suc m.count } ∷ ms else m ∷ entered ms key u)) [
      | true ↦ λ same. (λ none. absurd (omega (arith, none)), once, rest)
      | false ↦ λ other. (
        some,
        held-entered ms u key m.key (flipped key m.key other)
            ∙ once,
        entered_kept ms u key rest,
      )
    ] refl
  where
    flipped : (a b : PlainKey) → key_is b a ≡ false → key_is a b ≡ false
    flipped a b other = elim (key_is a b) as (λ c. key_is a b ≡ c → c ≡ false) [
      | true ↦ λ same. absurd
          (false≢true (sym other ∙ subst (λ x. key_is b x ≡ true) (sym (key_same a b same)) (key_own b)))
      | false ↦ λ differ. refl
    ] refl

-- the count of the entered key rises by one for its thread, and no other count changes
module _ (u t : ℕ) (key k : PlainKey) where
  abbrev is_it : Bool
  is_it = nat_eq u t && key_is key k

  not_it : (b : Bool) → key_is key k ≡ false → one_if (b && key_is key k) ≡ 0
  not_it true other = rw other refl
  not_it false other = refl

  counted : (count : ℕ) (b : Bool) → (if b then suc count else 0) ≡ (if b then count else 0) + one_if
      (b && true)
  counted count true = omega arith
  counted count false = refl

  owned-entered : (ms : List Monitor) → MayEnter ms u key → owned (entered ms key u) t k
      ≡ owned ms t k + one_if is_it
  owned-entered [] may = elim (key_is key k) as
      (λ b. count_of t (if b then Some (record { key = key; owner = u; count = 1 }) else None)
      ≡ 0 + one_if (nat_eq u t && b)) [
        | true ↦ (elim (nat_eq u t) as (λ b. (if b then 1 else 0)
            ≡ 0 + one_if (b && true)) [ true ↦ refl | false ↦ refl ])
        | false ↦ (elim (nat_eq u t) as (λ b. 0 ≡ 0 + one_if (b && false)) [ true ↦ refl | false ↦ refl ])
      ]
  owned-entered (m ∷ ms) may = elim (key_is m.key key) as (λ b. key_is m.key key ≡ b
      → ((if b then Some m else held ms key) ≡ None) ⊎
      ((n : Monitor) × ((if b then Some m else held ms key) ≡ Some n) × (n.owner ≡ u))
      → owned (if b then record m { count = suc m.count } ∷ ms else m ∷ entered ms key u) t k
      ≡ owned (m ∷ ms) t k + one_if is_it) [
        | true ↦ λ same may. here same (own_of may)
        | false ↦ λ other may. elim (key_is m.key k) as (λ c. key_is m.key k ≡ c
            → count_of t (if c then Some m else held (entered ms key u) k)
            ≡ count_of t (if c then Some m else held ms k) + one_if is_it) [
              | true ↦ λ this.
                  let differ : key_is key k ≡ false = apart other this in
                  let nothing = not_it (nat_eq u t) differ in
                  omega (arith, nothing)
              | false ↦ λ that. owned-entered ms may
            ] refl
      ] refl may
    where
      own_of : ((Some m ≡ None) ⊎ ((n : Monitor) × (Some m ≡ Some n) × (n.owner ≡ u))) → m.owner ≡ u
      own_of (inl free) = absurd (let e : Some m ≡ None = free in cc)
      own_of (inr (n, is, own)) = let e : Some m ≡ Some n = is in let same : m ≡ n = cc in
          ap (λ (x : Monitor). x.owner) same ∙ own

      apart : key_is m.key key ≡ false → key_is m.key k ≡ true → key_is key k ≡ false
      apart other this = elim (key_is key k) as (λ b. key_is key k ≡ b → b ≡ false) [
        | true ↦ λ same. absurd
            (false≢true (sym other ∙ subst (λ x. key_is m.key x ≡ true) (sym (key_same key k same)) this))
        | false ↦ λ differ. refl
      ] refl

      here : key_is m.key key ≡ true → m.owner ≡ u
          → owned (record m { count = suc m.count } ∷ ms) t k ≡ owned (m ∷ ms) t k + one_if is_it
      here same own =
          let keys : m.key ≡ key = key_same m.key key same in
          elim (key_is m.key k) as (λ c. key_is m.key k ≡ c
          → count_of t (if c then Some (record m { count = suc m.count }) else held ms k)
          ≡ count_of t (if c then Some m else held ms k) + one_if is_it) [
            | true ↦ λ this.
                let it : key_is key k ≡ true = subst (λ x. key_is x k ≡ true) keys this in
                rw (it, own) (counted m.count (nat_eq u t))
            | false ↦ λ that.
                let differ : key_is key k ≡ false = subst (λ x. key_is x k ≡ false) keys that in
                let nothing = not_it (nat_eq u t) differ in
                omega (arith, nothing)
          ] refl

-- the count of the key that is left falls by one
exited_once : (m : Monitor) (ms : List Monitor) (k : PlainKey) → m.count ≢ 0 → held ms m.key ≡ None → (t : ℕ)
    → count_of t (held (one_less m ms) k) + one_if (nat_eq m.owner t && key_is m.key k)
    ≡ count_of t (held (m ∷ ms) k)
exited_once m ms k some once t =
    elim (nat_eq m.count 1) as (λ b. nat_eq m.count 1 ≡ b
    → count_of t (held (if b then ms else record m { count = pred m.count } ∷ ms) k) + one_if
    (nat_eq m.owner t && key_is m.key k)
    ≡ count_of t (held (m ∷ ms) k)) [
      | true ↦ λ last. elim (key_is m.key k) as (λ c. key_is m.key k ≡ c
          → count_of t (held ms k) + one_if (nat_eq m.owner t && c)
          ≡ count_of t (if c then Some m else held ms k)) [
            | true ↦ λ same.
                let gone : held ms k ≡ None = subst (λ x. held ms x ≡ None) (key_same m.key k same) once in
                rw gone (given_up (nat_eq m.owner t) m.count (eqb-true m.count 1 last))
            | false ↦ λ other. unchanged (count_of t (held ms k)) (nat_eq m.owner t)
          ] refl
      | false ↦ λ more. elim (key_is m.key k) as (λ c.
          count_of t (if c then Some (record m { count = pred m.count }) else held ms k) + one_if
          (nat_eq m.owner t && c)
          ≡ count_of t (if c then Some m else held ms k)) [
            | true ↦ lessened (nat_eq m.owner t) m.count some
            | false ↦ unchanged (count_of t (held ms k)) (nat_eq m.owner t)
          ]
    ] refl
  where
    given_up : (b : Bool) (n : ℕ) → n ≡ 1 → 0 + one_if (b && true) ≡ (if b then n else 0)
    given_up true n is = omega (arith, is)
    given_up false n is = refl

    lessened : (b : Bool) (n : ℕ) → n ≢ 0 → (if b then pred n else 0) + one_if (b && true)
        ≡ (if b then n else 0)
    lessened true zero none = absurd (none refl)
    lessened true (suc n) none = omega arith
    lessened false n none = refl

    unchanged : (n : ℕ) (b : Bool) → n + one_if (b && false) ≡ n
    unchanged n true = omega arith
    unchanged n false = omega arith

owned-exited : (ms : List Monitor) (u t : ℕ) (key k : PlainKey) → AreKept ms → Owns ms u key
    → owned (exited ms key) t k + one_if (nat_eq u t && key_is key k) ≡ owned ms t k
owned-exited [] u t key k kept (m, is, own) = absurd (let no : ◌≡◌ {A = Option Monitor} None (Some m) =
    is in cc)
owned-exited (m ∷ ms) u t key k (some, once, rest) owns = elim (key_is m.key key) as
    (λ b. key_is m.key key ≡ b
    → ((n : Monitor) × ((if b then Some m else held ms key) ≡ Some n) × (n.owner ≡ u))
    → count_of t (held (if b then one_less m ms else m ∷ exited ms key) k) + one_if
    (nat_eq u t && key_is key k)
    ≡ count_of t (held (m ∷ ms) k)) [
      | true ↦ λ same (n, is, own).
          let it : Some m ≡ Some n = is in
          let one : m ≡ n = cc in
          let by_owner : m.owner ≡ u = ap (λ (x : Monitor). x.owner) one ∙ own in
          let keys : m.key ≡ key = key_same m.key key same in
          subst (λ x. count_of t (held (one_less m ms) k) + one_if (nat_eq u t && key_is x k)
          ≡ count_of t (held (m ∷ ms) k)) keys
          (subst (λ v. count_of t (held (one_less m ms) k) + one_if (nat_eq v t && key_is m.key k)
          ≡ count_of t (held (m ∷ ms) k)) by_owner
          (exited_once m ms k some once t))
      | false ↦ λ other (n, is, own). elim (key_is m.key k) as (λ c. key_is m.key k ≡ c
          → count_of t (if c then Some m else held (exited ms key) k) + one_if (nat_eq u t && key_is key k)
          ≡ count_of t (if c then Some m else held ms k)) [
            | true ↦ λ this.
                let nothing = not_it u t key k (nat_eq u t) (apart other this) in
                omega (arith, nothing)
            | false ↦ λ that. owned-exited ms u t key k rest (n, is, own)
          ] refl
    ] refl owns
  where
    apart : key_is m.key key ≡ false → key_is m.key k ≡ true → key_is key k ≡ false
    apart other this = elim (key_is key k) as (λ b. key_is key k ≡ b → b ≡ false) [
      | true ↦ λ same. absurd
          (false≢true (sym other ∙ subst (λ x. key_is m.key x ≡ true) (sym (key_same key k same)) this))
      | false ↦ λ differ. refl
    ] refl

-- a key that nobody holds isn't held after an exit of another
held-exited : (ms : List Monitor) (key k : PlainKey) → held ms k ≡ None → held (exited ms key) k ≡ None
held-exited [] key k none = refl
held-exited (m ∷ ms) key k none = elim (key_is m.key k) as (λ c. key_is m.key k ≡ c
    → (if c then Some m else held ms k) ≡ None
    → held (if key_is m.key key then one_less m ms else m ∷ exited ms key) k ≡ None) [
      | true ↦ λ same is. absurd (let no : Some m ≡ None = is in cc)
      | false ↦ λ other is. elim (key_is m.key key) as
          (λ b. held (if b then one_less m ms else m ∷ exited ms key) k ≡ None) [
            | true ↦ (elim (nat_eq m.count 1) as
                (λ b. held (if b then ms else record m { count = pred m.count } ∷ ms) k ≡ None) [
                  | true ↦ is
                  | false ↦ rw other is
                ])
            | false ↦ rw other (held-exited ms key k is)
          ]
    ] refl none

exited_kept : (ms : List Monitor) (key : PlainKey) → AreKept ms → AreKept (exited ms key)
exited_kept [] key kept = tt
exited_kept (m ∷ ms) key (some, once, rest) = elim (key_is m.key key) as
    (λ b. AreKept (if b then one_less m ms else m ∷ exited ms key)) [
      | true ↦ (elim (nat_eq m.count 1) as (λ b. nat_eq m.count 1 ≡ b
          → AreKept (if b then ms else record m { count = pred m.count } ∷ ms)) [
            | true ↦ λ last. rest
            | false ↦ λ more. (still m.count some more, once, rest)
          ] refl)
      | false ↦ (some, held-exited ms key m.key once, exited_kept ms key rest)
    ]
  where
    still : (n : ℕ) → n ≢ 0 → nat_eq n 1 ≡ false → pred n ≢ 0
    still zero none more = absurd (none refl)
    still (suc n) none more = λ is.
        let zero_is : n ≡ 0 = is in
        absurd (false≢true (sym more ∙ eq-eqb (suc n) 1 (ap suc zero_is)))

-- Enters and Exits of thread t as counts of one operation of thread u
abbrev OwnedAfter : Knowledge → ℕ → List ℕ → Op → ℕ → PlainKey → Type 0
OwnedAfter known u named o t k =
    owned (known_after_op known u named o).world.monitors t k + one_if (nat_eq u t && is_exit k o)
    ≡ owned known.world.monitors t k + one_if (nat_eq u t && is_enter k o)

falsely : (n : ℕ) (b : Bool) → n ≡ n + one_if (b && false)
falsely n true = omega arith
falsely n false = omega arith

owned_after : (set : SetFacts) (known : Knowledge) (Now : Wishes) (request : Option PlainRequest) (u : ℕ)
    (named : List ℕ)
    (o : Op) → Rule set known Now request u named o → AreKept known.world.monitors → (t : ℕ) (k : PlainKey)
    → OwnedAfter known u named o t k
unfolding known_after_op
owned_after set known Now request u named (op.Enter key) rule kept t k =
    let (r, is, may) = sanctioned set known request u (op.Enter key) rule in
    let more = owned-entered u t key k known.world.monitors may in
    sym (falsely (owned (entered known.world.monitors key u) t k) (nat_eq u t)) ∙ more
owned_after set known Now request u named (op.Exit key) rule kept t k =
    let (r, is, owns) = sanctioned set known request u (op.Exit key) rule in
    owned-exited known.world.monitors u t key k kept owns ∙ falsely (owned known.world.monitors t k)
    (nat_eq u t)
owned_after set known Now request u named op.End rule kept t k =
    ap (λ w. owned w.monitors t k + one_if (nat_eq u t && false)) (end_world known u (is_outermost known u))
owned_after set known Now request u named o rule kept t k = refl

kept_after : (known : Knowledge) (u : ℕ) (named : List ℕ) (o : Op) → AreKept known.world.monitors
    → AreKept (known_after_op known u named o).world.monitors
unfolding known_after_op
kept_after known u named (op.Enter key) kept = entered_kept known.world.monitors u key kept
kept_after known u named (op.Exit key) kept = exited_kept known.world.monitors key kept
kept_after known u named op.End kept = rw (end_world known u (is_outermost known u)) kept
kept_after known u named o kept = kept

module _ (set : SetFacts) (main : ℕ) (opening : Graph) {Frames : Type 0}
    (code : Code set main opening Frames) where
  abbrev IsOwned : Knowledge → List Recorded → Type 0
  IsOwned known before = AreKept known.world.monitors
      × ((t : ℕ) (k : PlainKey) → owned known.world.monitors t k + exits t k before ≡ enters t k before)

  none_owned : IsOwned (first_known set opening) []
  unfolding first_world
  none_owned = (tt, λ t k. refl)

  pub owned_by_acts : (acts : List Recorded) → IsPlainRun set main opening code acts
      → IsOwned (known_of set main opening code acts) acts
  owned_by_acts acts run = run_keeps set main opening code IsOwned
      (λ known frames Now before a may (kept, counts). (
        kept_after known a.act.thread a.named a.act.op kept,
        λ t k.
            let now = owned_after set known Now
            (request_of set main opening code known.world frames a.act.thread)
            a.act.thread a.named a.act.op may.rule kept t k in
            let earlier = counts t k in
            let more = how_many-push (is_by t (is_enter k)) before a in
            let less = how_many-push (is_by t (is_exit k)) before a in
            omega (arith, now, earlier, more, less),
      ))
      none_owned acts run

  -- what a thread has entered is held by it
  owner_holds : (found : Option Monitor) (t : ℕ) → count_of t found ≢ 0 → (m : Monitor) × (found ≡ Some m)
      × (m.owner ≡ t)
  owner_holds None t some = absurd (some refl)
  owner_holds (Some m) t some = (
    m,
    refl,
    elim (nat_eq m.owner t) as (λ b. nat_eq m.owner t ≡ b
        → (if b then m.count else 0) ≢ 0 → m.owner ≡ t) [
          | true ↦ λ own there. eqb-true m.owner t own
          | false ↦ λ other none. absurd (none refl)
        ] refl some,
  )

  pub one_owner_a_key : (acts : List Recorded) (key : PlainKey) (t u : ℕ)
      → IsPlainRun set main opening code acts
      → exits t key acts < enters t key acts → exits u key acts < enters u key acts → t ≡ u
  one_owner_a_key acts key t u run first second =
      let (kept, counts) = owned_by_acts acts run in
      let monitors = (known_of set main opening code acts).world.monitors in
      let of_t = counts t key in
      let of_u = counts u key in
      let (m, is_m, owner_m) = owner_holds (held monitors key) t
      (λ none. absurd (omega (arith, of_t, first, none))) in
      let (n, is_n, owner_n) = owner_holds (held monitors key) u
      (λ none. absurd (omega (arith, of_u, second, none))) in
      let both : Some m ≡ Some n = sym is_m ∙ is_n in
      let same : m ≡ n = cc in
      sym owner_m ∙ ap (λ (x : Monitor). x.owner) same ∙ owner_n

  counted_some : (ms : List Monitor) (t : ℕ) (key : PlainKey) → AreKept ms → Owns ms t key
      → owned ms t key ≢ 0
  counted_some [] t key kept (m, is, own) = absurd (let no : ◌≡◌ {A = Option Monitor} None (Some m) =
      is in cc)
  counted_some (x ∷ ms) t key (some, once, rest) (m, is, own) = elim (key_is x.key key) as (λ b.
      (if b then Some x else held ms key) ≡ Some m → count_of t (if b then Some x else held ms key) ≢ 0) [
        | true ↦ λ e.
            let it : Some x ≡ Some m = e in
            let same : x ≡ m = cc in
            let owner : x.owner ≡ t = ap (λ (y : Monitor). y.owner) same ∙ own in
            rw (eq-eqb x.owner t owner) some
        | false ↦ λ e. counted_some ms t key rest (m, e, own)
      ] is

  exit_owned : (known : Knowledge) (Now : Wishes) (request : Option PlainRequest) (a : Recorded)
      (key : PlainKey)
      → MayAct set known Now request a → a.act.op ≡ op.Exit key → Owns known.world.monitors a.act.thread key
  exit_owned known Now request a key may is =
      let rule : IsAbout set known request a.act.thread (op.Exit key) =
      subst (λ o. Rule set known Now request a.act.thread a.named o) is may.rule in
      (sanctioned set known request a.act.thread (op.Exit key) rule).2

  pub exits_follow_enters : (front : List Recorded) (a : Recorded) (rest : List Recorded) (key : PlainKey)
      → IsPlainRun set main opening code (front ++ a ∷ rest) → a.act.op ≡ op.Exit key
      → exits a.act.thread key front < enters a.act.thread key front
  exits_follow_enters front a rest key run is =
      let (kept, counts) = owned_by_acts front (plain_front set main opening code front (a ∷ rest) run) in
      let known = known_of set main opening code front in
      let may = may_act set main opening code front a rest run in
      let owns = exit_owned known (wants_of set main opening code front)
      (request_after set main opening code front a.act.thread) a key may is in
      let some = counted_some known.world.monitors a.act.thread key kept owns in
      let count = counts a.act.thread key in
      omega (arith, count, some)
