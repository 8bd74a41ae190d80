-- Monitors by reference are monitors by number.
use Rattle.std.proofs.Common.{◌≡◌, ◌≢◌, ◌<◌, ◌≤◌, ◌-◌, ◌^◌, ℕ, suc, pred, Bool, true, false, nat_eq, ltb, List, [], ◌∷◌, map}
use Rattle.std.proofs.Common.{length, Option, Some, None, IsSome, if◌then◌else◌, refl, ap, ◌∙◌, sym, subst, arith, rules}
use Rattle.std.specs.List.{AllByRecursion}
use Rattle.std.specs.Prelude.{All}
use Rattle.std.proofs.lemmas.Bool.{eqb-true, eq-eqb, ne_eqb, false≢true}
use Rattle.std.proofs.lemmas.List.{length-map}
use Rattle.std.proofs.lemmas.List.Elements.{All-head, All-tail}
use Rattle.ap_base.specs.Causes.{next_count}
use Rattle.ap_base.specs.declared.reference.Ref.{Ref}
use Rattle.ap_base.specs.declared.reference.Ref.TheVariants.{Null as NoRef, Persistent, Volatile}
use Rattle.run_types.specs.declared.key.Key.{Key}
use Rattle.run_types.specs.declared.key.Key.TheVariants as key
use Rattle.run_types.specs.declared.wait.On.TheVariants as on
use Rattle.run_types.specs.declared.fault.Which.TheVariants as which
use Rattle.run_types.specs.declared.fault.StepFault.TheVariants as fault
use Rattle.graph_model.specs.declared.types.Root.{Root}
use Rattle.run_history.specs.declared.plain.Monitor.{Monitor as PlainMonitor}
use Rattle.run_history.specs.declared.act.PlainKey.{PlainKey}
use Rattle.run_history.specs.declared.act.Op.TheVariants as op
use Rattle.run_history.specs.Worlds as plain
use Rattle.run_history.specs.Worlds.{World}
use Rattle.monitors.specs.declared.monitor.Monitor.{Monitor}
use Rattle.monitors.specs.declared.monitor.Enter.{Enter}
use Rattle.monitors.specs.declared.monitor.Enter.TheVariants.{Taken, Held, Full as NoRoom}
use Rattle.monitors.specs.Keys.{is_ref, is_key}
use Rattle.monitors.specs.Held.{monitor_of, entry_of, enter_answer, entered, exited, one_less, IsHeldBy}
use Rattle.natives.specs.declared.requests.Reply.TheVariants as reply
use Rattle.plain_model.specs.Facts.{SetFacts}
use Rattle.plain_model.specs.Limits.{monitors_left}
use Rattle.plain_model.specs.Steps.{Step, Does, Waits, enters, enters_held, exits, exits_held, throws}
use Rattle.plain_model.specs.declared.throws.Throws.TheVariants as exception
use Rattle.shared_objects.specs.declared.rest.Rest.{Rest}
use Rattle.shared_objects.specs.Shown.{Shown, HasOneKey}
use Rattle.shared_objects.specs.Worlds.{plain_key, plain_monitor, number_or, world_of, IsHeldKey, KnowsMonitors, HasCounts}
use Rattle.step_forms.specs.declared.stepped.Stepped.TheVariants as stepped
use Rattle.step_forms.specs.Follows.{Goes}
use Rattle.step_forms.proofs.Going.{did_goes, waits_goes, limit_goes}

same_bool : (a b : Bool) → (a ≡ true → b ≡ true) → (b ≡ true → a ≡ true) → a ≡ b
same_bool true b f g = sym (f refl)
same_bool false true f g = g refl
same_bool false false f g = refl

is_ref_true : (r s : Ref) → is_ref r s ≡ true → r ≡ s
is_ref_true NoRef NoRef e = refl
is_ref_true NoRef (Persistent n) e = absurd (false≢true e)
is_ref_true NoRef (Volatile n) e = absurd (false≢true e)
is_ref_true (Persistent m) NoRef e = absurd (false≢true e)
is_ref_true (Persistent m) (Persistent n) e = ap Persistent (eqb-true m n e)
is_ref_true (Persistent m) (Volatile n) e = absurd (false≢true e)
is_ref_true (Volatile m) NoRef e = absurd (false≢true e)
is_ref_true (Volatile m) (Persistent n) e = absurd (false≢true e)
is_ref_true (Volatile m) (Volatile n) e = ap Volatile (eqb-true m n e)

is_ref_same : (r : Ref) → is_ref r r ≡ true
is_ref_same NoRef = refl
is_ref_same (Persistent m) = eq-eqb m m refl
is_ref_same (Volatile m) = eq-eqb m m refl

some_or : (o : Option ℕ) → IsSome o → o ≡ Some (number_or o)
some_or None s = cc
some_or (Some n) s = refl

same_numbers : (shown : Shown) → HasOneKey shown → (r s : Ref) → IsSome (shown.number r)
    → shown.is_key r ≡ true
    → IsSome (shown.number s) → shown.is_key s ≡ true
    → nat_eq (number_or (shown.number r)) (number_or (shown.number s)) ≡ true → r ≡ s
same_numbers shown one r s a ka b kb e =
    let n = eqb-true (number_or (shown.number r)) (number_or (shown.number s)) e in
    one r s (number_or (shown.number s)) ka kb (some_or (shown.number r) a
    ∙ ap Some n) (some_or (shown.number s) b)

-- keys are the same where the plain keys are
same_key_is : (shown : Shown) → HasOneKey shown → (k l : Key Ref) → IsHeldKey shown k → IsHeldKey shown l
    → plain.key_is (plain_key shown.number k) (plain_key shown.number l) ≡ is_key k l
same_key_is shown one (key.Object r) (key.Object s) a b = same_bool _ _
    (λ e. subst (λ (x : Ref). is_ref r x ≡ true) (same_numbers shown one r s a.0 a.1 b.0 b.1 e) (is_ref_same
    r))
    (λ e. subst (λ (x : Ref). nat_eq (number_or (shown.number r)) (number_or (shown.number x)) ≡ true)
    (is_ref_true r s e)
    (eq-eqb (number_or (shown.number r)) (number_or (shown.number r)) refl))
same_key_is shown one (key.Object r) (key.Class n) a b = refl
same_key_is shown one (key.Class m) (key.Object s) a b = refl
same_key_is shown one (key.Class m) (key.Class n) a b = refl

abbrev pub plain_held : Shown → Option Monitor → Option PlainMonitor
plain_held shown None = None
plain_held shown (Some m) = Some (plain_monitor shown.number m)

over : (shown : Shown) (b : Bool) (m : Monitor) (o : Option Monitor)
    → (if b then Some (plain_monitor shown.number m) else plain_held shown o) ≡ plain_held shown (if b then
    Some m else o)
over shown true m o = refl
over shown false m o = refl

through : (shown : Shown) (b : Bool) (xs ys : List Monitor)
    → map (plain_monitor shown.number) (if b then xs else ys)
    ≡ (if b then map (plain_monitor shown.number) xs else map (plain_monitor shown.number) ys)
through shown true xs ys = refl
through shown false xs ys = refl

either : (shown : Shown) (b : Bool) (xs ys : List Monitor)
    → AllByRecursion (λ (m : Monitor). IsHeldKey shown m.key) xs
    → AllByRecursion (λ (m : Monitor). IsHeldKey shown m.key) ys
    → AllByRecursion (λ (m : Monitor). IsHeldKey shown m.key) (if b then xs else ys)
either shown true xs ys a b = a
either shown false xs ys a b = b

count_next : (n : ℕ) → n < 2 ^ 64 - 1 → next_count n ≡ suc n
count_next n below = omega (arith, below)

abbrev HasCount : Monitor → Type 0
HasCount m = m.count < 2 ^ 64 - 1

module _ (shown : Shown) (one : HasOneKey shown) (k : Key Ref) (known : IsHeldKey shown k) where
  held_plain : (ms : List Monitor) → AllByRecursion (λ (m : Monitor). IsHeldKey shown m.key) ms
      → plain.held (map (plain_monitor shown.number) ms) (plain_key shown.number k) ≡ plain_held shown
      (monitor_of ms k)
  held_plain [] all = refl
  held_plain (m ∷ ms) all =
      ap (λ b. if b then Some (plain_monitor shown.number m)
      else plain.held (map (plain_monitor shown.number) ms) (plain_key shown.number k)) (same_key_is shown
      one m.key k all.0 known)
      ∙ ap (λ x. if is_key m.key k then Some (plain_monitor shown.number m) else x) (held_plain ms all.1)
      ∙ over shown (is_key m.key k) m (monitor_of ms k)

  entered_plain : (t : ℕ) (ms : List Monitor) → AllByRecursion (λ (m : Monitor). IsHeldKey shown m.key) ms
      → All HasCount ms
      → map (plain_monitor shown.number) (entered ms k t)
      ≡ plain.entered (map (plain_monitor shown.number) ms) (plain_key shown.number k) t
  entered_plain t [] all counts = refl
  entered_plain t (m ∷ ms) all counts =
      let ps = map (plain_monitor shown.number) ms in
      let p = plain_monitor shown.number m in
      through shown (is_key m.key k) (record m { count = next_count m.count } ∷ ms) (m ∷ entered ms k t)
      ∙ ap (λ c. if is_key m.key k then record p { count = c } ∷ ps else p ∷ map (plain_monitor shown.number)
      (entered ms k t))
      (count_next m.count (All-head HasCount m ms counts))
      ∙ ap (λ (rest : List PlainMonitor). if is_key m.key k then record p { count = suc p.count } ∷ ps else p
      ∷ rest)
      (entered_plain t ms all.1 (All-tail HasCount m ms counts))
      ∙ ap (λ b. if b then record p { count = suc p.count } ∷ ps else p ∷ plain.entered ps (plain_key
      shown.number k) t)
      (sym (same_key_is shown one m.key k all.0 known))

  entered_known : (t : ℕ) (ms : List Monitor) → AllByRecursion (λ (m : Monitor). IsHeldKey shown m.key) ms
      → AllByRecursion (λ (m : Monitor). IsHeldKey shown m.key) (entered ms k t)
  entered_known t [] all = (known, tt)
  entered_known t (m ∷ ms) all = either shown (is_key m.key k) (record m { count = next_count m.count } ∷ ms)
      (m ∷ entered ms k t)
      (all.0, all.1) (all.0, entered_known t ms all.1)

  less_plain : (m : Monitor) (ms : List Monitor) → map (plain_monitor shown.number) (one_less m ms)
      ≡ plain.one_less (plain_monitor shown.number m) (map (plain_monitor shown.number) ms)
  less_plain m ms = through shown (nat_eq m.count 1) ms (record m { count = pred m.count } ∷ ms)

  exited_plain : (ms : List Monitor) → AllByRecursion (λ (m : Monitor). IsHeldKey shown m.key) ms
      → map (plain_monitor shown.number) (exited ms k)
      ≡ plain.exited (map (plain_monitor shown.number) ms) (plain_key shown.number k)
  exited_plain [] all = refl
  exited_plain (m ∷ ms) all =
      let ps = map (plain_monitor shown.number) ms in
      let p = plain_monitor shown.number m in
      through shown (is_key m.key k) (one_less m ms) (m ∷ exited ms k)
      ∙ ap (λ (here : List PlainMonitor). if is_key m.key k then here else p ∷ map (plain_monitor
      shown.number) (exited ms k)) (less_plain m ms)
      ∙ ap (λ (rest : List PlainMonitor). if is_key m.key k then plain.one_less p ps else p ∷ rest)
      (exited_plain ms all.1)
      ∙ ap (λ b. if b then plain.one_less p ps else p ∷ plain.exited ps (plain_key shown.number k))
      (sym (same_key_is shown one m.key k all.0 known))

  exited_known : (ms : List Monitor) → AllByRecursion (λ (m : Monitor). IsHeldKey shown m.key) ms
      → AllByRecursion (λ (m : Monitor). IsHeldKey shown m.key) (exited ms k)
  exited_known [] all = all
  exited_known (m ∷ ms) all = either shown (is_key m.key k) (one_less m ms) (m ∷ exited ms k)
      (either shown (nat_eq m.count 1) ms (record m { count = pred m.count } ∷ ms) all.1 (all.0, all.1))
      (all.0, exited_known ms all.1)

abbrev pub is_taken : Enter → Bool
is_taken Taken = true
is_taken (Held u) = false
is_taken NoRoom = false

abbrev is_held : Enter → Bool
is_held Taken = false
is_held (Held u) = true
is_held NoRoom = false

pub not_taken : (a : Enter) → is_taken a ≡ false → a ≢ Taken
not_taken a e is = false≢true (sym e ∙ ap is_taken is)

-- ---- entries and exits by the plain step

abbrev entry_step : SetFacts → World → ℕ → PlainKey → Enter → Step
entry_step set world t pk Taken = Does (op.Enter pk) reply.Done
entry_step set world t pk (Held u) = Waits (on.Monitor u)
entry_step set world t pk NoRoom = Does (op.Enter pk) reply.Done

by_owner : (set : SetFacts) (world : World) (t owner : ℕ) (pk : PlainKey) (b : Bool)
    → (if b then Does (op.Enter pk) reply.Done else Waits (on.Monitor owner)) ≡ entry_step set world t pk (if
    b then Taken else Held owner)
by_owner set world t owner pk true = refl
by_owner set world t owner pk false = refl

by_room : (set : SetFacts) (world : World) (t : ℕ) (pk : PlainKey) (b : Bool)
    → Does (op.Enter pk) reply.Done ≡ entry_step set world t pk (if b then Taken else NoRoom)
by_room set world t pk true = refl
by_room set world t pk false = refl

by_entry : (set : SetFacts) (world : World) (shown : Shown) (t count : ℕ) (pk : PlainKey) (o : Option Monitor)
    → enters_held set world t pk (plain_held shown o) ≡ entry_step set world t pk (entry_of t count o)
by_entry set world shown t count pk None = by_room set world t pk (ltb count 4096)
by_entry set world shown t count pk (Some m) = by_owner set world t m.owner pk (nat_eq m.owner t)

by_full : (b : Bool) (count : ℕ) → ltb count 4096 ≡ b → NoRoom ≡ (if b then Taken else NoRoom) → 4096 ≤ count
by_full true count test e = absurd (false≢true (ap is_taken e))
by_full false count test e = search (rules, test)

by_held : (b : Bool) (u : ℕ) → NoRoom ≡ (if b then Taken else Held u) → ⊥
by_held true u e = false≢true (ap is_taken e)
by_held false u e = false≢true (ap is_held e)

no_room : (t count : ℕ) (o : Option Monitor) → NoRoom ≡ entry_of t count o → (4096 ≤ count) × (o ≡ None)
no_room t count None e = (by_full (ltb count 4096) count refl e, refl)
no_room t count (Some m) e = absurd (by_held (nat_eq m.owner t) m.owner e)

by_few : (b : Bool) (count : ℕ) → ltb count 4096 ≡ b → Taken ≡ (if b then Taken else NoRoom) → count < 4096
by_few true count test e = search (rules, test)
by_few false count test e = absurd (false≢true (sym (ap is_taken e)))

found_room : (t count : ℕ) (o : Option Monitor) → Taken ≡ entry_of t count o → o ≡ None → count < 4096
found_room t count None e none = by_few (ltb count 4096) count refl e
found_room t count (Some m) e none = absurd (let no = none in cc)

none_held : (shown : Shown) (o : Option Monitor) → plain_held shown o ≡ None → o ≡ None
none_held shown None e = refl
none_held shown (Some m) e = absurd (let no = e in cc)

module _ (set : SetFacts) (t : ℕ) (shown : Shown) (rest : Rest) (k : Key Ref) (pk : PlainKey) (one :
    HasOneKey shown)
    (monitors : KnowsMonitors shown rest) (known : IsHeldKey shown k) (is : pk ≡ plain_key shown.number k)
  where
    pub held_by_number : plain.held (map (plain_monitor shown.number) rest.monitors) pk ≡ plain_held shown
        (monitor_of rest.monitors k)
    held_by_number = ap (plain.held (map (plain_monitor shown.number) rest.monitors)) is
        ∙ held_plain shown one k known rest.monitors monitors

    entry_is : (roots : List Root) (answer : Enter) → answer ≡ enter_answer t rest.monitors k
        → enters set (world_of roots shown rest) t pk ≡ entry_step set (world_of roots shown rest) t pk answer
    entry_is roots answer e = ap (enters_held set (world_of roots shown rest) t pk) held_by_number
        ∙ by_entry set (world_of roots shown rest) shown t (length rest.monitors) pk (monitor_of rest.monitors
        k)
        ∙ ap (entry_step set (world_of roots shown rest) t pk) (sym e)

    -- a monitor that is taken was left, where nobody held it
    monitor_found : Taken ≡ enter_answer t rest.monitors k → plain.held (map (plain_monitor shown.number) rest.monitors) pk ≡ None
        → 0 < monitors_left (map (plain_monitor shown.number) rest.monitors)
    monitor_found e free =
        let few = found_room t (length rest.monitors) (monitor_of rest.monitors k) e
        (none_held shown (monitor_of rest.monitors k) (sym held_by_number ∙ free)) in
        let long = length-map rest.monitors (plain_monitor shown.number) in
        omega (arith, few, long)

    abbrev world_with : List Root → List PlainMonitor → World
    world_with roots ms = record (world_of roots shown rest) { monitors = ms }

    pub enter_goes : (now : List Monitor) → HasCounts rest → Taken ≡ enter_answer t rest.monitors k
        → now ≡ entered rest.monitors k t
        → Goes (λ roots taken. enters set (world_of roots shown rest) t pk) t shown rest
        (stepped.Did (op.Enter pk) reply.Done) shown (record rest { monitors = now })
    enter_goes now counts e left = did_goes (op.Enter pk) reply.Done (λ roots. entry_is roots Taken e) tt refl
        (monitor_found e)
        (λ roots. ap (λ ms. world_with roots (map (plain_monitor shown.number) ms)) left
        ∙ ap (world_with roots) (entered_plain shown one k known t rest.monitors monitors counts.monitors)
        ∙ ap (λ q. world_with roots (plain.entered (map (plain_monitor shown.number) rest.monitors) q t)) (sym
        is))
        (subst (λ ms. AllByRecursion (λ (m : Monitor). IsHeldKey shown m.key) ms) (sym left)
        (entered_known shown one k known t rest.monitors monitors))

    pub enter_waits : (u : ℕ) (now : List Monitor) → Held u ≡ enter_answer t rest.monitors k
        → now ≡ rest.monitors
        → Goes (λ roots taken. enters set (world_of roots shown rest) t pk) t shown rest
        (stepped.Waits (on.Monitor u)) shown (record rest { monitors = now })
    enter_waits u now e left =
        subst (λ ms. Goes (λ roots taken. enters set (world_of roots shown rest) t pk) t shown rest
        (stepped.Waits (on.Monitor u)) shown (record rest { monitors = ms })) (sym left)
        (waits_goes (on.Monitor u) (λ roots taken. entry_is roots (Held u) e) monitors)

    pub enter_full : (now : List Monitor) → NoRoom ≡ enter_answer t rest.monitors k → now ≡ rest.monitors
        → Goes (λ roots taken. enters set (world_of roots shown rest) t pk) t shown rest
        (stepped.Over (fault.Full (record { which = which.Monitors; need = 1; left = 0 }))) shown (record rest
        { monitors = now })
    enter_full now e left =
        let full = no_room t (length rest.monitors) (monitor_of rest.monitors k) e in
        let long : length (map (plain_monitor shown.number) rest.monitors) ≡ length rest.monitors =
        length-map rest.monitors (plain_monitor shown.number) in
        subst (λ ms. Goes (λ roots taken. enters set (world_of roots shown rest) t pk) t shown rest
        (stepped.Over (fault.Full (record { which = which.Monitors; need = 1; left = 0 }))) shown (record rest
        { monitors = ms })) (sym left)
        (limit_goes (fault.Full (record { which = which.Monitors; need = 1; left = 0 })) (λ roots. record {
          takes = (pk, entry_is roots NoRoom e, held_by_number ∙ ap (plain_held shown) full.1);
          need = refl;
          left = omega (arith, full.0, long);
          short = omega arith;
        }) refl monitors)

    -- ---- exits

    own_exit : (world : World) (o : Option Monitor) → IsHeldBy t o
        → exits_held set world t pk (plain_held shown o) ≡ Does (op.Exit pk) reply.Done
    own_exit world None by = absurd by
    own_exit world (Some m) by =
        ap (λ b. if b then Does (op.Exit pk) reply.Done else throws set world exception.IllegalMonitorState)
        (eq-eqb m.owner t by)

    other_exit : (world : World) (o : Option Monitor) → (IsHeldBy t o → ⊥)
        → exits_held set world t pk (plain_held shown o) ≡ throws set world exception.IllegalMonitorState
    other_exit world None by = refl
    other_exit world (Some m) by =
        ap (λ b. if b then Does (op.Exit pk) reply.Done else throws set world exception.IllegalMonitorState)
        (ne_eqb m.owner t by)

    pub exit_goes : (now : List Monitor) → IsHeldBy t (monitor_of rest.monitors k)
        → now ≡ exited rest.monitors k
        → Goes (λ roots taken. exits set (world_of roots shown rest) t pk) t shown rest
        (stepped.Did (op.Exit pk) reply.Done) shown (record rest { monitors = now })
    exit_goes now by left = did_goes (op.Exit pk) reply.Done
        (λ roots. ap (exits_held set (world_of roots shown rest) t pk) held_by_number
        ∙ own_exit (world_of roots shown rest) (monitor_of rest.monitors k) by) tt refl tt
        (λ roots. ap (λ ms. world_with roots (map (plain_monitor shown.number) ms)) left
        ∙ ap (world_with roots) (exited_plain shown one k known rest.monitors monitors)
        ∙ ap (λ q. world_with roots (plain.exited (map (plain_monitor shown.number) rest.monitors) q)) (sym is))
        (subst (λ ms. AllByRecursion (λ (m : Monitor). IsHeldKey shown m.key) ms) (sym left)
        (exited_known shown one k known rest.monitors monitors))

    pub exit_throws : (roots : List Root) → (IsHeldBy t (monitor_of rest.monitors k) → ⊥)
        → exits set (world_of roots shown rest) t pk ≡ throws set (world_of roots shown rest)
        exception.IllegalMonitorState
    exit_throws roots by = ap (exits_held set (world_of roots shown rest) t pk) held_by_number
        ∙ other_exit (world_of roots shown rest) (monitor_of rest.monitors k) by
