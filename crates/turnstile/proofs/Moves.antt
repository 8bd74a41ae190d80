-- Each step keeps the rule.
use Rattle.std.proofs.Common.{◌≡◌, ℕ, ◌+◌, ◌%◌, ◌<◌, ◌≤◌, ◌≢◌, ◌==◌, List, [], ◌∷◌, ◌++◌, length, slice_get, slice_index, slice_set, set, sym, refl, subst, ap, ◌∙◌, arith, true, false, Bool}
use Rattle.std.proofs.Common.{Some, Option as Maybe, if◌then◌else◌, MatchBool}
use Rattle.std.proofs.Math.Nat.{mod-add-mod}
use Rattle.std.proofs.lemmas.Bool.Decides.{nat_tests}
use mathlib.Core.Option.{Option, some, none, some-injective}
use lib.ListN.{get_elem?}
use Rattle.atomic_table.specs.Table.{State, Me, Act, keeps, takes, gives, Step, Allows, Valid, homes_after, carried_after}
use Rattle.atomic_table.proofs.Lists.{set_again, one_turn}
use Rattle.turnstile.specs.declared.view.Phase.{Phase}
use Rattle.turnstile.specs.declared.view.Phase.TheVariants.{Idle, Waiting, Holding}
use Rattle.turnstile.specs.declared.view.View.{View}
use Rattle.turnstile.specs.Entries.{entries_by}
use Rattle.turnstile.specs.Hands.{times, own_number, Agree, left_with}
use Rattle.turnstile.specs.Views.{has_ticket, is_holding, found_entries, found_parts, total, active, weight, waiting, holding, leaving}
use Rattle.turnstile.specs.Rules.{At, Keeps, Drawn, Found, Looked, Raised, Adds}
use Rattle.turnstile.proofs.Entries.{entries_else}
use Rattle.turnstile.proofs.Hands.{left_agree, else_agree, left_length, left_times, times_own}
use Rattle.turnstile.proofs.Totals.{total_set, every_set, every_back, at_here, tickets_fit, total_at, total_two}

module _ {E P : Type 0} where
  -- who is holding has a ticket
  pub has_ticket_holding : (f : Phase E P) → is_holding f ≡ true → has_ticket f ≡ true
  has_ticket_holding Idle h = absurd (cc h)
  has_ticket_holding Waiting h = absurd (cc h)
  has_ticket_holding (Holding found parts) h = refl

module _ {T E P : Type 0} (worker : E → ℕ) (entries : T → List E) (parts : T → List P) where
  abbrev pub one_more : State (Maybe T) (View E P) → List (Option (Maybe T)) → ℕ → ℕ → ℕ → View E P → State (Maybe T) (View E P)
  one_more s homes next now i w = record { words = next % 18446744073709551616 ∷ now % 18446744073709551616 ∷ []; homes = homes; views = set s.views i w }

  pub draw_keeps : (passes : ℕ) (s : State (Maybe T) (View E P)) (i : ℕ) (v : View E P) (k : Keeps worker entries parts passes s) → At s.views i v
      → v.phase ≡ Idle → 0 < length v.hands
      → Keeps worker entries parts passes (one_more s s.homes (k.next + 1) k.now i (waiting v k.next))
  draw_keeps passes s i v k at idle some_hand =
      let n : View E P = waiting v k.next in
      let q = k.queue in
      record {
        next = k.next + 1;
        now = k.now;
        log = k.log;
        shares = k.shares;
        words = refl;
        queue = (let t = total_set active s.views i v n at in let z : active v ≡ 0 = ap (λ (f : Phase E P). if has_ticket f then 1 else 0) idle in omega arith);
        all = (let t = total_set weight s.views i v n at in let a = k.all in omega arith);
        few = k.few;
        apart = (λ x. let t = total_set (λ u. times x u.hands) s.views i v n at in let a = k.apart x in omega arith);
        some_hand = every_set (λ j u. has_ticket u.phase ≡ true → 0 < length u.hands) s.views i n (λ _. some_hand) (λ j u ne e. k.some_hand j u e);
        tickets = every_set (λ j u. has_ticket u.phase ≡ true → (k.now ≤ u.ticket) × (u.ticket < k.next + 1)) s.views i n (λ _. (omega arith, omega arith))
            (λ j u ne e d. let t = k.tickets j u e d in (t.0, let l = t.1 in omega arith));
        each = (λ a b u w atu atw.
            every_set (λ a u. has_ticket u.phase ≡ true → has_ticket w.phase ≡ true → u.ticket ≡ w.ticket → a ≡ b) s.views i n
            (every_set (λ b w. has_ticket n.phase ≡ true → has_ticket w.phase ≡ true → n.ticket ≡ w.ticket → i ≡ b) s.views i n (λ _ _ _. refl)
            (λ b w ne e _ d same. let t = (k.tickets b w e d).1 in absurd (omega arith)) b w atw)
            (λ a u ne e. every_set (λ b w. has_ticket u.phase ≡ true → has_ticket w.phase ≡ true → u.ticket ≡ w.ticket → a ≡ b) s.views i n
            (λ d _ same. let t = (k.tickets a u e d).1 in absurd (omega arith)) (λ b w ne' e'. k.each a b u w e e') b w atw)
            a u atu);
        held = every_set (λ j u. is_holding u.phase ≡ true → (u.ticket ≡ k.now) × (found_entries u.phase ≡ k.log) × (found_parts u.phase ≡ k.shares) × (s.homes ≡ none ∷ [])) s.views i n
            (λ h. absurd (cc h)) (λ j u ne e. k.held j u e);
        free = (λ away. k.free (every_back (λ j u. is_holding u.phase ≡ false) s.views i v n at (ap (λ (f : Phase E P). is_holding f) idle) away));
        agree = every_set (λ j u. Agree worker u.hands k.log k.shares) s.views i n (k.agree i v at) (λ j u ne e. k.agree j u e);
        no_other = (λ x none_yet. k.no_other x (let t = total_set (λ u. times x u.hands) s.views i v n at in omega arith));
      }

  pub draw_allows : (passes slots i : ℕ) (me : Me (Maybe T) (View E P)) (ask : Step (Maybe T))
      → me.0.phase ≡ Idle → 0 < length me.0.hands
      → Allows (Keeps worker entries parts passes) slots i me 0 (λ n. (n + 1) % 18446744073709551616) (Drawn worker entries parts ask me)
  draw_allows passes slots i me ask idle some_hand s k len at range =
      let Q : List ℕ → Type 0 = λ ws.
      (w : View E P) × (a : Act (Maybe T)) × Valid s.homes me.1 a
      × Keeps worker entries parts passes record { words = slice_set ws 0 ((slice_index ws 0 + 1) % 18446744073709551616); homes = homes_after s.homes me.1 a; views = slice_set s.views i w }
      × Drawn worker entries parts ask me (slice_index ws 0) (w, carried_after me.1 a) in
      subst Q (sym k.words) (
        waiting me.0 k.next,
        keeps,
        tt,
        subst (λ (n : ℕ). Keeps worker entries parts passes record { words = n ∷ k.now % 18446744073709551616 ∷ []; homes = s.homes; views = set s.views i (waiting me.0 k.next) })
            (sym (mod-add-mod k.next 18446744073709551616 1))
            (draw_keeps passes s i me.0 k at idle some_hand),
        (k.next, refl, refl),
      )

  pub look_keeps : (passes : ℕ) (s : State (Maybe T) (View E P)) (i : ℕ) (v : View E P) (x : T) (k : Keeps worker entries parts passes s) → At s.views i v
      → has_ticket v.phase ≡ true → v.ticket ≡ k.now → entries x ≡ k.log → parts x ≡ k.shares
      → Keeps worker entries parts passes (one_more s (none ∷ []) k.next k.now i (holding v (entries x) (parts x)))
  look_keeps passes s i v x k at drawn turn is is_parts =
      let n : View E P = holding v (entries x) (parts x) in
      record {
        next = k.next;
        now = k.now;
        log = k.log;
        shares = k.shares;
        words = refl;
        queue = (let t = total_set active s.views i v n at in let z : active v ≡ 1 = ap (λ (b : Bool). if b then 1 else 0) drawn in let q = k.queue in omega arith);
        all = (let t = total_set weight s.views i v n at in let a = k.all in omega arith);
        few = k.few;
        apart = (λ x. let t = total_set (λ u. times x u.hands) s.views i v n at in let a = k.apart x in omega arith);
        some_hand = every_set (λ j u. has_ticket u.phase ≡ true → 0 < length u.hands) s.views i n (λ _. k.some_hand i v at drawn) (λ j u ne e. k.some_hand j u e);
        tickets = every_set (λ j u. has_ticket u.phase ≡ true → (k.now ≤ u.ticket) × (u.ticket < k.next)) s.views i n (λ _. k.tickets i v at drawn) (λ j u ne e. k.tickets j u e);
        each = (λ a b u w atu atw.
            every_set (λ a u. has_ticket u.phase ≡ true → has_ticket w.phase ≡ true → u.ticket ≡ w.ticket → a ≡ b) s.views i n
            (every_set (λ b w. has_ticket n.phase ≡ true → has_ticket w.phase ≡ true → n.ticket ≡ w.ticket → i ≡ b) s.views i n (λ _ _ _. refl)
            (λ b w ne e _ d same. k.each i b v w at e drawn d same) b w atw)
            (λ a u ne e. every_set (λ b w. has_ticket u.phase ≡ true → has_ticket w.phase ≡ true → u.ticket ≡ w.ticket → a ≡ b) s.views i n (λ d _ same. k.each a i u v e at d drawn same)
            (λ b w ne' e'. k.each a b u w e e') b w atw)
            a u atu);
        held = every_set (λ j u. is_holding u.phase ≡ true → (u.ticket ≡ k.now) × (found_entries u.phase ≡ k.log) × (found_parts u.phase ≡ k.shares) × ((none ∷ []) ≡ (none ∷ []))) s.views i n
            (λ _. (turn, is, is_parts, refl))
            (λ j u ne e h. let o = k.held j u e h in absurd (ne (k.each j i u v e at (has_ticket_holding u.phase h) drawn (o.0 ∙ sym turn))));
        free = (λ away. absurd (cc (away i n (at_here s.views i v n at))));
        agree = every_set (λ j u. Agree worker u.hands k.log k.shares) s.views i n (k.agree i v at) (λ j u ne e. k.agree j u e);
        no_other = (λ x none_yet. k.no_other x (let t = total_set (λ u. times x u.hands) s.views i v n at in omega arith));
      }

  -- where its turn has come, nobody holds the value
  nobody : (passes : ℕ) (s : State (Maybe T) (View E P)) (i : ℕ) (v : View E P) (k : Keeps worker entries parts passes s) → At s.views i v
      → has_ticket v.phase ≡ true → is_holding v.phase ≡ false → v.ticket ≡ k.now → (j : ℕ) (u : View E P) → At s.views j u → (b : Bool) → is_holding u.phase ≡ b → b ≡ false
  nobody passes s i v k at drawn free turn j u e false h = refl
  nobody passes s i v k at drawn free turn j u e true h =
      let o = k.held j u e h in
      let same : j ≡ i = k.each j i u v e at (has_ticket_holding u.phase h) drawn (o.0 ∙ sym turn) in
      let u_is : u ≡ v = some-injective u v (sym e ∙ (ap (λ (n : ℕ). get_elem? s.views n) same ∙ at)) in
      absurd (cc (h, free, ap (λ (w : View E P). is_holding w.phase) u_is))

  look_by : (passes i : ℕ) (me : Me (Maybe T) (View E P)) (ask : Step (Maybe T)) (s : State (Maybe T) (View E P)) (k : Keeps worker entries parts passes s) → At s.views i me.0
      → has_ticket me.0.phase ≡ true → is_holding me.0.phase ≡ false
      → (b : Bool) → ((k.now % 18446744073709551616) == (me.0.ticket % 18446744073709551616)) ≡ b
      → (w : View E P) × (a : Act (Maybe T)) × Valid s.homes me.1 a
      × Keeps worker entries parts passes record { words = k.next % 18446744073709551616 ∷ k.now % 18446744073709551616 ∷ []; homes = homes_after s.homes me.1 a; views = slice_set s.views i w }
      × MatchBool b (Found worker entries parts me (w, carried_after me.1 a)) ((w, carried_after me.1 a) ≡ me)
  look_by passes i me ask s k at drawn free true is =
      let t = k.tickets i me.0 at drawn in
      let fit = tickets_fit s.views k.some_hand in
      let q = k.queue in let al = k.all in let few = k.few in
      let l0 = t.0 in let l1 = t.1 in
      let same : k.now % 18446744073709551616 ≡ me.0.ticket % 18446744073709551616 = grind (arith, nat_tests) in
      let turn : me.0.ticket ≡ k.now = sym (one_turn k.now me.0.ticket 18446744073709551616 l0 (omega arith) same) in
      let home = k.free (λ j u e. nobody passes s i me.0 k at drawn free turn j u e (is_holding u.phase) refl) in
      let x = home.0 in (
        holding me.0 (entries x) (parts x),
        takes 0 (Some x),
        ap (λ (h : List (Option (Maybe T))). get_elem? h 0) home.1,
        subst (λ (h : List (Option (Maybe T))). Keeps worker entries parts passes (one_more s (slice_set h 0 none) k.next k.now i (holding me.0 (entries x) (parts x)))) (sym home.1)
            (look_keeps passes s i me.0 x k at drawn turn home.2 home.3),
        (x, refl, subst (λ (l : List E). Agree worker me.0.hands l (parts x)) (sym home.2) (subst (λ (ps : List P). Agree worker me.0.hands k.log ps) (sym home.3) (k.agree i me.0 at))),
      )
  look_by passes i me ask s k at drawn free false is = (
    me.0,
    keeps,
    tt,
    subst (λ (vs : List (View E P)). Keeps worker entries parts passes record { words = k.next % 18446744073709551616 ∷ k.now % 18446744073709551616 ∷ []; homes = s.homes; views = vs })
        (sym (set_again s.views i me.0 at))
        (subst (λ (ws : List ℕ). Keeps worker entries parts passes record { words = ws; homes = s.homes; views = s.views }) k.words k),
    refl,
  )

  pub look_allows : (passes slots i : ℕ) (me : Me (Maybe T) (View E P)) (ask : Step (Maybe T))
      → me.0.phase ≡ Waiting
      → Allows (Keeps worker entries parts passes) slots i me 1 (λ n. n) (Looked worker entries parts ask me)
  look_allows passes slots i me ask waits s k len at range =
      let drawn : has_ticket me.0.phase ≡ true = ap (λ (f : Phase E P). has_ticket f) waits in
      let free : is_holding me.0.phase ≡ false = ap (λ (f : Phase E P). is_holding f) waits in
      let Q : List ℕ → Type 0 = λ ws.
      (w : View E P) × (a : Act (Maybe T)) × Valid s.homes me.1 a
      × Keeps worker entries parts passes record { words = slice_set ws 1 (slice_index ws 1); homes = homes_after s.homes me.1 a; views = slice_set s.views i w }
      × Looked worker entries parts ask me (slice_index ws 1) (w, carried_after me.1 a) in
      subst Q (sym k.words) (look_by passes i me ask s k at drawn free ((k.now % 18446744073709551616) == (me.0.ticket % 18446744073709551616)) refl)

  -- what the pass that leaves knows then
  left_known : (passes : ℕ) (s : State (Maybe T) (View E P)) (i : ℕ) (v : View E P) (x : T) (k : Keeps worker entries parts passes s) → At s.views i v
      → is_holding v.phase ≡ true → Adds worker v (entries x) (parts x) → Agree worker (left_with worker v.hands (entries x) (parts x)) (entries x) (parts x)
  left_known passes s i v x k at holds adds =
      let h = k.held i v at holds in
      let more = adds.0.further in
      let grown : k.log ++ more ≡ entries x = ap (λ (l : List E). l ++ more) (sym h.1) ∙ adds.0.behind in
      let count : length (parts x) ≡ length k.shares = adds.1.count ∙ ap (λ (ps : List P). length ps) h.2 in
      let others : (m : ℕ) → m ≢ own_number v.hands → slice_get (parts x) m ≡ slice_get k.shares m = λ m ne. adds.1.others m ne ∙ ap (λ (ps : List P). slice_get ps m) h.2 in
      subst (λ (l : List E). Agree worker (left_with worker v.hands l (parts x)) l (parts x)) grown
      (left_agree worker v.hands k.log more k.shares (parts x) (k.agree i v at) adds.0.own count others
      (λ y. let t = total_at (λ u. times y u.hands) s.views i v at in let a = k.apart y in omega arith))

  pub raise_keeps : (passes : ℕ) (s : State (Maybe T) (View E P)) (i : ℕ) (v : View E P) (x : T) (k : Keeps worker entries parts passes s) → At s.views i v
      → is_holding v.phase ≡ true → Adds worker v (entries x) (parts x)
      → Keeps worker entries parts passes (one_more s (some (Some x) ∷ []) k.next (k.now + 1) i (leaving worker v (entries x) (parts x)))
  raise_keeps passes s i v x k at holds adds =
      let n : View E P = leaving worker v (entries x) (parts x) in
      let h = k.held i v at holds in
      let drawn = has_ticket_holding v.phase holds in let turn = h.0 in let found = h.1 in let more = adds.0.further in
      let grown : k.log ++ more ≡ entries x = ap (λ (l : List E). l ++ more) (sym found) ∙ adds.0.behind in
      let others : (m : ℕ) → m ≢ own_number v.hands → slice_get (parts x) m ≡ slice_get k.shares m = λ m ne. adds.1.others m ne ∙ ap (λ (ps : List P). slice_get ps m) h.2 in
      let hand = k.some_hand i v at drawn in
      -- no other pass holds the ticket that is served
      let alone : (j : ℕ) (u : View E P) → j ≢ i → At s.views j u → has_ticket u.phase ≡ true → u.ticket ≢ k.now = λ j u ne e d same. ne (k.each j i u v e at d drawn (same ∙ sym turn)) in
      record {
        next = k.next;
        now = k.now + 1;
        log = entries x;
        shares = parts x;
        words = refl;
        queue = (let t = total_set active s.views i v n at in let z : active v ≡ 1 = ap (λ (b : Bool). if b then 1 else 0) drawn in let q = k.queue in omega arith);
        all = (let t = total_set weight s.views i v n at in let a = k.all in let w = left_length worker v.hands (entries x) (parts x) in omega arith);
        few = k.few;
        apart = (λ y. let t = total_set (λ u. times y u.hands) s.views i v n at in let a = k.apart y in let w = left_times worker y v.hands (entries x) (parts x) in omega arith);
        some_hand = every_set (λ j u. has_ticket u.phase ≡ true → 0 < length u.hands) s.views i n (λ d. absurd (cc d)) (λ j u ne e. k.some_hand j u e);
        tickets = every_set (λ j u. has_ticket u.phase ≡ true → (k.now + 1 ≤ u.ticket) × (u.ticket < k.next)) s.views i n (λ d. absurd (cc d))
            (λ j u ne e d. let t = k.tickets j u e d in let l = t.0 in let other = alone j u ne e d in (omega arith, t.1));
        each = (λ a b u w atu atw.
            every_set (λ a u. has_ticket u.phase ≡ true → has_ticket w.phase ≡ true → u.ticket ≡ w.ticket → a ≡ b) s.views i n
            (λ d _ _. absurd (cc d))
            (λ a u ne e. every_set (λ b w. has_ticket u.phase ≡ true → has_ticket w.phase ≡ true → u.ticket ≡ w.ticket → a ≡ b) s.views i n (λ _ d _. absurd (cc d))
            (λ b w ne' e'. k.each a b u w e e') b w atw)
            a u atu);
        held = every_set (λ j u. is_holding u.phase ≡ true
            → (u.ticket ≡ k.now + 1) × (found_entries u.phase ≡ entries x) × (found_parts u.phase ≡ parts x) × ((some (Some x) ∷ []) ≡ (none ∷ []))) s.views i n (λ d. absurd (cc d))
            (λ j u ne e d. let o = k.held j u e d in absurd (alone j u ne e (has_ticket_holding u.phase d) o.0));
        free = (λ away. (x, refl, refl, refl));
        agree = every_set (λ j u. Agree worker u.hands (entries x) (parts x)) s.views i n
            (left_known passes s i v x k at holds adds)
            (λ j u ne e. subst (λ (l : List E). Agree worker u.hands l (parts x)) grown
            (else_agree worker v.hands u.hands k.log more k.shares (parts x) (k.agree j u e) adds.0.own others hand
            (λ y. let t = total_two (λ u. times y u.hands) s.views i j v u at e ne in let a = k.apart y in omega arith)));
        no_other = (λ y none_yet.
            let t = total_set (λ u. times y u.hands) s.views i v n at in
            let w = left_times worker y v.hands (entries x) (parts x) in
            let none_before : total (λ u. times y u.hands) s.views ≡ 0 = omega arith in
            let ne : y ≢ own_number v.hands = λ same.
            let o : 1 ≤ times y v.hands = subst (λ (m : ℕ). 1 ≤ times m v.hands) (sym same) (times_own v.hands hand) in
            let a = total_at (λ u. times y u.hands) s.views i v at in absurd (omega arith) in
            subst (λ (l : List E). entries_by worker y l ≡ []) grown (entries_else worker y (own_number v.hands) k.log more adds.0.own ne ∙ k.no_other y none_before));
      }

  pub raise_allows : (passes slots i : ℕ) (v : View E P) (x : T) (ask : Step (Maybe T))
      → is_holding v.phase ≡ true → Adds worker v (entries x) (parts x)
      → Allows (Keeps worker entries parts passes) slots i (v, (0, Some x) ∷ []) 1 (λ n. (n + 1) % 18446744073709551616) (Raised worker entries parts ask (v, (0, Some x) ∷ []))
  raise_allows passes slots i v x ask holds adds s k len at range =
      let me : Me (Maybe T) (View E P) = (v, (0, Some x) ∷ []) in
      let Q : List ℕ → List (Option (Maybe T)) → Type 0 = λ ws hs.
      (w : View E P) × (a : Act (Maybe T)) × Valid hs me.1 a
      × Keeps worker entries parts passes record { words = slice_set ws 1 ((slice_index ws 1 + 1) % 18446744073709551616); homes = homes_after hs me.1 a; views = slice_set s.views i w }
      × Raised worker entries parts ask me (slice_index ws 1) (w, carried_after me.1 a) in
      subst (λ (ws : List ℕ). Q ws s.homes) (sym k.words)
      (subst (λ (hs : List (Option (Maybe T))). Q (k.next % 18446744073709551616 ∷ k.now % 18446744073709551616 ∷ []) hs) (sym (k.held i v at holds).3) (
        leaving worker v (entries x) (parts x),
        gives,
        tt,
        subst (λ (n : ℕ). Keeps worker entries parts passes record {
          words = k.next % 18446744073709551616 ∷ n ∷ [];
          homes = some (Some x) ∷ [];
          views =
              set s.views i (leaving worker v (entries x) (parts x));
        }) (sym (mod-add-mod k.now 18446744073709551616 1))
            (raise_keeps passes s i v x k at holds adds),
        (x, refl, refl, left_known passes s i v x k at holds adds),
      ))
