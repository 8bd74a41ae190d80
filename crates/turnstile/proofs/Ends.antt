-- How passes begin, part and end.
use Rattle.std.proofs.Common.{◌≡◌, ℕ, zero, suc, ◌<◌, ◌≤◌, List, [], ◌∷◌, ◌++◌, length, slice_get, set, sym, refl, subst, ap, ◌∙◌, arith, true, false, Bool, Some, Option as Maybe, if◌then◌else◌}
use mathlib.Core.Option.{some, none, some-injective, some-ne-none}
use mathlib.Core.Logic.{dite}
use native.Mathlib.Decide.{ℕ_discrete}
use lib.ListN.{get_elem?}
use Rattle.atomic_table.specs.Table.{State, opening, Splits, Joins, Final, Seen}
use Rattle.atomic_table.proofs.Lists.{set_else, at_longer}
use Rattle.std.proofs.lemmas.List.Elements.{All-nil}
use mathlib.Core.Option.{Option}
use Rattle.turnstile.specs.declared.view.Phase.{Phase}
use Rattle.turnstile.specs.declared.view.Phase.TheVariants.{Idle}
use Rattle.turnstile.specs.declared.view.View.{View}
use Rattle.turnstile.specs.Entries.{entries_by}
use Rattle.turnstile.specs.Hands.{times, hands_from, Agrees, Agree}
use Rattle.turnstile.specs.Views.{has_ticket, is_holding, found_entries, found_parts, total, active, weight, idle_with, cut_left, cut_right, joined}
use Rattle.turnstile.specs.Rules.{At, Keeps}
use Rattle.turnstile.proofs.Totals.{total_set, total_snoc, every_set, every_back, every_snoc, total_two, total_alone}
use Rattle.turnstile.proofs.Hands.{stock_length, stock_once, stock_agree, cut_length, cut_times, agree_without, agree_next, length_hands, times_hands, agree_both, times_le}
use Rattle.turnstile.proofs.Moves.{has_ticket_holding}

module _ {T E P : Type 0} (worker : E → ℕ) (entries : T → List E) (parts : T → List P) where
  one_view : (Q : ℕ → View E P → Type 0) (v : View E P) → Q 0 v → (j : ℕ) (u : View E P) → get_elem? (v ∷ []) j ≡ some u → Q j u
  one_view Q v here zero u e = subst (λ (x : View E P). Q 0 x) (some-injective v u e) here
  one_view Q v here (suc j) u e = absurd (some-ne-none u (sym e))

  pub begins : (passes : ℕ) (x : T) → entries x ≡ [] → length (parts x) ≡ passes → passes < 18446744073709551616
      → Keeps worker entries parts passes (opening (0 ∷ 0 ∷ []) (Some x ∷ []) (idle_with (hands_from 0 (parts x))))
  begins passes x none_yet each_part few =
      let v : View E P = idle_with (hands_from 0 (parts x)) in
      record {
        next = 0;
        now = 0;
        log = [];
        shares = parts x;
        words = refl;
        queue = refl;
        all = (let l = stock_length E (parts x) 0 in omega arith);
        few = few;
        apart = (λ y. let t = stock_once E (parts x) 0 y in omega arith);
        some_hand = one_view (λ j u. has_ticket u.phase ≡ true → 0 < length u.hands) v (λ d. absurd (cc d));
        tickets = one_view (λ j u. has_ticket u.phase ≡ true → (0 ≤ u.ticket) × (u.ticket < 0)) v (λ d. absurd (cc d));
        each = (λ a b u w atu atw. one_view (λ j u. has_ticket u.phase ≡ true → has_ticket w.phase ≡ true → u.ticket ≡ w.ticket → j ≡ b) v (λ d _ _. absurd (cc d)) a u atu);
        held = one_view (λ j u. is_holding u.phase ≡ true → (u.ticket ≡ 0) × (found_entries u.phase ≡ []) × (found_parts u.phase ≡ parts x) × ((some (Some x) ∷ []) ≡ (none ∷ []))) v
            (λ d. absurd (cc d));
        free = (λ away. (x, refl, none_yet, refl));
        agree = one_view (λ j u. Agree worker u.hands [] (parts x)) v (stock_agree worker (parts x) (parts x) 0 (λ m p at. subst (λ (n : ℕ). slice_get (parts x) n ≡ Some p) (omega arith) at));
        no_other = (λ y none_yet. refl);
      }

  pub splits : (passes i : ℕ) (v : View E P) → v.phase ≡ Idle
      → Splits (Keeps worker entries parts passes) i v (cut_left v) (cut_right v)
  splits passes i v is_idle s k at =
      let idle : has_ticket v.phase ≡ false = ap (λ (f : Phase E P). has_ticket f) is_idle in
      let free : is_holding v.phase ≡ false = ap (λ (f : Phase E P). is_holding f) is_idle in
      let l : View E P = cut_left v in
      let r : View E P = cut_right v in
      let one : List (View E P) = set s.views i l in
      let every : (Q : ℕ → View E P → Type 0) → Q i l → ((j : ℕ) → Q j r) → ((j : ℕ) (u : View E P) → At s.views j u → Q j u) → (j : ℕ) (u : View E P) → At (one ++ r ∷ []) j u → Q j u
      = λ Q pl pr old. every_snoc Q one r pr (every_set Q s.views i l pl (λ j u ne e. old j u e)) in
      record {
        next = k.next;
        now = k.now;
        log = k.log;
        shares = k.shares;
        words = k.words;
        queue = (let t = total_set active s.views i v l at in let u = total_snoc active one r in let q = k.queue in omega arith);
        all = (let t = total_set weight s.views i v l at in let u = total_snoc weight one r in let c = cut_length v.hands in let q = k.all in omega arith);
        few = k.few;
        apart = (λ y. let t = total_set (λ u. times y u.hands) s.views i v l at in let u = total_snoc (λ u. times y u.hands) one r in let c = cut_times y v.hands in let q = k.apart y in omega arith);
        some_hand = every (λ j u. has_ticket u.phase ≡ true → 0 < length u.hands) (λ d. absurd (cc (d, idle))) (λ j d. absurd (cc d)) k.some_hand;
        tickets = every (λ j u. has_ticket u.phase ≡ true → (k.now ≤ u.ticket) × (u.ticket < k.next)) (λ d. absurd (cc (d, idle))) (λ j d. absurd (cc d)) k.tickets;
        each = (λ a b u w atu atw.
            every (λ a u. has_ticket u.phase ≡ true → has_ticket w.phase ≡ true → u.ticket ≡ w.ticket → a ≡ b) (λ d _ _. absurd (cc (d, idle))) (λ j d _ _. absurd (cc d))
            (λ a u e. every (λ b w. has_ticket u.phase ≡ true → has_ticket w.phase ≡ true → u.ticket ≡ w.ticket → a ≡ b) (λ _ d _. absurd (cc (d, idle))) (λ j _ d _. absurd (cc d))
            (λ b w e'. k.each a b u w e e') b w atw)
            a u atu);
        held = every (λ j u. is_holding u.phase ≡ true → (u.ticket ≡ k.now) × (found_entries u.phase ≡ k.log) × (found_parts u.phase ≡ k.shares) × (s.homes ≡ none ∷ []))
            (λ d. absurd (cc (d, free))) (λ j d. absurd (cc d)) k.held;
        free = (λ away. k.free (every_back (λ j u. is_holding u.phase ≡ false) s.views i v l at free (λ j u e. away j u (at_longer one (r ∷ []) j u e))));
        agree = every (λ j u. Agree worker u.hands k.log k.shares) (agree_without worker k.log k.shares v.hands (k.agree i v at))
            (λ j. agree_next worker k.log k.shares v.hands (k.agree i v at)) k.agree;
        no_other = (λ y none_yet. k.no_other y
            (let t = total_set (λ u. times y u.hands) s.views i v l at in let u = total_snoc (λ u. times y u.hands) one r in let c = cut_times y v.hands in omega arith));
      }

  pub joins : (passes i o : ℕ) (v w : View E P) → v.phase ≡ Idle → w.phase ≡ Idle
      → Joins (Keeps worker entries parts passes) i v o w (joined v w) (idle_with [])
  joins passes i o v w is_idle is_idle' s k at other at' =
      let idle : has_ticket v.phase ≡ false = ap (λ (f : Phase E P). has_ticket f) is_idle in
      let free : is_holding v.phase ≡ false = ap (λ (f : Phase E P). is_holding f) is_idle in
      let idle' : has_ticket w.phase ≡ false = ap (λ (f : Phase E P). has_ticket f) is_idle' in
      let free' : is_holding w.phase ≡ false = ap (λ (f : Phase E P). is_holding f) is_idle' in
      let b : View E P = joined v w in
      let e : View E P = idle_with [] in
      let one : List (View E P) = set s.views i b in
      let here : get_elem? s.views o ≡ some w = sym (set_else s.views i o b other) ∙ at' in
      let every : (Q : ℕ → View E P → Type 0) → Q i b → Q o e → ((j : ℕ) (u : View E P) → At s.views j u → Q j u) → (j : ℕ) (u : View E P) → At (set one o e) j u → Q j u
      = λ Q pb pe old. every_set Q one o e pe (λ j u ne. every_set Q s.views i b pb (λ j u ne e. old j u e) j u) in
      record {
        next = k.next;
        now = k.now;
        log = k.log;
        shares = k.shares;
        words = k.words;
        queue = (let t = total_set active s.views i v b at in let u = total_set active one o w e at' in let z : active w ≡ 0 = ap (λ (c : Bool). if c then 1 else 0) idle' in let q = k.queue in
            omega arith);
        all = (let t = total_set weight s.views i v b at in let u = total_set weight one o w e at' in let c = length_hands v.hands w.hands in let q = k.all in omega arith);
        few = k.few;
        apart = (λ y. let t = total_set (λ u. times y u.hands) s.views i v b at in let u = total_set (λ u. times y u.hands) one o w e at' in let c = times_hands y v.hands w.hands in
            let q = k.apart y in omega arith);
        some_hand = every (λ j u. has_ticket u.phase ≡ true → 0 < length u.hands) (λ d. absurd (cc (d, idle))) (λ d. absurd (cc d)) k.some_hand;
        tickets = every (λ j u. has_ticket u.phase ≡ true → (k.now ≤ u.ticket) × (u.ticket < k.next)) (λ d. absurd (cc (d, idle))) (λ d. absurd (cc d)) k.tickets;
        each = (λ a c u x atu atx.
            every (λ a u. has_ticket u.phase ≡ true → has_ticket x.phase ≡ true → u.ticket ≡ x.ticket → a ≡ c) (λ d _ _. absurd (cc (d, idle))) (λ d _ _. absurd (cc d))
            (λ a u h. every (λ c x. has_ticket u.phase ≡ true → has_ticket x.phase ≡ true → u.ticket ≡ x.ticket → a ≡ c) (λ _ d _. absurd (cc (d, idle))) (λ _ d _. absurd (cc d))
            (λ c x h'. k.each a c u x h h') c x atx)
            a u atu);
        held = every (λ j u. is_holding u.phase ≡ true → (u.ticket ≡ k.now) × (found_entries u.phase ≡ k.log) × (found_parts u.phase ≡ k.shares) × (s.homes ≡ none ∷ []))
            (λ d. absurd (cc (d, free))) (λ d. absurd (cc d)) k.held;
        free = (λ away. k.free (every_back (λ j u. is_holding u.phase ≡ false) s.views i v b at free (every_back (λ j u. is_holding u.phase ≡ false) one o w e at' free' away)));
        agree = every (λ j u. Agree worker u.hands k.log k.shares) (agree_both worker k.log k.shares v.hands w.hands (k.agree i v at) (k.agree o w here))
            (All-nil (λ h. Agrees worker h k.log k.shares)) k.agree;
        no_other = (λ y none_yet. k.no_other y (
            let t = total_set (λ u. times y u.hands) s.views i v b at in
            let u = total_set (λ u. times y u.hands) one o w e at' in
            let c = times_hands y v.hands w.hands in omega arith));
      }

  -- where one pass has all hands, nobody holds the value
  alone : (passes : ℕ) (s : State (Maybe T) (View E P)) (i : ℕ) (v : View E P) (k : Keeps worker entries parts passes s) → At s.views i v
      → is_holding v.phase ≡ false → length v.hands ≡ passes → (j : ℕ) (u : View E P) → At s.views j u → (b : Bool) → is_holding u.phase ≡ b → b ≡ false
  alone passes s i v k at free all j u e false h = refl
  alone passes s i v k at free all j u e true h =
      let some_hand = k.some_hand j u e (has_ticket_holding u.phase h) in
      dite (ℕ_discrete j i)
      (λ same. absurd (cc (h, free, ap (λ (w : View E P). is_holding w.phase) (some-injective u v (sym e ∙ (ap (λ (n : ℕ). get_elem? s.views n) same ∙ at))))))
      (λ ne. let t = total_two weight s.views i j v u at e ne in let q = k.all in absurd (omega arith))

  pub closes : (passes i : ℕ) (v : View E P) (ws : List ℕ) (xs : List (Maybe T)) → is_holding v.phase ≡ false → length v.hands ≡ passes
      → Final (Seen (Keeps worker entries parts passes) i v) ws xs
      → (x : T) × (get_elem? xs 0 ≡ some (Some x)) × Agree worker v.hands (entries x) (parts x) × ((n : ℕ) → times n v.hands ≡ 0 → entries_by worker n (entries x) ≡ [])
  closes passes i v ws xs free all last =
      let s = last.0 in
      let k = last.1.0 in
      let at = last.1.1 in
      let home = k.free (λ j u e. alone passes s i v k at free all j u e (is_holding u.phase) refl) in
      let x = home.0 in
      let whole : total weight s.views ≡ weight v = k.all ∙ sym all in (
        x,
        last.4 0 (Some x) (ap (λ (h : List (Option (Maybe T))). get_elem? h 0) home.1),
        subst (λ (l : List E). Agree worker v.hands l (parts x)) (sym home.2) (subst (λ (ps : List P). Agree worker v.hands k.log ps) (sym home.3) (k.agree i v at)),
        (λ n none_here. subst (λ (l : List E). entries_by worker n l ≡ []) (sym home.2)
            (k.no_other n (total_alone (λ u. times n u.hands) weight s.views i v (λ u. times_le n u.hands) at whole ∙ none_here))),
      )
