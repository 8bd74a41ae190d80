-- A guarded place was guarded within the region that is open.
use Rattle.std.proofs.Common.{◌≡◌, ◌⊎◌, ℕ, ◌<◌, Bool, true, false, List, [], ◌∷◌, ◌++◌, filter, refl, ap, sym, ◌∙◌, subst}
use Rattle.std.proofs.Common.{arith, inl, inr, nat_eq, ◌||◌, if◌then◌else◌, append_assoc}
use Rattle.std.specs.Prelude.{◌≢◌, Option, Some, None, All}
use Rattle.std.proofs.lemmas.Bool.{eqb-true, eq-eqb, false≢true}
use Rattle.std.proofs.lemmas.List.Elements.{All-nil, All-cons, All-head, All-tail, All-filter, All-push}
use Rattle.ap_base.specs.declared.place.Place.{Place}
use Rattle.graph_model.specs.declared.types.Value.{Value}
use Rattle.graph_model.specs.declared.types.Graph.{Graph}
use Rattle.graph_model.specs.Heaps.{place_is}
use Rattle.run_history.specs.declared.act.Op.{Op}
use Rattle.run_history.specs.declared.act.Op.TheVariants as op
use Rattle.run_history.specs.Recorded.{Recorded}
use Rattle.run_history.specs.Worlds.{depth_of}
use Rattle.run_history.specs.Knowing.{Knowledge, Guard, known_after_op, next_known, after_end, is_outermost, guard_of}
use Rattle.run_history.specs.Knowing.{has_guards, durable_at}
use Rattle.plain_model.specs.Facts.{SetFacts}
use Rattle.plain_model.specs.Codes.{Code}
use Rattle.plain_model.specs.Runs.{IsPlainRun, Rule, MayStore, known_of, wants_of, request_after, is_guarded_by}
use Rattle.plain_model.specs.RunLaws.{WasGuarded, begins, ends}
use Rattle.plain_model.proofs.RunKeeps.{run_keeps}
use Rattle.plain_model.proofs.Depths.{IsDeep, deep_keeps, first_depth}
use Rattle.plain_model.proofs.Guarding.{GuardsOpen, open_keeps, place_same, not_of}
use Rattle.plain_model.proofs.Visible.{may_act, plain_front}

-- a front of a list with one more element is all of it, or a front of the list
front_of : (middle later rest : List Recorded) (b : Recorded) → rest ++ b ∷ [] ≡ middle ++ later
    → (middle ≡ rest ++ b ∷ []) ⊎ ((more : List Recorded) × (rest ≡ middle ++ more))
front_of [] later rest b is = inr (rest, refl)
front_of (m ∷ middle) later [] b is =
    let it : b ∷ [] ≡ m ∷ (middle ++ later) = is in
    let heads : b ≡ m = cc in
    let tails : ◌≡◌ {A = List Recorded} [] (middle ++ later) = cc in
    inl (only middle tails heads)
  where
    only : (xs : List Recorded) → [] ≡ xs ++ later → b ≡ m → m ∷ xs ≡ b ∷ []
    only [] none same = ap (λ x. x ∷ []) (sym same)
    only (x ∷ xs) none same = absurd (let no : ◌≡◌ {A = List Recorded} [] (x ∷ (xs ++ later)) = none in cc)
front_of (m ∷ middle) later (r ∷ rest) b is =
    let it : r ∷ (rest ++ b ∷ []) ≡ m ∷ (middle ++ later) = is in
    let heads : r ≡ m = cc in
    let tails : rest ++ b ∷ [] ≡ middle ++ later = cc in
    elim (front_of middle later rest b tails) [
      | inl all ↦ inl (ap (λ xs. m ∷ xs) all ∙ ap (λ x. x ∷ (rest ++ b ∷ [])) (sym heads))
      | inr (more, front) ↦ inr (more, ap (λ xs. r ∷ xs) front ∙ ap (λ x. x ∷ (middle ++ more)) heads)
    ]

-- a region that was open and is open after one more act
still_guarded : (before : List Recorded) (t : ℕ) (place : Place) (b : Recorded)
    → ends t (before ++ b ∷ []) < begins t (before ++ b ∷ []) → WasGuarded before t place
    → WasGuarded (before ++ b ∷ []) t place
still_guarded before t place b open_now was =
    let here : before ++ b ∷ [] ≡ was.front ++ was.guarded ∷ (was.rest ++ b ∷ []) =
    ap (λ acts. acts ++ b ∷ []) was.is_here ∙ append_assoc was.front (was.guarded ∷ was.rest) (b ∷ []) in
    record {
      front = was.front;
      guarded = was.guarded;
      rest = was.rest ++ b ∷ [];
      is_here = here;
      by_thread = was.by_thread;
      is_guarded = was.is_guarded;
      is_open = λ middle later is. elim (front_of middle later was.rest b is) [
        | inl all ↦ subst (λ xs. ends t xs < begins t xs) (here ∙ ap (λ xs. was.front ++ was.guarded ∷ xs)
            (sym all)) open_now
        | inr (more, front) ↦ was.is_open middle more front
      ];
    }

just_guarded : (before : List Recorded) (place : Place) (b : Recorded) → b.act.op ≡ op.Guarded place
    → ends b.act.thread (before ++ b ∷ []) < begins b.act.thread (before ++ b ∷ [])
    → WasGuarded (before ++ b ∷ []) b.act.thread place
just_guarded before place b is open_now = record {
  front = before;
  guarded = b;
  rest = [];
  is_here = refl;
  by_thread = refl;
  is_guarded = is;
  is_open = λ middle later none. only_here middle later none;
}
  where
    only_here : (middle later : List Recorded) → [] ≡ middle ++ later
        → ends b.act.thread (before ++ b ∷ middle) < begins b.act.thread (before ++ b ∷ middle)
    only_here [] later none = open_now
    only_here (m ∷ middle) later none =
        absurd (let no : ◌≡◌ {A = List Recorded} [] (m ∷ (middle ++ later)) = none in cc)

abbrev Were : List Recorded → Guard → Type 0
Were before g = WasGuarded before g.thread g.place

-- each guard's region is open: what each guard has, each has with one more act
all_still : (before : List Recorded) (b : Recorded) (gs : List Guard)
    → ((t : ℕ) → has_guards gs t ≡ true → ends t (before ++ b ∷ []) < begins t (before ++ b ∷ []))
    → All (λ g. ends g.thread (before ++ b ∷ []) < begins g.thread (before ++ b ∷ [])
    → Were (before ++ b ∷ []) g) gs
    → All (Were (before ++ b ∷ [])) gs
all_still before b [] open_now all = All-nil (Were (before ++ b ∷ []))
all_still before b (g ∷ gs) open_now all =
    let Then : Guard → Type 0 = λ g. ends g.thread (before ++ b ∷ []) < begins g.thread (before ++ b ∷ [])
    → Were (before ++ b ∷ []) g in
    let own : has_guards (g ∷ gs) g.thread ≡ true = rw (eq-eqb g.thread g.thread refl) refl in
    All-cons (Were (before ++ b ∷ [])) g gs (All-head Then g gs all (open_now g.thread own))
    (all_still before b gs (λ t has. open_now t (later (nat_eq g.thread t) (has_guards gs t) has))
    (All-tail Then g gs all))
  where
    later : (x y : Bool) → y ≡ true → (x || y) ≡ true
    later true y is = refl
    later false y is = is

module _ (before : List Recorded) (b : Recorded) where
  abbrev Then : Guard → Type 0
  Then g = ends g.thread (before ++ b ∷ []) < begins g.thread (before ++ b ∷ []) → Were (before ++ b ∷ []) g

  were_then : (gs : List Guard) → All (Were before) gs → All Then gs
  were_then gs all k d within = λ open_now. still_guarded before _ _ b open_now (all k d within)

  end_then : (known : Knowledge) (u : ℕ) (outermost : Bool) → All (Were before) known.guards
      → All Then (after_end known u outermost).guards
  end_then known u true all =
      were_then (filter (not_of u) known.guards) (All-filter (not_of u) (Were before) known.guards all)
  end_then known u false all = were_then known.guards all

  guards_then : (known : Knowledge) (o : Op) → b.act.op ≡ o → All (Were before) known.guards
      → All Then (known_after_op known b.act.thread b.named o).guards
  unfolding known_after_op
  guards_then known (op.Guarded place) is all =
      All-push Then known.guards (record { thread = b.act.thread; place = place })
      (were_then known.guards all)
      (λ open_now. just_guarded before place b is open_now)
  guards_then known op.End is all = end_then known b.act.thread (is_outermost known b.act.thread) all
  guards_then known o is all = were_then known.guards all

module _ (set : SetFacts) (main : ℕ) (opening : Graph) {Frames : Type 0}
    (code : Code set main opening Frames) where
  abbrev AreGuarded : Knowledge → List Recorded → Type 0
  AreGuarded known before = IsDeep set main opening code known before × GuardsOpen known
      × All (Were before) known.guards

  open_depth : (known : Knowledge) (acts : List Recorded) → IsDeep set main opening code known acts
      → GuardsOpen known
      → (t : ℕ) → has_guards known.guards t ≡ true → ends t acts < begins t acts
  open_depth known acts deep holds t has =
      let depth = deep t in
      let some : depth_of known.world t ≢ 0 = λ none. false≢true (sym (holds t none) ∙ has) in
      omega (arith, depth, some)

  are_guarded : (acts : List Recorded) → IsPlainRun set main opening code acts
      → AreGuarded (known_of set main opening code acts) acts
  are_guarded acts run = run_keeps set main opening code AreGuarded
      (λ known frames Now before a may (deep, holds, all).
      let deeper = deep_keeps set main opening code known frames Now before a may deep in
      let opened = open_keeps set main opening code known frames Now a may holds in (
        deeper,
        opened,
        all_still before a (next_known known a).guards
            (open_depth (next_known known a) (before ++ a ∷ []) deeper opened)
            (guards_then before a known a.act.op refl all),
      ))
      (first_depth set main opening code, λ t outside. refl, All-nil (Were [])) acts run

  found_guard : (gs : List Guard) (acts : List Recorded) (t : ℕ) (place : Place) → guard_of gs place ≡ Some t
      → All (Were acts) gs → WasGuarded acts t place
  found_guard [] acts t place is all = absurd (let no : ◌≡◌ {A = Option ℕ} None (Some t) = is in cc)
  found_guard (g ∷ gs) acts t place is all = elim (place_is g.place place) as (λ b. place_is g.place place ≡ b
      → (if b then Some g.thread else guard_of gs place) ≡ Some t → WasGuarded acts t place) [
        | true ↦ λ same e.
            let it : Some g.thread ≡ Some t = e in
            let thread : g.thread ≡ t = cc in
            subst (λ p. WasGuarded acts t p) (place_same g.place place same)
            (subst (λ n. WasGuarded acts n g.place) thread (All-head (Were acts) g gs all))
        | false ↦ λ other e. found_guard gs acts t place e (All-tail (Were acts) g gs all)
      ] refl is

  pub guards_were_made : (acts : List Recorded) (t : ℕ) (place : Place)
      → IsPlainRun set main opening code acts
      → guard_of (known_of set main opening code acts).guards place ≡ Some t → WasGuarded acts t place
  guards_were_made acts t place run is =
      found_guard (known_of set main opening code acts).guards acts t place is (are_guarded acts run).2

  own_guard : (t : ℕ) (found : Option ℕ) → is_guarded_by t found ≡ true → found ≡ Some t
  own_guard t None is = absurd (false≢true is)
  own_guard t (Some u) is = elim (nat_eq u t) as (λ b. nat_eq u t ≡ b → (b || false) ≡ true → Some u
      ≡ Some t) [
        | true ↦ λ same h. ap (λ n. Some n) (eqb-true u t same)
        | false ↦ λ other h. absurd (false≢true h)
      ] refl is

  pub stores_were_guarded : (front : List Recorded) (a : Recorded) (rest : List Recorded) (place : Place)
      (value : Value)
      → IsPlainRun set main opening code (front ++ a ∷ rest) → a.act.op ≡ op.Stored place value
      → durable_at (known_of set main opening code front) place ≡ true
      → depth_of (known_of set main opening code front).world a.act.thread ≢ 0
      → WasGuarded front a.act.thread place
  stores_were_guarded front a rest place value run is durable deep =
      let known = known_of set main opening code front in
      let may = may_act set main opening code front a rest run in
      let rule : MayStore set known
      (request_after set main opening code front a.act.thread) a.act.thread place value =
      subst (λ o. Rule set known (wants_of set main opening code front)
      (request_after set main opening code front a.act.thread)
      a.act.thread a.named o) is may.rule in
      guards_were_made front a.act.thread place (plain_front set main opening code front (a ∷ rest) run)
      (own_guard a.act.thread (guard_of known.guards place) (rule.guarded durable deep))
