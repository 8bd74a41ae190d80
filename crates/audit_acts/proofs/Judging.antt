-- Judgements of acts by what is kept.
use Rattle.std.proofs.Common.{◌≡◌, ◌≢◌, ◌↔◌, ℕ, ◌<◌, ◌≤◌, ◌-◌, ◌^◌, Bool, true, false, ◌&&◌, IsTrue, List, [], ◌∷◌, ◌++◌, map, length, refl, sym, ◌∙◌, ap, subst, arith, nat_eq}
use Rattle.std.specs.Prelude.{Option, Some, None}
use Rattle.ap_base.specs.declared.place.Place.{Place}
use Rattle.graph_model.specs.declared.types.Heap.{Heap}
use Rattle.graph_model.specs.Heaps.{IsSound, has_number}
use Rattle.run_history.specs.declared.act.Act.{Act}
use Rattle.run_history.specs.declared.act.Op.{Op}
use Rattle.run_history.specs.declared.act.Op.TheVariants as op
use Rattle.run_history.specs.Recorded.{NamesRightly, Recorded}
use Rattle.run_history.specs.Worlds.{depth_of, fits, heap_after, heap_after_op}
use Rattle.run_history.specs.Knowing.{Knowledge, known_after, next_known, owes_fence}
use Rattle.run_history.specs.Wanted.{NoWish, WantsAfter}
use Rattle.plain_model.specs.Facts.{SetFacts}
use Rattle.plain_model.specs.Requests.{PlainRequest}
use Rattle.plain_model.specs.Codes.{is_persistent}
use Rattle.plain_model.specs.Runs.{IsAbout, MayAct, Rule, is_fenced, op_given}
use Rattle.plain_model.proofs.Visible.{about_from_rule}
use Rattle.audit_rules.specs.Rules.{ends_next, stored_next}
use Rattle.audit_keeping.specs.declared.keeping.Keeping.{Keeping}
use Rattle.audit_keeping.specs.Goes.{GoesOnBy, Goes, MayGo, fits_then, heap_then}
use Rattle.audit_keeping.specs.Keeping.{IsOther, act_test_in, durable_in, join_test_in, lists_of, next_lists, owed_in, rule_test_in}
use Rattle.audit_keeping.specs.Steps.{IsStanding}
use Rattle.audit_keeping.proofs.Kept.{durable-same}
use Rattle.audit_keeping.proofs.Standing.{goes-on, joins-on}
use Rattle.audit_keeping.proofs.Steps.{acts-decided, joined-decided}
use Rattle.kept_lists.specs.declared.doubts.Doubt.{Doubt}
use Rattle.kept_lists.specs.declared.doubts.Doubt.TheVariants as doubt
use Rattle.kept_lists.specs.declared.doubts.Doubts.{Doubts}
use Rattle.kept_lists.specs.Doubts.{StandsFor, doubt_of, lasts_after}
use Rattle.kept_lists.specs.Fitting.{AreOfStores, FitEach, IsOfStore, ops_of}
use Rattle.kept_lists.specs.Goes.{WereTold, doubt_at}
use Rattle.kept_lists.proofs.Fits.{fitting-sound}
use Rattle.kept_lists.proofs.Marking.{goes-on as doubts-go-on}
use Rattle.audit_acts.specs.declared.kept.Kept.{Kept}
use Rattle.audit_acts.specs.Keeps.{GoesOn, HasKept, IsTold, Judges, MayCome, MayTake, Takes, doubt_in, recorded}
use Rattle.audit_acts.proofs.Pushing.{done-push, fit-push, heap-next, known-push, ops-push, persistent-fits, stores-push}

-- ---- what the tests read of the operation ahead is the store or the End

module _ (k : Keeping) (x y : Option Op) (about : Bool) (t depth : ℕ) (stores : (place : Place) → stored_next x place ≡ stored_next y place)
    (ends : ends_next x ≡ ends_next y) where
  rule-alike : (o : Op) → rule_test_in k x about t depth o ≡ rule_test_in k y about t depth o
  rule-alike (op.Asked place value) = rw (stores place) refl
  rule-alike (op.Guarded place) = rw (stores place) refl
  rule-alike op.Closing = rw ends refl
  rule-alike op.Fenced = refl
  rule-alike (op.Stored place value) = refl
  rule-alike op.End = refl
  rule-alike op.Joined = refl
  rule-alike o = refl

  test-alike : (o : Op) → act_test_in k x about t depth o ≡ act_test_in k y about t depth o
  test-alike o = rw (rule-alike o) refl

-- ---- an act and what is known before it

module _ (set : SetFacts) (first : Knowledge) (acts : List Recorded) (request : Option PlainRequest) (k : Kept) (act : Act)
    (ahead : Option Op) (about : Bool) (depth : ℕ) (h : HasKept first acts k)
    (told : IsTold set first acts request act ahead about depth) where
  abbrev known : Knowledge
  known = known_after first acts

  later-known : k.at ≤ act.at → known.at ≤ act.at
  later-known later = subst (λ n. n ≤ act.at) h.at later

  pub too-early : (named : List ℕ) → act.at < k.at → MayCome set first acts request act named → ⊥
  too-early named early may = let l = may.later in let e = h.at in omega (arith, l, e, early)

  few-known : length k.heap.objects < 2 ^ 32 - 1 → length known.world.heap.objects < 2 ^ 32 - 1
  few-known few = subst (λ (x : Heap). length x.objects < 2 ^ 32 - 1) h.heap few

  fits-about : length k.heap.objects < 2 ^ 32 - 1 → is_persistent act.op ≡ false → about ≡ true → fits known.world.heap act.op ≡ true
  fits-about few visible is = told.fit (few-known few) act.op ((told.is_about visible).0 is)

  -- the test is exact
  pub test-exact : length k.heap.objects < 2 ^ 32 - 1 → k.at ≤ act.at → IsOther act.op
      → (act_test_in k.keeping ahead about act.thread depth act.op ≡ true) ↔ MayCome set first acts request act []
  test-exact few later other =
      let exact = acts-decided set first acts request k.keeping about act.thread act.at act.op h.keeping told.is_about (fits-about few) other
      (later-known later) in
      let same : act_test_in k.keeping ahead about act.thread depth act.op
      ≡ act_test_in k.keeping (op_given set known.world act.thread 1 request) about act.thread (depth_of known.world act.thread) act.op =
      test-alike k.keeping ahead (op_given set known.world act.thread 1 request) about act.thread depth told.stores told.ends act.op
      ∙ ap (λ d. act_test_in k.keeping (op_given set known.world act.thread 1 request) about act.thread d act.op) told.deep in
      subst (λ b. (b ≡ true) ↔ MayCome set first acts request act []) (sym same) exact

  -- ---- an act that isn't Joined and may come next

  module _ (few : length k.heap.objects < 2 ^ 32 - 1) (may : MayCome set first acts request act []) where
    fits-known : fits known.world.heap act.op ≡ true
    fits-known = elim (is_persistent act.op) as (λ b. is_persistent act.op ≡ b → fits known.world.heap act.op ≡ true) [
      | true ↦ λ e. persistent-fits known.world.heap act.op e
      | false ↦ λ e. told.fit (few-known few) act.op
          (about_from_rule set known (WantsAfter first NoWish acts) request act.thread [] act.op may.rule e)
    ] refl

    fits-kept : fits k.heap act.op ≡ true
    fits-kept = subst (λ (x : Heap). fits x act.op ≡ true) (sym h.heap) fits-known

    then-fits : (o : Op) → Rule set known (WantsAfter first NoWish acts) request act.thread [] o → fits known.world.heap o ≡ true
        → fits_then known.world.heap o ≡ true
    then-fits (op.Asked place value) rule fit = told.fit (few-known few) (op.Stored place value) rule.is_about
    then-fits o rule fit = fit

    sound-next : IsSound (heap_after_op k.heap act.op)
    sound-next = fitting-sound k.heap (act.op ∷ []) h.sound (fits-kept, tt)

    next-is : (next_known known (recorded act [])).world.heap ≡ heap_after_op k.heap act.op
    next-is = heap-next known (recorded act []) ∙ ap (λ (x : Heap). heap_after_op x act.op) (sym h.heap)

    by : IsOther act.op → GoesOnBy first acts k.keeping (recorded act [])
    by other = goes-on set first acts request k.keeping act.thread act.at h.keeping act.op may other (then-fits act.op may.rule fits-known)
        (subst IsSound (sym next-is) sound-next)

    pub may-take : IsOther act.op → MayTake k depth act
    may-take other = record {
      fits = fits-kept;
      may = subst (λ (x : Heap). MayGo x k.keeping act.thread act.op) next-is (by other).may;
      threads = h.doubts.threads;
    }

    doubt-same : (o : Op) → doubt_in k.keeping act.thread depth o ≡ doubt_at known act.thread o
    doubt-same (op.Stored place value) = rw (
      durable-same known k.keeping h.keeping.keeps place,
      told.deep,
      sym h.keeping.keeps.closing,
    ) refl
    doubt-same o = refl

    of-store : (o : Op) → IsOfStore o (doubt_in k.keeping act.thread depth o)
    of-store (op.Stored place value) = tt
    of-store o = tt

    pub taken : act.thread < 64 → IsOther act.op → (now : Kept) → Takes k depth act now
        → HasKept first (acts ++ recorded act [] ∷ []) now
    taken small other now takes =
        let a = recorded act [] in
        let push = known-push first acts a in
        let ops = ops-push acts a in record {
          heap = takes.heap ∙ sym next-is ∙ ap (λ (x : Knowledge). x.world.heap) (sym push);
          sound = subst IsSound (sym takes.heap) sound-next;
          at = takes.at ∙ ap (λ (x : Knowledge). x.at) (sym push);
          keeping = (by other).stands now.keeping (subst (λ d. Goes (heap_then first acts a) k.keeping act.thread d act.op now.keeping)
              told.deep (subst (λ (x : Heap). Goes x k.keeping act.thread depth act.op now.keeping) (takes.heap ∙ sym next-is) takes.goes));
          doubts = doubts-go-on first acts k.doubts now.doubts h.doubts act.thread act.at [] small act.op (record {
            doubts = takes.doubts ∙ ap (λ d. k.doubts.doubts.items ++ d ∷ []) (doubt-same act.op);
            lasts = takes.lasts ∙ ap (λ d. lasts_after k.doubts.lasts.items act.thread act.op (nat_eq d 1)
                (length k.doubts.doubts.items)) told.deep;
          });
          stores = subst (AreOfStores (acts ++ a ∷ [])) (sym takes.doubts) (stores-push acts a k.doubts.doubts.items
              (doubt_in k.keeping act.thread depth act.op) h.doubts.count h.stores (of-store act.op));
          fit = subst (FitEach first.world.heap) (sym ops) (fit-push first.world.heap (ops_of acts) act.op h.fit
              (subst (λ (x : Heap). fits x act.op ≡ true) h.done fits-kept));
          done = takes.heap ∙ ap (λ (x : Heap). heap_after_op x act.op) h.done
              ∙ sym (done-push first.world.heap (ops_of acts) act.op) ∙ ap (heap_after first.world.heap) (sym ops);
        }

  -- ---- a Joined act

  owes-known : owes_fence (map owed_in k.keeping.unfenced.items) act.thread ≡ owes_fence known.unfenced act.thread
  owes-known = ap (λ us. owes_fence us act.thread) (sym h.keeping.keeps.unfenced)

  pub owed-refuses : (named : List ℕ) → act.op ≡ op.Joined → owes_fence (map owed_in k.keeping.unfenced.items) act.thread ≡ true
      → MayCome set first acts request act named → ⊥
  owed-refuses named is owes may =
      let fence : is_fenced op.Joined ≡ owes_fence known.unfenced act.thread = subst (λ o. is_fenced o ≡ owes_fence known.unfenced act.thread) is
      may.fence in
      let no : false ≡ true = fence ∙ sym owes-known ∙ owes in cc

  as-joined : act.op ≡ op.Joined → act ≡ record { thread = act.thread; at = act.at; op = op.Joined }
  as-joined is = ap (λ (o : Op). record { thread = act.thread; at = act.at; op = o }) is

  pub joined-exact : (named : List ℕ) → k.at ≤ act.at → act.op ≡ op.Joined
      → owes_fence (map owed_in k.keeping.unfenced.items) act.thread ≡ false
      → (join_test_in k.heap k.keeping named ≡ true) ↔ MayCome set first acts request act named
  joined-exact named later is owes =
      subst (λ (b : Act). (join_test_in k.heap k.keeping named ≡ true) ↔ MayCome set first acts request b named) (sym (as-joined is))
      (subst (λ (x : Heap). (join_test_in x k.keeping named ≡ true)
      ↔ MayCome set first acts request (record { thread = act.thread; at = act.at; op = op.Joined }) named) (sym h.heap)
      (joined-decided set first acts request k.keeping act.thread act.at named h.keeping (sym owes-known ∙ owes) (later-known later)))

  -- what is kept after a Joined act that may come next
  pub joined : act.thread < 64 → (named : List ℕ) → act.op ≡ op.Joined → MayCome set first acts request act named
      → join_test_in k.heap k.keeping named ≡ true
      → (now : Kept) → now.heap ≡ k.heap → lists_of now.keeping ≡ next_lists (lists_of k.keeping) 0 0 named op.Joined
      → now.doubts.doubts.items ≡ k.doubts.doubts.items ++ doubt.Never ∷ []
      → now.doubts.lasts.items ≡ lasts_after k.doubts.lasts.items act.thread act.op (nat_eq depth 1) (length k.doubts.doubts.items)
      → now.at ≡ act.at → HasKept first (acts ++ recorded act named ∷ []) now
  joined small named is may test now heap lists doubts lasts at =
      let a = recorded act named in
      let push = known-push first acts a in
      let ops = ops-push acts a in
      let joins : (b : Act) → b ≡ record { thread = act.thread; at = act.at; op = op.Joined } → MayCome set first acts request b named
      → IsStanding first (acts ++ recorded b named ∷ []) now.keeping =
      λ b e m. subst (λ (x : Act). IsStanding first (acts ++ recorded x named ∷ []) now.keeping) (sym e)
      (joins-on set first acts request k.keeping act.thread act.at h.keeping named now.keeping
      (subst (λ (x : Act). MayCome set first acts request x named) e m)
      (subst (λ (x : Heap). join_test_in x k.keeping named ≡ true) h.heap test) lists) in
      let same : heap_after_op k.heap act.op ≡ k.heap = ap (heap_after_op k.heap) is in record {
        heap = heap ∙ sym same ∙ ap (λ (x : Heap). heap_after_op x act.op) h.heap ∙ sym (heap-next known a)
            ∙ ap (λ (x : Knowledge). x.world.heap) (sym push);
        sound = subst IsSound (sym heap) h.sound;
        at = at ∙ ap (λ (x : Knowledge). x.at) (sym push);
        keeping = joins act (as-joined is) may;
        doubts = doubts-go-on first acts k.doubts now.doubts h.doubts act.thread act.at named small act.op (record {
          doubts = doubts ∙ ap (λ o. k.doubts.doubts.items ++ doubt_at known act.thread o ∷ []) (sym is);
          lasts = lasts ∙ ap (λ d. lasts_after k.doubts.lasts.items act.thread act.op (nat_eq d 1)
              (length k.doubts.doubts.items)) told.deep;
        });
        stores = subst (AreOfStores (acts ++ a ∷ [])) (sym doubts) (stores-push acts a k.doubts.doubts.items doubt.Never
            h.doubts.count h.stores (subst (λ o. IsOfStore o doubt.Never) (sym is) tt));
        fit = subst (FitEach first.world.heap) (sym ops) (fit-push first.world.heap (ops_of acts) act.op h.fit
            (subst (λ o. fits (heap_after first.world.heap (ops_of acts)) o ≡ true) (sym is) refl));
        done = heap ∙ sym same ∙ ap (λ (x : Heap). heap_after_op x act.op) h.done
            ∙ sym (done-push first.world.heap (ops_of acts) act.op) ∙ ap (heap_after first.world.heap) (sym ops);
      }

-- an act that isn't Joined names nothing
pub names-none : (o : Op) (named : List ℕ) → NamesRightly o named → (o ≡ op.Joined → ⊥) → named ≡ []
names-none op.Joined named rightly other = absurd (other refl)
names-none o named rightly other = rightly
