-- Guards are of open regions, and a place has at most one.
use Rattle.std.proofs.Common.{◌≡◌, ℕ, suc, ◌+◌, ◌≤◌, Bool, true, false, List, [], ◌∷◌, ◌++◌, filter, refl, ap, sym, ◌∙◌, subst}
use Rattle.std.proofs.Common.{arith, nat_eq, not, ◌&&◌, cond, if◌then◌else◌}
use Rattle.std.specs.Prelude.{◌≢◌, Option, Some, None}
use Rattle.std.proofs.lemmas.Bool.{eqb-true, eq-eqb, and_parts, false≢true, or_parts}
use Rattle.ap_base.specs.declared.place.Place.{Place}
use Rattle.ap_base.specs.declared.place.Place.TheVariants.{Static, Slot}
use Rattle.graph_model.specs.declared.types.Graph.{Graph}
use Rattle.graph_model.specs.Heaps.{place_is}
use Rattle.run_history.specs.declared.act.Op.{Op}
use Rattle.run_history.specs.declared.act.Op.TheVariants as op
use Rattle.run_history.specs.Recorded.{Recorded}
use Rattle.run_history.specs.Worlds.{depth_of}
use Rattle.run_history.specs.Knowing.{Knowledge, next_known, Guard, known_after_op, after_end, is_outermost, guard_of}
use Rattle.run_history.specs.Knowing.{has_guards}
use Rattle.run_history.specs.Wanted.{Wishes}
use Rattle.plain_model.specs.Facts.{SetFacts}
use Rattle.plain_model.specs.Requests.{PlainRequest}
use Rattle.plain_model.specs.Codes.{Code, request_of}
use Rattle.plain_model.specs.Runs.{Rule, MayAct, IsPlainRun, known_of}
use Rattle.plain_model.specs.RunLaws.{guards_of}
use Rattle.plain_model.proofs.RunKeeps.{run_keeps}
use Rattle.plain_model.proofs.Depths.{DepthAfter, act_depth, one_if}

abbrev pub not_of : ℕ → Guard → Bool
not_of t g = not (nat_eq g.thread t)

guards_pushed : (gs : List Guard) (g : Guard) (t : ℕ) → has_guards gs t ≡ false → nat_eq g.thread t ≡ false
    → has_guards (gs ++ g ∷ []) t ≡ false
guards_pushed [] g t none other = rw other refl
guards_pushed (x ∷ gs) g t none other =
    let (here, rest) = or_parts (nat_eq x.thread t) (has_guards gs t) none in
    rw here (guards_pushed gs g t rest other)

guards_filtered : (gs : List Guard) (u t : ℕ) → has_guards gs t ≡ false
    → has_guards (filter (not_of u) gs) t ≡ false
guards_filtered [] u t none = refl
guards_filtered (x ∷ gs) u t none =
    let (here, rest) = or_parts (nat_eq x.thread t) (has_guards gs t) none in
    elim (not_of u x) as (λ b. has_guards (cond b (x ∷ filter (not_of u) gs) (filter (not_of u) gs)) t
    ≡ false) [
      | true ↦ rw here (guards_filtered gs u t rest)
      | false ↦ guards_filtered gs u t rest
    ]

own_filtered : (gs : List Guard) (t : ℕ) → has_guards (filter (not_of t) gs) t ≡ false
own_filtered [] t = refl
own_filtered (x ∷ gs) t =
    elim (nat_eq x.thread t) as (λ b. nat_eq x.thread t ≡ b
    → has_guards (cond (not b) (x ∷ filter (not_of t) gs) (filter (not_of t) gs)) t ≡ false) [
      | true ↦ λ own. own_filtered gs t
      | false ↦ λ other. rw other (own_filtered gs t)
    ] refl

abbrev pub GuardsOpen : Knowledge → Type 0
GuardsOpen known = (t : ℕ) → depth_of known.world t ≡ 0 → has_guards known.guards t ≡ false

end_guards : (known : Knowledge) (u : ℕ) (outermost : Bool) (t : ℕ)
    → (nat_eq u t ≡ true → outermost ≡ true) → (nat_eq u t ≡ false → has_guards known.guards t ≡ false)
    → has_guards (after_end known u outermost).guards t ≡ false
end_guards known u true t own other =
    elim (nat_eq u t) as (λ b. nat_eq u t ≡ b → has_guards (filter (not_of u) known.guards) t ≡ false) [
      | true ↦ λ same. subst (λ n. has_guards (filter (not_of n) known.guards) t ≡ false)
          (sym (eqb-true u t same)) (own_filtered known.guards t)
      | false ↦ λ differ. guards_filtered known.guards u t (other differ)
    ] refl
end_guards known u false t own other =
    elim (nat_eq u t) as (λ b. nat_eq u t ≡ b → has_guards known.guards t ≡ false) [
      | true ↦ λ same. absurd (false≢true (own same))
      | false ↦ λ differ. other differ
    ] refl

module _ (set : SetFacts) (known : Knowledge) (Now : Wishes) (request : Option PlainRequest) (u : ℕ)
    (named : List ℕ) where
  guarded_again : (place : Place) (t : ℕ) → GuardsOpen known → depth_of known.world u ≢ 0
      → depth_of known.world t ≡ 0
      → has_guards (known.guards ++ record { thread = u; place = place } ∷ []) t ≡ false
  guarded_again place t holds deep outside =
      guards_pushed known.guards (record { thread = u; place = place }) t (holds t outside)
      (elim (nat_eq u t) as (λ b. nat_eq u t ≡ b → b ≡ false) [
        | true ↦ λ same. absurd (deep (ap (depth_of known.world) (eqb-true u t same) ∙ outside))
        | false ↦ λ other. refl
      ] refl)

  ended_guards : (t d : ℕ) → GuardsOpen known
      → d + one_if (nat_eq u t && true) ≡ depth_of known.world t + one_if (nat_eq u t && false) → d ≡ 0
      → has_guards (after_end known u (is_outermost known u)).guards t ≡ false
  ended_guards t d holds was outside = end_guards known u (is_outermost known u) t
      (λ same.
      let depth : 0 + 1 ≡ depth_of known.world t + 0 = (rw (same, outside) at was) in
      let one : depth_of known.world t ≡ 1 = omega (arith, depth) in
      eq-eqb (depth_of known.world u) 1 (ap (depth_of known.world) (eqb-true u t same) ∙ one))
      (λ differ.
      let depth : 0 + 0 ≡ depth_of known.world t + 0 = (rw (differ, outside) at was) in
      holds t (omega (arith, depth)))

  guards_open : (o : Op) → Rule set known Now request u named o → (t : ℕ) → DepthAfter known u named o t
      → GuardsOpen known → depth_of (known_after_op known u named o).world t ≡ 0
      → has_guards (known_after_op known u named o).guards t ≡ false
  unfolding known_after_op
  guards_open (op.Guarded place) rule t depth holds outside = guarded_again place t holds rule.is_open outside
  guards_open op.End rule t depth holds outside =
      ended_guards t (depth_of (after_end known u (is_outermost known u)).world t) holds depth outside
  guards_open op.Begin rule t depth holds outside =
      holds t (begun_outside t (depth_of (known_after_op known u named op.Begin).world t)
      (nat_eq u t) depth outside)
    where
      begun_outside : (t d : ℕ) (own : Bool) → d + one_if (own && false) ≡ depth_of known.world t + one_if
          (own && true)
          → d ≡ 0 → depth_of known.world t ≡ 0
      begun_outside t d true was none = absurd (omega (arith, was, none))
      begun_outside t d false was none = omega (arith, was, none)
  guards_open (op.Start n child) rule t depth holds outside =
      holds t (same_outside t (depth_of (known_after_op known u named (op.Start n child)).world t)
      (one_if (nat_eq u t && false)) depth outside)
    where
      same_outside : (t d x : ℕ) → d + x ≡ depth_of known.world t + x → d ≡ 0 → depth_of known.world t ≡ 0
      same_outside t d x was none = omega (arith, was, none)
  guards_open (op.Ended uncaught) rule t depth holds outside =
      holds t (same_outside t (depth_of (known_after_op known u named (op.Ended uncaught)).world t)
      (one_if (nat_eq u t && false)) depth outside)
    where
      same_outside : (t d x : ℕ) → d + x ≡ depth_of known.world t + x → d ≡ 0 → depth_of known.world t ≡ 0
      same_outside t d x was none = omega (arith, was, none)
  guards_open o rule t depth holds outside = holds t outside

-- a place equals another where the test says so
pub place_same : (p q : Place) → place_is p q ≡ true → p ≡ q
place_same (Static m) (Static n) is = ap Static (eqb-true m n is)
place_same (Slot m i) (Slot n j) is =
    let (first, second) = and_parts (nat_eq m n) (nat_eq i j) is in
    ap (λ k. Slot k i) (eqb-true m n first) ∙ ap (Slot n) (eqb-true i j second)
place_same (Static m) (Slot n j) is = absurd (false≢true is)
place_same (Slot m i) (Static n) is = absurd (false≢true is)

unguarded_none : (gs : List Guard) (place : Place) → guard_of gs place ≡ None → guards_of place gs ≡ 0
unguarded_none [] place none = refl
unguarded_none (g ∷ gs) place none =
    elim (place_is g.place place) as (λ b. (if b then Some g.thread else guard_of gs place) ≡ None
    → (if b then suc (guards_of place gs) else guards_of place gs) ≡ 0) [
      | true ↦ λ is. absurd (let no : Some g.thread ≡ None = is in cc)
      | false ↦ λ is. unguarded_none gs place is
    ] none

count_pushed : (gs : List Guard) (g : Guard) (place : Place)
    → guards_of place (gs ++ g ∷ []) ≡ guards_of place gs + one_if (place_is g.place place)
count_pushed [] g place = elim (place_is g.place place) as (λ b. (if b then 1 else 0) ≡ 0 + one_if b)
    [ true ↦ refl | false ↦ refl ]
count_pushed (x ∷ gs) g place =
    let rest = count_pushed gs g place in
    elim (place_is x.place place) as
    (λ b. (if b then suc (guards_of place (gs ++ g ∷ [])) else guards_of place (gs ++ g ∷ []))
    ≡ (if b then suc (guards_of place gs) else guards_of place gs) + one_if (place_is g.place place)) [
      | true ↦ omega (arith, rest)
      | false ↦ rest
    ]

count_filtered : (test : Guard → Bool) (gs : List Guard) (place : Place)
    → guards_of place (filter test gs) ≤ guards_of place gs
count_filtered test [] place = omega arith
count_filtered test (g ∷ gs) place =
    let rest = count_filtered test gs place in
    elim (test g) as (λ c. guards_of place (cond c (g ∷ filter test gs) (filter test gs))
    ≤ (if place_is g.place place then suc (guards_of place gs) else guards_of place gs)) [
      | true ↦ kept (place_is g.place place) (guards_of place (filter test gs)) (guards_of place gs) rest
      | false ↦ dropped (place_is g.place place) (guards_of place (filter test gs)) (guards_of place gs) rest
    ]
  where
    kept : (b : Bool) (m n : ℕ) → m ≤ n → (if b then suc m else m) ≤ (if b then suc n else n)
    kept true m n less = omega (arith, less)
    kept false m n less = less

    dropped : (b : Bool) (m n : ℕ) → m ≤ n → m ≤ (if b then suc n else n)
    dropped true m n less = omega (arith, less)
    dropped false m n less = less

abbrev OneEach : Knowledge → Type 0
OneEach known = (place : Place) → guards_of place known.guards ≤ 1

one_more_guard : (gs : List Guard) (g : Guard) → guard_of gs g.place ≡ None → (place : Place)
    → guards_of place gs ≤ 1
    → guards_of place (gs ++ g ∷ []) ≤ 1
one_more_guard gs g none place one =
    rw (count_pushed gs g place) (elim (place_is g.place place) as (λ b. place_is g.place place ≡ b
    → guards_of place gs + one_if b ≤ 1) [
      | true ↦ λ same.
          let no_guard : guards_of place gs ≡ 0 = subst (λ p. guards_of p gs ≡ 0)
          (place_same g.place place same) (unguarded_none gs g.place none) in
          omega (arith, no_guard)
      | false ↦ λ other. omega (arith, one)
    ] refl)

end_one : (known : Knowledge) (u : ℕ) (outermost : Bool) → OneEach known
    → OneEach (after_end known u outermost)
end_one known u true one place = let less = count_filtered (not_of u) known.guards place in let was =
    one place in omega (arith, less, was)
end_one known u false one place = one place

one_guard : (set : SetFacts) (known : Knowledge) (Now : Wishes) (request : Option PlainRequest) (u : ℕ)
    (named : List ℕ)
    (o : Op) → Rule set known Now request u named o → OneEach known → OneEach (known_after_op known u named o)
unfolding known_after_op
one_guard set known Now request u named (op.Guarded place) rule one other =
    one_more_guard known.guards (record { thread = u; place = place }) rule.unguarded other (one other)
one_guard set known Now request u named op.End rule one other =
    end_one known u (is_outermost known u) one other
one_guard set known Now request u named o rule one other = one other

module _ (set : SetFacts) (main : ℕ) (opening : Graph) {Frames : Type 0}
    (code : Code set main opening Frames) where
  pub open_keeps : (known : Knowledge) (frames : List Frames) (Now : Wishes) (a : Recorded)
      → MayAct set known Now (request_of set main opening code known.world frames a.act.thread) a
      → GuardsOpen known → GuardsOpen (next_known known a)
  open_keeps known frames Now a may holds u outside =
      guards_open set known Now
      (request_of set main opening code known.world frames a.act.thread) a.act.thread a.named
      a.act.op may.rule u (act_depth set main opening code known frames Now a may u) holds outside

  pub guards_are_of_open_regions : (acts : List Recorded) (t : ℕ) → IsPlainRun set main opening code acts
      → depth_of (known_of set main opening code acts).world t ≡ 0
      → has_guards (known_of set main opening code acts).guards t ≡ false
  guards_are_of_open_regions acts t run = run_keeps set main opening code (λ known before. GuardsOpen known)
      (λ known frames Now before a may holds. open_keeps known frames Now a may holds)
      (λ u outside. refl) acts run t

  pub one_guard_a_place : (acts : List Recorded) (place : Place) → IsPlainRun set main opening code acts
      → guards_of place (known_of set main opening code acts).guards ≤ 1
  one_guard_a_place acts place run = run_keeps set main opening code (λ known before. OneEach known)
      (λ known frames Now before a may one.
      one_guard set known Now
      (request_of set main opening code known.world frames a.act.thread) a.act.thread a.named
      a.act.op may.rule one)
      (λ p. omega arith) acts run place
