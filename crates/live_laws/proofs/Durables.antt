-- What is seen of a plain run is what is known of it, act by act.
use Rattle.std.proofs.Common.{◌≡◌, ◌⊎◌, inl, inr, ℕ, suc, ◌<◌, ◌≤◌, ◌^◌, Bool, true, false, ◌&&◌, List, [], ◌∷◌, ◌++◌, length}
use Rattle.std.proofs.Common.{refl, ap, sym, subst, ◌∙◌, arith, if◌then◌else◌, append_assoc, append-nil, length-append, length-set, map, replicate, ◌-◌}
use Rattle.std.specs.Prelude.{All, Option, Some, None}
use Rattle.std.proofs.lemmas.Grind.{fold-append}
use Rattle.std.proofs.lemmas.Bool.{and_parts}
use Rattle.std.proofs.lemmas.List.{length-map, length-replicate}
use Rattle.std.proofs.lemmas.List.Elements.{All-contains, All-nil, All-weaker}
use Rattle.ap_base.specs.declared.place.Place.{Place}
use Rattle.ap_base.specs.declared.place.Place.TheVariants.{Static, Slot}
use Rattle.graph_model.specs.declared.types.Value.{Value}
use Rattle.graph_model.specs.declared.types.Value.TheVariants.{Obj as Object}
use Rattle.graph_model.specs.declared.types.Obj.{Obj}
use Rattle.graph_model.specs.declared.types.Heap.{Heap}
use Rattle.graph_model.specs.declared.types.Graph.{Graph}
use Rattle.graph_model.specs.Heaps.{IsBelow, IsSound, object_at, values_of, with_slot, no_object}
use Rattle.graph_model.specs.Reach.{Reaches, here, along}
use Rattle.run_history.specs.declared.act.Op.{Op}
use Rattle.run_history.specs.declared.act.Op.TheVariants as op
use Rattle.run_history.specs.Recorded.{Recorded}
use Rattle.run_history.specs.Worlds.{World, fits, has_place, heap_after_op, is_below}
use Rattle.run_history.specs.Knowing.{Knowledge, Pending, after_end, durable_at, is_outermost, known_after_op, next_known, pending_of}
use Rattle.run_history.specs.Wanted.{NoWish, WantsAfter, Wishes}
use Rattle.plain_model.specs.Facts.{SetFacts, arguments_class, stream_class}
use Rattle.plain_model.specs.Consistent.{IsConsistent}
use Rattle.plain_model.specs.First.{IsOpening, first_heap, first_known, first_objects, first_world, literal_object, node_object}
use Rattle.plain_model.specs.Requests.{PlainRequest}
use Rattle.plain_model.specs.Steps.{step}
use Rattle.plain_model.specs.Codes.{Code, taken_by}
use Rattle.plain_model.specs.Duties.{IsFit, KeepsDuties}
use Rattle.plain_model.specs.Runs.{IsPlainRun, MayAsk, Rule, known_of, op_given, request_after, wants_of}
use Rattle.plain_model.specs.TypeLaws.{IsOfSet}
use Rattle.plain_model.specs.Laws.{IsWantedNow, WasAsked}
use Rattle.plain_model.proofs.Appended.{known_after-append, wants_after-push}
use Rattle.plain_model.proofs.Durable.{durable-known_after_op, made_durable}
use Rattle.plain_model.proofs.Pending.{pending_was_asked}
use Rattle.plain_model.proofs.RunSound.{replies, sound_after}
use Rattle.plain_model.proofs.StepFits.{step_fits}
use Rattle.plain_model.proofs.TypedRuns.{act_fits_its_heap, heap_is_of_set}
use Rattle.plain_model.proofs.Visible.{may_act, plain_front}
use Rattle.plain_model.proofs.Wanted.{wants_now}
use Rattle.live_heap.specs.Seen.{Seen, is_durable_place, is_durable_store, seen_after, seen_from}
use Rattle.live_laws.specs.Firsts.{first_seen}
use Rattle.live_laws.specs.Durables.{IsSeenOf}
use Rattle.live_laws.proofs.Flags.{FlagsAre, flag_count, flags_next, flags-first, place_same}
use Rattle.live_laws.proofs.Following.{begins, follows, stay_after}
use Rattle.live_laws.proofs.Strays.{below_by_test, fit_done}

-- ---- what is reached is there

reached_below : (heap : Heap) (From : ℕ → Type 0) → IsSound heap → ((m : ℕ) → From m → m < length heap.objects)
    → (n : ℕ) → Reaches heap From n → n < length heap.objects
reached_below heap From sound from n (here k f) = from k f
reached_below heap From sound from n (along m k reached refers) =
    let below = reached_below heap From sound from m reached in
    All-contains (IsBelow (length heap.objects)) (values_of heap m) (Object k) (sound.slots m no_object below) refers

-- ---- stores

abbrev pub stores_durably : Knowledge → Op → Bool
stores_durably known (op.Stored place value) = durable_at known place
stores_durably known o = false

stores-end : (known : Knowledge) (t : ℕ) (outermost : Bool) → (after_end known t outermost).stores ≡ known.stores
stores-end known t true = refl
stores-end known t false = refl

stores-op : (known : Knowledge) (t : ℕ) (named : List ℕ) (o : Op)
    → (known_after_op known t named o).stores ≡ (if stores_durably known o then suc known.stores else known.stores)
unfolding known_after_op
stores-op known t named (op.Stored place value) = refl
stores-op known t named op.End = stores-end known t (is_outermost known t)
stores-op known t named o = refl

store_same : (known : Knowledge) (flags : List Bool) (o : Op) → fits known.world.heap o ≡ true → FlagsAre flags known.durable
    → is_durable_store known.world.heap flags o ≡ stores_durably known o
store_same known flags (op.Stored place value) fit are =
    ap (λ b. b && is_durable_place known.world.heap flags place) fit
    ∙ place_same known.world.heap flags known.durable place are
store_same known flags o fit are = refl

-- ---- one act

record Agrees (seen : Seen) (known : Knowledge) : Type 0 where
  heap : seen.heap ≡ known.world.heap
  count : length seen.durable ≡ length seen.heap.objects
  flags : FlagsAre seen.durable known.durable
  stores : seen.stores ≡ known.stores

-- all but the heap, which another law gives
agrees_next : (seen : Seen) (known : Knowledge) (a : Recorded) → Agrees seen known → fits known.world.heap a.act.op ≡ true
    → All (λ m. m < length known.world.heap.objects) (made_durable a.act.op a.named)
    → (seen_after seen a).heap ≡ (next_known known a).world.heap → Agrees (seen_after seen a) (next_known known a)
unfolding seen_after
agrees_next seen known a agrees fit there heap =
    let o = a.act.op in
    let here_fit : fits seen.heap o ≡ true = subst (λ (h : Heap). fits h o ≡ true) (sym agrees.heap) fit in
    let there_here = subst (λ (h : Heap). All (λ m. m < length h.objects) (made_durable o a.named)) (sym agrees.heap) there in
    record {
      heap = heap;
      count = flag_count seen.heap seen.durable a.named o here_fit agrees.count
          ∙ sym (ap (λ (h : Heap). length h.objects) (fit_done seen a here_fit));
      flags = subst (FlagsAre (seen_after seen a).durable) (sym (durable-known_after_op known a.act.thread a.named o))
          (flags_next seen.heap seen.durable known.durable a.named o here_fit agrees.count there_here agrees.flags);
      stores =
          ap (λ (h : Heap). if is_durable_store h seen.durable o then suc seen.stores else seen.stores) agrees.heap
          ∙ ap (λ b. if b then suc seen.stores else seen.stores) (store_same known seen.durable o fit agrees.flags)
          ∙ ap (λ s. if stores_durably known o then suc s else s) agrees.stores
          ∙ sym (stores-op known a.act.thread a.named o);
    }

stored_few : (heap : Heap) (place : Place) (value : Value) → length heap.objects < 2 ^ 32
    → length (heap_after_op heap (op.Stored place value)).objects < 2 ^ 32
stored_few heap (Static n) value few = few
stored_few heap (Slot n i) value few = omega (arith, few, length-set heap.objects n (with_slot (object_at heap n) i value))

given_fits : (set : SetFacts) (world : World) (t : ℕ) (o : Op) (request : Option PlainRequest) → IsConsistent set
    → IsOfSet set world.heap → ((asked : PlainRequest) → request ≡ Some asked → IsFit set world t asked)
    → op_given set world t (taken_by o) request ≡ Some o → length (heap_after_op world.heap o).objects < 2 ^ 32
    → fits world.heap o ≡ true
given_fits set world t o None consistent of_set fit is few = absurd (let no : ◌≡◌ {A = Option Op} None (Some o) = is in cc)
given_fits set world t o (Some asked) consistent of_set fit is few =
    let (r, does) = replies (step set world t (taken_by o) asked) o is in
    step_fits set world consistent of_set t (taken_by o) asked o r (fit asked refl) does few

joined_there : (set : SetFacts) (known : Knowledge) (Now : Wishes) (request : Option PlainRequest) (t count : ℕ) (named : List ℕ)
    (o : Op) → Rule set known Now request t named o → ((u n : ℕ) → Now u n → n < count)
    → All (λ m. m < count) (made_durable o named)
joined_there set known Now request t count named op.Joined rule below =
    All-weaker (λ n. (u : ℕ) × Now u n) (λ m. m < count) (λ n w. below w.0 n w.1) named rule.wanted
joined_there set known Now request t count named o rule below = All-nil (λ m. m < count)

-- ---- all acts

module _ (set : SetFacts) (main : ℕ) (opening : Graph) {Frames : Type 0} (code : Code set main opening Frames)
    (consistent : IsConsistent set) (is : IsOpening set opening) (duties : KeepsDuties set main opening code) where
  abbrev known : List Recorded → Knowledge
  known acts = known_of set main opening code acts

  abbrev seen : List Recorded → Seen
  seen acts = seen_from (first_seen set opening) acts

  abbrev count : List Recorded → ℕ
  count acts = length (known acts).world.heap.objects

  abbrev IsRun : List Recorded → Type 0
  IsRun acts = IsPlainRun set main opening code acts

  grows : (front rest : List Recorded) → count front ≤ count (front ++ rest)
  grows front rest =
      omega (
        arith,
        stay_after (known front) rest,
        ap (λ (k : Knowledge). length k.world.heap.objects) (known_after-append (first_known set opening) front rest),
      )

  heap_same : (acts : List Recorded) → IsRun acts → count acts < 2 ^ 32 → (seen acts).heap ≡ (known acts).world.heap
  heap_same acts run few =
      let fit = act_fits_its_heap set main opening code consistent is duties in
      follows set main opening code fit [] acts run few (begins set main opening code fit)

  -- what was asked was there
  asked_below : (acts : List Recorded) (u : ℕ) (p : Pending) (m : ℕ) → IsRun acts → count acts < 2 ^ 32
      → WasAsked acts u p → p.value ≡ Object m → m < count acts
  asked_below acts u p m run few was value =
      let front = was.front in
      let a = was.asked in
      let o : Op = op.Stored p.place p.value in
      let world = (known front).world in
      let request = request_after set main opening code front a.act.thread in
      let here_run : IsRun (front ++ a ∷ was.rest) = subst IsRun was.is_here run in
      let before = plain_front set main opening code front (a ∷ was.rest) here_run in
      let may = may_act set main opening code front a was.rest here_run in
      let ask : MayAsk set (known front) (wants_of set main opening code front) request a.act.thread p.place p.value =
      subst (Rule set (known front) (wants_of set main opening code front) request a.act.thread a.named) was.is_asked may.rule in
      let more = grows front (a ∷ was.rest) in
      let same : count acts ≡ count (front ++ a ∷ was.rest) = ap count was.is_here in
      let fit = given_fits set world a.act.thread o request consistent
      (heap_is_of_set set main opening code consistent.complete is front before)
      (duties front before a.act.thread) ask.is_about
      (stored_few world.heap p.place p.value (omega (arith, few, more, same))) in
      let tests = and_parts (has_place world.heap p.place) (is_below (count front) p.value) fit in
      let below : m < count front = subst (IsBelow (count front)) value (below_by_test (count front) p.value tests.1) in
      omega (arith, below, more, same)

  was_asked : (acts : List Recorded) (u : ℕ) (p : Pending) → pending_of (known acts).asked u ≡ Some p → WasAsked acts u p
  was_asked acts u p pending = elim (pending_was_asked (first_known set opening) acts u p pending) [
    | inl (first, none) ↦ absurd (let no : None ≡ Some p = first in cc)
    | inr was ↦ was
  ]

  abbrev AreThere : List Recorded → Type 0
  AreThere acts = (u n : ℕ) → wants_of set main opening code acts u n → n < count acts

  wanted_next : (front : List Recorded) (a : Recorded) → IsRun (front ++ a ∷ []) → count (front ++ a ∷ []) < 2 ^ 32
      → AreThere front → AreThere (front ++ a ∷ [])
  wanted_next front a run few there u n wants =
      let next = front ++ a ∷ [] in
      let more = grows front (a ∷ []) in
      let now : IsWantedNow (known next) (wants_of set main opening code front) u n =
      rw (known_after-append (first_known set opening) front (a ∷ []))
      (wants_now (next_known (known front) a) (WantsAfter (first_known set opening) NoWish front) u n
      ((wants_after-push (first_known set opening) NoWish front a u n).0 wants)) in
      let sound = sound_after set main opening code consistent.complete next is duties run few in
      let from : (m : ℕ) → (now.pending.value ≡ Object m) ⊎ wants_of set main opening code front u m → m < count next =
      λ m by. elim by [
        | inl value ↦ asked_below next u now.pending m run few (was_asked next u now.pending now.is_pending) value
        | inr before ↦ (let below = there u m before in omega (arith, below, more))
      ] in
      reached_below (known next).world.heap (λ m. (now.pending.value ≡ Object m) ⊎ wants_of set main opening code front u m)
      sound from n now.reached

  next_agrees : (front : List Recorded) (a : Recorded) → IsRun (front ++ a ∷ []) → count (front ++ a ∷ []) < 2 ^ 32
      → AreThere front → Agrees (seen front) (known front) → Agrees (seen (front ++ a ∷ [])) (known (front ++ a ∷ []))
  next_agrees front a run few there agrees =
      let may = may_act set main opening code front a [] run in
      let fit = act_fits_its_heap set main opening code consistent is duties front a [] run few in
      let named = joined_there set (known front) (wants_of set main opening code front)
      (request_after set main opening code front a.act.thread) a.act.thread (count front) a.named a.act.op may.rule there in
      let pushed : seen (front ++ a ∷ []) ≡ seen_after (seen front) a = fold-append seen_after (first_seen set opening) front (a ∷ []) in
      let known_pushed : known (front ++ a ∷ []) ≡ next_known (known front) a =
      known_after-append (first_known set opening) front (a ∷ []) in
      let heap : (seen_after (seen front) a).heap ≡ (next_known (known front) a).world.heap =
      ap (λ (s : Seen). s.heap) (sym pushed) ∙ heap_same (front ++ a ∷ []) run few
      ∙ ap (λ (k : Knowledge). k.world.heap) known_pushed in
      subst (λ (s : Seen). Agrees s (known (front ++ a ∷ []))) (sym pushed)
      (subst (Agrees (seen_after (seen front) a)) (sym known_pushed)
      (agrees_next (seen front) (known front) a agrees fit.fit named heap))

  all_agree : (front rest : List Recorded) → IsRun (front ++ rest) → count (front ++ rest) < 2 ^ 32 → AreThere front
      → Agrees (seen front) (known front) → Agrees (seen (front ++ rest)) (known (front ++ rest))
  all_agree front [] run few there agrees = rw (append-nil front) agrees
  all_agree front (a ∷ rest) run few there agrees =
      let regroup : (front ++ a ∷ []) ++ rest ≡ front ++ a ∷ rest = append_assoc front (a ∷ []) rest in
      let long : IsRun ((front ++ a ∷ []) ++ rest) = rw regroup run in
      let few_long : count ((front ++ a ∷ []) ++ rest) < 2 ^ 32 = rw regroup few in
      let once = plain_front set main opening code (front ++ a ∷ []) rest long in
      let more = grows (front ++ a ∷ []) rest in
      let few_once : count (front ++ a ∷ []) < 2 ^ 32 = omega (arith, more, few_long) in
      rw (← regroup) (all_agree (front ++ a ∷ []) rest long few_long (wanted_next front a once few_once there)
      (next_agrees front a once few_once there agrees))

  nodes_few : length opening.nodes ≤ length (first_objects set opening)
  nodes_few =
      let nodes = map (node_object set opening) opening.nodes in
      let others : List Obj = record { shape = stream_class set; values = [] }
      ∷ record { shape = arguments_class set; values = [] } ∷ map (literal_object set opening) set.literals in
      omega (arith, length-append nodes others, length-map opening.nodes (node_object set opening))

  first_agrees : Agrees (seen []) (known [])
  unfolding first_heap first_world
  first_agrees =
      let nodes = length opening.nodes in
      let rest = length (first_objects set opening) - nodes in
      record {
        heap = refl;
        count = omega (
          arith,
          length-append (replicate nodes true) (replicate rest false),
          length-replicate nodes true,
          length-replicate rest false,
          nodes_few,
        );
        flags = flags-first nodes rest;
        stores = refl;
      }

  pub is_seen : (acts : List Recorded) → IsRun acts → count acts < 2 ^ 32 → IsSeenOf (seen acts) (known acts)
  is_seen acts run few =
      let agrees = all_agree [] acts run few (λ u n wants. absurd wants) first_agrees in
      record { heap = agrees.heap; durable = agrees.flags; stores = agrees.stores }
