-- At every point of every plain run the frames of each thread are in the world, and so each request is fit.
use Rattle.std.proofs.Common.{◌≡◌, ℕ, zero, suc, ◌+◌, ◌<◌, ◌≤◌, Bool, true, false, List, [], ◌∷◌, ◌++◌, length, map}
use Rattle.std.proofs.Common.{append_assoc, length-append, Option, Some, None, refl, ap, sym, subst, ◌∙◌, ◌⊎◌, inl, inr, arith}
use Rattle.std.proofs.Common.{if◌then◌else◌}
use Rattle.std.specs.Prelude.{◌≢◌, slice_get}
use Rattle.std.proofs.lemmas.List.{append-nil, length-map}
use Rattle.std.proofs.lemmas.List.Elements.{All-nil, All-cons}
use Rattle.graph_model.specs.declared.types.Graph.{Graph}
use Rattle.graph_model.specs.declared.types.Obj.{Obj}
use Rattle.graph_model.specs.declared.types.Value.{Value}
use Rattle.graph_model.specs.declared.types.Value.TheVariants.{Obj as Object}
use Rattle.run_history.specs.declared.act.Op.{Op}
use Rattle.run_history.specs.declared.act.Op.TheVariants as op
use Rattle.run_history.specs.Recorded.{Recorded}
use Rattle.run_history.specs.Worlds.{Thread, World, after}
use Rattle.run_history.specs.Knowing.{Knowledge}
use Rattle.plain_model.specs.Facts.{SetFacts, stream_class, arguments_class}
use Rattle.plain_model.specs.Consistent.{IsConsistent}
use Rattle.plain_model.specs.First.{IsOpening, first_heap, first_known, first_objects, first_world, arguments_number}
use Rattle.plain_model.specs.First.{literal_object, node_object}
use Rattle.plain_model.specs.Requests.{PlainRequest, PlainReply}
use Rattle.plain_model.specs.Steps.{Does, step, reply_of}
use Rattle.plain_model.specs.Codes.{Code, is_persistent, taken_by, asks_live, request_of, answered_by, answered, answered_at}
use Rattle.plain_model.specs.Codes.{begun_by, frames_after_op}
use Rattle.plain_model.specs.Runs.{op_given, IsPlainRun, first_frames, frames_of, known_of, request_after}
use Rattle.plain_model.specs.Duties.{IsClass, IsFit, KeepsDuties}
use Rattle.plain_model.specs.Typed.{IsTyped}
use Rattle.plain_model.specs.TypeLaws.{IsOfSet}
use Rattle.plain_model.proofs.Appended.{known_after-append, frames_after-push}
use Rattle.plain_model.proofs.FirstSound.{first_heap_is_sound}
use Rattle.plain_model.proofs.RunSound.{replies, world_next, world_of_next}
use Rattle.plain_model.proofs.StepTyped.{step_leaves_typed}
use Rattle.plain_model.proofs.TypedRuns.{heap_is_of_set}
use Rattle.plain_model.proofs.Typing.{first_heap_is_typed}
use Rattle.plain_model.proofs.Visible.{plain_front, visible_is_step}
use Rattle.frames.specs.declared.program.Program.{Program}
use Rattle.frames.specs.Settings.{Main, Frames, Setting}
use Rattle.frames.specs.Turns.{begun_main, begun_thread, turn}
use Rattle.plain_frames.specs.Codes.{PlainNatives, code_of, plain_setting, request_or_pause}
use Rattle.plain_frames.specs.Tables.{NamesWhatIsThere}
use Rattle.plain_frames.specs.Sound.{IsFrameIn, AreIn, KeepIn}
use Rattle.plain_frames.specs.DutyLaws.{HasLiterals, IsFitIfAsked, IsWorldOf, RefersWithin}
use Rattle.plain_frames.proofs.Progressing.{step-progresses, started_object}
use Rattle.plain_frames.proofs.References.{objects_stay, sound-refers, step-refers}
use Rattle.plain_frames.proofs.Stepping.{others-in, step-in}
use Rattle.plain_frames.proofs.Turns.{turn-in}

-- ---- beginnings

pub thread-begins : {N : Type 0} (set : SetFacts) (is_in : ℕ → N → Bool) (world : World) (t n : ℕ)
    → n < length world.heap.objects → AreIn set is_in world t (begun_thread (Object n))
thread-begins set is_in world t n there = record {
  doing = there;
  frames = All-nil (IsFrameIn set is_in world t);
  once = λ i j d lt within. absurd (omega (arith, within));
}

module _ (set : SetFacts) (opening : Graph) {N : Type 0} (is_in : ℕ → N → Bool) where
  first_counted : length (first_objects set opening) ≡ length opening.nodes + (2 + length set.literals)
  first_counted =
      let nodes = map (node_object set opening) opening.nodes in
      let literals = map (literal_object set opening) set.literals in
      let stream : Obj = record { shape = stream_class set; values = [] } in
      let arguments : Obj = record { shape = arguments_class set; values = [] } in
      omega (
        arith,
        length-append nodes (stream ∷ arguments ∷ literals),
        length-map opening.nodes (node_object set opening),
        length-map set.literals (literal_object set opening),
      )

  pub main-begins : (main method : ℕ) → IsClass set main
      → AreIn set is_in (first_world set opening) 0
      (begun_main main method (Object (arguments_number set opening)))
  unfolding first_world first_heap
  main-begins main method is = record {
    doing = is;
    frames = All-cons (IsFrameIn set is_in (first_world set opening) 0)
        (Main method (Object (arguments_number set opening))) [] (omega (arith, first_counted))
        (All-nil (IsFrameIn set is_in (first_world set opening) 0));
    once = λ i j d lt within. absurd (omega (arith, within));
  }

-- ---- lists of frames

none-some : {X : Type 0} (v : X) {P : Type 0} → ◌≡◌ {A = Option X} None (Some v) → P
none-some v e = absurd (let no = e in cc)

some-same : {X : Type 0} (v w : X) → ◌≡◌ {A = Option X} (Some v) (Some w) → v ≡ w
some-same v w e = cc

-- what stands in a list of two parts stands in one of them
get-append : {X : Type 0} (xs ys : List X) (u : ℕ) (v : X) → slice_get (xs ++ ys) u ≡ Some v
    → (slice_get xs u ≡ Some v) ⊎ ((k : ℕ) × (slice_get ys k ≡ Some v))
get-append [] ys u v e = inr (u, e)
get-append (x ∷ xs) ys zero v e = inl e
get-append (x ∷ xs) ys (suc u) v e = get-append xs ys u v e

module _ (set : SetFacts) (main : ℕ) (opening : Graph) {F : Type 0} (code : Code set main opening F) where
  -- what stands at a thread's place after its answer, and at another's
  get-answered : (world : World) (t taken : ℕ) (frames : List F) (k u : ℕ) (f : F)
      → slice_get (answered_at set main opening code world t taken frames k) u ≡ Some f
      → ((u ≡ k) × (g : F) × (slice_get frames u ≡ Some g)
      × (f ≡ answered set main opening code world t taken g))
      ⊎ ((u ≢ k) × (slice_get frames u ≡ Some f))
  get-answered world t taken [] k u f e = none-some f e
  get-answered world t taken (g ∷ gs) zero zero f e = inl (refl, g, refl, sym (some-same _ f e))
  get-answered world t taken (g ∷ gs) zero (suc u) f e = inr (λ same. absurd (omega (arith, same)), e)
  get-answered world t taken (g ∷ gs) (suc k) zero f e = inr (λ same. absurd (omega (arith, same)), e)
  get-answered world t taken (g ∷ gs) (suc k) (suc u) f e =
      elim (get-answered world t taken gs k u f e) [
        | inl here ↦ inl (ap suc here.0, here.1, here.2, here.3)
        | inr other ↦ inr ((λ same. other.0 (omega (arith, same))), other.1)
      ]

  -- a thread that asks has frames
  asking : (thread : Option Thread) (frames : Option F) (request : PlainRequest)
      → asks_live set main opening code thread frames ≡ Some request
      → (fs : F) × (frames ≡ Some fs) × (request ≡ (code.turn fs).1)
  asking None frames request e = none-some request e
  asking (Some thread) None request e = ended-none thread.ended e
    where
      ended-none : (b : Bool) → (if b then None else None) ≡ Some request
          → (fs : F) × (◌≡◌ {A = Option F} None (Some fs)) × (request ≡ (code.turn fs).1)
      ended-none true e = none-some request e
      ended-none false e = none-some request e
  asking (Some thread) (Some fs) request e = ended-some thread.ended e
    where
      ended-some : (b : Bool) → (if b then None else Some (code.turn fs).1) ≡ Some request
          → (gs : F) × (◌≡◌ {A = Option F} (Some fs) (Some gs)) × (request ≡ (code.turn gs).1)
      ended-some true e = none-some request e
      ended-some false e = (fs, refl, sym (some-same _ request e))

-- a request whose step does something
given-step : (set : SetFacts) (world : World) (t taken : ℕ) (request : Option PlainRequest) (o : Op)
    → op_given set world t taken request ≡ Some o
    → (asked : PlainRequest) × (request ≡ Some asked) × (r : PlainReply)
    × (step set world t taken asked ≡ Does o r)
given-step set world t taken None o e = none-some o e
given-step set world t taken (Some asked) o e =
    let (r, does) = replies (step set world t taken asked) o e in (asked, refl, r, does)

-- ---- runs

module _ (set : SetFacts) (opening : Graph) {M N : Type 0} (p : Program M) (natives : PlainNatives M N)
    (method main : ℕ) (is_in : ℕ → N → Bool) (consistent : IsConsistent set) (is : IsOpening set opening)
    (tables : NamesWhatIsThere set p) (keeps : KeepIn set natives is_in) (is_main : IsClass set main) where
  abbrev x : Setting M Value N Value
  x = plain_setting set opening p natives method

  abbrev code : Code set main opening (Frames Value N)
  code = code_of set opening p natives method main

  -- what is kept of a world and the frames of its threads
  record Good (world : World) (frames : List (Frames Value N)) : Type 0 where
    typed : IsTyped set world.heap
    refers : RefersWithin world.heap
    objects : length (first_objects set opening) ≤ length world.heap.objects
    threads : (u : ℕ) (fs : Frames Value N) → slice_get frames u ≡ Some fs → AreIn set is_in world u fs

  literals-there : (world : World) → length (first_objects set opening) ≤ length world.heap.objects
      → HasLiterals set opening world
  literals-there world enough k below = omega (arith, enough, below, first_counted set opening is_in)

  world-is : (world : World) (frames : List (Frames Value N)) → IsOfSet set world.heap → Good world frames
      → IsWorldOf set opening world
  world-is world frames of_set good = record {
    of_set = of_set;
    typed = good.typed;
    refers = good.refers;
    literals = literals-there world good.objects;
  }

  -- the frames after an operation that is none of persistence
  abbrev frames_next : World → List (Frames Value N) → ℕ → Op → List (Frames Value N)
  frames_next world frames t o =
      answered_at set main opening code world t (taken_by o) frames t ++ begun_by set main opening code o

  -- ---- requests

  asks-turn : (fs : Frames Value N) → (code.turn fs).1 ≡ request_or_pause (turn x fs).asks
  unfolding code_of
  asks-turn fs = refl

  fit-turn : (q : Option PlainRequest) (world : World) (t : ℕ) → IsFitIfAsked set world t q
      → IsFit set world t (request_or_pause q)
  fit-turn None world t fit = tt
  fit-turn (Some request) world t fit = fit

  asked-fit : (world : World) (frames : List (Frames Value N)) (t : ℕ) (request : PlainRequest)
      → Good world frames → request_of set main opening code world frames t ≡ Some request
      → IsFit set world t request
  asked-fit world frames t request good e =
      let (fs, here, asked) =
      asking set main opening code (slice_get world.threads t) (slice_get frames t) request e in
      let turned = turn-in set opening p natives method is_in tables keeps world t
      (literals-there world good.objects) fs (good.threads t fs here) in
      subst (IsFit set world t) (sym (asked ∙ asks-turn fs)) (fit-turn (turn x fs).asks world t turned.fit)

  -- ---- an act

  module _ (world : World) (frames : List (Frames Value N)) (t : ℕ) (o : Op) (of_set : IsOfSet set world.heap)
      (good : Good world frames) (request : PlainRequest)
      (asks : request_of set main opening code world frames t ≡ Some request) (r : PlainReply)
      (does : step set world t (taken_by o) request ≡ Does o r) where
    abbrev later : World
    later = after world t o

    fit : IsFit set world t request
    fit = asked-fit world frames t request good asks

    abbrev Answered : Frames Value N → Frames Value N
    Answered fs = answered set main opening code world t (taken_by o) fs

    answer-step : (fs : Frames Value N) → AreIn set is_in world t fs
        → step set world t (taken_by o) (request_or_pause (turn x fs).asks) ≡ Does o r
        → AreIn set is_in later t (Answered fs)
    unfolding code_of
    answer-step fs fs_in it =
        subst (λ s. AreIn set is_in later t (answered_by set main opening code fs (reply_of s))) (sym it)
        (step-in set opening p natives method is_in consistent tables keeps world t
        (world-is world frames of_set good) fs (taken_by o) o r fs_in it)

    own-in : (fs : Frames Value N) → slice_get frames t ≡ Some fs → AreIn set is_in later t (Answered fs)
    own-in fs here =
        let (gs, there, asked) =
        asking set main opening code (slice_get world.threads t) (slice_get frames t) request asks in
        let same : gs ≡ fs = some-same gs fs (sym there ∙ here) in
        let asked_by_it : request ≡ request_or_pause (turn x fs).asks =
        subst (λ f. request ≡ (code.turn f).1) same asked ∙ asks-turn fs in
        answer-step fs (good.threads t fs here)
        (subst (λ q. step set world t (taken_by o) q ≡ Does o r) asked_by_it does)

    answered-in : (u : ℕ) (f : Frames Value N)
        → slice_get (answered_at set main opening code world t (taken_by o) frames t) u ≡ Some f
        → AreIn set is_in later u f
    answered-in u f e = elim (get-answered set main opening code world t (taken_by o) frames t u f e) [
      | inl here ↦
          let (same, g, at, is_answer) = here in
          subst (λ k. AreIn set is_in later k f) (sym same)
          (subst (AreIn set is_in later t) (sym is_answer)
          (own-in g (subst (λ k. slice_get frames k ≡ Some g) same at)))
      | inr other ↦ others-in set natives is_in keeps world t (taken_by o) request o r fit does u f other.0
          (good.threads u f other.1)
    ]

    -- a thread that was started begins with the class of its object
    begun-in : (q : Op) → q ≡ o → (k u : ℕ) (f : Frames Value N)
        → slice_get (begun_by set main opening code q) k ≡ Some f → AreIn set is_in later u f
    unfolding code_of
    begun-in (op.Start n child) same zero u f e =
        let there = started_object set world t request n child r
        (step-progresses set world t (taken_by o) request (op.Start n child) r
        (subst (λ q. step set world t (taken_by o) request ≡ Does q r) (sym same) does)) in
        subst (AreIn set is_in later u) (some-same _ f e)
        (thread-begins set is_in later u n (omega (arith, there, objects_stay world.heap o)))
    begun-in (op.Start n child) same (suc k) u f e = none-some f e
    begun-in q same k u f e = none-some f e

    visible-good : Good later (frames_next world frames t o)
    visible-good = record {
      typed = step_leaves_typed set world consistent of_set.shapes good.typed t (taken_by o) request o r fit
          does;
      refers = step-refers set world of_set.shapes good.refers t (taken_by o) request o r fit does;
      objects = omega (arith, good.objects, objects_stay world.heap o);
      threads = λ u f e. elim (get-append
          (answered_at set main opening code world t (taken_by o) frames t)
          (begun_by set main opening code o) u f e) [
            | inl old ↦ answered-in u f old
            | inr new ↦ begun-in o refl new.0 u f new.1
          ];
    }

  -- ---- acts

  abbrev world_of : List Recorded → World
  world_of acts = (known_of set main opening code acts).world

  abbrev all_frames : List Recorded → List (Frames Value N)
  all_frames acts = frames_of set main opening code acts

  next-good : (front : List Recorded) (a : Recorded) (rest : List Recorded)
      → IsPlainRun set main opening code (front ++ a ∷ rest) → Good (world_of front) (all_frames front)
      → (persistent : Bool) → is_persistent a.act.op ≡ persistent
      → Good (world_next (world_of front) a persistent)
      (if persistent then all_frames front
      else frames_next (world_of front) (all_frames front) a.act.thread a.act.op)
  next-good front a rest run good true e = good
  next-good front a rest run good false e =
      let of_set = heap_is_of_set set main opening code consistent.complete is front
      (plain_front set main opening code front (a ∷ rest) run) in
      let (request, asks, r, does) = given-step set (world_of front) a.act.thread (taken_by a.act.op)
      (request_after set main opening code front a.act.thread) a.act.op
      (visible_is_step set main opening code front a rest run e) in
      visible-good (world_of front) (all_frames front) a.act.thread a.act.op of_set good request asks r does

  world-push : (front : List Recorded) (a : Recorded)
      → world_of (front ++ a ∷ []) ≡ world_next (world_of front) a (is_persistent a.act.op)
  world-push front a =
      ap (λ (known : Knowledge). known.world) (known_after-append (first_known set opening) front (a ∷ []))
      ∙ world_of_next (known_of set main opening code front) a

  frames-push : (front : List Recorded) (a : Recorded)
      → all_frames (front ++ a ∷ [])
      ≡ (if is_persistent a.act.op then all_frames front
      else frames_next (world_of front) (all_frames front) a.act.thread a.act.op)
  unfolding frames_after_op
  frames-push front a =
      frames_after-push set main opening code (first_known set opening)
      (first_frames set main opening code) front a

  push-good : (front : List Recorded) (a : Recorded) (rest : List Recorded)
      → IsPlainRun set main opening code (front ++ a ∷ rest) → Good (world_of front) (all_frames front)
      → Good (world_of (front ++ a ∷ [])) (all_frames (front ++ a ∷ []))
  push-good front a rest run good =
      subst (λ world. Good world (all_frames (front ++ a ∷ []))) (sym (world-push front a))
      (subst (Good (world_next (world_of front) a (is_persistent a.act.op))) (sym (frames-push front a))
      (next-good front a rest run good (is_persistent a.act.op) refl))

  good-after : (front rest : List Recorded) → IsPlainRun set main opening code (front ++ rest)
      → Good (world_of front) (all_frames front)
      → Good (world_of (front ++ rest)) (all_frames (front ++ rest))
  good-after front [] run good =
      subst (λ acts. Good (world_of acts) (all_frames acts)) (sym (append-nil front)) good
  good-after front (a ∷ rest) run good =
      let regroup : (front ++ a ∷ []) ++ rest ≡ front ++ a ∷ rest = append_assoc front (a ∷ []) rest in
      subst (λ acts. Good (world_of acts) (all_frames acts)) regroup
      (good-after (front ++ a ∷ []) rest
      (subst (IsPlainRun set main opening code) (sym regroup) run) (push-good front a rest run good))

  first-frames : (u : ℕ) (fs : Frames Value N) → slice_get (first_frames set main opening code) u ≡ Some fs
      → AreIn set is_in (first_world set opening) u fs
  unfolding code_of
  first-frames zero fs e =
      subst (AreIn set is_in (first_world set opening) 0) (some-same _ fs e)
      (main-begins set opening is_in main method is_main)
  first-frames (suc u) fs e = none-some fs e

  first-typed : IsTyped set (first_world set opening).heap
  unfolding first_world
  first-typed = first_heap_is_typed set opening consistent is

  first-refers : RefersWithin (first_world set opening).heap
  unfolding first_world
  first-refers =
      sound-refers (first_heap set opening) (first_heap_is_sound set opening consistent.complete is)

  first-enough : length (first_objects set opening) ≤ length (first_world set opening).heap.objects
  unfolding first_world first_heap
  first-enough = omega arith

  first-good : Good (world_of []) (all_frames [])
  first-good = record {
    typed = first-typed;
    refers = first-refers;
    objects = first-enough;
    threads = first-frames;
  }

  run-good : (acts : List Recorded) → IsPlainRun set main opening code acts
      → Good (world_of acts) (all_frames acts)
  run-good acts run = good-after [] acts run first-good

  pub frames-stay : (acts : List Recorded) → IsPlainRun set main opening code acts → (t : ℕ)
      (fs : Frames Value N) → slice_get (all_frames acts) t ≡ Some fs → AreIn set is_in (world_of acts) t fs
  frames-stay acts run = (run-good acts run).threads

  pub worlds-are : (acts : List Recorded) → IsPlainRun set main opening code acts
      → IsWorldOf set opening (world_of acts)
  worlds-are acts run =
      world-is (world_of acts) (all_frames acts)
      (heap_is_of_set set main opening code consistent.complete is acts run) (run-good acts run)

  pub duties-kept : KeepsDuties set main opening code
  duties-kept acts run t request asks =
      asked-fit (world_of acts) (all_frames acts) t request (run-good acts run) asks
