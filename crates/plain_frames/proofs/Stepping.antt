-- Frames that are in a world stay in it when their thread's step is answered, and when another thread's is.
use Rattle.std.proofs.Common.{◌≡◌, ℕ, suc, Bool, true, false, List, [], ◌∷◌, length, drop, Option, Some, None, refl, sym, subst}
use Rattle.std.proofs.Common.{◌∙◌, ◌⊎◌, inl, inr, arith}
use Rattle.std.specs.Prelude.{All, AllPairs, ◌≢◌, slice_get, slice_index_or}
use Rattle.std.proofs.lemmas.List.Elements.{All-nil, All-cons, All-head, All-tail}
use Rattle.run_types.specs.declared.resolved.At.{At}
use Rattle.run_types.specs.declared.key.Key.{Key}
use Rattle.graph_model.specs.declared.types.Graph.{Graph}
use Rattle.graph_model.specs.declared.types.Value.{Value}
use Rattle.graph_model.specs.declared.types.Value.TheVariants.{Int, Long, Null, Obj as Object}
use Rattle.graph_model.specs.Heaps.{IsBelow}
use Rattle.natives.specs.declared.requests.Request.TheVariants as ask
use Rattle.natives.specs.declared.requests.Reply.TheVariants as reply
use Rattle.run_history.specs.declared.act.Op.{Op}
use Rattle.run_history.specs.declared.plain.Progress.{Progress}
use Rattle.run_history.specs.declared.plain.Progress.TheVariants.{BegunBy}
use Rattle.run_history.specs.Worlds.{World, after}
use Rattle.plain_model.specs.Facts.{SetFacts, is_sub}
use Rattle.plain_model.specs.Consistent.{IsConsistent}
use Rattle.plain_model.specs.Requests.{PlainRequest, PlainReply}
use Rattle.plain_model.specs.Replies.{NamesBelow, IsObject, IsReplyTo}
use Rattle.plain_model.specs.Steps.{Does, step}
use Rattle.plain_model.specs.Duties.{IsClass, IsThrowable, IsReferenceIn, IsFit}
use Rattle.plain_model.proofs.StepReplies.{reply_is_of_its_kind}
use Rattle.frame_cells.specs.Own.{Own}
use Rattle.frames.specs.declared.op.Op.{Op as Instruction}
use Rattle.frames.specs.declared.op.Op.TheVariants as does_op
use Rattle.frames.specs.declared.program.Program.{Program}
use Rattle.frames.specs.Tables.{placed_at}
use Rattle.frames.specs.Settings.{Frame, Running, Native, Initialiser, Main, Doing, Runs, BeginsMain, BeginsThread, Enters}
use Rattle.frames.specs.Settings.{Unwinds, Initialises, Initialised, Breaks, Ends, Frames, Setting}
use Rattle.frames.specs.Turns.{asked_by, at_of, class_of, turn, answer}
use Rattle.plain_frames.specs.Codes.{PlainNatives, plain_setting, request_or_pause}
use Rattle.plain_frames.specs.Tables.{NamesWhatIsThere}
use Rattle.plain_frames.specs.Sound.{IsNativeIn, IsBegun, IsFrameIn, IsInitialiser, IsDoingIn, AreIn, KeepIn, initialised_by}
use Rattle.plain_frames.specs.DutyLaws.{IsFitIfAsked, IsAnswerIn, IsWorldOf}
use Rattle.plain_frames.proofs.Asking.{IsNoEnd, IsOfThrow, IsOfOp, IsOfFrames, IsWaited, turn-end}
use Rattle.plain_frames.proofs.Answers.{answer-in, initialised-in}
use Rattle.plain_frames.proofs.Progressing.{Progresses, step-progresses, stays_begun, not_begun, has_begun, told_class}
use Rattle.plain_frames.proofs.Later.{are-later}
use Rattle.plain_frames.proofs.References.{objects_stay, reply-there, shape-there}
use Rattle.plain_frames.proofs.Turns.{turn-in}

pairs-head : {X : Type 0} (P : X → X → Type 0) (x : X) (xs : List X) → AllPairs P (x ∷ xs) → All (P x) xs
pairs-head P x xs pairs k d within = pairs 0 (suc k) d (omega arith) (omega (arith, within))

pairs-tail : {X : Type 0} (P : X → X → Type 0) (x : X) (xs : List X) → AllPairs P (x ∷ xs) → AllPairs P xs
pairs-tail P x xs pairs i j d lt within = pairs (suc i) (suc j) d (omega arith) (omega arith)

-- ---- what a reply names

reference : (n : ℕ) (value : Value) → IsObject value → IsBelow n value → (world : World)
    → n ≡ length world.heap.objects → IsReferenceIn world value
reference n (Object k) is below world e = omega (arith, below, e)
reference n Null is below world e = absurd is
reference n (Int i) is below world e = absurd is
reference n (Long i) is below world e = absurd is

module _ (set : SetFacts) where
  made-object : (request : PlainRequest) (object : Value) → IsReplyTo set request (reply.Made object)
      → IsObject object
  made-object (ask.New from class) object is = is
  made-object (ask.NewArray from shape count) object is = is
  made-object (ask.NewText from count) object is = is
  made-object request object is = absurd is

  thrown-object : (request : PlainRequest) (object : Value) (class : ℕ)
      → IsReplyTo set request (reply.Thrown object class) → IsObject object × IsThrowable set class
  thrown-object ask.Pause object class is = absurd is
  thrown-object (ask.Broken f) object class is = absurd is
  thrown-object (ask.New from c) object class is = absurd is
  thrown-object (ask.GetStatic from field) object class is = absurd is
  thrown-object (ask.PutStatic from field value) object class is = absurd is
  thrown-object (ask.IsA from o c) object class is = absurd is
  thrown-object (ask.Same from left right) object class is = absurd is
  thrown-object (ask.Init from c) object class is = absurd is
  thrown-object (ask.InitDone from c) object class is = absurd is
  thrown-object (ask.Print from piece) object class is = absurd is
  thrown-object (ask.Begin from) object class is = absurd is
  thrown-object (ask.Leave uncaught) object class is = absurd is
  thrown-object request object class is = is

module _ (set : SetFacts) {M N : Type 0} (natives : PlainNatives M N) (is_in : ℕ → N → Bool)
    (keeps : KeepIn set natives is_in) (world : World) where
  -- the classes whose initialisers stand among frames were begun
  begun-in : (t : ℕ) (list : List (Frame Value N)) → All (IsFrameIn set is_in world t) list
      → All (IsBegun set is_in world t) (initialised_by list)
  begun-in t [] all = All-nil (IsBegun set is_in world t)
  begun-in t (Running m at own held ∷ below) all =
      begun-in t below (All-tail (IsFrameIn set is_in world t) (Running m at own held) below all)
  begun-in t (Native from state ∷ below) all =
      begun-in t below (All-tail (IsFrameIn set is_in world t) (Native from state) below all)
  begun-in t (Main m arguments ∷ below) all =
      begun-in t below (All-tail (IsFrameIn set is_in world t) (Main m arguments) below all)
  begun-in t (Initialiser class from ∷ below) all =
      All-cons (IsBegun set is_in world t) class (initialised_by below)
      (All-head (IsFrameIn set is_in world t) (Initialiser class from) below all)
      (begun-in t below (All-tail (IsFrameIn set is_in world t) (Initialiser class from) below all))

  module _ (t taken : ℕ) (request : PlainRequest) (o : Op) (r : PlainReply) (fit : IsFit set world t request)
      (does : step set world t taken request ≡ Does o r) where
    effect : Progresses set world t request o r
    effect = step-progresses set world t taken request o r does

    -- the frames of another thread
    pub others-in : (u : ℕ) (fs : Frames Value N) → u ≢ t → AreIn set is_in world u fs
        → AreIn set is_in (after world t o) u fs
    others-in u fs other is =
        are-later set natives is_in keeps world (after world t o) u (objects_stay world.heap o) fs is
        (λ k d within.
        let begun = begun-in u fs.frames is.frames k d within in
        stays_begun set world t request o r effect (slice_index_or (initialised_by fs.frames) k d) u
        (λ from asked.
        let own : IsFit set world t (ask.InitDone from (slice_index_or (initialised_by fs.frames) k d)) =
        subst (IsFit set world t) asked fit in
        let both : ◌≡◌ {A = Option Progress} (Some (BegunBy u)) (Some (BegunBy t)) = sym begun ∙ own in
        other (let same : u ≡ t = cc in same)) begun)

module _ (set : SetFacts) (opening : Graph) {M N : Type 0} (p : Program M) (natives : PlainNatives M N)
    (method : ℕ) (is_in : ℕ → N → Bool) (consistent : IsConsistent set)
    (tables : NamesWhatIsThere set p) (keeps : KeepIn set natives is_in) (world : World) (t : ℕ)
    (good : IsWorldOf set opening world) where
  abbrev x : Setting M Value N Value
  x = plain_setting set opening p natives method

  abbrev NoEnd : PlainRequest → Type 0
  NoEnd = IsNoEnd set opening p natives method

  abbrev OfFrames : PlainRequest → List (Frame Value N) → Type 0
  OfFrames = IsOfFrames set opening p natives method

  abbrev Waited : PlainRequest → Frames Value N → Type 0
  Waited = IsWaited set opening p natives method

  -- ---- only an initialiser says that it is done

  fit-no_end : (empty : World) → empty.classes ≡ [] → (request : PlainRequest)
      → IsFit set empty t request → NoEnd request
  fit-no_end empty e (ask.InitDone from class) fit =
      absurd (let no : ◌≡◌ {A = Option Progress} None (Some (BegunBy t)) =
      subst (λ classes. slice_get classes class ≡ Some (BegunBy t)) e fit in cc)
  fit-no_end empty e request fit = tt

  native-no_end : (state : N) → IsNativeIn set is_in world state → NoEnd (natives.asks state)
  native-no_end state is =
      let empty : World = record world { classes = [] } in
      fit-no_end empty refl (natives.asks state) (keeps.asks empty t state is)

  throw-no_end : (request : PlainRequest) → IsOfThrow set opening p natives method request → NoEnd request
  throw-no_end (ask.InitDone from class) is = is
  throw-no_end request is = tt

  op-no_end : (o : Instruction) (request : PlainRequest) → IsOfOp set opening p natives method o request
      → NoEnd request
  op-no_end does_op.Throw request is = throw-no_end request is
  op-no_end o request is = is

  frames-no_end : (request : PlainRequest) (list : List (Frame Value N)) → OfFrames request list
      → All (IsFrameIn set is_in world t) list → NoEnd request
  frames-no_end (ask.Broken f) list is all = tt
  frames-no_end request [] is all = is
  frames-no_end request (Running m at own held ∷ below) is all =
      op-no_end (placed_at p at).op request is
  frames-no_end request (Native from state ∷ below) is all =
      subst NoEnd (sym is)
      (native-no_end state (All-head (IsFrameIn set is_in world t) (Native from state) below all))
  frames-no_end request (Initialiser class from ∷ below) is all = is
  frames-no_end request (Main m arguments ∷ below) is all = is

  asked-no_end : (asked request : PlainRequest) → ◌≡◌ {A = Option PlainRequest} (Some asked) (Some request)
      → NoEnd asked → NoEnd request
  asked-no_end asked request e is = subst NoEnd (let same : asked ≡ request = cc in same) is

  doing-no_end : (doing : Doing Value) (list : List (Frame Value N)) (request : PlainRequest)
      → asked_by x doing list ≡ Some request → (doing ≡ Initialised) ⊎ NoEnd request
  doing-no_end Runs list request e =
      absurd (let no : ◌≡◌ {A = Option PlainRequest} None (Some request) = e in cc)
  doing-no_end Initialised list request e = inl refl
  doing-no_end (BeginsMain class) list request e = inr (asked-no_end _ request e tt)
  doing-no_end (BeginsThread thread) list request e = inr (asked-no_end _ request e tt)
  doing-no_end Enters list request e = inr (asked-no_end _ request e tt)
  doing-no_end (Unwinds thrown class) list request e = inr (asked-no_end _ request e tt)
  doing-no_end (Initialises super) list request e = inr (asked-no_end _ request e tt)
  doing-no_end (Breaks f) list request e = inr (asked-no_end _ request e tt)
  doing-no_end (Ends uncaught) list request e = inr (asked-no_end _ request e tt)

  -- ---- the answer

  module _ (gs : Frames Value N) (request : PlainRequest) (taken : ℕ) (o : Op) (r : PlainReply)
      (is : AreIn set is_in world t gs) (fit : IsFit set world t request)
      (does : step set world t taken request ≡ Does o r) where
    abbrev later : World
    later = after world t o

    abbrev How : Type 0
    How = ((gs.paused ≡ true) × (request ≡ ask.Pause)) ⊎ ((gs.paused ≡ false) × Waited request gs)

    has : Progresses set world t request o r
    has = step-progresses set world t taken request o r does

    replied : IsReplyTo set request r
    replied = reply_is_of_its_kind set world consistent good.of_set good.typed t taken request o r fit does

    there : NamesBelow (length later.heap.objects) r
    there = reply-there set world good.of_set.shapes good.refers t taken request o r fit does

    begun : All (IsBegun set is_in world t) (initialised_by gs.frames)
    begun = begun-in set natives is_in keeps world t gs.frames is.frames

    -- what the last frame waits for
    asks : How → gs.doing ≡ Runs → gs.paused ≡ false → OfFrames request gs.frames
    asks (inl (paused, e)) runs goes = absurd (let no : true ≡ false = sym paused ∙ goes in cc)
    asks (inr (goes_on, inl e)) runs goes =
        absurd (let no : ◌≡◌ {A = Option PlainRequest} None (Some request) =
        subst (λ d. asked_by x d gs.frames ≡ Some request) runs e in cc)
    asks (inr (goes_on, inr (also, of))) runs goes = of

    of_native : (q : PlainRequest) (s : PlainReply) (from : At) (state : N) (below : List (Frame Value N))
        → IsReplyTo set q s → OfFrames q (Native from state ∷ below) → q ≡ natives.asks state
    of_native (ask.Broken f) s from state below reply_is of = absurd reply_is
    of_native q s from state below reply_is of = of

    of_throw : (q : PlainRequest) (class : ℕ) → IsReplyTo set q (reply.Shape class)
        → IsOfThrow set opening p natives method q → is_sub set class p.throwable ≡ true
    of_throw (ask.ClassOf from object within) class reply_is of =
        subst (λ c. is_sub set class c ≡ true) of reply_is
    of_throw (ask.Raise from c) class reply_is of = absurd reply_is
    of_throw q class reply_is of = absurd of

    of_running : (q : PlainRequest) (class m at : ℕ) (own : Own Value) (held : Option (Key Value))
        (below : List (Frame Value N)) → IsReplyTo set q (reply.Shape class)
        → (placed_at p at).op ≡ does_op.Throw → OfFrames q (Running m at own held ∷ below)
        → is_sub set class p.throwable ≡ true
    of_running (ask.Broken f) class m at own held below reply_is throw of = absurd reply_is
    of_running q class m at own held below reply_is throw of =
        of_throw q class reply_is (subst (λ i. IsOfOp set opening p natives method i q) throw of)

    told : (class : ℕ) → r ≡ reply.Shape class → IsClass set class
    told class same =
        let (n, inside, e) = told_class set world t request o class
        (subst (Progresses set world t request o) same has) in
        subst (IsClass set) (sym e) (shape-there set world good.of_set.shapes good.refers n inside)

    pub known : How → IsAnswerIn set p natives later t gs r
    known how = record {
      item = λ v same. subst (NamesBelow (length later.heap.objects)) same there;
      made = λ object same.
          reference (length later.heap.objects) object
          (made-object set request object (subst (IsReplyTo set request) same replied))
          (subst (NamesBelow (length later.heap.objects)) same there) later refl;
      thrown = λ object class same.
          let (is_object, throwable) = thrown-object set request object class
          (subst (IsReplyTo set request) same replied) in (
            reference (length later.heap.objects) object is_object
                (subst (NamesBelow (length later.heap.objects)) same there) later refl,
            throwable,
          );
      begins = λ class same.
          let it = has_begun set world t request o class
          (subst (Progresses set world t request o) same has) in (
            it.now,
            λ k d within.
                not_begun set world t class (slice_index_or (initialised_by gs.frames) k d) t it.was
                (begun k d within),
          );
      native = λ runs goes from state below e.
          let own = of_native request r from state below replied
          (subst (OfFrames request) e (asks how runs goes)) in
          (subst (λ q. IsReplyTo set q r) own replied, there);
      athrow = λ runs goes m at own held below e throw class same. (
        told class same,
        subst (λ c. is_sub set class c ≡ true) tables.throwable
            (of_running request class m at own held below (subst (IsReplyTo set request) same replied) throw
            (subst (OfFrames request) e (asks how runs goes))),
      );
    }

    -- where no class is done
    stay : NoEnd request → AreIn set is_in later t gs
    stay no_end =
        are-later set natives is_in keeps world later t (objects_stay world.heap o) gs is
        (λ k d within.
        stays_begun set world t request o r has (slice_index_or (initialised_by gs.frames) k d) t
        (λ from asked. subst NoEnd asked no_end) (begun k d within))

    answered : How → NoEnd request → AreIn set is_in later t (answer x gs r)
    answered how no_end =
        answer-in set opening p natives method is_in tables keeps later t gs r (stay no_end) (known how)

    -- where an initialiser is
    below-in : (list : List (Frame Value N)) → IsInitialiser set is_in world t list
        → All (IsFrameIn set is_in world t) list → AllPairs (λ m n. m ≢ n) (initialised_by list)
        → ◌≡◌ {A = Option PlainRequest} (Some (ask.InitDone (at_of x list) (class_of x list))) (Some request)
        → AreIn set is_in later t (record gs { doing = Runs; frames = drop 1 list })
    below-in [] initialiser all once e = absurd initialiser
    below-in (Running m at own held ∷ below) initialiser all once e = absurd initialiser
    below-in (Native from state ∷ below) initialiser all once e = absurd initialiser
    below-in (Main m arguments ∷ below) initialiser all once e = absurd initialiser
    below-in (Initialiser class from ∷ below) initialiser all once e =
        let rest : Frames Value N = record gs { doing = Runs; frames = below } in
        let rest_all = All-tail (IsFrameIn set is_in world t) (Initialiser class from) below all in
        let rest_is : AreIn set is_in world t rest = record {
          doing = tt;
          frames = rest_all;
          once = pairs-tail (λ m n. m ≢ n) class (initialised_by below) once;
        } in
        are-later set natives is_in keeps world later t (objects_stay world.heap o) rest rest_is
        (λ k d within.
        let n = slice_index_or (initialised_by below) k d in
        stays_begun set world t request o r has n t
        (λ at asked.
        let both : ◌≡◌ {A = PlainRequest} (ask.InitDone from class) (ask.InitDone at n) =
        (let done : ask.InitDone from class ≡ request = cc in done) ∙ asked in
        pairs-head (λ m n. m ≢ n) class (initialised_by below) once k d within
        (let same : class ≡ n = cc in same))
        (begun-in set natives is_in keeps world t below rest_all k d within))

    initialised : gs.doing ≡ Initialised → gs.paused ≡ false → asked_by x gs.doing gs.frames ≡ Some request
        → AreIn set is_in later t (answer x gs r)
    initialised doing goes e =
        initialised-in set opening p natives method is_in tables keeps later t gs r doing goes
        (below-in gs.frames
        (initialiser gs.doing doing is.doing) is.frames is.once
        (subst (λ d. asked_by x d gs.frames ≡ Some request) doing e))
      where
        initialiser : (d : Doing Value) → d ≡ Initialised → IsDoingIn set is_in world t d gs.frames
            → IsInitialiser set is_in world t gs.frames
        initialiser d e it = subst (λ d. IsDoingIn set is_in world t d gs.frames) e it

    pub reply-in : How → AreIn set is_in later t (answer x gs r)
    reply-in (inl (paused, e)) =
        answered (inl (paused, e)) (subst NoEnd (sym e) tt)
    reply-in (inr (goes, inr (runs, of))) =
        answered (inr (goes, inr (runs, of))) (frames-no_end request gs.frames of is.frames)
    reply-in (inr (goes, inl e)) = elim (doing-no_end gs.doing gs.frames request e) [
      | inl doing ↦ initialised doing goes e
      | inr no_end ↦ answered (inr (goes, inl e)) no_end
    ]

  -- the reply to the request of a turn
  pub step-answers : (fs : Frames Value N) (taken : ℕ) (o : Op) (r : PlainReply) → AreIn set is_in world t fs
      → step set world t taken (request_or_pause (turn x fs).asks) ≡ Does o r
      → IsAnswerIn set p natives (after world t o) t (turn x fs).frames r
  step-answers fs taken o r is does =
      let turned = turn-in set opening p natives method is_in tables keeps world t good.literals fs is in
      let ends = turn-end set opening p natives method fs in
      known (turn x fs).frames ends.request taken o r turned.frames
      (subst (IsFitIfAsked set world t) ends.asks turned.fit)
      (subst (λ q. step set world t taken (request_or_pause q) ≡ Does o r) ends.asks does) ends.how

  -- a turn, its step, and the answer
  pub step-in : (fs : Frames Value N) (taken : ℕ) (o : Op) (r : PlainReply) → AreIn set is_in world t fs
      → step set world t taken (request_or_pause (turn x fs).asks) ≡ Does o r
      → AreIn set is_in (after world t o) t (answer x (turn x fs).frames r)
  step-in fs taken o r is does =
      let turned = turn-in set opening p natives method is_in tables keeps world t good.literals fs is in
      let ends = turn-end set opening p natives method fs in
      reply-in (turn x fs).frames ends.request taken o r turned.frames
      (subst (IsFitIfAsked set world t) ends.asks turned.fit)
      (subst (λ q. step set world t taken (request_or_pause q) ≡ Does o r) ends.asks does) ends.how
