-- What following an act says and leaves.
use Rattle.std.proofs.Common.{◌≡◌, ◌⊎◌, ◌↔◌, ◌≢◌, ℕ, ◌<◌, true, false, IsTrue, List, [], ◌∷◌, ◌++◌, length, get_or, set, Option}
use Rattle.std.proofs.Common.{Some, None, refl, ap, sym, subst, ◌∙◌, inl, inr, arith, if◌then◌else◌}
use Rattle.std.specs.Prelude.{slice_get, slice_set}
use Rattle.ap_base.specs.declared.reference.Ref.{Ref}
use Rattle.ap_base.specs.declared.reference.Ref.TheVariants.{Null}
use Rattle.ap_base.specs.declared.reference.Item.{Item}
use Rattle.run_types.specs.declared.fault.Full.{Full}
use Rattle.graph_model.specs.declared.types.Root.{Root}
use Rattle.natives.specs.declared.methods.Native.{Native}
use Rattle.natives.specs.declared.requests.Request.{Request}
use Rattle.natives.specs.declared.requests.Request.TheVariants as ask
use Rattle.natives.specs.declared.requests.Reply.{Reply}
use Rattle.natives.specs.declared.states.NativeState.{NativeState}
use Rattle.run_history.specs.declared.act.Act.{Act}
use Rattle.run_history.specs.declared.act.Op.{Op}
use Rattle.run_history.specs.Knowing.{Knowledge}
use Rattle.run_history.specs.Recorded.{Recorded}
use Rattle.run_history.specs.Wanted.{NoWish}
use Rattle.run_history.specs.Worlds.{World, held}
use Rattle.plain_model.specs.Codes.{answered_at, begun_by, frames_after_op, is_persistent, taken_by}
use Rattle.plain_model.specs.Facts.{SetFacts}
use Rattle.plain_model.specs.First.{first_known}
use Rattle.plain_model.specs.Limits.{monitors_left}
use Rattle.plain_model.specs.Requests.{PlainReply}
use Rattle.plain_model.specs.Runs.{MayAct, first_frames, op_given, request_after, wants_of}
use Rattle.plain_model.specs.Steps.{Does, IsOver, Step, op_of, step}
use Rattle.plain_model.proofs.Appended.{GoesOn-pushed, frames_after-push, known_after-append}
use Rattle.plain_model.proofs.RunSound.{world_next, world_of_next}
use Rattle.frames.specs.Settings.{Setting}
use Rattle.frames.specs.Turns.{answer, turn}
use Rattle.frame_steps.specs.Sized.{AreOf}
use Rattle.private_steps.specs.Waits.{Waits, WaitsAfter}
use Rattle.shared_objects.specs.declared.rest.Rest.{Rest}
use Rattle.shared_objects.specs.Shown.{Shown}
use Rattle.shared_objects.specs.Plain.{plain_reply, plain_request}
use Rattle.shared_objects.specs.Worlds.{world_of}
use Rattle.step_forms.specs.declared.stepped.Stepped.TheVariants as stepped
use Rattle.step_forms.specs.Follows.{IsOutOfMonitors, IsStep}
use Rattle.step_forms.specs.Needs.{IsAskable}
use Rattle.run_forms.specs.Views.{PlainFrames, ThreadFrames}
use Rattle.run_forms.specs.Standing.{Launch, IsAsked, IsAsking, IsRun, StandsFor, frames_at, known_at, plain_code, setting_of}
use Rattle.run_forms.specs.Laws.{ActsGoOn, MovesStandForTheRun, ThreadsAskAlike, answered_threads}
use Rattle.plain_machine.specs.declared.lanes.Lane.{Lane}
use Rattle.plain_machine.specs.Starts.{begun_of, has_frames}
use Rattle.plain_machine.specs.Foreseeing.{step_in}
use Rattle.plain_machine.specs.Ops.{is_live, is_start}
use Rattle.plain_machine.specs.Standing.{AreAhead, AreOfProgram, IsAhead, IsNext, IsTurned, MayLack, NoMonitors, NoObject}
use Rattle.plain_machine.specs.Standing.{NoSteps, Stands}
use Rattle.plain_machine.specs.Trying.{DoesOr, IsKept, IsReady, IsShort, MakesObject, with_left}
use Rattle.plain_machine.specs.Turns.{TurnsFrom}
use Rattle.plain_machine.proofs.Ahead.{ahead-at, ahead-more, ahead-same, ahead-set, of-more, of-set}
use Rattle.plain_machine.proofs.Keeping.{here-all}
use Rattle.plain_machine.proofs.Lives.{live-state}
use Rattle.plain_machine.proofs.Possible.{no-false}
use Rattle.plain_machine.proofs.Starting.{begun-ahead, begun-plain, begun-program, frames_of}

some-same : {X : Type 0} (v w : X) → ◌≡◌ {A = Option X} (Some v) (Some w) → v ≡ w
some-same v w e = cc

-- ---- acts of persistence

kept-frames : (launch : Launch) (world : World) (gs : List PlainFrames) (t : ℕ) (o : Op)
    → is_persistent o ≡ true
    → frames_after_op launch.set launch.main launch.opening (plain_code launch) world gs t o ≡ gs
unfolding frames_after_op
kept-frames launch world gs t o e = ap (λ b. if b then gs
    else answered_at launch.set launch.main launch.opening (plain_code launch) world t (taken_by o) gs t
    ++ begun_by launch.set launch.main launch.opening (plain_code launch) o) e

persists : (launch : Launch) (acts : List Recorded) (shown : Shown) (rest : Rest)
    (threads : List ThreadFrames) (a : Recorded) → StandsFor launch acts shown rest threads
    → is_persistent a.act.op ≡ true → IsRun launch (acts ++ a ∷ [])
    → StandsFor launch (acts ++ a ∷ []) shown rest threads
persists launch acts shown rest threads a stands e run = record {
  run = run;
  roots = stands.roots;
  world = ap (λ (known : Knowledge). known.world)
      (known_after-append (first_known launch.set launch.opening) acts (a ∷ []))
      ∙ world_of_next (known_at launch acts) a
      ∙ ap (world_next (known_at launch acts).world a) e
      ∙ stands.world;
  frames = frames_after-push launch.set launch.main launch.opening (plain_code launch)
      (first_known launch.set launch.opening)
      (first_frames launch.set launch.main launch.opening (plain_code launch)) acts a
      ∙ kept-frames launch (known_at launch acts).world (frames_at launch acts) a.act.thread a.act.op e
      ∙ stands.frames;
  monitors = stands.monitors;
  literals = stands.literals;
  null = stands.null;
}

-- an act of persistence leaves the machine
pub persisted : (launch : Launch) (acts : List Recorded) (set : SetFacts)
    (x : Setting Native Ref (NativeState Ref) Item) (shown : Shown) (rest : Rest) (steps : ℕ) (lanes : List
    Lane)
    (a : Recorded) → is_persistent a.act.op ≡ true → IsRun launch (acts ++ a ∷ [])
    → Stands launch acts set x shown rest steps lanes
    → Stands launch (acts ++ a ∷ []) set x shown rest steps lanes
persisted launch acts set x shown rest steps lanes a e run h = record {
  launched = h.launched;
  facts = h.facts;
  setting = h.setting;
  threads = h.threads;
  stands = persists launch acts shown rest h.threads a h.stands e run;
  ahead = h.ahead;
  of = h.of;
  ready = h.ready;
}

-- ---- the words that are left make no difference

with-left-stands : (launch : Launch) (acts : List Recorded) (shown : Shown) (rest : Rest)
    (threads : List ThreadFrames) (left : ℕ) → StandsFor launch acts shown rest threads
    → StandsFor launch acts (with_left shown left) rest threads
with-left-stands launch acts shown rest threads left h = record {
  run = h.run;
  roots = h.roots;
  world = h.world;
  frames = h.frames;
  monitors = h.monitors;
  literals = h.literals;
  null = h.null;
}

-- what asked so waits for the reply to what was done
waits-did : (set : SetFacts) (world : World) (t taken : ℕ) (number : Ref → Option ℕ)
    (q : Request Ref Item)
    (fs : ThreadFrames) (o : Op) (r : PlainReply)
    → step set world t taken (plain_request number q) ≡ Does o r → WaitsAfter q fs → Waits fs
unfolding step
waits-did set world t taken number (ask.Broken f) fs o r e waits =
    absurd (let no : ◌≡◌ {A = Step} (IsOver f) (Does o r) = e in cc)
waits-did set world t taken number q fs o r e waits = waits

-- the turn that was made before, or now
turned-is : (launch : Launch) (x : Setting Native Ref (NativeState Ref) Item) (fs : ThreadFrames)
    (asked : Option (Request Ref Item)) (frames : ThreadFrames) (q : Request Ref Item) (now : ThreadFrames)
    → x ≡ setting_of launch → IsAhead launch fs asked frames → TurnsFrom x asked frames q now
    → IsTurned launch fs q now
turned-is launch x fs None frames q now is same turns = record {
  asks = ap (λ (y : Setting Native Ref (NativeState Ref) Item). (turn y fs).asks) (sym is)
      ∙ ap (λ (gs : ThreadFrames). (turn x gs).asks) (sym same) ∙ sym turns.1;
  frames = turns.0 ∙ ap (λ (gs : ThreadFrames). (turn x gs).frames) same
      ∙ ap (λ (y : Setting Native Ref (NativeState Ref) Item). (turn y fs).frames) is;
  waits = turns.2;
}
turned-is launch x fs (Some u) frames q now is it turns =
    subst (λ v. IsTurned launch fs v now) (sym turns.0) (subst (λ gs. IsTurned launch fs u gs) (sym
    turns.1) it)

-- ---- a thread that lives

module _ (alike : ThreadsAskAlike) (launch : Launch) (acts : List Recorded) (set_now : SetFacts)
    (x : Setting Native Ref (NativeState Ref) Item) (shown : Shown) (rest : Rest) (steps : ℕ)
    (lanes : List Lane) (h : Stands launch acts set_now x shown rest steps lanes) (t : ℕ) (lane : Lane)
    (below : t < length lanes) (is : lane ≡ get_or lanes t lane) (live : is_live rest.threads t ≡ true)
    (q : Request Ref Item) (now : ThreadFrames) (turns : TurnsFrom x lane.asked lane.frames q now)
    (of_now : AreOf x.program now.frames) where
  abbrev own : (fs : ThreadFrames) × (slice_get h.threads t ≡ Some fs)
      × IsAhead launch fs lane.asked lane.frames
  own = ahead-at launch h.threads lanes t lane h.ahead below is

  abbrev fs : ThreadFrames
  fs = own.0

  it : IsTurned launch fs q now
  it = turned-is launch x fs lane.asked lane.frames q now h.setting own.2 turns

  asking : IsAsking launch rest h.threads t fs q
  asking = let state = live-state rest.threads t live in record {
    state = state.0;
    thread = state.1;
    lives = state.2;
    frames = own.1;
    asks = it.asks;
  }

  asked : IsAsked launch acts shown rest t q
  asked = alike launch acts shown rest h.threads h.launched h.stands t fs q asking

  of-launch : AreOf launch.program now.frames
  of-launch = subst (λ (y : Setting Native Ref (NativeState Ref) Item). AreOf y.program now.frames)
      h.setting of_now

  pub live-ready : IsReady set_now shown rest steps
  live-ready = subst (λ s. IsReady s shown rest steps) (sym h.facts) h.ready

  pub live-askable : IsAskable set_now (λ n i. Unit {0}) (λ n. Unit {0}) shown rest t q
  live-askable = subst (λ s. IsAskable s (λ n i. Unit {0}) (λ n. Unit {0}) shown rest t q) (sym h.facts)
      (record {
        thread = asked.thread;
        fit = asked.fit;
        known = asked.known;
        here = here-all (λ n i. Unit {0}) (λ n. Unit {0}) (λ n i. tt) (λ n. tt) shown q;
      })

  -- the plain step of what is asked, as the acts have it
  pub given : (taken : ℕ) → op_given launch.set (known_at launch acts).world t taken
      (request_after launch.set launch.main launch.opening (plain_code launch) acts t)
      ≡ op_of (step_in set_now h.stands.roots shown rest t taken q)
  given taken =
      ap (op_given launch.set (known_at launch acts).world t taken) asked.plain
      ∙ ap (λ w. op_given launch.set w t taken (Some (plain_request shown.number q))) h.stands.world
      ∙ ap (λ s. op_of (step_in s h.stands.roots shown rest t taken q)) (sym h.facts)

  module _ (act : Act) (same : act.thread ≡ t) (visible : is_persistent act.op ≡ false) where
    given-act : (taken : ℕ) → op_given launch.set (known_at launch acts).world act.thread taken
        (request_after launch.set launch.main launch.opening (plain_code launch) acts act.thread)
        ≡ op_of (step_in set_now h.stands.roots shown rest t taken q)
    given-act taken = ap (λ u. op_given launch.set (known_at launch acts).world u taken
        (request_after launch.set launch.main launch.opening (plain_code launch) acts u)) same ∙ given taken

    -- ---- the answer

    pub exact-none : ((roots : List Root)
        → op_of (step_in set_now roots shown rest t (taken_by act.op) q) ≢ Some act.op)
        → IsTrue false ↔ IsNext launch acts act
    exact-none none = (λ so. no-false so, λ next. no-next next)
      where
        no-next : IsNext launch acts act → false ≡ true
        no-next (inl persists) = sym visible ∙ persists
        no-next (inr about) = absurd (none h.stands.roots (sym (given-act (taken_by act.op)) ∙ about))

    pub exact-some : (r : Reply Ref Item) (later : Shown) (rest_later : Rest)
        → DoesOr set_now t q act.op shown rest (Some r) later rest_later
        → IsTrue true ↔ IsNext launch acts act
    exact-some r later rest_later (left, did) = (
      λ so. inr (given-act (taken_by act.op) ∙ ap op_of (did.follows h.stands.roots).0),
      λ next. refl,
    )

    -- ---- why it can't be told

    short-lacks : ((o : Op) × (op_of (step_in set_now h.stands.roots shown rest t 1 q) ≡ Some o)
        × MakesObject o)
        ⊎ ((full : Full) × IsOutOfMonitors (world_of h.stands.roots shown rest)
        (step_in set_now h.stands.roots shown rest t 1 q) full)
        → MayLack launch acts act steps
    short-lacks (inl (o, e, makes)) = NoObject o (given-act 1 ∙ e) makes
    short-lacks (inr (full, out)) =
        let left : monitors_left (world_of h.stands.roots shown rest).monitors ≡ 0 =
        omega (arith, out.need, out.left, out.short) in
        NoMonitors (record {
          takes = (
            out.takes.0,
            given-act 1 ∙ ap op_of out.takes.1,
            ap (λ (w : World). held w.monitors out.takes.0) h.stands.world ∙ out.takes.2,
          );
          none_left = ap (λ (w : World). monitors_left w.monitors) h.stands.world ∙ left;
        })

    pub lacks : (steps ≡ 18446744073709551613) ⊎ IsShort set_now t q shown rest
        → MayLack launch acts act steps
    lacks (inl full) = NoSteps full
    lacks (inr short) = short-lacks (short h.stands.roots)

  -- ---- what is left

  module _ (later : Shown) (rest_later : Rest) (lane_now : Lane) (lanes_now : List Lane)
      (write : lanes_now ≡ set lanes t lane_now) where
    -- all is as before, but that the turn was made
    pub left-kept : MovesStandForTheRun → lane_now.frames ≡ now → lane_now.asked ≡ Some q
        → IsKept shown rest later rest_later → (steps_later : ℕ)
        → IsReady set_now later rest_later steps_later
        → Stands launch acts set_now x later rest_later steps_later lanes_now
    left-kept moved frames noted kept steps_later ready = record {
      launched = h.launched;
      facts = h.facts;
      setting = h.setting;
      threads = h.threads;
      stands = moved launch acts shown rest h.threads h.launched h.stands later rest_later (record {
        keeps = λ r n e. subst (λ (s : Shown). s.number r ≡ Some n) (sym kept.shown) e;
        world = kept.world;
        monitors = kept.monitors;
        null = subst (λ (s : Shown). s.number Null ≡ None) (sym kept.shown) h.stands.null;
      });
      ahead = subst (AreAhead launch h.threads) (sym write) (ahead-same launch h.threads lanes t fs lane_now
          h.ahead own.1 (subst (λ o. IsAhead launch fs o lane_now.frames) (sym noted)
          (subst (λ gs. IsTurned launch fs q gs) (sym frames) it)));
      of = subst (AreOfProgram launch) (sym write) (of-set launch lanes t lane_now h.of
          (subst (λ (gs : ThreadFrames). AreOf launch.program gs.frames) (sym frames) of-launch));
      ready = subst (λ s. IsReady s later rest_later steps_later) h.facts ready;
    }

  -- the reply's frames wait
  pub did-waits : (o : Op) (r : Reply Ref Item) (later : Shown) (rest_later : Rest)
      → DoesOr set_now t q o shown rest (Some r) later rest_later → Waits now
  did-waits o r later rest_later (left, did) =
      waits-did set_now (world_of [] shown rest) t (taken_by o) shown.number q now o (plain_reply
      later.number r)
      (did.follows []).0 it.waits

  module _ (on : ActsGoOn) (a : Recorded) (same : a.act.thread ≡ t) (r : Reply Ref Item) (later : Shown)
      (rest_later : Rest) (steps_later : ℕ) (null : later.number Null ≡ None)
      (did : DoesOr set_now t q a.act.op shown rest (Some r) later rest_later)
      (run : IsRun launch (acts ++ a ∷ [])) (begun : Option ThreadFrames)
      (starts : has_frames begun ≡ is_start a.act.op) where
    abbrev begin : Shown
    begin = with_left shown did.0

    there : IsStep launch.set t q begin rest (stepped.Did a.act.op r) later rest_later
    there = subst (λ s. IsStep s t q begin rest (stepped.Did a.act.op r) later rest_later) h.facts did.1

    began : StandsFor launch acts begin rest h.threads
    began = with-left-stands launch acts shown rest h.threads did.0 h.stands

    at-act : IsAsking launch rest h.threads a.act.thread fs q
    at-act = subst (λ u. IsAsking launch rest h.threads u fs q) (sym same) asking

    may : MayAct launch.set (known_at launch acts)
        (wants_of launch.set launch.main launch.opening (plain_code launch) acts)
        (Some (plain_request begin.number q)) a
    may = subst (λ o. MayAct launch.set (known_at launch acts)
        (wants_of launch.set launch.main launch.opening (plain_code launch) acts) o a)
        (ap (request_after launch.set launch.main launch.opening (plain_code launch) acts) same ∙ asked.plain)
        (GoesOn-pushed launch.set launch.main launch.opening (plain_code launch)
        (first_known launch.set launch.opening)
        (first_frames launch.set launch.main launch.opening (plain_code launch)) NoWish acts a run).1

    threads_begun : List ThreadFrames
    threads_begun = frames_of (begun_of begun q)

    answered : StandsFor launch (acts ++ a ∷ []) later rest_later
        (answered_threads launch h.threads a.act.thread fs r (frames_of (begun_of begun q)))
    answered = on launch acts begin rest h.threads h.launched began a fs q r later rest_later
        (frames_of (begun_of begun q)) at-act (record {
          steps = subst (λ u. IsStep launch.set u q begin rest (stepped.Did a.act.op r) later rest_later)
              (sym same) there;
          may = may;
          null = null;
        }) (begun-plain launch later null begin rest t h.stands.roots there.goes_on.keeps q asked.fit begun
        a.act.op (taken_by a.act.op) starts (ap op_of (there.follows h.stands.roots).0))

    replied : (frames : ThreadFrames) → frames ≡ answer x now r
        → answer (setting_of launch) (turn (setting_of launch) fs).frames r ≡ frames
    replied frames e = ap (λ gs. answer (setting_of launch) gs r) (sym it.frames)
        ∙ ap (λ (y : Setting Native Ref (NativeState Ref) Item). answer y now r) (sym h.setting) ∙ sym e

    pub left-done : (lane_now : Lane) (lanes_now : List Lane)
        → lanes_now ≡ set lanes t lane_now ++ begun_of begun q → lane_now.frames ≡ answer x now r
        → lane_now.asked ≡ None → AreOf x.program lane_now.frames.frames
        → IsReady set_now later rest_later steps_later
        → Stands launch (acts ++ a ∷ []) set_now x later rest_later steps_later lanes_now
    left-done lane_now lanes_now write frames noted of ready = record {
      launched = h.launched;
      facts = h.facts;
      setting = h.setting;
      threads = slice_set h.threads t lane_now.frames ++ frames_of (begun_of begun q);
      stands = subst (λ gs. StandsFor launch (acts ++ a ∷ []) later rest_later
          (slice_set h.threads t gs ++ frames_of (begun_of begun q))) (replied lane_now.frames frames)
          (subst (λ u. StandsFor launch (acts ++ a ∷ []) later rest_later
          (answered_threads launch h.threads u fs r (frames_of (begun_of begun q)))) same answered);
      ahead = subst (AreAhead launch (slice_set h.threads t lane_now.frames ++ frames_of (begun_of begun q)))
          (sym write) (ahead-more launch (slice_set h.threads t lane_now.frames) (frames_of (begun_of begun
          q))
          (set lanes t lane_now) (begun_of begun q)
          (ahead-set launch h.threads lanes t lane_now.frames lane_now h.ahead
          (subst (λ o. IsAhead launch lane_now.frames o lane_now.frames) (sym noted) refl))
          (begun-ahead launch begun q));
      of = subst (AreOfProgram launch) (sym write) (of-more launch (set lanes t lane_now) (begun_of begun q)
          (of-set launch lanes t lane_now h.of
          (subst (λ (y : Setting Native Ref (NativeState Ref) Item). AreOf y.program lane_now.frames.frames)
          h.setting of)) (begun-program launch begun q));
      ready = subst (λ s. IsReady s later rest_later steps_later) h.facts ready;
    }
