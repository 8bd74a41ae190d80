-- Acts of persistence leave the plain machine's world and frames.
use Rattle.std.proofs.Common.{◌≡◌, inl, ℕ, true, List, [], ◌∷◌, ◌++◌, Some, refl, ap, sym, subst, ◌∙◌, arith, if◌then◌else◌}
use Rattle.std.proofs.Common.{slice_get, None, slice_set}
use Rattle.std.proofs.lemmas.List.{length-set}
use Rattle.std.proofs.lemmas.Option.{slice_get_within}
use Rattle.ap_base.specs.declared.reference.Ref.{Ref}
use Rattle.ap_base.specs.declared.reference.Item.{Item}
use Rattle.natives.specs.declared.requests.Request.{Request}
use Rattle.run_history.specs.declared.act.Op.TheVariants as op
use Rattle.run_history.specs.Recorded.{Recorded}
use Rattle.run_history.specs.Knowing.{Knowledge}
use Rattle.run_history.specs.Wanted.{NoWish}
use Rattle.run_history.specs.Worlds.{World}
use Rattle.plain_model.specs.First.{first_known}
use Rattle.plain_model.specs.Codes.{is_persistent, taken_by, answered_at, begun_by, frames_after_op}
use Rattle.plain_model.specs.Runs.{MayAct, first_frames, wants_of, request_after}
use Rattle.plain_model.proofs.Appended.{known_after-append, frames_after-push, GoesOn-push}
use Rattle.plain_model.proofs.Durable.{persistence_leaves_the_world}
use Rattle.shared_objects.specs.declared.rest.Rest.{Rest}
use Rattle.shared_objects.specs.Shown.{Shown}
use Rattle.run_forms.specs.Views.{ThreadFrames, PlainFrames}
use Rattle.run_forms.specs.Standing.{Launch, StandsFor, IsAsking, known_at, plain_code}
use Rattle.run_forms.specs.Laws.{MovesStandForTheRun, ThreadsAskAlike}
use Rattle.machine_forms.specs.declared.doing.Doing.TheVariants.{Nothing, Converting}
use Rattle.machine_forms.specs.Machines.{Opening, Machine, shown_in, doing_of}
use Rattle.machine_forms.specs.Events.{act_in, with_twin, value_in, Seals, AsksFor, with_joined, with_asked, MakesFence}
use Rattle.machine_forms.specs.Events.{with_fence}
use Rattle.machine_laws.specs.Frames.{acted_frames, all_acted, stored_frames, Asks, IsReady, ReadyThreadsAskAlike}
use Rattle.machine_laws.specs.Frames.{IdleMachinesStand, RunsAsPlain}
use Rattle.machine_laws.proofs.Lagging.{ready-own, frames-at, frames-same, frames-fenced, none-lags}
use Rattle.machine_laws.proofs.Going.{moved, step-moves, calls-leave, begun-still}
use Rattle.machine_laws.specs.AskLaws.{ActsMayCome}
use Rattle.twin_forms.specs.Table.{Entry}
use Rattle.machine_forms.specs.Keeping.{KeepsRun}
use Rattle.ap_base.specs.declared.place.Place.{Place}
use Rattle.twin_forms.specs.Sights.{Twin}
use Rattle.machine_forms.specs.Happening.{sealed, asked, fenced}

-- ---- one act

module _ (launch : Launch) (acts : List Recorded) (shown : Shown) (rest : Rest) (threads : List ThreadFrames)
    (stands : StandsFor launch acts shown rest threads) (a : Recorded)
    (is : is_persistent a.act.op ≡ true) where
  frames-stay : (world : World) (frames : List PlainFrames)
      → frames_after_op launch.set launch.main launch.opening (plain_code launch) world frames a.act.thread
      a.act.op
      ≡ frames
  unfolding frames_after_op
  frames-stay world frames = ap (λ b. if b then frames
      else answered_at launch.set launch.main launch.opening (plain_code launch) world a.act.thread
      (taken_by a.act.op) frames a.act.thread
      ++ begun_by launch.set launch.main launch.opening (plain_code launch) a.act.op) is

  pub persisted : MayAct launch.set (known_at launch acts)
      (wants_of launch.set launch.main launch.opening (plain_code launch) acts)
      (request_after launch.set launch.main launch.opening (plain_code launch) acts a.act.thread) a
      → StandsFor launch (acts ++ a ∷ []) shown rest threads
  persisted may = record {
    run = GoesOn-push launch.set launch.main launch.opening (plain_code launch)
        (first_known launch.set launch.opening)
        (first_frames launch.set launch.main launch.opening (plain_code launch)) NoWish acts a
        (stands.run, may);
    roots = stands.roots;
    world = ap (λ (k : Knowledge). k.world)
        (known_after-append (first_known launch.set launch.opening) acts (a ∷ []))
        ∙ persistence_leaves_the_world (known_at launch acts) a.act.thread a.named a.act.op is ∙ stands.world;
    frames = frames_after-push launch.set launch.main launch.opening (plain_code launch)
        (first_known launch.set launch.opening)
        (first_frames launch.set launch.main launch.opening (plain_code launch)) acts a
        ∙ frames-stay (known_at launch acts).world _ ∙ stands.frames;
    monitors = stands.monitors;
    literals = stands.literals;
    null = stands.null;
  }

-- ---- what threads ask

module _ (o : Opening) (m : Machine) (threads : List ThreadFrames) (t : ℕ) (fs : ThreadFrames)
    (request : Request Ref Item) (ready : IsReady (doing_of m t)) (asks : Asks o m threads t fs request) where
  -- a ready thread's frames are the plain machine's
  pub asking-acted : IsAsking o.launch m.rest (all_acted o.launch m.doing threads) t fs request
  asking-acted = record {
    state = asks.state;
    thread = asks.thread;
    lives = asks.lives;
    frames = frames-at o.launch m.doing threads t fs asks.frames
        ∙ ap Some (ready-own o.launch (doing_of m t) fs ready);
    asks = asks.asks;
  }

pub ready-ask : ThreadsAskAlike → ReadyThreadsAskAlike
ready-ask law o m es threads run plain t fs request ready asks =
    law o.launch m.acts (shown_in m) m.rest (all_acted o.launch m.doing threads) run.world.launched
    plain.stands t fs request (asking-acted o m threads t fs request ready asks)

pub idle-stand : IdleMachinesStand
idle-stand o m es threads run plain idle =
    subst (StandsFor o.launch m.acts (shown_in m) m.rest) (none-lags o.launch m.doing threads idle)
    plain.stands

-- ---- what is asked

pub asked-leaves : ActsMayCome → ThreadsAskAlike →
    (o : Opening) (m : Machine) (es : List Entry) (threads : List ThreadFrames)
    → KeepsRun o m es → RunsAsPlain o m threads → (t : ℕ) (fs : ThreadFrames) (request : Request Ref Item)
    (place : Place) (item : Item) → Asks o m threads t fs request → AsksFor o m es t request place item
    → RunsAsPlain o (with_asked m t place (value_in m item)) threads
asked-leaves may law o m es threads run plain t fs request place item asks a =
    let act = act_in m t (op.Asked place (value_in m item)) [] in
    let asks-it = ready-ask law o m es threads run plain t fs request (inl a.doing) asks in
    let came = subst (λ q. MayAct o.launch.set (known_at o.launch m.acts)
    (wants_of o.launch.set o.launch.main o.launch.opening (plain_code o.launch) m.acts) q act)
    (sym asks-it.plain) (may o t m _ es _ run (asked request place item a) None) in record {
      stands = subst (StandsFor o.launch (m.acts ++ act ∷ []) (shown_in m) m.rest)
          (sym (frames-same o.launch m.doing threads t Converting
          (λ f. sym (ap (λ d. acted_frames o.launch d f) a.doing))))
          (persisted o.launch m.acts (shown_in m) m.rest (all_acted o.launch m.doing threads) plain.stands act
          refl came);
      begun = begun-still o m threads plain t Converting (slice_get_within threads t fs asks.frames);
    }

-- ---- seals

pub seals-leave : ActsMayCome → MovesStandForTheRun →
    (o : Opening) (m : Machine) (es : List Entry) (threads : List ThreadFrames)
    → KeepsRun o m es → RunsAsPlain o m threads → (m' : Machine) (t set : ℕ) (named : List ℕ)
    → Seals t set named m m' es → RunsAsPlain o (with_joined m' t named) threads
seals-leave may law o m es threads run plain m' t set named c =
    let act = act_in m' t op.Joined named in
    let moves = step-moves o m m' es run t _ c.converts in
    let on = moved law o m m' es c.converts.event.after threads run plain moves in
    let request = request_after o.launch.set o.launch.main o.launch.opening (plain_code o.launch) in
    let came = subst (λ done. MayAct o.launch.set (known_at o.launch done)
    (wants_of o.launch.set o.launch.main o.launch.opening (plain_code o.launch) done) (request done t) act)
    (sym moves.acts) (may o t m _ es _ run (sealed m' set named c) (request m.acts t)) in record {
      stands = persisted o.launch m'.acts (shown_in m') m'.rest (all_acted o.launch m'.doing threads)
          on.stands act refl came;
      begun = on.begun;
    }

-- ---- fences

pub fences-answer : ActsMayCome → MovesStandForTheRun →
    (o : Opening) (m : Machine) (es : List Entry) (threads : List ThreadFrames)
    → KeepsRun o m es → RunsAsPlain o m threads → (twin : Twin) (t : ℕ) (fs : ThreadFrames)
    → slice_get threads t ≡ Some fs → MakesFence m twin t
    → RunsAsPlain o (with_fence m twin t) (slice_set threads t (stored_frames o.launch fs))
fences-answer may law o m es threads run plain twin t fs here f =
    let act = act_in (with_twin m twin) t op.Fenced [] in
    let on = calls-leave law o m es threads run plain twin f.calls in
    let came = may o t m _ es _ run (fenced twin f)
    (request_after o.launch.set o.launch.main o.launch.opening (plain_code o.launch) m.acts t) in
    let lt = slice_get_within threads t fs here in
    let long = length-set threads t (stored_frames o.launch fs) in record {
      stands = subst (StandsFor o.launch (m.acts ++ act ∷ []) (shown_in (with_twin m twin)) m.rest)
          (sym (frames-fenced o.launch m.doing threads t fs f.doing here))
          (persisted o.launch m.acts (shown_in (with_twin m twin)) m.rest
          (all_acted o.launch m.doing threads) on.stands act refl came);
      begun = λ u past. begun-still o m threads plain t Nothing lt u (omega (arith, past, long));
    }
