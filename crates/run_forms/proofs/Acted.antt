-- A step's act, and the answer to its reply, lead from one machine that stands for a plain run to the next.
use Rattle.std.proofs.Common.{◌≡◌, ℕ, zero, suc, false, List, [], ◌∷◌, ◌++◌, map, Option, Some, None, refl, ap, sym, subst, ◌∙◌}
use Rattle.std.proofs.Common.{if◌then◌else◌}
use Rattle.std.specs.Prelude.{slice_get, slice_set}
use Rattle.std.proofs.lemmas.List.{map-append}
use Rattle.ap_base.specs.declared.reference.Ref.{Ref}
use Rattle.ap_base.specs.declared.reference.Item.{Item}
use Rattle.graph_model.specs.declared.types.Value.{Value}
use Rattle.natives.specs.declared.requests.Request.{Request}
use Rattle.natives.specs.declared.requests.Reply.{Reply}
use Rattle.natives.specs.declared.states.NativeState.{NativeState}
use Rattle.run_history.specs.Recorded.{Recorded}
use Rattle.run_history.specs.Worlds.{World, after}
use Rattle.run_history.specs.Knowing.{Knowledge}
use Rattle.run_history.specs.Wanted.{NoWish}
use Rattle.plain_model.specs.First.{first_known, literal_number}
use Rattle.plain_model.specs.Requests.{PlainRequest, PlainReply}
use Rattle.plain_model.specs.Steps.{Does, step, reply_of}
use Rattle.plain_model.specs.Codes.{is_persistent, taken_by, answered, answered_at, answered_by, begun_by, frames_after_op}
use Rattle.plain_model.specs.Runs.{MayAct, first_frames, wants_of}
use Rattle.plain_model.proofs.Appended.{known_after-append, frames_after-push, GoesOn-push}
use Rattle.plain_model.proofs.RunSound.{world_next, world_of_next}
use Rattle.frames.specs.Calls.{Stepped}
use Rattle.frames.specs.Turns.{turn, answer}
use Rattle.plain_frames.specs.Codes.{code_of}
use Rattle.plain_frames.specs.Sound.{AreIn}
use Rattle.plain_frames.proofs.Turns.{turn-in}
use Rattle.plain_frames.specs.Methods.{plain_natives}
use Rattle.plain_frames.specs.Worlds.{is_in}
use Rattle.shared_objects.specs.declared.rest.Rest.{Rest}
use Rattle.shared_objects.specs.Shown.{Shown}
use Rattle.shared_objects.specs.Plain.{plain_request, plain_reply}
use Rattle.shared_objects.specs.Worlds.{world_of}
use Rattle.run_forms.specs.Views.{ThreadFrames, plain_frames}
use Rattle.run_forms.specs.Standing.{Launch, IsLaunch, HasLiterals, IsRun, StandsFor, IsAsking, setting_of, plain_code}
use Rattle.run_forms.specs.Standing.{known_at, frames_at}
use Rattle.run_forms.specs.Laws.{IsActOf, answered_threads}
use Rattle.run_forms.proofs.Asked.{BuiltIns, reply-known, answers, p, world-of-set, shown-objects, frames-in, turns-here}
use Rattle.run_forms.proofs.Asked.{turn-asks, seen-is, fit-here, asked}
use Rattle.run_forms.proofs.Seen.{frames-kept}
use Rattle.run_forms.proofs.Visible.{step-visible}

none-some : {X : Type 0} (v : X) {P : Type 0} → ◌≡◌ {A = Option X} None (Some v) → P
none-some v e = absurd (let no = e in cc)

some-same : {X : Type 0} (v w : X) → ◌≡◌ {A = Option X} (Some v) (Some w) → v ≡ w
some-same v w e = cc

-- a list of frames seen in two ways, alike for each of them
pub map-same : {X Y : Type 0} (f g : X → Y) (xs : List X)
    → ((u : ℕ) (x : X) → slice_get xs u ≡ Some x → f x ≡ g x) → map f xs ≡ map g xs
map-same f g [] same = refl
map-same f g (x ∷ xs) same =
    let first = same zero x refl in
    let others = map-same f g xs (λ u y at. same (suc u) y at) in
    λ i. first i ∷ others i

-- an act that may come next makes a longer plain run
module _ (laws : BuiltIns) (launch : Launch) (acts : List Recorded) (shown : Shown) (rest : Rest)
    (threads : List ThreadFrames) (is : IsLaunch launch) (stands : StandsFor launch acts shown rest threads)
    (a : Recorded) (fs : ThreadFrames) (q : Request Ref Item)
    (asking : IsAsking launch rest threads a.act.thread fs q) where
  pub acted-run : MayAct launch.set (known_at launch acts)
      (wants_of launch.set launch.main launch.opening (plain_code launch) acts)
      (Some (plain_request shown.number q)) a → IsRun launch (acts ++ a ∷ [])
  acted-run may = GoesOn-push launch.set launch.main launch.opening (plain_code launch)
      (first_known launch.set launch.opening)
      (first_frames launch.set launch.main launch.opening (plain_code launch)) NoWish acts a (
        stands.run,
        subst (λ o. MayAct launch.set (known_at launch acts)
            (wants_of launch.set launch.main launch.opening (plain_code launch) acts) o a)
            (sym (asked laws launch acts shown rest threads is stands a.act.thread fs q asking).plain) may,
      )

module _ (laws : BuiltIns) (launch : Launch) (acts : List Recorded) (shown : Shown) (rest : Rest)
    (threads : List ThreadFrames) (is : IsLaunch launch) (stands : StandsFor launch acts shown rest threads)
    (a : Recorded) (fs : ThreadFrames) (q : Request Ref Item) (r : Reply Ref Item)
    (now : Shown) (rest_now : Rest) (begun : List ThreadFrames)
    (asking : IsAsking launch rest threads a.act.thread fs q)
    (act : IsActOf launch acts shown rest q a r now rest_now)
    (begins : map (plain_frames now) begun
    ≡ begun_by launch.set launch.main launch.opening (plain_code launch) a.act.op) where
  abbrev t : ℕ
  t = a.act.thread

  abbrev world : World
  world = (known_at launch acts).world

  abbrev taken : ℕ
  taken = taken_by a.act.op

  abbrev turned : ThreadFrames
  turned = (turn (setting_of launch) fs).frames

  abbrev replied : ThreadFrames
  replied = answer (setting_of launch) turned r

  abbrev asked_seen : PlainRequest
  asked_seen = plain_request shown.number q

  abbrev reply_seen : PlainReply
  reply_seen = plain_reply now.number r

  -- ---- the step

  does : step launch.set world t taken asked_seen ≡ Does a.act.op reply_seen
  does = ap (λ w. step launch.set w t taken asked_seen) stands.world ∙ (act.steps.follows stands.roots).0

  is-visible : is_persistent a.act.op ≡ false
  is-visible = step-visible launch.set world t taken asked_seen a.act.op reply_seen
      (fit-here laws launch acts shown rest threads is stands t fs q asking) does

  goes-to : after world t a.act.op ≡ world_of stands.roots now rest_now
  goes-to = ap (λ w. after w t a.act.op) stands.world ∙ sym (act.steps.follows stands.roots).2

  world-now : (known_at launch (acts ++ a ∷ [])).world ≡ world_of stands.roots now rest_now
  world-now =
      ap (λ (known : Knowledge). known.world)
      (known_after-append (first_known launch.set launch.opening) acts (a ∷ []))
      ∙ world_of_next (known_at launch acts) a
      ∙ ap (world_next world a) is-visible
      ∙ goes-to

  -- ---- the frames

  kept : (u : ℕ) (g : ThreadFrames) → AreIn launch.set (is_in launch.set) world u (plain_frames shown g)
      → plain_frames now g ≡ plain_frames shown g
  kept u g g_in = frames-kept shown now act.steps.goes_on.keeps launch.set world u
      (shown-objects laws launch acts shown rest threads is stands) g g_in

  others-kept : (u : ℕ) (g : ThreadFrames) → slice_get threads u ≡ Some g
      → plain_frames shown g ≡ plain_frames now g
  others-kept u g here =
      sym (kept u g (frames-in laws launch acts shown rest threads is stands u g here))

  turned-seen : ((plain_code launch).turn (plain_frames shown fs)).0 ≡ plain_frames shown turned
  unfolding code_of
  turned-seen = ap (λ (s : Stepped Value (NativeState Value) Value). s.frames)
      (turns-here laws launch acts shown rest threads is stands fs)

  turned-in : AreIn launch.set (is_in launch.set) world t (plain_frames shown turned)
  turned-in =
      let is_turn = turn-in launch.set launch.opening launch.program (plain_natives launch.set) launch.method
      (is_in launch.set) is.names (laws.keep launch.set is.consistent) world t
      (world-of-set laws launch acts shown rest threads is stands).literals (plain_frames shown fs)
      (frames-in laws launch acts shown rest threads is stands t fs asking.frames) in
      subst (λ (s : Stepped Value (NativeState Value) Value).
      AreIn launch.set (is_in launch.set) world t s.frames)
      (turns-here laws launch acts shown rest threads is stands fs) is_turn.frames

  literals-now : HasLiterals launch now
  literals-now k below = act.steps.goes_on.keeps (launch.literal k)
      (literal_number launch.set launch.opening k) (stands.literals k below)

  answer-seen : (plain_code launch).answer ((plain_code launch).turn (plain_frames shown fs)).0 reply_seen
      ≡ plain_frames now replied
  unfolding code_of
  answer-seen =
      ap (λ gs. answer (p laws launch acts shown rest threads is stands) gs reply_seen)
      (turned-seen ∙ sym (kept t turned turned-in))
      ∙ ap (answer (p laws launch acts shown rest threads is stands) (plain_frames now turned))
      (reply-known now act.null r (act.steps.follows stands.roots).1)
      ∙ answers now act.null laws launch is literals-now turned r

  own-answered : answered launch.set launch.main launch.opening (plain_code launch) world t taken
      (plain_frames shown fs) ≡ plain_frames now replied
  own-answered =
      ap (λ s. answered_by launch.set launch.main launch.opening (plain_code launch) (plain_frames shown fs)
      (reply_of s))
      (ap (step launch.set world t taken)
      (turn-asks laws launch acts shown rest threads is stands t fs q asking
      ∙ sym (seen-is laws launch acts shown rest threads is stands t fs q asking)) ∙ does)
      ∙ answer-seen

  -- the frames of all threads after the answer
  answered-seen : (gs : List ThreadFrames) (k : ℕ) → slice_get gs k ≡ Some fs
      → ((u : ℕ) (g : ThreadFrames) → slice_get gs u ≡ Some g → plain_frames shown g ≡ plain_frames now g)
      → answered_at launch.set launch.main launch.opening (plain_code launch) world t taken
      (map (plain_frames shown) gs) k ≡ map (plain_frames now) (slice_set gs k replied)
  answered-seen [] k here same = none-some fs here
  answered-seen (g ∷ gs) zero here same =
      let is_fs : g ≡ fs = some-same g fs here in
      let first : answered launch.set launch.main launch.opening (plain_code launch) world t taken
      (plain_frames shown g) ≡ plain_frames now replied =
      subst (λ k. answered launch.set launch.main launch.opening (plain_code launch) world t taken
      (plain_frames shown k) ≡ plain_frames now replied) (sym is_fs) own-answered in
      let others = map-same (plain_frames shown) (plain_frames now) gs (λ u x at. same (suc u) x at) in
      λ i. first i ∷ others i
  answered-seen (g ∷ gs) (suc k) here same =
      let first = same zero g refl in
      let others = answered-seen gs k here (λ u x at. same (suc u) x at) in
      λ i. first i ∷ others i

  frames-next : frames_after_op launch.set launch.main launch.opening (plain_code launch) world
      (map (plain_frames shown) threads) t a.act.op
      ≡ map (plain_frames now) (answered_threads launch threads t fs r begun)
  unfolding frames_after_op
  frames-next =
      ap (λ b. if b then map (plain_frames shown) threads
      else answered_at launch.set launch.main launch.opening (plain_code launch) world t taken
      (map (plain_frames shown) threads) t
      ++ begun_by launch.set launch.main launch.opening (plain_code launch) a.act.op) is-visible
      ∙ ap (λ gs. gs ++ begun_by launch.set launch.main launch.opening (plain_code launch) a.act.op)
      (answered-seen threads t asking.frames others-kept)
      ∙ ap (λ gs. map (plain_frames now) (slice_set threads t replied) ++ gs) (sym begins)
      ∙ sym (map-append (plain_frames now) (slice_set threads t replied) begun)

  frames-now : frames_at launch (acts ++ a ∷ [])
      ≡ map (plain_frames now) (answered_threads launch threads t fs r begun)
  frames-now =
      frames_after-push launch.set launch.main launch.opening (plain_code launch)
      (first_known launch.set launch.opening)
      (first_frames launch.set launch.main launch.opening (plain_code launch)) acts a
      ∙ ap (λ gs. frames_after_op launch.set launch.main launch.opening (plain_code launch) world gs t a.act.op)
      stands.frames
      ∙ frames-next

  -- ---- the run

  pub acted : StandsFor launch (acts ++ a ∷ []) now rest_now (answered_threads launch threads t fs r begun)
  acted = record {
    run = acted-run laws launch acts shown rest threads is stands a fs q asking act.may;
    roots = stands.roots;
    world = world-now;
    frames = frames-now;
    monitors = act.steps.monitors;
    literals = literals-now;
    null = act.null;
  }
