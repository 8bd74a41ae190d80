-- Waits as they are tested are those of the plain world.
use Rattle.std.proofs.Common.{◌≡◌, inl, inr, ℕ, zero, suc, ◌<◌, Bool, true, false, List, [], ◌∷◌, length, map, refl, sym, ◌∙◌, ap, subst, arith}
use Rattle.std.proofs.Common.{if◌then◌else◌}
use Rattle.std.proofs.lemmas.Bool.{cases_lt}
use Rattle.std.proofs.lemmas.List.{ext_get_or}
use Rattle.std.proofs.lemmas.Option.{slice_get_cases, slice_get-map, slice_get_within}
use Rattle.std.specs.Prelude.{Option, Some, None, is_some, IsSome, slice_get}
use Rattle.std.specs.Option.{option_map}
use Rattle.ap_base.specs.declared.reference.Ref.{Ref}
use Rattle.ap_base.specs.declared.reference.Item.{Item}
use Rattle.run_types.specs.declared.wait.On.{On}
use Rattle.run_types.specs.declared.wait.On.TheVariants as on
use Rattle.run_types.specs.declared.fault.RunFault.TheVariants as fault
use Rattle.natives.specs.declared.requests.Request.{Request}
use Rattle.run_history.specs.Worlds.{Thread, World}
use Rattle.run_history.specs.Knowing.{Knowledge, owes_fence, pending_of}
use Rattle.plain_model.specs.Limits.{most_threads}
use Rattle.plain_model.specs.Requests.{PlainRequest}
use Rattle.plain_model.specs.Codes.{asks, asks_live}
use Rattle.plain_model.specs.Steps.{step}
use Rattle.plain_model.specs.Ends.{wait_at, wait_of, waits_from}
use Rattle.shared_objects.specs.Plain.{plain_request}
use Rattle.shared_objects.specs.Worlds.{plain_thread, world_of}
use Rattle.run_forms.specs.Views.{PlainFrames, ThreadFrames, plain_frames}
use Rattle.run_forms.specs.Standing.{Launch, frames_at, plain_code}
use Rattle.run_forms.specs.Ends.{IsEndedBy}
use Rattle.convert_words.specs.Scenes.{Scene}
use Rattle.convert_waits.specs.Stuck.{HoldsWait, IsPlain, IsStuckAt}
use Rattle.convert_waits.proofs.Stuck.{stuck_runs_wait_plainly}
use Rattle.stop_theorem.specs.Layouts.{Layout}
use Rattle.twin_forms.specs.Table.{Entry}
use Rattle.machine_ends.specs.Passed.{Doing}
use Rattle.machine_ends.specs.Passed.{Nothing}
use Rattle.machine_ends.specs.Passed.{Opening, Machine, doing_of, known_in, layout_in, roots_in, scene_of, shown_in}
use Rattle.machine_ends.specs.Passed.{IsDoing, KeepsRun}
use Rattle.machine_ends.specs.Passed.{ReadyThreadsAskAlike, RunsAsPlain, all_acted}
use Rattle.machine_threads.specs.Keeping.{AllKeep}
use Rattle.machine_threads.specs.Plain.{asks_some}
use Rattle.machine_threads.specs.Stuck.{AllAskStores, plain_waits, requests_in}
use Rattle.machine_threads.specs.Testing.{AllWaitStill, AreNoted, IsLive, LiveThreadsAsk, TestedWaitsAreStuck, TestedWaitsEnd}
use Rattle.machine_threads.specs.Testing.{wait_in}
use Rattle.machine_threads.proofs.Asking.{plain-get, plain-lives}
use Rattle.machine_threads.proofs.Ends.{length-waits, waits-get, zero-plus}
use Rattle.machine_threads.proofs.Stuck.{ready_threads_wait_alike, records_are_right, stuck_machines_end}

-- ---- threads that live

all-long : (launch : Launch) (ds : List Doing) (threads : List ThreadFrames)
    → length (all_acted launch ds threads) ≡ length threads
all-long launch [] threads = refl
all-long launch (d ∷ ds) [] = refl
all-long launch (d ∷ ds) (fs ∷ threads) = ap suc (all-long launch ds threads)

-- a place of a list has an element
there : {X : Type 0} (xs : List X) (t : ℕ) → t < length xs → (x : X) × (slice_get xs t ≡ Some x)
there xs t below = elim (slice_get_cases xs t).1 [
  | inl it ↦ (it.0, it.2)
  | inr past ↦ (let long = past.0 in absurd (omega (arith, long, below)))
]

no-some : {X : Type 0} {P : Type 0} (at : Option X) (x : X) → at ≡ None → at ≡ Some x → P
no-some {X} at x none some = absurd (let no : ◌≡◌ {A = Option X} None (Some x) = sym none ∙ some in cc)

not-ended : (ended : Bool) (at : Option PlainRequest) → IsSome (if ended then None else at) → ended ≡ false
not-ended true at some = absurd (let no : false ≡ true = some in cc)
not-ended false at some = refl

module _ (launch : Launch) where
  abbrev live : Option Thread → Option PlainFrames → Option PlainRequest
  live = asks_live launch.set launch.main launch.opening (plain_code launch)

  asked-by : (thread : Option Thread) (frames : Option PlainFrames) (th : Thread) (fs : PlainFrames) → thread ≡ Some th
      → th.ended ≡ false → frames ≡ Some fs → IsSome (live thread frames)
  asked-by thread frames th fs is lives are = ap is_some (ap (λ x. live x frames) is ∙ ap (live (Some th)) are
      ∙ ap (λ b. if b then None else asks launch.set launch.main launch.opening (plain_code launch) (Some fs)) lives)

  asker : (thread : Option Thread) (frames : Option PlainFrames) → IsSome (live thread frames)
      → (th : Thread) × (thread ≡ Some th) × (th.ended ≡ false)
  asker None frames some = absurd (let no : false ≡ true = some in cc)
  asker (Some th) frames some =
      (th, refl, not-ended th.ended (asks launch.set launch.main launch.opening (plain_code launch) frames) some)

module _ (o : Opening) (m : Machine) (threads : List ThreadFrames) (plain : RunsAsPlain o m threads) where
  threads-are : (t : ℕ) → slice_get (known_in o m).world.threads t ≡ slice_get (map plain_thread m.rest.threads) t
  threads-are t = ap (λ (w : World). slice_get w.threads t) plain.stands.world

  asks-lives : (t : ℕ) → IsSome (requests_in o m t) → IsLive m t
  asks-lives t some =
      let it = asker o.launch (slice_get (known_in o m).world.threads t) (slice_get (frames_at o.launch m.acts) t) some in
      let lives = plain-lives m.rest.threads t it.0 it.2 (sym (threads-are t) ∙ it.1) in
      (lives.state, lives.there, lives.lives)

  lives-asks : length threads ≡ length m.rest.threads → (t : ℕ) → IsLive m t → IsSome (requests_in o m t)
  lives-asks many t lives =
      let inside = slice_get_within m.rest.threads t lives.0 lives.1 in
      let long = all-long o.launch m.doing threads in
      let here = there (all_acted o.launch m.doing threads) t (omega (arith, inside, long, many)) in
      asked-by o.launch (slice_get (known_in o m).world.threads t) (slice_get (frames_at o.launch m.acts) t)
      (plain_thread lives.0) (plain_frames (shown_in m) here.0)
      (threads-are t ∙ plain-get m.rest.threads t lives.0 lives.1)
      lives.2
      (ap (λ fss. slice_get fss t) plain.stands.frames
      ∙ slice_get-map (plain_frames (shown_in m)) (all_acted o.launch m.doing threads) t
      ∙ frames-there (slice_get (all_acted o.launch m.doing threads) t) here.0 here.1)
    where
      frames-there : (at : Option ThreadFrames) (fs : ThreadFrames) → at ≡ Some fs
          → option_map (plain_frames (shown_in m)) at ≡ Some (plain_frames (shown_in m) fs)
      frames-there at fs is = ap (option_map (plain_frames (shown_in m))) is

  -- what is shown is the plain world
  world-is : (known_in o m).world ≡ world_of (roots_in o m) (shown_in m) m.rest
  world-is = plain.stands.world
      ∙ ap (λ roots. world_of roots (shown_in m) m.rest) (sym (ap (λ (w : World). w.heap.roots) plain.stands.world))

pub live_threads_ask : LiveThreadsAsk
live_threads_ask o m es threads keeps plain many t = (asks-lives o m threads plain t, lives-asks o m threads plain many t)

-- ---- each asks its store

nothing-asked : (known : Knowledge) (lay : Layout) (t : ℕ) (d : Doing) → d ≡ Nothing → IsDoing known lay t d
    → pending_of known.asked t ≡ None
nothing-asked known lay t d nothing doing = (subst (IsDoing known lay t) nothing doing).0

pub all-ask-stores : (o : Opening) (m : Machine) (es : List Entry) (threads : List ThreadFrames) → KeepsRun o m es
    → AllKeep o m es threads → AllAskStores o m
all-ask-stores o m es threads keeps all t = elim (cases_lt t (length threads)) [
  | inl below ↦ (let it = there threads t below in (all.each t it.0 it.1).about)
  | inr past ↦ (λ p is. no-some (pending_of (known_in o m).asked t) p
      (nothing-asked (known_in o m) (layout_in o es) t (doing_of m t) (all.unbegun t past).doing (keeps.asked.doing t)) is)
]

-- ---- plain waits

plain-holds : (plain : ℕ → Option On) (s : Scene) (es : List Entry) (t : ℕ) (w : On) → IsPlain w → plain t ≡ Some w
    → HoldsWait plain s es t w
plain-holds plain s es t (on.Conversion u) is held = absurd is
plain-holds plain s es t (on.Monitor u) is held = held
plain-holds plain s es t (on.Join u) is held = held
plain-holds plain s es t (on.Init u) is held = held

some-there : {X : Type 0} (at : Option X) → IsSome at → (x : X) × (at ≡ Some x)
some-there None some = absurd (let no : false ≡ true = some in cc)
some-there (Some x) some = (x, refl)

some-of : {X : Type 0} (at : Option X) (x : X) → at ≡ Some x → IsSome at
some-of at x is = ap is_some is

module _ (law : ReadyThreadsAskAlike) (o : Opening) (m : Machine) (es : List Entry) (threads : List ThreadFrames)
    (keeps : KeepsRun o m es) (plain : RunsAsPlain o m threads) (asked : ℕ → Option (Request Ref Item))
    (waited : ℕ → Option On) (many : length threads ≡ length m.rest.threads) (all : AllKeep o m es threads)
    (noted : AreNoted o m es threads asked waited) where
  abbrev lives : ℕ → Bool
  lives = asks_some (requests_in o m)

  abbrev tested : Type 0
  tested = AllWaitStill o.launch.set m (roots_in o m) asked waited

  abbrev is_stuck : Type 0
  is_stuck = IsStuckAt (plain_waits o m) lives (scene_of m) es waited

  -- the step of what a thread asks that waited waits as the plain world says
  alike : (t : ℕ) (w : On) (request : Request Ref Item) → waited t ≡ Some w → asked t ≡ Some request
      → plain_waits o m t ≡ wait_of (step o.launch.set (world_of (roots_in o m) (shown_in m) m.rest) t 1
      (plain_request (shown_in m).number request))
  alike t w request waits is =
      let its = noted.asks t request is in
      ready_threads_wait_alike law o m es threads keeps plain t its.0 request (noted.ready t w waits) its.1
      ∙ ap (λ world. wait_of (step o.launch.set world t 1 (plain_request (shown_in m).number request)))
      (world-is o m threads plain)

  pub so-stuck : tested → is_stuck
  so-stuck still t asks =
      let w = still t (asks-lives o m threads plain t asks) in (
        w.on,
        w.noted,
        plain-holds (plain_waits o m) (scene_of m) es t w.on w.plain
            (alike t w.on w.request w.noted w.asks ∙ w.holds),
      )

  module _ (stuck : is_stuck) where
    plainly : (t : ℕ) → lives t ≡ true → (w : On) × (waited t ≡ Some w) × IsPlain w × (plain_waits o m t ≡ Some w)
    plainly = stuck_runs_wait_plainly (plain_waits o m) lives (scene_of m) es waited keeps.heap.agrees
        (records_are_right o m es waited keeps (all-ask-stores o m es threads keeps all) noted.recorded) stuck

    pub so-tested : tested
    so-tested t live_now =
        let w = plainly t (lives-asks o m threads plain many t live_now) in
        let request = some-there (asked t) (noted.beside t w.0 w.1) in record {
          on = w.0;
          noted = w.1;
          plain = w.2;
          request = request.0;
          asks = request.1;
          holds = sym (alike t w.0 request.0 w.1 request.1) ∙ w.3;
        }

    -- who doesn't live waits for nothing
    unasked : (t : ℕ) (at : Option On) → waited t ≡ at → requests_in o m t ≡ None → at ≡ None
    unasked t None is none = refl
    unasked t (Some w) is none =
        let request = some-there (asked t) (noted.beside t w is) in
        let its = noted.asks t request.0 request.1 in
        let asks = some-there (requests_in o m t)
        (lives-asks o m threads plain many t (its.1.state, its.1.thread, its.1.lives)) in
        no-some (requests_in o m t) asks.0 none asks.1

    none-waits : (t : ℕ) → requests_in o m t ≡ None → plain_waits o m t ≡ None
    none-waits t none = ap (λ at. if owes_fence (known_in o m).unfenced t then None
        else wait_at o.launch.set (known_in o m).world t at) none
        ∙ neither (owes_fence (known_in o m).unfenced t)
      where
        neither : (b : Bool) → ◌≡◌ {A = Option On} (if b then None else None) None
        neither true = refl
        neither false = refl

    told : (t : ℕ) (at : Option PlainRequest) → requests_in o m t ≡ at → waited t ≡ plain_waits o m t
    told t None none = unasked t (waited t) refl none ∙ sym (none-waits t none)
    told t (Some q) is =
        let w = plainly t (some-of (requests_in o m t) q is) in w.1 ∙ sym w.3

    pub each-waits : (t : ℕ) → IsSome (requests_in o m t) → IsSome (plain_waits o m t)
    each-waits t asks = let w = plainly t asks in some-of (plain_waits o m t) w.0 w.3

    pub waits-as-told : (t : ℕ) → waited t ≡ plain_waits o m t
    waits-as-told t = told t (requests_in o m t) refl

pub tested_waits_are_stuck : ReadyThreadsAskAlike → TestedWaitsAreStuck
tested_waits_are_stuck law o m es threads keeps plain asked waited many all noted = (
  so-stuck law o m es threads keeps plain asked waited many all noted,
  so-tested law o m es threads keeps plain asked waited many all noted,
)

-- ---- the list of waits

in-list : (xs : List (Option On)) (t : ℕ) (x : Option On) → slice_get xs t ≡ Some x → wait_in xs t ≡ x
in-list [] t x is = absurd (let no : ◌≡◌ {A = Option (Option On)} None (Some x) = is in cc)
in-list (y ∷ xs) zero x is = let e : ◌≡◌ {A = Option (Option On)} (Some y) (Some x) = is in cc
in-list (y ∷ xs) (suc t) x is = in-list xs t x is

as-list : (plain : ℕ → Option On) (waits : List (Option On)) → length waits ≡ 64 → ((t : ℕ) → wait_in waits t ≡ plain t)
    → waits_from plain 0 most_threads ≡ waits
as-list plain waits long each =
    let count = length-waits plain 0 most_threads in
    ext_get_or None (waits_from plain 0 most_threads) waits (count ∙ sym long)
    (λ t below. in-list (waits_from plain 0 most_threads) t (plain t)
    (waits-get plain 0 most_threads t (omega (arith, below, count)) ∙ ap (λ k. Some (plain k)) (zero-plus t))
    ∙ sym (each t))

pub tested_waits_end : ReadyThreadsAskAlike → TestedWaitsEnd
tested_waits_end law o m es threads keeps plain asked waits lines t many long all noted still live_now room =
    let waited = wait_in waits in
    let stuck = so-stuck law o m es threads keeps plain asked waited many all noted still in
    let each = each-waits law o m es threads keeps plain asked waited many all noted stuck in
    let asks = lives-asks o m threads plain many t live_now in
    let w = some-there (plain_waits o m t) (each t asks) in
    subst (λ xs. IsEndedBy o.launch lines m.acts t (fault.Stuck xs))
    (as-list (plain_waits o m) waits long (waits-as-told law o m es threads keeps plain asked waited many all noted stuck))
    (stuck_machines_end o m es threads keeps plain lines t w.0 w.1 each room)
