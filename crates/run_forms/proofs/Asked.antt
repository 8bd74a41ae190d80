-- A thread of a machine that stands for a plain run asks what the plain machine asks.
use Rattle.std.proofs.Common.{◌≡◌, ℕ, ◌<◌, true, false, List, [], length, map, unwrap_or, Option, Some, None, refl, ap, sym}
use Rattle.std.proofs.Common.{subst, ◌∙◌, arith, if◌then◌else◌}
use Rattle.std.specs.Prelude.{slice_get, IsSome}
use Rattle.std.specs.Option.{option_map}
use Rattle.std.proofs.lemmas.Option.{slice_get-map, slice_get_within}
use Rattle.ap_base.specs.declared.kind.Kind.{Kind}
use Rattle.ap_base.specs.declared.kind.Kind.TheVariants as kind
use Rattle.ap_base.specs.declared.reference.Ref.{Ref}
use Rattle.ap_base.specs.declared.reference.Ref.TheVariants as ref
use Rattle.ap_base.specs.declared.reference.Item.{Item}
use Rattle.ap_base.specs.declared.reference.Item.TheVariants as item
use Rattle.run_types.specs.declared.key.Key.TheVariants as key
use Rattle.graph_model.specs.declared.types.Root.{Root}
use Rattle.graph_model.specs.declared.types.Value.{Value}
use Rattle.graph_model.specs.declared.types.Value.TheVariants as value
use Rattle.natives.specs.declared.methods.Native.{Native}
use Rattle.natives.specs.declared.requests.Request.{Request}
use Rattle.natives.specs.declared.requests.Request.TheVariants as ask
use Rattle.natives.specs.declared.requests.Reply.{Reply}
use Rattle.natives.specs.declared.requests.Reply.TheVariants as reply
use Rattle.natives.specs.declared.states.NativeState.{NativeState}
use Rattle.natives.specs.Coded.{items}
use Rattle.run_history.specs.Recorded.{Recorded}
use Rattle.run_history.specs.Worlds.{World}
use Rattle.plain_model.specs.Facts.{SetFacts, known_classes}
use Rattle.plain_model.specs.Requests.{PlainRequest}
use Rattle.plain_model.specs.Codes.{asks_live}
use Rattle.plain_model.specs.Runs.{request_after}
use Rattle.plain_model.specs.Duties.{IsReferenceIn, IsOfKind, IsFit}
use Rattle.frames.specs.declared.op.Op.{Op}
use Rattle.frames.specs.declared.op.Op.TheVariants as op
use Rattle.frames.specs.declared.program.Placed.{Placed}
use Rattle.frames.specs.Settings.{Setting}
use Rattle.frames.specs.Calls.{Stepped}
use Rattle.frames.specs.Tables.{placed_at, no_placed, start_of}
use Rattle.frames.specs.Turns.{turn, answer}
use Rattle.frames.specs.Maps.{map_cell, map_request, map_reply, map_asks, map_stepped, GoAlike}
use Rattle.plain_frames.specs.Codes.{code_of, plain_setting, plain_cells, request_or_pause}
use Rattle.plain_frames.specs.Tables.{IsOpOf}
use Rattle.plain_frames.specs.Sound.{AreIn}
use Rattle.plain_frames.specs.DutyLaws.{IsWorldOf}
use Rattle.plain_frames.proofs.Frames.{entry-in}
use Rattle.plain_frames.specs.Coded.{plain_reference, plain_item, item_given, ItemsAreAlike}
use Rattle.plain_frames.specs.Keeping.{BuiltInMethodsKeepIn}
use Rattle.plain_frames.specs.Machines.{SettingsGoAlike, BuiltInProgramsAskWhatIsFit, BuiltInWorldsAreOf, BuiltInFramesStayIn}
use Rattle.plain_frames.specs.Methods.{plain_natives, plain_values, plain_given}
use Rattle.plain_frames.specs.Moves.{map_state}
use Rattle.plain_frames.specs.Worlds.{is_in}
use Rattle.shared_objects.specs.declared.rest.Rest.{Rest}
use Rattle.shared_objects.specs.Shown.{Shown, IsKnown, IsKnownItem, ref_value, item_value, number_value}
use Rattle.shared_objects.specs.Plain.{plain_request, plain_reply, KnowsRequest, KnowsReply}
use Rattle.shared_objects.specs.Worlds.{plain_thread, world_of}
use Rattle.step_forms.specs.Follows.{IsHeapOf}
use Rattle.run_forms.specs.Views.{ThreadFrames, item_cells, numbered, plain_frames}
use Rattle.run_forms.specs.Standing.{Launch, IsLaunch, HasLiterals, StandsFor, IsAsking, IsAsked, setting_of, plain_code}
use Rattle.run_forms.specs.Standing.{known_at, frames_at}
use Rattle.run_forms.proofs.Literals.{IsSameLiteral, with_literals, turn-same, answer-same}

-- what the laws of built-in methods say
pub record BuiltIns : Type 0 where
  pub keep : BuiltInMethodsKeepIn
  pub duties : BuiltInProgramsAskWhatIsFit
  pub worlds : BuiltInWorldsAreOf
  pub frames : BuiltInFramesStayIn
  pub alike : (number : Ref → ℕ) → SettingsGoAlike (plain_reference number) (plain_item number)
  pub items : ItemsAreAlike

-- ---- views of known references

module _ (shown : Shown) (null : shown.number ref.Null ≡ None) where
  abbrev pub f : Ref → Value
  f = plain_reference (numbered shown)

  abbrev pub h : Item → Value
  h = plain_item (numbered shown)

  pub reference-numbered : (r : Ref) (n : ℕ) → shown.number r ≡ Some n → f r ≡ value.Obj n
  reference-numbered ref.Null n e =
      absurd (let no : ◌≡◌ {A = Option ℕ} None (Some n) = sym null ∙ e in cc)
  reference-numbered (ref.Persistent line) n e =
      ap (λ o. value.Obj (unwrap_or o (length shown.objects))) e
  reference-numbered (ref.Volatile index) n e =
      ap (λ o. value.Obj (unwrap_or o (length shown.objects))) e

  some-value : (n : Option ℕ) (d : ℕ) → IsSome n → number_value n ≡ value.Obj (unwrap_or n d)
  some-value None d is = absurd (let none : false ≡ true = is in cc)
  some-value (Some n) d is = refl

  -- null and references of objects are seen as what they stand for
  pub reference-known : (r : Ref) → IsKnown shown.number r → ref_value shown.number r ≡ f r
  reference-known ref.Null is = ap number_value null
  reference-known (ref.Persistent line) is =
      some-value (shown.number (ref.Persistent line)) (length shown.objects) is
  reference-known (ref.Volatile index) is =
      some-value (shown.number (ref.Volatile index)) (length shown.objects) is

  pub item-known : (v : Item) → IsKnownItem shown.number v → item_value shown.number v ≡ h v
  item-known (item.Int i) is = refl
  item-known (item.Long i) is = refl
  item-known (item.Ref r) is = reference-known r is

  pub request-known : (q : Request Ref Item) → KnowsRequest shown.number q
      → plain_request shown.number q ≡ map_request f h q
  request-known (ask.PutStatic from field v) is = ap (ask.PutStatic from field) (item-known v is)
  request-known (ask.GetField from r field) is = ap (λ s. ask.GetField from s field) (reference-known r is)
  request-known (ask.PutField from r field v) is =
      let at = reference-known r is.0 in let to = item-known v is.1 in λ i. ask.PutField from (at i) field (to i)
  request-known (ask.GetElement from r index k) is =
      ap (λ s. ask.GetElement from s index k) (reference-known r is)
  request-known (ask.PutElement from r index k v) is =
      let at = reference-known r is.0 in let to = item-known v is.1 in
      λ i. ask.PutElement from (at i) index k (to i)
  request-known (ask.Length from r) is = ap (ask.Length from) (reference-known r is)
  request-known (ask.ClassOf from r within) is = ap (λ s. ask.ClassOf from s within) (reference-known r is)
  request-known (ask.Cast from r target) is = ap (λ s. ask.Cast from s target) (reference-known r is)
  request-known (ask.IsA from r target) is = ap (λ s. ask.IsA from s target) (reference-known r is)
  request-known (ask.Same from l r) is =
      let left = reference-known l is.0 in let right = reference-known r is.1 in
      λ i. ask.Same from (left i) (right i)
  request-known (ask.Enter from (key.Object r)) is =
      ap (λ s. ask.Enter from (key.Object s)) (reference-known r is)
  request-known (ask.Enter from (key.Class c)) is = refl
  request-known (ask.Exit from (key.Object r)) is =
      ap (λ s. ask.Exit from (key.Object s)) (reference-known r is)
  request-known (ask.Exit from (key.Class c)) is = refl
  request-known (ask.Start from r) is = ap (ask.Start from) (reference-known r is)
  request-known (ask.Join from r) is = ap (ask.Join from) (reference-known r is)
  request-known q is = refl

  pub reply-known : (r : Reply Ref Item) → KnowsReply shown.number r
      → plain_reply shown.number r ≡ map_reply f h r
  reply-known (reply.Item v) is = ap reply.Item (item-known v is)
  reply-known (reply.Made r) is = ap reply.Made (reference-known r is)
  reply-known (reply.Thrown r class) is = ap (λ s. reply.Thrown s class) (reference-known r is)
  reply-known r is = refl

  -- ---- what is fit is known

  module _ (set : SetFacts) (world : World) (objects : world.heap.objects ≡ shown.objects) where
    below-known : (n : Option ℕ) → unwrap_or n (length shown.objects) < length world.heap.objects → IsSome n
    below-known None below =
        absurd (omega (arith, subst (λ os. length shown.objects < length os) objects below))
    below-known (Some n) below = refl

    pub in-known : (r : Ref) → IsReferenceIn world (f r) → IsKnown shown.number r
    in-known ref.Null is = tt
    in-known (ref.Persistent line) is = below-known (shown.number (ref.Persistent line)) is
    in-known (ref.Volatile index) is = below-known (shown.number (ref.Volatile index)) is

    kind-known : (k : Kind) (v : Item) → IsOfKind world k (h v) → IsKnownItem shown.number v
    kind-known k (item.Int i) is = tt
    kind-known k (item.Long i) is = tt
    kind-known k (item.Ref ref.Null) is = tt
    kind-known kind.L (item.Ref (ref.Persistent line)) is = in-known (ref.Persistent line) is
    kind-known kind.L (item.Ref (ref.Volatile index)) is = in-known (ref.Volatile index) is
    kind-known k (item.Ref (ref.Persistent line)) is = absurd is
    kind-known k (item.Ref (ref.Volatile index)) is = absurd is

    pub fit-known : (t : ℕ) (q : Request Ref Item) → IsFit set world t (map_request f h q)
        → KnowsRequest shown.number q
    fit-known t (ask.PutStatic from field v) is = kind-known field.kind v is.1
    fit-known t (ask.GetField from r field) is = in-known r is.1
    fit-known t (ask.PutField from r field v) is = (in-known r is.1, kind-known field.kind v is.2)
    fit-known t (ask.GetElement from r index k) is = in-known r is
    fit-known t (ask.PutElement from r index k v) is = (in-known r is.0, kind-known k v is.1)
    fit-known t (ask.Length from r) is = in-known r is
    fit-known t (ask.ClassOf from r within) is = in-known r is.1
    fit-known t (ask.Cast from r target) is = in-known r is.1
    fit-known t (ask.IsA from r target) is = in-known r is.1
    fit-known t (ask.Same from l r) is = (in-known l is.0, in-known r is.1)
    fit-known t (ask.Enter from (key.Object r)) is = in-known r is
    fit-known t (ask.Enter from (key.Class c)) is = tt
    fit-known t (ask.Exit from (key.Object r)) is = in-known r is
    fit-known t (ask.Exit from (key.Class c)) is = tt
    fit-known t (ask.Start from r) is = in-known r is
    fit-known t (ask.Join from r) is = in-known r is
    fit-known t q is = tt

  -- ---- turns and answers

  module _ (laws : BuiltIns) (launch : Launch) (is : IsLaunch launch) (literals : HasLiterals launch shown) where
    abbrev pub x : Setting Native Ref (NativeState Ref) Item
    x = setting_of launch

    abbrev pub plain : Setting Native Value (NativeState Value) Value
    plain = plain_setting launch.set launch.opening launch.program (plain_natives launch.set) launch.method

    abbrev seen_literal : ℕ → Value
    seen_literal k = f (launch.literal k)

    cells-alike : (v : Item) → plain_cells (h v) ≡ map (map_cell f) (item_cells v)
    cells-alike (item.Int i) = refl
    cells-alike (item.Long i) = refl
    cells-alike (item.Ref ref.Null) = refl
    cells-alike (item.Ref (ref.Persistent line)) = refl
    cells-alike (item.Ref (ref.Volatile index)) = refl

    go-alike : GoAlike f (map_state f) h x (with_literals plain seen_literal)
    go-alike = laws.alike (numbered shown) items plain_values item_given plain_given
        (known_classes launch.set) launch.program (start_of launch.program launch.method) launch.literal
        seen_literal item.Long value.Long item_cells plain_cells (laws.items (numbered shown)) (λ k. refl)
        (λ i. refl) cells-alike

    literal-same : (o : Op) → IsOpOf launch.set launch.program o → IsSameLiteral plain seen_literal o
    literal-same (op.PushLiteral k) below = reference-numbered (launch.literal k) _ (literals k below)
    literal-same o h = tt

    literals-same : (at : ℕ) → IsSameLiteral plain seen_literal (placed_at plain.program at).op
    literals-same at = literal-same (placed_at launch.program at).op
        (entry-in (λ (i : Placed). IsOpOf launch.set launch.program i.op) launch.program.code at no_placed
        is.names.code tt)

    pub turns : (fs : ThreadFrames)
        → turn plain (plain_frames shown fs) ≡ map_stepped f (map_state f) h (turn x fs)
    turns fs = sym (turn-same plain seen_literal literals-same (plain_frames shown fs)) ∙ go-alike.turns fs

    pub answers : (fs : ThreadFrames) (r : Reply Ref Item)
        → answer plain (plain_frames shown fs) (map_reply f h r) ≡ plain_frames shown (answer x fs r)
    answers fs r =
        sym (answer-same plain seen_literal (plain_frames shown fs) (map_reply f h r)) ∙ go-alike.answers fs r

-- ---- a machine that stands for a plain run

abbrev plain_request_or : Option (Request Ref Item) → Request Ref Item
plain_request_or None = ask.Pause
plain_request_or (Some q) = q

-- the plain turn asks what the turn asks, seen so
asked-alike : (f : Ref → Value) (h : Item → Value) (q : Option (Request Ref Item))
    → request_or_pause (map_asks f h q) ≡ map_request f h (plain_request_or q)
asked-alike f h None = refl
asked-alike f h (Some q) = refl

-- what is fit doesn't depend on the durable roots
fit-roots : (set : SetFacts) (roots : List Root) (shown : Shown) (rest : Rest) (t : ℕ) (q : PlainRequest)
    → IsFit set (world_of roots shown rest) t q → IsFit set (world_of [] shown rest) t q
fit-roots set roots shown rest t q is = is

module _ (laws : BuiltIns) (launch : Launch) (acts : List Recorded) (shown : Shown) (rest : Rest)
    (threads : List ThreadFrames) (is : IsLaunch launch) (stands : StandsFor launch acts shown rest threads) where
  abbrev pub p : Setting Native Value (NativeState Value) Value
  p = plain_setting launch.set launch.opening launch.program (plain_natives launch.set) launch.method

  pub world-of-set : IsWorldOf launch.set launch.opening (known_at launch acts).world
  world-of-set = laws.worlds launch.set launch.opening launch.program launch.method launch.main is.consistent
      is.opening is.names is.main acts stands.run

  pub shown-objects : (known_at launch acts).world.heap.objects ≡ shown.objects
  shown-objects = ap (λ (w : World). w.heap.objects) stands.world

  world-shown : IsWorldOf launch.set launch.opening (world_of stands.roots shown rest)
  world-shown = subst (IsWorldOf launch.set launch.opening) stands.world world-of-set

  pub heap-is : IsHeapOf launch.set shown
  heap-is = record {
    consistent = is.consistent;
    of_set = record {
      shapes = world-shown.of_set.shapes;
      statics = world-shown.of_set.statics;
      slots = world-shown.of_set.slots;
    };
    typed = record { objects = world-shown.typed.objects; statics = world-shown.typed.statics };
  }

  -- the plain frames of a thread
  pub frames-there : (t : ℕ) (fs : ThreadFrames) → slice_get threads t ≡ Some fs
      → slice_get (frames_at launch acts) t ≡ Some (plain_frames shown fs)
  frames-there t fs here =
      ap (λ fss. slice_get fss t) stands.frames
      ∙ slice_get-map (plain_frames shown) threads t
      ∙ ap (option_map (plain_frames shown)) here

  pub frames-in : (t : ℕ) (fs : ThreadFrames) → slice_get threads t ≡ Some fs
      → AreIn launch.set (is_in launch.set) (known_at launch acts).world t (plain_frames shown fs)
  frames-in t fs here = laws.frames launch.set launch.opening launch.program launch.method launch.main
      is.consistent is.opening is.names is.main acts stands.run t (plain_frames shown fs)
      (frames-there t fs here)

  pub turns-here : (fs : ThreadFrames)
      → turn p (plain_frames shown fs)
      ≡ map_stepped (plain_reference (numbered shown)) (map_state (plain_reference (numbered shown)))
      (plain_item (numbered shown)) (turn (setting_of launch) fs)
  turns-here = turns shown stands.null laws launch is stands.literals

  module _ (t : ℕ) (fs : ThreadFrames) (q : Request Ref Item) (asking : IsAsking launch rest threads t fs q) where
    abbrev seen : PlainRequest
    seen = map_request (plain_reference (numbered shown)) (plain_item (numbered shown)) q

    thread-there : slice_get (known_at launch acts).world.threads t ≡ Some (plain_thread asking.state)
    thread-there =
        ap (λ (w : World). slice_get w.threads t) stands.world
        ∙ slice_get-map plain_thread rest.threads t
        ∙ ap (option_map plain_thread) asking.thread

    pub turn-asks : ((plain_code launch).turn (plain_frames shown fs)).1 ≡ seen
    unfolding code_of
    turn-asks =
        ap (λ (s : Stepped Value (NativeState Value) Value). request_or_pause s.asks) (turns-here fs)
        ∙ asked-alike (plain_reference (numbered shown)) (plain_item (numbered shown))
        (turn (setting_of launch) fs).asks
        ∙ ap (λ o. map_request (plain_reference (numbered shown)) (plain_item (numbered shown))
        (plain_request_or o)) asking.asks

    asks-seen : request_after launch.set launch.main launch.opening (plain_code launch) acts t ≡ Some seen
    asks-seen =
        ap (λ thread. asks_live launch.set launch.main launch.opening (plain_code launch) thread
        (slice_get (frames_at launch acts) t)) thread-there
        ∙ ap (λ o. asks_live launch.set launch.main launch.opening (plain_code launch)
        (Some (plain_thread asking.state)) o) (frames-there t fs asking.frames)
        ∙ ap (λ b. if b then None else Some ((plain_code launch).turn (plain_frames shown fs)).1) asking.lives
        ∙ ap Some turn-asks

    fit-seen : IsFit launch.set (known_at launch acts).world t seen
    fit-seen = laws.duties launch.set launch.opening launch.program launch.method launch.main
        is.consistent is.opening is.names is.main acts stands.run t seen asks-seen

    pub knows : KnowsRequest shown.number q
    knows = fit-known shown stands.null launch.set (known_at launch acts).world shown-objects t q fit-seen

    pub seen-is : plain_request shown.number q ≡ seen
    seen-is = request-known shown stands.null q knows

    pub fit-here : IsFit launch.set (known_at launch acts).world t (plain_request shown.number q)
    fit-here = subst (IsFit launch.set (known_at launch acts).world t) (sym seen-is) fit-seen

    pub asked : IsAsked launch acts shown rest t q
    asked = record {
      thread = slice_get_within rest.threads t asking.state asking.thread;
      plain = asks-seen ∙ ap Some (sym seen-is);
      known = knows;
      fit = fit-roots launch.set stands.roots shown rest t (plain_request shown.number q)
          (subst (λ w. IsFit launch.set w t (plain_request shown.number q)) stands.world
          (subst (IsFit launch.set (known_at launch acts).world t) (sym seen-is) fit-seen));
    }
