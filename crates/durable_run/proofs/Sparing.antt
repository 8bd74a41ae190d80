-- What the acts of a run leave of its sink: of events, and of events in a row.
use Rattle.std.proofs.Common.{◌≡◌, ℕ, true, false, inl, inr, List, [], ◌∷◌, ◌++◌, append_assoc}
use Rattle.std.proofs.Common.{Option, Some, None, refl, ap, sym, subst, ◌∙◌}
use Rattle.std.specs.Prelude.{IsSome}
use Rattle.std.proofs.lemmas.List.{append-nil}
use Rattle.ap_base.specs.Sinks.{with_bytes}
use Rattle.ap_base.specs.declared.place.Place.{Place}
use Rattle.ap_base.specs.declared.reference.Ref.{Ref}
use Rattle.ap_base.specs.declared.reference.Item.{Item}
use Rattle.run_types.specs.declared.fault.RunFault.{RunFault}
use Rattle.natives.specs.declared.requests.Request.{Request}
use Rattle.natives.specs.declared.requests.Request.TheVariants as ask
use Rattle.run_history.specs.declared.act.Op.{Op}
use Rattle.run_history.specs.declared.act.Op.TheVariants as op
use Rattle.run_history.specs.Knowing.{owes_fence, unfenced_at}
use Rattle.run_history.specs.Recorded.{Recorded}
use Rattle.plain_model.specs.Facts.{SetFacts}
use Rattle.plain_model.specs.Runs.{is_fenced, output_of, printed_by}
use Rattle.shared_objects.specs.Plain.{plain_request}
use Rattle.shared_objects.specs.Shown.{Numbers}
use Rattle.run_forms.specs.Standing.{IsRun, Launch}
use Rattle.run_forms.specs.Views.{ThreadFrames}
use Rattle.twin_forms.specs.Table.{Entry}
use Rattle.machine.specs.Passed.{Opening, doing_of, known_in, shown_in}
use Rattle.machine.specs.Passed.{IsReady as OwesNoFence, IsSilent, LagsByItsStore, Shared, given}
use Rattle.machine.specs.Passed.{Doing}
use Rattle.machine.specs.Passed.{Nothing, Converting, Writing, Fencing}
use Rattle.machine.specs.Events.{AddsOne}
use Rattle.machine.specs.Running.{IsDue}
use Rattle.durable_run.specs.Events.{fault_of}
use Rattle.durable_run.specs.Shares.{piece_after, piece_of}
use Rattle.durable_run.specs.Sparing.{Spares, SparesAll, SparesSink}
use Rattle.durable_run.specs.Telling.{HasTold}
use Rattle.durable_run.specs.declared.steps.Stepped.{Stepped}
use Rattle.durable_run.specs.declared.steps.Stepped.TheVariants.{Acted, Micro, WouldWait, Over}
use Rattle.durable_run.proofs.Passing.{IsOver}
use Rattle.durable_run.proofs.Places.{some-one}
use Rattle.durable_run.proofs.Sharing.{AsksAlike, asks-piece, cancel, is-doing, is_there, owes-is, rule}
use Rattle.durable_run.proofs.Telling.{bytes-none}

-- ---- in a row

module _ {S : Type 0} (taken : S → Option (List ℕ)) (launch : Launch) where
  abbrev Along : List Recorded → List Recorded → S → S → Type 0
  Along = SparesAll taken launch

  abbrev SparesIt : Option RunFault → S → S → List Recorded → List Recorded → Type 0
  SparesIt = SparesSink taken launch

  -- there was no act
  pub spares-still : (over : Option RunFault) (first last : S) (old new : List Recorded) → new ≡ old
      → (over ≡ None → last ≡ first) → SparesIt over first last old new
  spares-still over first last old new same stays = record {
    further = [];
    acts = same ∙ sym (append-nil old);
    reached = first;
    spared = refl;
    unfaulted = stays;
  }

  pub spares-nothing : (sink : S) (acts : List Recorded) → SparesIt None sink sink acts acts
  spares-nothing sink acts = spares-still None sink sink acts acts refl (λ none. refl)

  pub spares-over : (f : RunFault) (first last : S) (old new : List Recorded) → new ≡ old
      → SparesIt (Some f) first last old new
  spares-over f first last old new same = spares-still (Some f) first last old new same
      (λ none. absurd (let no : ◌≡◌ {A = Option RunFault} (Some f) None = none in cc))

  -- there was one, of thread t
  pub spares-one : (t : ℕ) (first last : S) (old new : List Recorded) (one : AddsOne t old new)
      → Spares taken (piece_after launch old t) one.act.act.op first last → SparesIt None first last old new
  spares-one t first last old new one spared = record {
    further = one.act ∷ [];
    acts = one.acts;
    reached = last;
    spared = (
      last,
      subst (λ (u : ℕ). Spares taken (piece_after launch old u) one.act.act.op first last) (sym one.thread) spared,
      refl,
    );
    unfaulted = λ none. refl;
  }

  spares-then : (before a b : List Recorded) (first mid last : S) → Along before a first mid
      → Along (before ++ a) b mid last → Along before (a ++ b) first last
  spares-then before [] b first mid last one two = subst (λ (sink : S). Along before b sink last) one
      (subst (λ (acts : List Recorded). Along acts b mid last) (append-nil before) two)
  spares-then before (c ∷ a) b first mid last one two = (
    one.0,
    one.1,
    spares-then (before ++ c ∷ []) a b one.0 mid last one.2
        (subst (λ (acts : List Recorded). Along acts b mid last) (sym (append_assoc before (c ∷ []) a)) two),
  )

  pub spares-both : (over : Option RunFault) (first mid last : S) (a b c : List Recorded) → SparesIt None first mid a b
      → SparesIt over mid last b c → SparesIt over first last a c
  spares-both over first mid last a b c one two = record {
    further = one.further ++ two.further;
    acts = two.acts ∙ ap (λ (acts : List Recorded). acts ++ two.further) one.acts ∙ append_assoc a one.further two.further;
    reached = two.reached;
    spared = spares-then a one.further two.further first one.reached two.reached one.spared
        (subst (λ (acts : List Recorded). Along acts two.further one.reached two.reached) one.acts
        (subst (λ (sink : S). Along b two.further sink two.reached) (one.unfaulted refl) two.spared));
    unfaulted = two.unfaulted;
  }

  -- an event that ends no run
  pub spares-on : (new : Shared) (went : Stepped) (first last : S) (a b : List Recorded) → (IsOver went → ⊥)
      → SparesIt (fault_of new went) first last a b → SparesIt None first last a b
  spares-on new Acted first last a b isnt spares = spares
  spares-on new Micro first last a b isnt spares = spares
  spares-on new (WouldWait wait) first last a b isnt spares = spares
  spares-on new (Over halt) first last a b isnt spares = absurd (isnt tt)

-- ---- one act

-- the one act has the event's output
act-output : (t : ℕ) (old new : List Recorded) (one : AddsOne t old new) (sees sees' : Option (List Recorded))
    (taken taken' : Option (List ℕ)) → HasTold old new sees sees' taken taken'
    → taken' ≡ with_bytes taken (output_of (one.act ∷ []))
act-output t old new one sees sees' taken taken' told = told.printed
    ∙ ap (λ (acts : List Recorded). with_bytes taken (output_of acts))
    (cancel old told.further (one.act ∷ []) new told.acts one.acts)

-- a request that gives something prints nothing
given-silent : (request : Request Ref Item) → IsSome (given request) → IsSilent request
given-silent (ask.Print from piece) gives = absurd (let no = gives in cc)
given-silent request gives = tt

module _ {S : Type 0} (taken : S → Option (List ℕ)) (sink next : S) where
  fence-spares : (piece : Option (List ℕ)) (operation : Op) → is_fenced operation ≡ true → next ≡ sink
      → Spares taken piece operation sink next
  fence-spares None operation fence same = same
  fence-spares (Some piece) op.Fenced fence same = same
  fence-spares (Some piece) operation fence same = absurd (let no : false ≡ true = fence in cc)

  print-spares : (piece : List ℕ) (a : Recorded) → is_fenced a.act.op ≡ false
      → taken next ≡ with_bytes (taken sink) (output_of (a ∷ [])) → Spares taken (Some piece) a.act.op sink next
  print-spares piece a unfenced output = by a.act.op unfenced output
    where
      by : (operation : Op) → is_fenced operation ≡ false
          → taken next ≡ with_bytes (taken sink) (printed_by operation ++ []) → Spares taken (Some piece) operation sink next
      by op.Fenced unfenced output = absurd (let no : true ≡ false = unfenced in cc)
      by (op.Print bytes) unfenced output = output ∙ ap (with_bytes (taken sink)) (append-nil bytes)
      by operation unfenced output = output ∙ sym (bytes-none (taken sink))

  -- by what the machine's thread asks, where the plain machine asks the same
  asked-spares : (number : Numbers) (request : Request Ref Item) (piece : Option (List ℕ))
      → piece ≡ piece_of (Some (plain_request number request)) → (a : Recorded) → is_fenced a.act.op ≡ false
      → taken next ≡ with_bytes (taken sink) (output_of (a ∷ [])) → (IsSilent request → next ≡ sink)
      → Spares taken piece a.act.op sink next
  asked-spares number (ask.Print from text) piece is a unfenced output silent =
      subst (λ (p : Option (List ℕ)). Spares taken p a.act.op sink next) (sym is) (print-spares text a unfenced output)
  asked-spares number request piece is a unfenced output silent =
      subst (λ (p : Option (List ℕ)). Spares taken p a.act.op sink next) (sym is) (silent tt)

-- ---- an event's act

module _ (o : Opening) (first : ℕ) (set : SetFacts) (s : Shared) (es : List Entry) (threads : List ThreadFrames) (t : ℕ)
    (fs : ThreadFrames) (request : Request Ref Item) (due : IsDue o first set s es threads t fs request) (alike : AsksAlike)
  where
    lags : (d : Doing) → doing_of s.machine t ≡ d → LagsByItsStore o.launch d fs
    lags d is = subst (λ (e : Doing). LagsByItsStore o.launch e fs) is (due.running.all.each t fs due.asks.frames).lags

    module _ {S : Type 0} (taken : S → Option (List ℕ)) (sink next : S) (new : List Recorded)
        (one : AddsOne t s.history.acts new) (run : IsRun o.launch new) (seen seen' : Option (List Recorded))
        (told : HasTold s.history.acts new seen seen' (taken sink) (taken next)) (silent : IsSilent request → next ≡ sink)
      where
        abbrev piece : Option (List ℕ)
        piece = piece_after o.launch s.history.acts t

        abbrev SparesOne : Type 0
        SparesOne = Spares taken piece one.act.act.op sink next

        fenced : is_fenced one.act.act.op ≡ owes_fence (known_in o s.machine).unfenced t
        fenced = rule o first set s es threads t fs request due alike new one run

        paid : OwesNoFence (doing_of s.machine t) → owes_fence (known_in o s.machine).unfenced t ≡ false → SparesOne
        paid ready none = asked-spares taken sink next (shown_in s.machine).number request piece
            (asks-piece o first set s es threads t fs request due alike ready) one.act (fenced ∙ none)
            (act-output t s.history.acts new one seen seen' (taken sink) (taken next) told) silent

        owing : (p : Place) → unfenced_at (known_in o s.machine).unfenced t ≡ Some p → (q : Request Ref Item)
            → Some q ≡ Some request → IsSome (given q) → SparesOne
        owing p at q is gives = fence-spares taken sink next piece one.act.act.op
            (fenced ∙ owes-is (known_in o s.machine).unfenced t ∙ ap is_there at)
            (silent (given-silent request (subst (λ (r : Request Ref Item). IsSome (given r)) (some-one q request is) gives)))

        spares-by : (d : Doing) → doing_of s.machine t ≡ d → SparesOne
        spares-by Nothing is =
            paid (inl is) (is-doing o first set s es threads t fs request due alike Nothing is).1
        spares-by Converting is =
            paid (inr is) (is-doing o first set s es threads t fs request due alike Converting is).1
        spares-by (Writing line) is =
            let its = lags (Writing line) is in
            let at = (is-doing o first set s es threads t fs request due alike (Writing line) is).1 in
            owing at.0 at.1 its.0 (sym its.1 ∙ due.asks.asks) its.2
        spares-by Fencing is =
            let its = lags Fencing is in
            let at = (is-doing o first set s es threads t fs request due alike Fencing is).1 in
            owing at.0 at.1 its.0 (sym its.1 ∙ due.asks.asks) its.2

        pub act-spares : SparesSink taken o.launch None sink next s.history.acts new
        act-spares = spares-one taken o.launch t sink next s.history.acts new one (spares-by (doing_of s.machine t) refl)
