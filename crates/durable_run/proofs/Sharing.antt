-- Each print of a run takes its share: of events, and of events in a row.
use Rattle.std.proofs.Common.{◌≡◌, ◌⊎◌, ℕ, ◌+◌, Bool, true, false, ◌||◌, nat_eq, inl, inr, List, [], ◌∷◌, ◌++◌, append_assoc}
use Rattle.std.proofs.Common.{length, Option, Some, None, refl, ap, sym, subst, ◌∙◌, arith, if◌then◌else◌}
use Rattle.std.specs.Prelude.{All}
use Rattle.std.proofs.lemmas.List.{append-nil, length-append}
use Rattle.std.proofs.lemmas.List.Elements.{All-head}
use Rattle.ap_base.specs.declared.place.Place.{Place}
use Rattle.ap_base.specs.declared.reference.Ref.{Ref}
use Rattle.ap_base.specs.declared.reference.Item.{Item}
use Rattle.run_types.specs.declared.resolved.At.{At}
use Rattle.natives.specs.declared.methods.Native.{Native}
use Rattle.natives.specs.declared.requests.Request.{Request}
use Rattle.natives.specs.declared.requests.Request.TheVariants as ask
use Rattle.natives.specs.declared.states.NativeState.{NativeState}
use Rattle.run_history.specs.declared.act.Op.{Op}
use Rattle.run_history.specs.declared.act.Op.TheVariants as op
use Rattle.run_history.specs.Knowing.{Unfenced, owes_fence, unfenced_at}
use Rattle.run_history.specs.Recorded.{Recorded}
use Rattle.run_history.specs.Wanted.{NoWish}
use Rattle.plain_model.specs.Facts.{SetFacts}
use Rattle.plain_model.specs.First.{first_known}
use Rattle.plain_model.specs.Runs.{first_frames, is_fenced, output_of}
use Rattle.plain_model.proofs.Appended.{GoesOn-pushed}
use Rattle.plain_model.proofs.Printed.{output_of-append}
use Rattle.frames.specs.Settings.{Setting}
use Rattle.shared_objects.specs.Plain.{plain_request}
use Rattle.shared_objects.specs.Shown.{Numbers}
use Rattle.run_forms.specs.Standing.{IsAsked, IsRun, Launch, plain_code}
use Rattle.run_forms.specs.Views.{ThreadFrames}
use Rattle.twin_forms.specs.Table.{Entry}
use Rattle.machine.specs.Passed.{Machine, Opening, doing_of, known_in, layout_in, shown_in}
use Rattle.machine.specs.Passed.{Asks, IsDoing, IsReady as OwesNoFence, KeepsRun, RunsAsPlain, Shared}
use Rattle.machine.specs.Passed.{Doing}
use Rattle.machine.specs.Passed.{Nothing, Converting, Writing, Fencing}
use Rattle.machine.specs.Events.{AddsOne, IsShare}
use Rattle.machine.specs.Running.{IsDue}
use Rattle.durable_run.specs.Shares.{IsShareOfPiece, PrintsShares, piece_after, piece_of}
use Rattle.durable_run.specs.Telling.{AddsShare, IsShareOf, LeavesShares}
use Rattle.durable_run.specs.Turning.{IsReady}
use Rattle.durable_run.proofs.Telling.{drop-further}

-- ---- lists

pub cancel : (old a b new : List Recorded) → new ≡ old ++ a → new ≡ old ++ b → a ≡ b
cancel old a b new one other = sym (drop-further old a new one) ∙ drop-further old b new other

no-act : (before : List Recorded) (a : Recorded) (behind : List Recorded) → [] ≡ before ++ a ∷ behind → ⊥
no-act [] a behind e = let no : [] ≡ a ∷ behind = e in cc
no-act (b ∷ before) a behind e = let no : [] ≡ b ∷ before ++ a ∷ behind = e in cc

only-act : (one : Recorded) (before : List Recorded) (a : Recorded) (behind : List Recorded)
    → one ∷ [] ≡ before ++ a ∷ behind → (before ≡ []) × (a ≡ one)
only-act one [] a behind e = (refl, let same : one ∷ [] ≡ a ∷ behind = e in cc)
only-act one (b ∷ before) a behind e =
    absurd (no-act before a behind (let same : one ∷ [] ≡ b ∷ before ++ a ∷ behind = e in cc))

-- An act of two stretches stands in the first one, or in the second one behind it.
abbrev StandsIn : (one two before : List Recorded) → Recorded → List Recorded → Type 0
StandsIn one two before a behind = ((mid : List Recorded) × (one ≡ before ++ a ∷ mid))
    ⊎ ((mid : List Recorded) × (before ≡ one ++ mid) × (two ≡ mid ++ a ∷ behind))

stands-on : (one two before : List Recorded) (a : Recorded) (behind : List Recorded) (b c : Recorded) → b ≡ c
    → StandsIn one two before a behind → StandsIn (c ∷ one) two (b ∷ before) a behind
stands-on one two before a behind b c same (inl in_one) = inl (in_one.0, let e = in_one.1 in cc)
stands-on one two before a behind b c same (inr in_two) = inr (in_two.0, let e = in_two.1 in cc, in_two.2)

stands-in : (one two before : List Recorded) (a : Recorded) (behind : List Recorded)
    → before ++ a ∷ behind ≡ one ++ two → StandsIn one two before a behind
stands-in [] two before a behind e = inr (before, refl, sym e)
stands-in (c ∷ one) two [] a behind e = inl (one, let same : a ∷ behind ≡ c ∷ one ++ two = e in cc)
stands-in (c ∷ one) two (b ∷ before) a behind e =
    let all : b ∷ before ++ a ∷ behind ≡ c ∷ one ++ two = e in
    let same : b ≡ c = cc in
    let rest : before ++ a ∷ behind ≡ one ++ two = cc in
    stands-on one two before a behind b c same (stands-in one two before a behind rest)

output-long : (one two : List Recorded)
    → length (output_of (one ++ two)) ≡ length (output_of one) + length (output_of two)
output-long one two = ap (λ (bytes : List ℕ). length bytes) (output_of-append one two)
    ∙ length-append (output_of one) (output_of two)

-- ---- in a row

module _ (launch : Launch) where
  -- an act behind these prints its share
  abbrev Prints : (ℕ → ℕ → Option ℕ) → (old before : List Recorded) → Recorded → Type 0
  Prints takes old before a = IsShareOfPiece (piece_after launch (old ++ before) a.act.thread)
      (takes (length (output_of before))) a.act.op

  -- there was no act
  pub shares-still : (takes takes' : ℕ → ℕ → Option ℕ) (old new : List Recorded) → new ≡ old → LeavesShares takes takes' old new
      → PrintsShares launch takes takes' old new
  shares-still takes takes' old new same leaves = record {
    each = λ before a behind e. absurd (no-act before a behind
        (cancel old [] (before ++ a ∷ behind) new (same ∙ sym (append-nil old)) (e ∙ append_assoc old before (a ∷ behind))));
    leaves = leaves;
  }

  pub shares-nothing : (takes : ℕ → ℕ → Option ℕ) (acts : List Recorded) → PrintsShares launch takes takes acts acts
  shares-nothing takes acts = shares-still takes takes acts acts refl (record {
    further = [];
    acts = sym (append-nil acts);
    behind = λ more size. let same : more ≡ 0 + more = omega arith in ap (λ (n : ℕ). takes n size) same;
  })

  -- there was one, of thread t
  pub shares-one : (takes takes' : ℕ → ℕ → Option ℕ) (t : ℕ) (old new : List Recorded) (one : AddsOne t old new)
      → IsShareOfPiece (piece_after launch old t) (takes 0) one.act.act.op → LeavesShares takes takes' old new
      → PrintsShares launch takes takes' old new
  shares-one takes takes' t old new one share leaves = record { each = each; leaves = leaves }
    where
      here : Prints takes old [] one.act
      here = subst (λ (acts : List Recorded). IsShareOfPiece (piece_after launch acts one.act.act.thread) (takes 0)
          one.act.act.op) (sym (append-nil old))
          (subst (λ (u : ℕ). IsShareOfPiece (piece_after launch old u) (takes 0) one.act.act.op) (sym one.thread) share)

      each : (before : List Recorded) (a : Recorded) (behind : List Recorded) → new ≡ old ++ before ++ a ∷ behind
          → Prints takes old before a
      each before a behind e =
          let is = only-act one.act before a behind
          (cancel old (one.act ∷ []) (before ++ a ∷ behind) new one.acts (e ∙ append_assoc old before (a ∷ behind))) in
          subst (λ (acts : List Recorded). Prints takes old acts a) (sym is.0)
          (subst (Prints takes old []) (sym is.1) here)

  -- Behind the first stretch the sink takes what it would have taken before.
  module _ (first mid last : ℕ → ℕ → Option ℕ) (a b c : List Recorded) (one : PrintsShares launch first mid a b)
      (two : PrintsShares launch mid last b c) where
    leaves-both : LeavesShares first last a c
    leaves-both = record {
      further = one.leaves.further ++ two.leaves.further;
      acts = two.leaves.acts ∙ ap (λ (acts : List Recorded). acts ++ two.leaves.further) one.leaves.acts
          ∙ append_assoc a one.leaves.further two.leaves.further;
      behind = λ more size.
          let long = output-long one.leaves.further two.leaves.further in
          let sum : length (output_of one.leaves.further) + (length (output_of two.leaves.further) + more)
          ≡ length (output_of (one.leaves.further ++ two.leaves.further)) + more
          = omega (arith, long) in
          two.leaves.behind more size
          ∙ one.leaves.behind (length (output_of two.leaves.further) + more) size
          ∙ ap (λ (n : ℕ). first n size) sum;
    }

    in-first : (before : List Recorded) (x : Recorded) (rest : List Recorded)
        → one.leaves.further ≡ before ++ x ∷ rest → Prints first a before x
    in-first before x rest is =
        one.each before x rest
        (one.leaves.acts ∙ ap (λ (acts : List Recorded). a ++ acts) is ∙ sym (append_assoc a before (x ∷ rest)))

    in-second : (before : List Recorded) (x : Recorded) (behind rest : List Recorded)
        → before ≡ one.leaves.further ++ rest → two.leaves.further ≡ rest ++ x ∷ behind → Prints first a before x
    in-second before x behind rest front is =
        let stood : b ++ rest ≡ a ++ before
        = ap (λ (acts : List Recorded). acts ++ rest) one.leaves.acts ∙ append_assoc a one.leaves.further rest
        ∙ ap (λ (acts : List Recorded). a ++ acts) (sym front) in
        let long : length (output_of one.leaves.further) + length (output_of rest) ≡ length (output_of before)
        = sym (output-long one.leaves.further rest) ∙ ap (λ (acts : List Recorded). length (output_of acts)) (sym front) in
        let same : mid (length (output_of rest)) ≡ first (length (output_of before))
        = λ i size. (one.leaves.behind (length (output_of rest)) size ∙ ap (λ (n : ℕ). first n size) long) i in
        subst (λ (acts : List Recorded). IsShareOfPiece (piece_after launch acts x.act.thread)
        (first (length (output_of before))) x.act.op) stood
        (subst (λ (takes : ℕ → Option ℕ). IsShareOfPiece (piece_after launch (b ++ rest) x.act.thread) takes x.act.op) same
        (two.each rest x behind
        (two.leaves.acts ∙ ap (λ (acts : List Recorded). b ++ acts) is ∙ sym (append_assoc b rest (x ∷ behind)))))

    by-place : (before : List Recorded) (x : Recorded) (behind : List Recorded)
        → StandsIn one.leaves.further two.leaves.further before x behind → Prints first a before x
    by-place before x behind (inl in_one) = in-first before x in_one.0 in_one.1
    by-place before x behind (inr in_two) = in-second before x behind in_two.0 in_two.1 in_two.2

    pub shares-both : PrintsShares launch first last a c
    unfolding leaves-both
    shares-both = record {
      each = λ before x behind e. by-place before x behind
          (stands-in one.leaves.further two.leaves.further before x behind
          (cancel a (before ++ x ∷ behind) (one.leaves.further ++ two.leaves.further) c (e ∙ append_assoc a before (x ∷ behind))
          leaves-both.acts));
      leaves = leaves-both;
    }

-- ---- one act

-- the one act has the event's share
act-share : (request : Request Ref Item) (takes : ℕ → Option ℕ) (t : ℕ) (old new : List Recorded) (one : AddsOne t old new)
    → AddsShare (Some request) takes old new → IsShare request takes one.act.act.op
act-share request takes t old new one added = All-head (λ (a : Recorded). IsShareOf (Some request) takes a.act.op) one.act []
    (subst (All (λ (a : Recorded). IsShareOf (Some request) takes a.act.op))
    (cancel old added.further (one.act ∷ []) new added.acts one.acts) added.shares)

module _ (takes : ℕ → Option ℕ) where
  -- a fence is no print
  fence-share : (piece : Option (List ℕ)) (operation : Op) → is_fenced operation ≡ true
      → IsShareOfPiece piece takes operation
  fence-share (Some piece) (op.Print bytes) fence = absurd (let no : false ≡ true = fence in cc)
  fence-share piece operation fence = tt

  print-share : (piece : List ℕ) (from : At) (operation : Op) → IsShare (ask.Print from piece) takes operation
      → IsShareOfPiece (Some piece) takes operation
  print-share piece from (op.Print bytes) share = share
  print-share piece from operation share = tt

  -- by what the machine's thread asks, where the plain machine asks the same
  asked-share : (number : Numbers) (request : Request Ref Item) (piece : Option (List ℕ))
      → piece ≡ piece_of (Some (plain_request number request)) → (operation : Op) → IsShare request takes operation
      → IsShareOfPiece piece takes operation
  asked-share number (ask.Print from text) piece is operation share =
      subst (λ (p : Option (List ℕ)). IsShareOfPiece p takes operation) (sym is) (print-share text from operation share)
  asked-share number request piece is operation share =
      subst (λ (p : Option (List ℕ)). IsShareOfPiece p takes operation) (sym is) tt

-- ---- what is owed

abbrev pub is_there : Option Place → Bool
is_there None = false
is_there (Some p) = true

pub owes-is : (us : List Unfenced) (t : ℕ) → owes_fence us t ≡ is_there (unfenced_at us t)
owes-is [] t = refl
owes-is (x ∷ us) t = elim (nat_eq x.thread t) as (λ b. (b || owes_fence us t)
    ≡ is_there (if b then Some x.place else unfenced_at us t)) [ true ↦ refl | false ↦ owes-is us t ]

-- ---- an event's act

-- a thread that owes no fence asks what the plain machine asks
abbrev pub AsksAlike : Type 0
AsksAlike = (o : Opening) (m : Machine) (es : List Entry) (threads : List ThreadFrames) → KeepsRun o m es
    → RunsAsPlain o m threads → (t : ℕ) (fs : ThreadFrames) (request : Request Ref Item) → OwesNoFence (doing_of m t)
    → Asks o m threads t fs request → IsAsked o.launch m.acts (shown_in m) m.rest t request

pub has-run : (o : Opening) (first : ℕ) (set : SetFacts) (x : Setting Native Ref (NativeState Ref) Item) (s : Shared)
    (frames : List ThreadFrames) → IsReady o first set x s frames → IsRun o.launch s.history.acts
has-run o first set x s frames ready =
    subst (IsRun o.launch) (sym ready.running.runs.acts) ready.running.runs.plain.stands.run

module _ (o : Opening) (first : ℕ) (set : SetFacts) (s : Shared) (es : List Entry) (threads : List ThreadFrames) (t : ℕ)
    (fs : ThreadFrames) (request : Request Ref Item) (due : IsDue o first set s es threads t fs request) (alike : AsksAlike)
  where
    pub asks-piece : OwesNoFence (doing_of s.machine t)
        → piece_after o.launch s.history.acts t ≡ piece_of (Some (plain_request (shown_in s.machine).number request))
    asks-piece ready = ap (λ (acts : List Recorded). piece_after o.launch acts t) due.running.acts
        ∙ ap piece_of (alike o s.machine es threads due.running.keeps due.running.plain t fs request ready due.asks).plain

    pub rule : (new : List Recorded) (one : AddsOne t s.history.acts new) → IsRun o.launch new
        → is_fenced one.act.act.op ≡ owes_fence (known_in o s.machine).unfenced t
    rule new one run =
        let its = subst (IsRun o.launch) (one.acts ∙ ap (λ (acts : List Recorded). acts ++ one.act ∷ []) due.running.acts) run in
        let may = (GoesOn-pushed o.launch.set o.launch.main o.launch.opening (plain_code o.launch)
        (first_known o.launch.set o.launch.opening)
        (first_frames o.launch.set o.launch.main o.launch.opening (plain_code o.launch)) NoWish s.machine.acts one.act its).1 in
        may.fence ∙ ap (owes_fence (known_in o s.machine).unfenced) one.thread

    pub is-doing : (d : Doing) → doing_of s.machine t ≡ d → IsDoing (known_in o s.machine) (layout_in o es) t d
    is-doing d is = subst (IsDoing (known_in o s.machine) (layout_in o es) t) is (due.running.keeps.asked.doing t)

    module _ (takes takes' : ℕ → ℕ → Option ℕ) (new : List Recorded) (one : AddsOne t s.history.acts new) (run : IsRun o.launch new)
        (share : AddsShare (Some request) (takes 0) s.history.acts new)
        (leaves : LeavesShares takes takes' s.history.acts new) where
      abbrev TakesIt : Type 0
      TakesIt = IsShareOfPiece (piece_after o.launch s.history.acts t) (takes 0) one.act.act.op

      paid : OwesNoFence (doing_of s.machine t) → TakesIt
      paid ready = asked-share (takes 0) (shown_in s.machine).number request (piece_after o.launch s.history.acts t)
          (asks-piece ready) one.act.act.op (act-share request (takes 0) t s.history.acts new one share)

      owing : (p : Place) → unfenced_at (known_in o s.machine).unfenced t ≡ Some p → TakesIt
      owing p at = fence-share (takes 0) (piece_after o.launch s.history.acts t) one.act.act.op
          (rule new one run ∙ owes-is (known_in o s.machine).unfenced t ∙ ap is_there at)

      takes-by : (d : Doing) → doing_of s.machine t ≡ d → TakesIt
      takes-by Nothing is = paid (inl is)
      takes-by Converting is = paid (inr is)
      takes-by (Writing line) is = let at = (is-doing (Writing line) is).1 in owing at.0 at.1
      takes-by Fencing is = let at = (is-doing Fencing is).1 in owing at.0 at.1

      pub act-shares : PrintsShares o.launch takes takes' s.history.acts new
      act-shares = shares-one o.launch takes takes' t s.history.acts new one (takes-by (doing_of s.machine t) refl) leaves
