-- A run in two parts, and its acts by computation.
use Rattle.std.proofs.Common.{◌≡◌, ℕ, true, false, List, [], ◌∷◌, ◌++◌, nat_le, nat_eq, arith, inl, inr, sym, ◌∙◌}
use Rattle.std.specs.Prelude.{Option, None}
use Rattle.std.proofs.lemmas.List.Elements.{All-nil, All-cons}
use Rattle.std.proofs.lemmas.Bool.{leb-true, eqb-false, false≢true}
use Rattle.ap_base.specs.declared.place.Place.{Place}
use Rattle.graph_model.specs.declared.types.Value.{Value}
use Rattle.graph_model.specs.declared.types.Value.TheVariants.{Obj as Object}
use Rattle.graph_model.specs.declared.types.Graph.{Graph}
use Rattle.graph_model.specs.Heaps.{has_number}
use Rattle.run_history.specs.declared.act.Op.TheVariants as op
use Rattle.run_history.specs.Recorded.{Recorded, NamesRightly}
use Rattle.run_history.specs.Worlds.{depth_of}
use Rattle.run_history.specs.Knowing.{owes_fence, Knowledge, next_known, known_after, durable_at, pending_of, guard_of}
use Rattle.run_history.specs.Knowing.{has_guards, is_outermost}
use Rattle.run_history.specs.Wanted.{Wishes, WantsNow, WantsAfter}
use Rattle.plain_model.specs.Facts.{SetFacts}
use Rattle.plain_model.specs.Requests.{PlainRequest}
use Rattle.plain_model.specs.Codes.{Code, frames_after_op, frames_after}
use Rattle.plain_model.specs.Runs.{IsAbout, MayAsk, MayJoin, MayGuard, MayStore, MayClose, MayEnd, Rule, MayAct, GoesOn}
use Rattle.plain_model.specs.Runs.{is_fenced, has_guarded, is_volatile}
use Rattle.plain_model.proofs.ClosedTest.{is_closed, closed_by_test}

-- an act that may come, and what may come after it
infixr 5 ◌▸◌
pub ◌▸◌ : {A B : Type 0} → A → B → A × B
◌▸◌ now later = (now, later)

-- an act may come whose order, fence and closure pass their tests
pub may : {set : SetFacts} {known : Knowledge} {Now : Wishes} {request : Option PlainRequest} {a : Recorded}
    → nat_le known.at a.act.at ≡ true
    → Rule set known Now request a.act.thread a.named a.act.op
    → NamesRightly a.act.op a.named
    → is_fenced a.act.op ≡ owes_fence known.unfenced a.act.thread
    → is_closed (next_known known a) ≡ true
    → MayAct set known Now request a
may {known = known} {a = a} later rule named fence closed = record {
  later = leb-true known.at a.act.at later;
  rule = rule;
  named = named;
  fence = fence;
  is_closed = closed_by_test (next_known known a) closed;
}

-- the rules of the operations by their tests
pub guard_rule : {set : SetFacts} {known : Knowledge} {request : Option PlainRequest} {t : ℕ}
    {place : Place} (value : Value)
    → IsAbout set known request t (op.Stored place value) → is_volatile known.durable value ≡ false
    → nat_eq (depth_of known.world t) 0 ≡ false → has_number known.closing t ≡ false → durable_at known place ≡ true → guard_of known.guards place ≡ None
    → MayGuard set known request t place
guard_rule {known = known} {t = t} value about kept deep not_closing durable unguarded = record {
  is_about = (value, about, kept);
  is_open = λ none. eqb-false (depth_of known.world t) 0 deep none;
  not_closing = not_closing;
  durable = durable;
  unguarded = unguarded;
}

-- a store outside regions, to a place that nobody has guarded
pub alone : {set : SetFacts} {known : Knowledge} {request : Option PlainRequest} {t : ℕ}
    {place : Place} {value : Value}
    → IsAbout set known request t (op.Stored place value) → guard_of known.guards place ≡ None
    → depth_of known.world t ≡ 0 → MayStore set known request t place value
alone about free outside =
    record {
      is_about = about;
      no_race = λ durable. inl free;
      guarded = λ durable within. absurd
          (within outside);
    }

-- a store to a place that the thread's region has guarded
pub to_guarded : {set : SetFacts} {known : Knowledge} {request : Option PlainRequest} {t : ℕ}
    {place : Place} {value : Value}
    → IsAbout set known request t (op.Stored place value) → has_guarded known t place ≡ true
    → MayStore set known request t place value
to_guarded about own = record {
  is_about = about;
  no_race = λ durable. inr own;
  guarded =
      λ durable within. own;
}

pub close_rule : {set : SetFacts} {known : Knowledge} {request : Option PlainRequest} {t : ℕ}
    → IsAbout set known request t op.End → is_outermost known t ≡ true → has_guards known.guards t ≡ true
    → has_number known.closing t ≡ false → MayClose set known request t
close_rule about outermost guards not_closing =
    record { is_about = about; outermost = outermost; guards = guards; not_closing = not_closing }

-- the End of a region that is closing, and that of an inner one
pub end_rule : {set : SetFacts} {known : Knowledge} {request : Option PlainRequest} {t : ℕ}
    → IsAbout set known request t op.End → has_number known.closing t ≡ true → MayEnd set known request t
end_rule about closing = record { is_about = about; closing = λ outermost guards. closing }

pub inner_end : {set : SetFacts} {known : Knowledge} {request : Option PlainRequest} {t : ℕ}
    → IsAbout set known request t op.End → is_outermost known t ≡ false → MayEnd set known request t
inner_end about inner =
    record { is_about = about; closing = λ outermost guards. absurd (false≢true (sym inner ∙ outermost)) }

-- Asked for a durable place
pub ask_rule : {set : SetFacts} {known : Knowledge} {Now : Wishes} {request : Option PlainRequest}
    {t : ℕ} {place : Place}
    {value : Value} (n : ℕ) → value ≡ Object n
    → IsAbout set known request t (op.Stored place value) → pending_of known.asked t ≡ None
    → has_number known.durable n ≡ false → durable_at known place ≡ true
    → MayAsk set known Now request t place value
ask_rule n is about none volatile durable =
    record { none_pending = none; is_about = about; volatile = (n, is, volatile); holder = inl durable }

-- one object is joined, which thread u wants
pub join_rule : {known : Knowledge} {Now : Wishes} (n u : ℕ) → has_number known.durable n ≡ false → Now u n
    → MayJoin known Now (n ∷ [])
join_rule {known = known} {Now = Now} n u volatile wanted = record {
  some = λ none. let no : n ∷ [] ≡ [] = none in cc;
  once = λ i j d before within. absurd (omega (arith, before, within));
  volatile = All-cons (λ m. has_number known.durable m ≡ false) n [] volatile
      (All-nil (λ m. has_number known.durable m ≡ false));
  wanted = All-cons (λ m. (v : ℕ) × Now v m) n [] (u, wanted) (All-nil (λ m. (v : ℕ) × Now v m));
}

module _ (set : SetFacts) (main : ℕ) (opening : Graph) {Frames : Type 0}
    (code : Code set main opening Frames) where
  abbrev step_frames : Knowledge → List Frames → Recorded → List Frames
  step_frames known frames a = frames_after_op set main opening code known.world frames a.act.thread a.act.op

  -- where a run goes on after its front
  abbrev pub GoesOnAfter : Knowledge → List Frames → Wishes → List Recorded → List Recorded → Type 0
  GoesOnAfter known frames Now front rest = GoesOn set main opening code
      (known_after known front) (frames_after set main opening code known frames front)
      (WantsAfter known Now front) rest

  pub GoesOn-rest : (known : Knowledge) (frames : List Frames) (Now : Wishes) (front rest : List Recorded)
      → GoesOn set main opening code known frames Now (front ++ rest)
      → GoesOnAfter known frames Now front rest
  GoesOn-rest known frames Now [] rest run = run
  GoesOn-rest known frames Now (a ∷ front) rest run =
      GoesOn-rest (next_known known a) (step_frames known frames a)
      (WantsNow (next_known known a) Now) front rest run.1

  pub GoesOn-both : (known : Knowledge) (frames : List Frames) (Now : Wishes) (front rest : List Recorded)
      → GoesOn set main opening code known frames Now front → GoesOnAfter known frames Now front rest
      → GoesOn set main opening code known frames Now (front ++ rest)
  GoesOn-both known frames Now [] rest run more = more
  GoesOn-both known frames Now (a ∷ front) rest run more = (
    run.0,
    GoesOn-both (next_known known a) (step_frames known frames a)
        (WantsNow (next_known known a) Now) front rest run.1 more,
  )
