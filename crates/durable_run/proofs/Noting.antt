-- What is noted of threads, without what is noted of one of them.
use Rattle.std.proofs.Common.{◌≡◌, ◌≢◌, ℕ, Bool, true, false, List, Option, Some, None, refl, sym, ◌∙◌, ap, subst}
use Rattle.std.specs.Prelude.{IsSome, slice_index_or, slice_set}
use Rattle.std.proofs.lemmas.List.{get_or-set_other, set-set}
use Rattle.ap_base.specs.declared.reference.Ref.{Ref}
use Rattle.ap_base.specs.declared.reference.Item.{Item}
use Rattle.run_types.specs.declared.wait.On.{On}
use Rattle.run_types.specs.declared.wait.On.TheVariants as on
use Rattle.natives.specs.declared.requests.Request.{Request}
use Rattle.run_forms.specs.Views.{ThreadFrames}
use Rattle.twin_forms.specs.Table.{Entry}
use Rattle.machine.specs.Passed.{Opening}
use Rattle.machine.specs.Passed.{IsReady, Shared, ThreadNotes, answered, asked_by, taken, waits_on}
use Rattle.machine.specs.Events.{SparesOthers}
use Rattle.machine.specs.Remembering.{without_notes}
use Rattle.machine.specs.Running.{RemembersAsked, Runs}
use Rattle.durable_run.proofs.Places.{no-some, set-none}

none-some : ◌≡◌ {A = Bool} false true → ⊥
none-some e = cc

-- ---- runs don't see what is noted

pub runs-noted : (o : Opening) (first : ℕ) (s : Shared) (notes : ThreadNotes) (es : List Entry)
    (threads : List ThreadFrames) → Runs o first s es threads → Runs o first (record s { notes = notes }) es threads
runs-noted o first s notes es threads r = record {
  keeps = r.keeps;
  plain = r.plain;
  taken = r.taken;
  from = r.from;
  unwritten = r.unwritten;
  all = r.all;
  many = r.many;
  few = r.few;
  lines = r.lines;
  acts = r.acts;
  limit = r.limit;
  unnamed = r.unnamed;
  room = r.room;
  listed = r.listed;
  unfaulted = r.unfaulted;
}

-- ---- one thread forgotten

module _ (notes : ThreadNotes) (t : ℕ) where
  asked-other : (u : ℕ) → u ≢ t → asked_by (answered notes t) u ≡ asked_by notes u
  asked-other u other = get_or-set_other notes.asks t u None None other

  waits-other : (u : ℕ) → u ≢ t → waits_on (answered notes t) u ≡ waits_on notes u
  waits-other u other = get_or-set_other notes.waits t u None None other

  -- what is noted is of another thread
  asks-another : (u : ℕ) (q : Request Ref Item) → asked_by (answered notes t) u ≡ Some q → u ≢ t
  asks-another u q is same = no-some (asked_by (answered notes t) t) q (set-none notes.asks t)
      (subst (λ v. asked_by (answered notes t) v ≡ Some q) same is)

  waits-another : (u : ℕ) (on : On) → waits_on (answered notes t) u ≡ Some on → u ≢ t
  waits-another u on is same = no-some (waits_on (answered notes t) t) on (set-none notes.waits t)
      (subst (λ v. waits_on (answered notes t) v ≡ Some on) same is)

pub forgets : (o : Opening) (s : Shared) (es : List Entry) (threads : List ThreadFrames) (t : ℕ)
    → RemembersAsked o s es threads → RemembersAsked o (without_notes s t) es threads
forgets o s es threads t noted = record {
  asks = λ u q is. noted.asks u q (sym (asked-other s.notes t u (asks-another s.notes t u q is)) ∙ is);
  beside = λ u on is. let other = waits-another s.notes t u on is in
      subst IsSome (sym (asked-other s.notes t u other))
      (noted.beside u on (sym (waits-other s.notes t u other) ∙ is));
  ready = λ u on is. noted.ready u on (sym (waits-other s.notes t u (waits-another s.notes t u on is)) ∙ is);
  recorded = record {
    forwarded = λ u on is.
        noted.recorded.forwarded u on (sym (waits-other s.notes t u (waits-another s.notes t u on is)) ∙ is);
    below = λ u v is. noted.recorded.below u v
        (sym (waits-other s.notes t u (waits-another s.notes t u (on.Conversion v) is)) ∙ is);
  };
}

-- the same once its request was taken
pub taken-forgets : (notes : ThreadNotes) (t : ℕ) → answered (taken notes t) t ≡ answered notes t
taken-forgets notes t = ap (λ (asks : List (Option (Request Ref Item))). record {
  asks = asks;
  waits = slice_set notes.waits t None;
  started = notes.started;
}) (set-set notes.asks t None None)

pub forgets-taken : (o : Opening) (s : Shared) (es : List Entry) (threads : List ThreadFrames) (t : ℕ)
    → RemembersAsked o s es threads → RemembersAsked o (without_notes (record s { notes = taken s.notes t }) t) es threads
forgets-taken o s es threads t noted = subst (λ (notes : ThreadNotes). RemembersAsked o (record s { notes = notes }) es threads)
    (sym (taken-forgets s.notes t)) (forgets o s es threads t noted)

-- ---- a thread of which nothing is noted

-- Its event leaves what is noted of the others so, where it notes nothing.
pub asked-still : (o : Opening) (s new : Shared) (es after : List Entry) (threads threads' : List ThreadFrames) (t : ℕ)
    → RemembersAsked o s es threads → asked_by s.notes t ≡ None
    → SparesOthers o t s.machine new.machine es after threads threads' → new.notes.asks ≡ s.notes.asks
    → new.notes.waits ≡ s.notes.waits → RemembersAsked o new after threads'
asked-still o s new es after threads threads' t noted none others same_asks same_waits = record {
  asks = λ u q is. let was = noted.asks u q (was-asked u q is) in
      (was.0, others.ask u was.0 q (another u q (was-asked u q is)) was.1);
  beside = λ u on is. subst IsSome (sym (ap (λ (xs : List (Option (Request Ref Item))). slice_index_or xs u None) same_asks))
      (noted.beside u on (was-waiting u on is));
  ready = λ u on is. subst IsReady (sym (others.doing u (waits-another u on is)))
      (noted.ready u on (was-waiting u on is));
  recorded = record {
    forwarded = λ u on is. others.forwarded u (waits-another u on is)
        (noted.recorded.forwarded u on (was-waiting u on is));
    below = λ u v is. noted.recorded.below u v (was-waiting u (on.Conversion v) is);
  };
}
  where
    was-asked : (u : ℕ) (q : Request Ref Item) → asked_by new.notes u ≡ Some q → asked_by s.notes u ≡ Some q
    was-asked u q is =
        sym (ap (λ (xs : List (Option (Request Ref Item))). slice_index_or xs u None) same_asks) ∙ is

    was-waiting : (u : ℕ) (on : On) → waits_on new.notes u ≡ Some on → waits_on s.notes u ≡ Some on
    was-waiting u on is = sym (ap (λ (xs : List (Option On)). slice_index_or xs u None) same_waits) ∙ is

    another : (u : ℕ) (q : Request Ref Item) → asked_by s.notes u ≡ Some q → u ≢ t
    another u q is same =
        no-some (asked_by s.notes t) q none (subst (λ v. asked_by s.notes v ≡ Some q) same is)

    some-another : (u : ℕ) → IsSome (asked_by s.notes u) → u ≢ t
    some-another u some same = absurd (none-some
        (subst IsSome none (subst (λ v. IsSome (asked_by s.notes v)) same some)))

    waits-another : (u : ℕ) (on : On) → waits_on new.notes u ≡ Some on → u ≢ t
    waits-another u on is = some-another u (noted.beside u on (was-waiting u on is))

-- nothing is noted of what it waits for either
pub none-waits : (o : Opening) (s : Shared) (es : List Entry) (threads : List ThreadFrames) (t : ℕ)
    → RemembersAsked o s es threads → asked_by s.notes t ≡ None → waits_on s.notes t ≡ None
none-waits o s es threads t noted none = at-none (waits_on s.notes t) refl
  where
    at-none : (at : Option On) → waits_on s.notes t ≡ at → at ≡ None
    at-none None e = refl
    at-none (Some on) e = absurd (none-some (subst IsSome none (noted.beside t on e)))
