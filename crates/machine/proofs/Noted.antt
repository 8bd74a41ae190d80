-- What is remembered of an event is so, and all threads wait exactly where the run is stuck.
use Rattle.std.proofs.Common.{◌≡◌, ◌≢◌, inl, inr, ℕ, zero, suc, ◌<◌, List, [], ◌∷◌, Option, Some, None, refl, sym, ◌∙◌, ap, subst}
use Rattle.std.specs.Prelude.{IsSome, slice_index_or, slice_set}
use Rattle.std.proofs.lemmas.Bool.Decides.{eqb_tells}
use Rattle.std.proofs.lemmas.List.{get_or-set_other}
use Rattle.ap_base.specs.declared.reference.Ref.{Ref}
use Rattle.ap_base.specs.declared.reference.Item.{Item}
use Rattle.run_types.specs.declared.wait.On.{On}
use Rattle.run_types.specs.declared.wait.On.TheVariants as on
use Rattle.natives.specs.declared.requests.Request.{Request}
use Rattle.run_forms.specs.Views.{ThreadFrames}
use Rattle.twin_forms.specs.Table.{Entry}
use Rattle.machine_threads.specs.Passed.{Opening, doing_of}
use Rattle.machine_threads.specs.Passed.{Asks, IsReady}
use Rattle.machine_threads.specs.Claiming.{HasForwarded}
use Rattle.shared_heap.specs.Notes.{ThreadNotes, answered, asked_by, waits_on}
use Rattle.shared_heap.specs.Shared.{Shared}
use Rattle.machine.specs.Events.{SparesOthers}
use Rattle.machine.specs.Remembering.{without_notes}
use Rattle.machine.specs.Running.{RemembersAsked, Runs}

-- ---- one place of a list of options

pub set-none : {X : Type 0} (xs : List (Option X)) (t : ℕ) → slice_index_or (slice_set xs t None) t None ≡ None
set-none [] t = refl
set-none (x ∷ xs) zero = refl
set-none (x ∷ xs) (suc t) = set-none xs t

-- what stands there then is what was put there
pub set-some : {X : Type 0} (xs : List (Option X)) (t : ℕ) (x y : X)
    → slice_index_or (slice_set xs t (Some x)) t None ≡ Some y → x ≡ y
set-some {X} [] t x y is = absurd (let no : ◌≡◌ {A = Option X} None (Some y) = is in cc)
set-some {X} (z ∷ xs) zero x y is = let e : ◌≡◌ {A = Option X} (Some x) (Some y) = is in cc
set-some (z ∷ xs) (suc t) x y is = set-some xs t x y is

pub no-some : {X : Type 0} {P : Type 0} (at : Option X) (x : X) → at ≡ None → at ≡ Some x → P
no-some {X} at x none some = absurd (let no : ◌≡◌ {A = Option X} None (Some x) = sym none ∙ some in cc)

-- ---- runs don't see what is noted

pub runs-noted : (o : Opening) (first : ℕ) (s : Shared) (notes : ThreadNotes) (es : List Entry)
    (threads : List ThreadFrames) → Runs o first s es threads → Runs o first (record s { notes = notes }) es threads
runs-noted o first s notes es threads r = record {
  keeps = r.keeps;
  plain = r.plain;
  taken = r.taken;
  from = r.from;
  unwritten = r.unwritten;
  all = r.all;
  many = r.many;
  few = r.few;
  lines = r.lines;
  acts = r.acts;
  limit = r.limit;
  unnamed = r.unnamed;
  room = r.room;
  listed = r.listed;
  unfaulted = r.unfaulted;
}

-- ---- of the other threads

module _ (o : Opening) (s mid : Shared) (es after : List Entry) (threads threads' : List ThreadFrames) (t : ℕ)
    (asked : RemembersAsked o (without_notes s t) es threads)
    (others : SparesOthers o t s.machine mid.machine es after threads threads')
    (same_asks : mid.notes.asks ≡ s.notes.asks) (same_waits : mid.notes.waits ≡ s.notes.waits) where
  -- what is noted of another stays, whatever is put at thread t
  asked-other : (u : ℕ) (x : Option (Request Ref Item)) → u ≢ t
      → slice_index_or (slice_set mid.notes.asks t x) u None ≡ asked_by (answered s.notes t) u
  asked-other u x other = get_or-set_other mid.notes.asks t u x None other
      ∙ ap (λ (xs : List (Option (Request Ref Item))). slice_index_or xs u None) same_asks
      ∙ sym (get_or-set_other s.notes.asks t u None None other)

  waits-other : (u : ℕ) (x : Option On) → u ≢ t
      → slice_index_or (slice_set mid.notes.waits t x) u None ≡ waits_on (answered s.notes t) u
  waits-other u x other = get_or-set_other mid.notes.waits t u x None other
      ∙ ap (λ (xs : List (Option On)). slice_index_or xs u None) same_waits
      ∙ sym (get_or-set_other s.notes.waits t u None None other)

  -- What is noted then of thread t: a request, and a wait beside it, or neither.
  module _ (x : Option (Request Ref Item)) (y : Option On)
      (own : (q : Request Ref Item) → slice_index_or (slice_set mid.notes.asks t x) t None ≡ Some q
      → (fs : ThreadFrames) × Asks o mid.machine threads' t fs q)
      (beside : (on : On) → slice_index_or (slice_set mid.notes.waits t y) t None ≡ Some on
      → IsSome (slice_index_or (slice_set mid.notes.asks t x) t None))
      (ready : (on : On) → slice_index_or (slice_set mid.notes.waits t y) t None ≡ Some on
      → IsReady (doing_of mid.machine t))
      (forwarded : (on : On) → slice_index_or (slice_set mid.notes.waits t y) t None ≡ Some on → HasForwarded after t)
      (below : (u : ℕ) → slice_index_or (slice_set mid.notes.waits t y) t None ≡ Some (on.Conversion u) → u < 64)
      (started : List (Option Ref)) where
    abbrev noted : Shared
    noted = record mid {
      notes = record {
        asks = slice_set mid.notes.asks t x;
        waits = slice_set mid.notes.waits t y;
        started = started;
      };
    }

    pub remembers : RemembersAsked o noted after threads'
    remembers = record {
      asks = λ u q is. elim (eqb_tells u t) [
        | inl same ↦ subst (λ v. (fs : ThreadFrames) × Asks o mid.machine threads' v fs q) (sym same.1)
            (own q (subst (λ v. slice_index_or (slice_set mid.notes.asks t x) v None ≡ Some q) same.1 is))
        | inr other ↦
            (let was = asked.asks u q (sym (asked-other u x other.1) ∙ is) in
            (was.0, others.ask u was.0 q other.1 was.1))
      ];
      beside = λ u on is. elim (eqb_tells u t) [
        | inl same ↦ subst (λ v. IsSome (slice_index_or (slice_set mid.notes.asks t x) v None)) (sym same.1)
            (beside on (subst (λ v. slice_index_or (slice_set mid.notes.waits t y) v None ≡ Some on) same.1 is))
        | inr other ↦ subst IsSome (sym (asked-other u x other.1))
            (asked.beside u on (sym (waits-other u y other.1) ∙ is))
      ];
      ready = λ u on is. elim (eqb_tells u t) [
        | inl same ↦ subst (λ v. IsReady (doing_of mid.machine v)) (sym same.1)
            (ready on (subst (λ v. slice_index_or (slice_set mid.notes.waits t y) v None ≡ Some on) same.1 is))
        | inr other ↦ subst IsReady (sym (others.doing u other.1))
            (asked.ready u on (sym (waits-other u y other.1) ∙ is))
      ];
      recorded = record {
        forwarded = λ u on is. elim (eqb_tells u t) [
          | inl same ↦ subst (HasForwarded after) (sym same.1)
              (forwarded on (subst (λ v. slice_index_or (slice_set mid.notes.waits t y) v None ≡ Some on) same.1 is))
          | inr other ↦ others.forwarded u other.1
              (asked.recorded.forwarded u on (sym (waits-other u y other.1) ∙ is))
        ];
        below = λ u v is. elim (eqb_tells u t) [
          | inl same ↦ below v
              (subst (λ w. slice_index_or (slice_set mid.notes.waits t y) w None ≡ Some (on.Conversion v)) same.1 is)
          | inr other ↦ asked.recorded.below u v (sym (waits-other u y other.1) ∙ is)
        ];
      };
    }
