-- A log is what the acts say, and so it is as its region goes on.
use Rattle.std.proofs.Common.{◌≡◌, ◌⊎◌, inl, inr, ⊎_elim, ℕ, ◌+◌, true, false, ◌||◌, List, [], ◌∷◌, ◌++◌, length, refl, sym}
use Rattle.std.proofs.Common.{◌∙◌, ap, subst, arith, slice_index_or, if◌then◌else◌}
use Rattle.std.proofs.lemmas.List.{length_push, get_or_append_left}
use Rattle.std.proofs.lemmas.List.Quantifiers.{Any-push}
use Rattle.std.proofs.lemmas.Bool.{cases_lt}
use Rattle.std.proofs.Math.Seq.{get_or-append_seam}
use Rattle.ap_base.specs.declared.place.Place.{Place}
use Rattle.ap_base.specs.declared.place.Spot.{Spot}
use Rattle.graph_model.specs.Heaps.{has_number}
use Rattle.run_history.specs.Worlds.{depth_of}
use Rattle.run_history.specs.Knowing.{Knowledge, guard_of, has_guards}
use Rattle.plain_model.specs.Limits.{guards_of}
use Rattle.stop_theorem.specs.Layouts.{Layout, is_kept_place}
use Rattle.stop_theorem.specs.InvariantEvents.{line_at, word_at}
use Rattle.region_log.specs.declared.entry.Entry.{Entry}
use Rattle.region_log.specs.declared.entry.EntryStage.{EntryStage}
use Rattle.region_log.specs.declared.entry.Underway.{Underway}
use Rattle.region_log.specs.declared.entry.Underway.TheVariants.{Nothing, Adding}
use Rattle.region_log.specs.Guarding.{IsAdded, is_some, is_adding, is_closing}
use Rattle.region_log.specs.Log.{Log, SameWord, IsLogged}
use Rattle.region_events.specs.Guards.{IsWordOf, KeepsGuards}

-- a place's word, where it lies as it lay
pub word_as : (known next : Knowledge) (lay lay' : Layout) (spot : Spot) (p : Place)
    → line_at lay' next p ≡ line_at lay known p → word_at next p ≡ word_at known p
    → IsWordOf known lay spot p → IsWordOf next lay' spot p
word_as known next lay lay' spot p line word is = record {
  line = is.line ∙ sym line;
  word = is.word ∙ sym word;
}

-- All that is known of the thread's region is as before, and its places lie where they lay.
pub record LeavesRegion (known next : Knowledge) (lay lay' : Layout) (t : ℕ) : Type 0 where
  pub guards : next.guards ≡ known.guards
  pub depth : depth_of next.world t ≡ depth_of known.world t
  pub closing : has_number next.closing t ≡ has_number known.closing t
  pub kept : (p : Place) → is_kept_place known p ≡ true → is_kept_place next p ≡ true
  pub lines : (p : Place) → is_kept_place known p ≡ true → line_at lay' next p ≡ line_at lay known p
  pub words : (p : Place) → is_kept_place known p ≡ true → word_at next p ≡ word_at known p

pub left_keeps : (known next : Knowledge) (lay lay' : Layout) (log : Log)
    → LeavesRegion known next lay lay' log.thread → KeepsGuards known lay log → KeepsGuards next lay' log
left_keeps known next lay lay' log left g = record {
  depth = g.depth ∙ sym left.depth;
  closing = g.closing ∙ sym left.closing;
  some = g.some ∙ sym (ap (λ gs. has_guards gs log.thread) left.guards);
  count = ap (λ gs. length (guards_of gs log.thread)) left.guards ∙ g.count;
  outside = g.outside;
  guarded = λ p guard.
      let at = g.guarded p (sym (ap (λ gs. guard_of gs p) left.guards) ∙ guard) in (
        left.kept p at.0,
        at.1,
        word_as known next lay lay' at.1 p (left.lines p at.0) (left.words p at.0) at.2,
        at.3,
      );
  places = λ spot is.
      let at = g.places spot is in (
        at.0,
        word_as known next lay lay' spot at.0 (left.lines at.0 at.2.is_kept) (left.words at.0 at.2.is_kept)
            at.1,
        record {
          is_kept = left.kept at.0 at.2.is_kept;
          guard = ap (λ gs. guard_of gs at.0) left.guards ∙ at.2.guard;
        },
      );
}

-- ---- the same region, further on

abbrev pub log_with : ℕ → ℕ → List Entry → Underway → Log
log_with t depth entries underway = record {
  thread = t;
  depth = depth;
  entries = entries;
  underway = underway;
}

module _ (known : Knowledge) (lay : Layout) (t depth : ℕ) (entries : List Entry) where
  -- the same words are guarded
  pub same_words : (u v : Underway) → is_closing v ≡ is_closing u → is_adding v ≡ is_adding u
      → ((spot : Spot) → IsAdded u spot → IsAdded v spot) → ((spot : Spot) → IsAdded v spot → IsAdded u spot)
      → (depth ≡ 0 → v ≡ Nothing) → KeepsGuards known lay (log_with t depth entries u)
      → KeepsGuards known lay (log_with t depth entries v)
  same_words u v closing adding on back outside g = record {
    depth = g.depth;
    closing = closing ∙ g.closing;
    some = ap (λ b. is_some entries || b) adding ∙ g.some;
    count = g.count ∙ sym (ap (λ b. length entries + (if b then 1 else 0)) adding);
    outside = λ none. ((g.outside none).0, outside none);
    guarded = λ p guard.
        let at = g.guarded p guard in (
          at.0,
          at.1,
          at.2,
          ⊎_elim (λ (logged : IsLogged entries at.1). inl logged) (λ (added : IsAdded u at.1). inr
              (on at.1 added)) at.3,
        );
    places = λ spot is. g.places spot (⊎_elim (λ (logged : IsLogged entries spot). inl logged)
        (λ (added : IsAdded v spot). inr (back spot added)) is);
  }

  -- an entry is at another stage
  pub same_entry : (e : Entry) (a b : EntryStage)
      → KeepsGuards known lay (log_with t depth entries (Adding e a))
      → KeepsGuards known lay (log_with t depth entries (Adding e b))
  same_entry e a b g = same_words (Adding e a) (Adding e b) refl refl (λ spot is. is) (λ spot is. is)
      (λ none. absurd (let wrong : Adding e a ≡ Nothing = (g.outside none).1 in cc)) g

-- ---- an entry more

logged_before : (entries : List Entry) (e : Entry) (spot : Spot) → IsLogged entries spot
    → IsLogged (entries ++ e ∷ []) spot
logged_before entries e spot (k, x, below, at, same) = (
  k,
  x,
  (let more = length_push entries e in omega (arith, below, more)),
  get_or_append_left entries (e ∷ []) x k below ∙ at,
  same,
)

logged_cases : (entries : List Entry) (e : Entry) (spot : Spot) → IsLogged (entries ++ e ∷ []) spot
    → IsLogged entries spot ⊎ SameWord e.spot spot
logged_cases entries e spot (k, x, below, at, same) = elim (cases_lt k (length entries)) [
  | inl before ↦ inl (k, x, before, sym (get_or_append_left entries (e ∷ []) x k before) ∙ at, same)
  | inr above ↦
      (let more = length_push entries e in
      let last : k ≡ length entries = omega (arith, above, below, more) in
      let is : e ≡ x = sym (get_or-append_seam entries e [] x)
      ∙ ap (λ i. slice_index_or (entries ++ e ∷ []) i x) (sym last) ∙ at in
      inr (subst (λ (y : Entry). SameWord y.spot spot) (sym is) same))
]

some_more : (entries : List Entry) (e : Entry) → (is_some (entries ++ e ∷ []) || false)
    ≡ (is_some entries || true)
some_more [] e = refl
some_more (x ∷ entries) e = refl

pub entry_more : (known : Knowledge) (lay : Layout) (t depth : ℕ) (entries : List Entry) (e : Entry)
    (stage : EntryStage)
    → KeepsGuards known lay (log_with t depth entries (Adding e stage))
    → KeepsGuards known lay (log_with t depth (entries ++ e ∷ []) Nothing)
entry_more known lay t depth entries e stage g = record {
  depth = g.depth;
  closing = g.closing;
  some = some_more entries e ∙ g.some;
  count = (let was = g.count in let more = length_push entries e in omega (arith, was, more));
  outside = λ none. absurd (let wrong : Adding e stage ≡ Nothing = (g.outside none).1 in cc);
  guarded = λ p guard.
      let at = g.guarded p guard in (
        at.0,
        at.1,
        at.2,
        inl (⊎_elim (λ (logged : IsLogged entries at.1). logged_before entries e at.1 logged)
            (λ (same : SameWord e.spot at.1). Any-push (λ (x : Entry). SameWord x.spot at.1) entries e same)
            at.3),
      );
  places = λ spot is. g.places spot (⊎_elim (λ (logged : IsLogged (entries ++ e ∷ []) spot).
      logged_cases entries e spot logged) (λ (never : ⊥). absurd never) is);
}
