-- A log is what the acts say after the acts of its own region.
use Rattle.std.proofs.Common.{◌≡◌, ◌⊎◌, inl, inr, ⊎_elim, ℕ, zero, suc, pred, ◌+◌, ◌<◌, ◌-◌, ◌^◌, Bool, true, false, ◌||◌, List}
use Rattle.std.proofs.Common.{[], length, None, refl, sym, ◌∙◌, ap, subst, arith, eq-eqb}
use Rattle.std.specs.Prelude.{min}
use Rattle.std.proofs.lemmas.Bool.{true≢false}
use Rattle.ap_base.specs.declared.place.Place.{Place}
use Rattle.ap_base.specs.declared.place.Spot.{Spot}
use Rattle.graph_model.specs.declared.types.Value.{Value}
use Rattle.run_history.specs.declared.act.Op.TheVariants as op
use Rattle.graph_model.specs.Heaps.{has_number}
use Rattle.run_history.specs.Worlds.{depth_of}
use Rattle.run_history.specs.Knowing.{Knowledge, Guard, guard_of, has_guards, is_outermost, after_end, known_after_op}
use Rattle.plain_model.specs.Limits.{guards_of}
use Rattle.stop_theorem.proofs.Joint.{same_place, is_same_place}
use Rattle.stop_theorem.proofs.Marks.{guard_added, guard_new}
use Rattle.stop_theorem.specs.Layouts.{Layout, KeepsPlaces, is_kept_place}
use Rattle.stop_theorem.specs.InvariantEvents.{line_at, word_at, known_by}
use Rattle.stop_theorem.proofs.Acting.{store_places}
use Rattle.stop_theorem.proofs.Places.{line_same, word_same}
use Rattle.region_log.specs.declared.entry.Entry.{Entry}
use Rattle.region_log.specs.declared.entry.EntryStage.TheVariants.{Begun}
use Rattle.region_log.specs.declared.entry.EndStage.TheVariants.{Writing, AllFenced}
use Rattle.region_log.specs.declared.entry.Underway.TheVariants.{Nothing, Adding, Ending}
use Rattle.region_log.specs.Guarding.{is_some}
use Rattle.region_log.specs.Log.{Log, IsLogged}
use Rattle.region_events.specs.Guards.{IsWordOf, KeepsGuards}
use Rattle.region_events.specs.Laws.{one_deeper}
use Rattle.region_events.proofs.Lists.{guard_cases, guards_some, guards_more, guards_given, none_guarded, no_place, no_number}
use Rattle.region_events.proofs.Lists.{last_number, depth_begun, depth_ended}
use Rattle.region_events.proofs.Kept.{log_with, word_as, left_keeps}

-- the region is deeper or less deep, and all else as it was
at_depth : (known next : Knowledge) (lay : Layout) (log : Log) (d : ℕ) → next.guards ≡ known.guards
    → next.closing ≡ known.closing
    → ((p : Place) → is_kept_place next p ≡ is_kept_place known p)
    → ((p : Place) → line_at lay next p ≡ line_at lay known p)
    → ((p : Place) → word_at next p ≡ word_at known p)
    → d ≡ depth_of next.world log.thread → (d ≡ 0 → (log.entries ≡ []) × (log.underway ≡ Nothing))
    → KeepsGuards known lay log → KeepsGuards next lay (record log { depth = d })
at_depth known next lay log d guards closing kept lines words depth outside g = record {
  depth = depth;
  closing = g.closing ∙ sym (ap (λ ns. has_number ns log.thread) closing);
  some = g.some ∙ sym (ap (λ gs. has_guards gs log.thread) guards);
  count = ap (λ gs. length (guards_of gs log.thread)) guards ∙ g.count;
  outside = outside;
  guarded = λ p guard.
      let at = g.guarded p (sym (ap (λ gs. guard_of gs p) guards) ∙ guard) in
      (kept p ∙ at.0, at.1, word_as known next lay lay at.1 p (lines p) (words p) at.2, at.3);
  places = λ spot is.
      let at = g.places spot is in (
        at.0,
        word_as known next lay lay spot at.0 (lines at.0) (words at.0) at.1,
        record {
          is_kept = kept at.0 ∙ at.2.is_kept;
          guard = ap (λ gs. guard_of gs at.0) guards ∙ at.2.guard;
        },
      );
}

pub begun_keeps : (known : Knowledge) (lay : Layout) (log : Log) (at : ℕ) → log.depth < 2 ^ 32 - 1
    → log.thread < length known.world.threads → KeepsGuards known lay log
    → KeepsGuards (known_by known log.thread at op.Begin []) lay (one_deeper log)
unfolding known_after_op
begun_keeps known lay log at room there g =
    let was = g.depth in
    let now = depth_begun known.world.threads log.thread there in
    at_depth known (known_by known log.thread at op.Begin []) lay log (min (log.depth + 1) (2 ^ 32 - 1)) refl
    refl (λ p. refl) (λ p. refl) (λ p. refl) (omega (arith, room, was, now))
    (λ none. absurd (omega (arith, none))) g

-- a region within another ends
inner_keeps : (known : Knowledge) (lay : Layout) (log : Log) (at : ℕ) (b : Bool) → b ≡ false
    → 1 < log.depth → KeepsGuards known lay log
    → KeepsGuards (record (after_end known log.thread b) { at = at }) lay
    (record log { depth = log.depth - 1 })
inner_keeps known lay log at true isnt within g = absurd (true≢false isnt)
inner_keeps known lay log at false isnt within g =
    let was = g.depth in
    let now = depth_ended known.world.threads log.thread in
    let less : pred (depth_of known.world log.thread) ≡ log.depth - 1 = one_less (depth_of known.world
    log.thread) log.depth was in
    at_depth known (record (after_end known log.thread false) { at = at }) lay log (log.depth - 1) refl refl
    (λ p. refl) (λ p. refl) (λ p. refl) (sym (now ∙ less)) (λ none. absurd (omega (arith, none, within))) g
  where
    one_less : (n d : ℕ) → d ≡ n → pred n ≡ d - 1
    one_less zero d is = omega (arith, is)
    one_less (suc n) d is = omega (arith, is)

-- an empty log names no word
pub none_of_none : (spot : Spot) → IsLogged [] spot ⊎ ⊥ → ⊥
none_of_none spot (inl (k, x, below, at, same)) = absurd (omega (arith, below))
none_of_none spot (inr never) = never

-- the outermost ends
ended_keeps : (known : Knowledge) (lay : Layout) (t at : ℕ) (b : Bool) → b ≡ true
    → depth_of known.world t ≡ 1
    → KeepsGuards (record (after_end known t b) { at = at }) lay
    (record { thread = t; depth = 0; entries = []; underway = Nothing })
ended_keeps known lay t at false isnt one = absurd (true≢false (sym isnt))
ended_keeps known lay t at true is one = record {
  depth = sym (depth_ended known.world.threads t ∙ ap pred one);
  closing = sym (no_number known.closing t);
  some = sym (none_guarded known.guards t);
  count = ap (λ (gs : List Guard). length gs) (guards_given known.guards t);
  outside = λ none. (refl, refl);
  guarded = λ p guard. absurd (no_place (after_end known t true).guards t p (none_guarded known.guards t)
      guard);
  places = λ spot is. absurd (none_of_none spot is);
}

pub end_keeps : (known : Knowledge) (lay : Layout) (t at : ℕ) → depth_of known.world t ≡ 1
    → KeepsGuards (known_by known t at op.End []) lay
    (record { thread = t; depth = 0; entries = []; underway = Nothing })
unfolding known_after_op
end_keeps known lay t at one = ended_keeps known lay t at (is_outermost known t)
    (eq-eqb (depth_of known.world t) 1 one) one

pub inner_end_keeps : (known : Knowledge) (lay : Layout) (log : Log) (at : ℕ) → 1 < log.depth
    → is_outermost known log.thread ≡ false → KeepsGuards known lay log
    → KeepsGuards (known_by known log.thread at op.End []) lay (record log { depth = log.depth - 1 })
unfolding known_after_op
inner_end_keeps known lay log at within inner g = inner_keeps known lay log at
    (is_outermost known log.thread) inner within g

-- the region becomes closing
pub closing_keeps : (known : Knowledge) (lay : Layout) (t depth at lines : ℕ) (entries : List Entry)
    → KeepsGuards known lay (log_with t depth entries (Ending (Writing lines)))
    → KeepsGuards (known_by known t at op.Closing []) lay
    (log_with t depth entries (Ending AllFenced))
unfolding known_after_op
closing_keeps known lay t depth at lines entries g =
    let next = known_by known t at op.Closing [] in
    record {
      depth = g.depth;
      closing = sym (last_number known.closing t);
      some = g.some;
      count = g.count;
      outside = λ none. absurd (let wrong : Ending (Writing lines) ≡ Nothing = (g.outside none).1 in cc);
      guarded = λ p guard.
          let at = g.guarded p guard in (at.0, at.1, word_as known next lay lay at.1 p refl refl at.2, at.3);
      places = λ spot is.
          let at = g.places spot is in (
            at.0,
            word_as known next lay lay spot at.0 refl refl at.1,
            record { is_kept = at.2.is_kept; guard = at.2.guard },
          );
    }

-- a place is guarded, and its entry is about to be added
pub guarded_keeps : (known : Knowledge) (lay : Layout) (t depth at : ℕ) (entries : List Entry) (e : Entry)
    (p : Place) → 0 < depth → is_kept_place known p ≡ true → guard_of known.guards p ≡ None
    → IsWordOf known lay e.spot p → KeepsGuards known lay (log_with t depth entries Nothing)
    → KeepsGuards (known_by known t at (op.Guarded p) []) lay
    (log_with t depth entries (Adding e Begun))
unfolding known_after_op
guarded_keeps known lay t depth at entries e p deep kept none word g =
    let next = known_by known t at (op.Guarded p) [] in
    record {
      depth = g.depth;
      closing = g.closing;
      some = or_true (is_some entries) ∙ sym (guards_some known.guards t p);
      count = (let was = g.count in let more = guards_more known.guards t p in omega (arith, was, more));
      outside = λ none. absurd (omega (arith, deep, none));
      guarded = λ q guard. elim (guard_cases known.guards (record { thread = t; place = p }) q t guard) [
        | inl old ↦
            (let at = g.guarded q old in (
              at.0,
              at.1,
              word_as known next lay lay at.1 q refl refl at.2,
              ⊎_elim (λ (logged : IsLogged entries at.1). inl logged) (λ (never : ⊥). absurd never) at.3,
            ))
        | inr same ↦
            (let is : p ≡ q = same_place p q same in (
              subst (λ (x : Place). is_kept_place next x ≡ true) is kept,
              e.spot,
              subst (λ (x : Place). IsWordOf next lay e.spot x) is (word_as known next lay lay e.spot p refl
                  refl word),
              inr (refl, refl),
            ))
      ];
      places = λ spot is. elim is [
        | inl logged ↦
            (let at = g.places spot (inl logged) in (
              at.0,
              word_as known next lay lay spot at.0 refl refl at.1,
              record {
                is_kept = at.2.is_kept;
                guard = guard_added known.guards (record { thread = t; place = p }) at.0 t at.2.guard;
              },
            ))
        | inr same ↦ (
          p,
          record { line = sym same.0 ∙ word.line; word = sym same.1 ∙ word.word },
          record { is_kept = kept; guard = guard_new known.guards t p (is_same_place p) none },
        )
      ];
    }
  where
    or_true : (b : Bool) → (b || true) ≡ true
    or_true true = refl
    or_true false = refl

-- a store leaves all as it was
pub stored_keeps : (known : Knowledge) (lay : Layout) (log : Log) (at : ℕ) (p : Place) (v : Value)
    → KeepsGuards known lay log → KeepsGuards (known_by known log.thread at (op.Stored p v) []) lay log
unfolding known_after_op
stored_keeps known lay log at p v g =
    let next = known_by known log.thread at (op.Stored p v) [] in
    let places : KeepsPlaces known next = store_places known lay log.thread at p v in
    left_keeps known next lay lay log (record {
      guards = refl;
      depth = refl;
      closing = refl;
      kept = λ q is. places.kept q ∙ is;
      lines = λ q is. line_same lay known.world.heap next.world.heap places.roots q;
      words = λ q is. word_same known.world.heap next.world.heap places.roots q;
    }) g
