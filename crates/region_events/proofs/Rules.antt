-- The acts of a region keep the rules of a plain run.
use Rattle.std.proofs.Common.{◌≡◌, ◌≢◌, inl, inr, ℕ, true, false, List, [], ◌∷◌, length, Some, refl, sym, ◌∙◌, ap, arith}
use Rattle.std.proofs.Common.{nat_eq, ◌||◌, eq-eqb}
use Rattle.std.proofs.lemmas.Bool.{true≢false, eqb-true, or_left}
use Rattle.ap_base.specs.declared.place.Place.{Place}
use Rattle.run_history.specs.Worlds.{depth_of}
use Rattle.run_history.specs.Knowing.{Knowledge, guard_of}
use Rattle.plain_model.specs.Runs.{is_guarded_by, has_guarded as has_guarded_place}
use Rattle.region_log.specs.declared.entry.Entry.{Entry}
use Rattle.region_log.specs.declared.entry.EndStage.TheVariants.{Writing, AllFenced, Clearing, Cleared}
use Rattle.region_log.specs.declared.entry.Underway.{Underway}
use Rattle.region_log.specs.declared.entry.Underway.TheVariants.{Nothing, Adding, Ending}
use Rattle.region_log.specs.Guarding.{is_some, is_adding, is_closing}
use Rattle.region_log.specs.Stages.{end_stage}
use Rattle.region_events.specs.Rules.{GuardsMayCome, StoresMayCome, ClosingsMayCome, EndsMayCome}

pub guards_may_come : GuardsMayCome
guards_may_come set known lay request log g p v idle deep durable none stays about = record {
  is_about = (v, about, stays);
  is_open = λ outside. let depth = g.depth in omega (arith, deep, depth, outside);
  not_closing = sym g.closing ∙ ap is_closing idle;
  durable = durable;
  unguarded = none;
}

own_guard : (known : Knowledge) (t : ℕ) (p : Place) → guard_of known.guards p ≡ Some t
    → has_guarded_place known t p ≡ true
own_guard known t p guard = ap (is_guarded_by t) guard ∙ or_left (nat_eq t t) false (eq-eqb t t refl)

pub stores_may_come : StoresMayCome
stores_may_come set known lay request log g p v guard about = record {
  is_about = about;
  no_race = λ durable. inr (own_guard known log.thread p guard);
  guarded = λ durable some. own_guard known log.thread p guard;
}

-- before the fence no region is closing
pub writing_open : (underway : Underway) (n : ℕ) → end_stage underway ≡ Writing n
    → is_closing underway ≡ false
writing_open Nothing n is = refl
writing_open (Adding e stage) n is = refl
writing_open (Ending (Writing lines)) n is = refl
writing_open (Ending AllFenced) n is = absurd (let wrong : AllFenced ≡ Writing n = is in cc)
writing_open (Ending Clearing) n is = absurd (let wrong : Clearing ≡ Writing n = is in cc)
writing_open (Ending Cleared) n is = absurd (let wrong : Cleared ≡ Writing n = is in cc)

logged_some : (entries : List Entry) (underway : Underway) → entries ≢ []
    → (is_some entries || is_adding underway) ≡ true
logged_some [] underway some = absurd (some refl)
logged_some (e ∷ entries) underway some = refl

pub closings_may_come : ClosingsMayCome
closings_may_come set known lay request log g one stage some about = record {
  is_about = about;
  outermost = eq-eqb (depth_of known.world log.thread) 1 (sym g.depth ∙ one);
  guards = sym g.some ∙ logged_some log.entries log.underway some;
  not_closing = sym g.closing ∙ writing_open log.underway (length log.entries) stage;
}

none_guarded : (entries : List Entry) (underway : Underway) → entries ≡ [] → underway ≡ Nothing
    → (is_some entries || is_adding underway) ≡ false
none_guarded entries underway none idle = rw (none, idle) refl

pub ends_may_come : EndsMayCome
ends_may_come set known lay request log g (inl last) about = record {
  is_about = about;
  closing = λ outermost some. sym g.closing ∙ ap is_closing last;
}
ends_may_come set known lay request log g (inr (idle, inl within)) about = record {
  is_about = about;
  closing = λ outermost some.
      let depth = g.depth in
      let one = eqb-true (depth_of known.world log.thread) 1 outermost in
      absurd (omega (arith, within, depth, one));
}
ends_may_come set known lay request log g (inr (idle, inr none)) about = record {
  is_about = about;
  closing = λ outermost some.
      absurd (true≢false (sym some ∙ sym g.some ∙ none_guarded log.entries log.underway none idle));
}
