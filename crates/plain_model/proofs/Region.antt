-- A region guards a place before its store, and closes once its end is asked.
use Rattle.std.proofs.Common.{◌≡◌, true, false, ◌∷◌, refl, inr, lit≤}
use Rattle.std.specs.Prelude.{Some}
use Rattle.ap_base.specs.declared.place.Place.TheVariants.{Slot}
use Rattle.graph_model.specs.declared.types.Value.TheVariants.{Obj as Object}
use Rattle.run_history.specs.declared.act.Op.TheVariants as op
use Rattle.run_history.specs.Knowing.{known_after_op}
use Rattle.plain_model.specs.First.{first_world, first_heap}
use Rattle.plain_model.specs.Steps.{step}
use Rattle.plain_model.specs.Codes.{frames_after_op}
use Rattle.plain_model.specs.Rows.{DoesInRegion, guarded, linked, closing, ended}
use Rattle.plain_model.proofs.ClosedTest.{closed_by_test}

pub region_done : DoesInRegion (guarded ∷ linked ∷ closing ∷ ended)
unfolding first_world first_heap known_after_op frames_after_op step
region_done = (
  record { later = lit≤ tt; rule = refl; named = refl; fence = refl; is_closed = closed_by_test _ refl },
  (
    record { later = lit≤ tt; rule = refl; named = refl; fence = refl; is_closed = closed_by_test _ refl },
    (
      record { later = lit≤ tt; rule = refl; named = refl; fence = refl; is_closed = closed_by_test _ refl },
      (
        record {
          later = lit≤ tt;
          rule = record {
            is_about = (Object 0, refl, refl);
            is_open = λ none. let no : 1 ≡ 0 = none in cc;
            not_closing = refl;
            durable = refl;
            unguarded = refl;
          };
          named = refl;
          fence = refl;
          is_closed = closed_by_test _ refl;
        },
        (
          record {
            later = lit≤ tt;
            rule = record { is_about = refl; no_race = λ durable. inr refl; guarded = λ durable within. refl };
            named = refl;
            fence = refl;
            is_closed = closed_by_test _ refl;
          },
          (
            record {
              later = lit≤ tt;
              rule = record { is_about = refl; outermost = refl; guards = refl; not_closing = refl };
              named = refl;
              fence = refl;
              is_closed = closed_by_test _ refl;
            },
            (
              record {
                later = lit≤ tt;
                rule = record { is_about = refl; closing = λ outermost guards. refl };
                named = refl;
                fence = refl;
                is_closed = closed_by_test _ refl;
              },
              (
                record { later = lit≤ tt; rule = refl; named = refl; fence = refl; is_closed = closed_by_test _ refl },
                tt,
              ),
            ),
          ),
        ),
      ),
    ),
  ),
)

pub without_closing_refused : DoesInRegion (guarded ∷ linked ∷ ended) → ⊥
unfolding first_world first_heap known_after_op frames_after_op step
without_closing_refused run = let no : false ≡ true = run.1.1.1.1.1.0.rule.closing refl refl in cc

pub without_guarded_refused : DoesInRegion (linked ∷ closing ∷ ended) → ⊥
unfolding first_world first_heap known_after_op frames_after_op step
without_guarded_refused run =
    let no : false ≡ true = run.1.1.1.0.rule.guarded refl (λ none. let other : 1 ≡ 0 = none in cc) in cc

pub closing_early_refused : DoesInRegion (guarded ∷ closing ∷ linked ∷ ended) → ⊥
unfolding first_world first_heap known_after_op frames_after_op step
closing_early_refused run = let no : Some (op.Stored (Slot 0 0) (Object 0)) ≡ Some op.End = run.1.1.1.1.0.rule.is_about in cc
