-- An act of one thread's region leaves the regions of all others.
use Rattle.std.proofs.Common.{◌≡◌, ◌≢◌, ℕ, Bool, true, false, List, length, Some, None, refl, sym, ap, subst, ne_eqb}
use Rattle.ap_base.specs.declared.place.Place.{Place}
use Rattle.graph_model.specs.Heaps.{has_number}
use Rattle.run_history.specs.declared.act.Op.{Op}
use Rattle.run_history.specs.declared.act.Op.TheVariants as op
use Rattle.run_history.specs.Recorded.{Recorded}
use Rattle.run_history.specs.Knowing.{Guard, Knowledge, guard_of, has_guards, is_outermost, next_known}
use Rattle.plain_model.specs.Limits.{guards_of}
use Rattle.stop_theorem.proofs.Marks.{still_guarded_by, guard_added}
use Rattle.stop_theorem.specs.Layouts.{Layout}
use Rattle.region_events.proofs.Lists.{guards_beside, guards_left}
use Rattle.machine_forms.specs.Keeping.{GuardApart}
use Rattle.machine_laws.proofs.Guards.{guard-before, guard-was, has-added, has-left, number-added, number-left, apart-added}
use Rattle.machine_laws.proofs.Guards.{apart-left}
use Rattle.machine_laws.proofs.AskRegions.{guards_after, closing_after, guards_ended, closing_ended, guards-next, other-depth}
use Rattle.machine_laws.proofs.AskRegions.{spares-by, SparesRegion}

-- ---- a region ends, or not

ended-on : (gs : List Guard) (t u : ℕ) (p : Place) (b : Bool) → u ≢ t → guard_of gs p ≡ Some u
    → guard_of (guards_ended gs t b) p ≡ Some u
ended-on gs t u p true other is = still_guarded_by gs t u p (ne_eqb u t other) is
ended-on gs t u p false other is = is

ended-back : (gs : List Guard) (t u : ℕ) (p : Place) (b : Bool) → GuardApart gs
    → guard_of (guards_ended gs t b) p ≡ Some u → guard_of gs p ≡ Some u
ended-back gs t u p true apart is = guard-was gs t u p apart is
ended-back gs t u p false apart is = is

ended-some : (gs : List Guard) (t u : ℕ) (b : Bool) → u ≢ t
    → has_guards (guards_ended gs t b) u ≡ has_guards gs u
ended-some gs t u true other = has-left gs t u other
ended-some gs t u false other = refl

ended-guards : (gs : List Guard) (t u : ℕ) (b : Bool) → u ≢ t
    → guards_of (guards_ended gs t b) u ≡ guards_of gs u
ended-guards gs t u true other = guards_left gs t u (λ same. other (sym same))
ended-guards gs t u false other = refl

ended-number : (ns : List ℕ) (t u : ℕ) (b : Bool) → u ≢ t
    → has_number (closing_ended ns t b) u ≡ has_number ns u
ended-number ns t u true other = number-left ns t u other
ended-number ns t u false other = refl

ended-apart : (gs : List Guard) (t : ℕ) (b : Bool) → GuardApart gs → GuardApart (guards_ended gs t b)
ended-apart gs t true apart = apart-left gs t apart
ended-apart gs t false apart = apart

-- ---- any act

other-on : (known : Knowledge) (t u : ℕ) (o : Op) (p : Place) → u ≢ t → guard_of known.guards p ≡ Some u
    → guard_of (guards_after known t o) p ≡ Some u
other-on known t u (op.Guarded q) p other is =
    guard_added known.guards (record { thread = t; place = q }) p u is
other-on known t u op.End p other is = ended-on known.guards t u p (is_outermost known t) other is
other-on known t u o p other is = is

other-back : (known : Knowledge) (t u : ℕ) (o : Op) (p : Place) → u ≢ t → GuardApart known.guards
    → guard_of (guards_after known t o) p ≡ Some u → guard_of known.guards p ≡ Some u
other-back known t u (op.Guarded q) p other apart is = guard-before known.guards t u q p other is
other-back known t u op.End p other apart is = ended-back known.guards t u p (is_outermost known t) apart is
other-back known t u o p other apart is = is

other-some : (known : Knowledge) (t u : ℕ) (o : Op) → u ≢ t
    → has_guards (guards_after known t o) u ≡ has_guards known.guards u
other-some known t u (op.Guarded q) other = has-added known.guards t u q other
other-some known t u op.End other = ended-some known.guards t u (is_outermost known t) other
other-some known t u o other = refl

other-guards : (known : Knowledge) (t u : ℕ) (o : Op) → u ≢ t
    → guards_of (guards_after known t o) u ≡ guards_of known.guards u
other-guards known t u (op.Guarded q) other = guards_beside known.guards t u q (λ same. other (sym same))
other-guards known t u op.End other = ended-guards known.guards t u (is_outermost known t) other
other-guards known t u o other = refl

other-closing : (known : Knowledge) (t u : ℕ) (o : Op) → u ≢ t
    → has_number (closing_after known t o) u ≡ has_number known.closing u
other-closing known t u op.Closing other = number-added known.closing t u other
other-closing known t u op.End other = ended-number known.closing t u (is_outermost known t) other
other-closing known t u o other = refl

module _ (known : Knowledge) (a : Recorded) (lay : Layout) (apart : GuardApart known.guards) where
  pub other-spares : (u : ℕ) → u ≢ a.act.thread → SparesRegion known (next_known known a) lay lay u
  other-spares u other = spares-by known a lay lay (λ n is. refl) u
      (λ p is. other-on known a.act.thread u a.act.op p other is)
      (λ p is. other-back known a.act.thread u a.act.op p other apart is)
      (other-some known a.act.thread u a.act.op other)
      (ap (λ (gs : List Guard). length gs) (other-guards known a.act.thread u a.act.op other))
      (other-depth known.world.threads a.act.thread u a.act.op other)
      (other-closing known a.act.thread u a.act.op other)

-- it guards a place that nobody has guarded, or none
abbrev pub GuardsNew : Knowledge → Op → Type 0
GuardsNew known (op.Guarded p) = guard_of known.guards p ≡ None
GuardsNew known o = Unit {0}

apart-op : (known : Knowledge) (t : ℕ) (o : Op) → GuardApart known.guards → GuardsNew known o
    → GuardApart (guards_after known t o)
apart-op known t (op.Guarded p) apart new = apart-added known.guards t p apart new
apart-op known t op.End apart new = ended-apart known.guards t (is_outermost known t) apart
apart-op known t o apart new = apart

pub apart-next : (known : Knowledge) (a : Recorded) → GuardApart known.guards → GuardsNew known a.act.op
    → GuardApart (next_known known a).guards
apart-next known a apart new =
    subst GuardApart (sym (guards-next known a)) (apart-op known a.act.thread a.act.op apart new)
