-- What an event of a thread adds to the acts: none, or one of that thread.
use Rattle.std.proofs.Common.{◌≡◌, ℕ, List, [], ◌∷◌, ◌++◌, refl, ap}
use Rattle.std.specs.Prelude.{Option, Some, None}
use Rattle.run_history.specs.Recorded.{Recorded}
use Rattle.twin_forms.specs.Table.{Entry}
use Rattle.machine_ends.specs.Passed.{Opening, Machine}
use Rattle.run_history.specs.declared.act.Op.TheVariants as op
use Rattle.machine_ends.specs.Passed.{RegionStep, act_in}
use Rattle.machine_ends.specs.RegionSteps as step
use Rattle.machine_ends.specs.Passed.{Happens, act_of, region_act}
use Rattle.machine_ends.specs.Passed.{called, written, fenced, converted, failed, begun, sealed, asked, acted}
use Rattle.machine_ends.specs.Passed.{stored}
use Rattle.machine_ends.specs.Passed.{region}

-- the acts with one more, if there is one
abbrev pub with_one : List Recorded → Option Recorded → List Recorded
with_one acts None = acts
with_one acts (Some a) = acts ++ a ∷ []

-- it is of this thread, if there is one
abbrev pub IsOf : ℕ → Option Recorded → Type 0
IsOf t None = Unit {0}
IsOf t (Some a) = a.act.thread ≡ t

module _ (o : Opening) (t : ℕ) where
  region-adds : (m m' : Machine) (es : List Entry) (e : RegionStep o t m es m')
      → m'.acts ≡ with_one m.acts (region_act e)
  region-adds m _ es (step.begun m' request r e) = e.does.acts
  region-adds m _ es (step.guarded request place item entry e) = refl
  region-adds m _ es (step.logged twin log e) = refl
  region-adds m _ es (step.stored m' request place item e) = e.does.acts
  region-adds m _ es (step.ending twin request log e) = refl
  region-adds m _ es (step.closing twin request log e) = refl
  region-adds m _ es (step.ended m' request r e) = e.does.acts

  region-own : (m m' : Machine) (es : List Entry) (e : RegionStep o t m es m') → IsOf t (region_act e)
  region-own m _ es (step.begun m' request r e) = refl
  region-own m _ es (step.guarded request place item entry e) = refl
  region-own m _ es (step.logged twin log e) = tt
  region-own m _ es (step.stored m' request place item e) = refl
  region-own m _ es (step.ending twin request log e) = tt
  region-own m _ es (step.closing twin request log e) = refl
  region-own m _ es (step.ended m' request r e) = refl

  pub adds : (m m' : Machine) (es es' : List Entry) (e : Happens o t m es m' es')
      → m'.acts ≡ with_one m.acts (act_of e)
  adds m _ es _ (called twin e) = refl
  adds m _ es _ (written twin e) = refl
  adds m _ es _ (fenced twin e) = refl
  adds m _ es _ (converted m' answer e no_seal) = ap (λ (x : Machine). x.acts) e.same
  adds m _ es _ (failed m' e) = ap (λ (x : Machine). x.acts) e.same
  adds m _ es _ (begun m' es' n word answer e) = ap (λ (x : Machine). x.acts) e.same
  adds m _ es _ (sealed m' set named e) =
      ap (λ (acts : List Recorded). acts ++ act_in m' t op.Joined named ∷ [])
      (ap (λ (x : Machine). x.acts) e.converts.same)
  adds m _ es _ (asked request place item e) = refl
  adds m _ es _ (acted m' request operation r e) = e.does.acts
  adds m _ es _ (stored m' request place item e) = e.does.acts
  adds m _ es _ (region m' e) = region-adds m m' es e

  pub own : (m m' : Machine) (es es' : List Entry) (e : Happens o t m es m' es') → IsOf t (act_of e)
  own m _ es _ (called twin e) = tt
  own m _ es _ (written twin e) = tt
  own m _ es _ (fenced twin e) = refl
  own m _ es _ (converted m' answer e no_seal) = tt
  own m _ es _ (failed m' e) = tt
  own m _ es _ (begun m' es' n word answer e) = tt
  own m _ es _ (sealed m' set named e) = refl
  own m _ es _ (asked request place item e) = refl
  own m _ es _ (acted m' request operation r e) = refl
  own m _ es _ (stored m' request place item e) = refl
  own m _ es _ (region m' e) = region-own m m' es e
