-- What an event of a thread leaves of the parts of the machine that are another thread's: what it is about, and its log.
use Rattle.std.proofs.Common.{◌≡◌, ◌≢◌, ℕ, List, refl, ◌∙◌, ap}
use Rattle.std.specs.Prelude.{slice_index_or, slice_set}
use Rattle.std.proofs.lemmas.List.{get_or-set_other}
use Rattle.twin_forms.specs.Table.{Entry}
use Rattle.region_log.specs.Log.{Log}
use Rattle.machine_ends.specs.Passed.{Doing}
use Rattle.machine_ends.specs.Passed.{Nothing, Converting, Fencing}
use Rattle.machine_ends.specs.Passed.{Opening, Machine, doing_of, empty_log, log_of}
use Rattle.machine_ends.specs.Passed.{RegionStep}
use Rattle.machine_ends.specs.RegionSteps as step
use Rattle.machine_ends.specs.Passed.{Happens}
use Rattle.machine_ends.specs.Passed.{called, written, fenced, converted, failed, begun, sealed, asked, acted}
use Rattle.machine_ends.specs.Passed.{stored}
use Rattle.machine_ends.specs.Passed.{region}

-- ---- one place of a list

set-doing : (m : Machine) (t u : ℕ) (d : Doing) → u ≢ t
    → slice_index_or (slice_set m.doing t d) u Nothing ≡ doing_of m u
set-doing m t u d other = get_or-set_other m.doing t u d Nothing other

doing-set : (m m' : Machine) (t u : ℕ) (d : Doing) → u ≢ t → m'.doing ≡ slice_set m.doing t d
    → doing_of m' u ≡ doing_of m u
doing-set m m' t u d other is =
    ap (λ (ds : List Doing). slice_index_or ds u Nothing) is ∙ set-doing m t u d other

doing-same : (m m' : Machine) (u : ℕ) → m'.doing ≡ m.doing → doing_of m' u ≡ doing_of m u
doing-same m m' u is = ap (λ (ds : List Doing). slice_index_or ds u Nothing) is

set-log : (m : Machine) (t u : ℕ) (log : Log) → u ≢ t
    → slice_index_or (slice_set m.logs t log) u (empty_log u) ≡ log_of m u
set-log m t u log other = get_or-set_other m.logs t u log (empty_log u) other

log-set : (m m' : Machine) (t u : ℕ) (log : Log) → u ≢ t → m'.logs ≡ slice_set m.logs t log
    → log_of m' u ≡ log_of m u
log-set m m' t u log other is =
    ap (λ (logs : List Log). slice_index_or logs u (empty_log u)) is ∙ set-log m t u log other

log-same : (m m' : Machine) (u : ℕ) → m'.logs ≡ m.logs → log_of m' u ≡ log_of m u
log-same m m' u is = ap (λ (logs : List Log). slice_index_or logs u (empty_log u)) is

-- ---- regions

module _ (o : Opening) (t u : ℕ) (other : u ≢ t) where
  region-doing : (m m' : Machine) (es : List Entry) → RegionStep o t m es m' → doing_of m' u ≡ doing_of m u
  region-doing m _ es (step.begun m' request r e) = doing-same m m' u e.doing
  region-doing m _ es (step.guarded request place item entry e) = refl
  region-doing m _ es (step.logged twin log e) = refl
  region-doing m _ es (step.stored m' request place item e) = doing-set m m' t u Nothing other e.doing
  region-doing m _ es (step.ending twin request log e) = refl
  region-doing m _ es (step.closing twin request log e) = refl
  region-doing m _ es (step.ended m' request r e) = doing-same m m' u e.doing

  region-log : (m m' : Machine) (es : List Entry) → RegionStep o t m es m' → log_of m' u ≡ log_of m u
  region-log m _ es (step.begun m' request r e) = log-set m m' t u _ other e.logs
  region-log m _ es (step.guarded request place item entry e) = set-log m t u _ other
  region-log m _ es (step.logged twin log e) = set-log m t u log other
  region-log m _ es (step.stored m' request place item e) = log-same m m' u e.logs
  region-log m _ es (step.ending twin request log e) = set-log m t u log other
  region-log m _ es (step.closing twin request log e) = set-log m t u log other
  region-log m _ es (step.ended m' request r e) = log-set m m' t u e.log other e.logs

  -- ---- events

  pub doing-kept : (m m' : Machine) (es es' : List Entry) → Happens o t m es m' es' → doing_of m' u ≡ doing_of m u
  doing-kept m _ es _ (called twin e) = refl
  doing-kept m _ es _ (written twin e) = set-doing m t u Fencing other
  doing-kept m _ es _ (fenced twin e) = set-doing m t u Nothing other
  doing-kept m _ es _ (converted m' answer e no_seal) =
      doing-same m m' u (ap (λ (x : Machine). x.doing) e.same)
  doing-kept m _ es _ (failed m' e) = doing-same m m' u (ap (λ (x : Machine). x.doing) e.same)
  doing-kept m _ es _ (begun m' es' n word answer e) =
      doing-same m m' u (ap (λ (x : Machine). x.doing) e.same)
  doing-kept m _ es _ (sealed m' set named e) =
      doing-same m m' u (ap (λ (x : Machine). x.doing) e.converts.same)
  doing-kept m _ es _ (asked request place item e) = set-doing m t u Converting other
  doing-kept m _ es _ (acted m' request operation r e) = doing-set m m' t u _ other e.doing
  doing-kept m _ es _ (stored m' request place item e) = doing-set m m' t u _ other e.doing
  doing-kept m _ es _ (region m' e) = region-doing m m' es e

  pub log-kept : (m m' : Machine) (es es' : List Entry) → Happens o t m es m' es' → log_of m' u ≡ log_of m u
  log-kept m _ es _ (called twin e) = refl
  log-kept m _ es _ (written twin e) = refl
  log-kept m _ es _ (fenced twin e) = refl
  log-kept m _ es _ (converted m' answer e no_seal) = log-same m m' u (ap (λ (x : Machine). x.logs) e.same)
  log-kept m _ es _ (failed m' e) = log-same m m' u (ap (λ (x : Machine). x.logs) e.same)
  log-kept m _ es _ (begun m' es' n word answer e) = log-same m m' u (ap (λ (x : Machine). x.logs) e.same)
  log-kept m _ es _ (sealed m' set named e) = log-same m m' u (ap (λ (x : Machine). x.logs) e.converts.same)
  log-kept m _ es _ (asked request place item e) = refl
  log-kept m _ es _ (acted m' request operation r e) = log-same m m' u e.logs
  log-kept m _ es _ (stored m' request place item e) = log-same m m' u e.logs
  log-kept m _ es _ (region m' e) = region-log m m' es e
