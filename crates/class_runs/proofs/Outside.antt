-- What the outside is told of a call, and the faults by which it ends.
use Rattle.std.proofs.Common.{◌≡◌, ◌≤◌, ℕ, ◌+◌, length, List, [], ◌++◌, Option, Some, None, refl, ap, sym, ◌∙◌, subst, arith}
use Rattle.std.proofs.lemmas.List.{append-nil}
use Rattle.ap_base.specs.Causes.{next_count}
use Rattle.ap_base.specs.Sinks.{TakesBehind, with_bytes}
use Rattle.run_types.specs.declared.fault.RunFault.TheVariants as fault
use Rattle.run_history.specs.Recorded.{Recorded}
use Rattle.class_set.specs.Linked.{Linked}
use Rattle.durable_launch.specs.Passed.{HasTold, IsCaused, LeavesShares, with_all}
use Rattle.plain_model.specs.Runs.{output_of}
use Rattle.durable_launch.specs.Passed.{fault_in}
use Rattle.durable_launch.specs.Passed.{RunEnd}
use Rattle.durable_launch.specs.Passed.{Ended, Over}
use Rattle.durable_launch.specs.Passed.{NoLaunch}
use Rattle.durable_launch.specs.NoLaunches as no_launch
use Rattle.durable_launch.specs.Passed.{Unopened}
use Rattle.durable_launch.specs.Unopenings as unopened
use Rattle.statuses.specs.declared.status.Status.TheVariants as status
use Rattle.class_runs.specs.Began.{status_of_end, status_of_unlaunched}
use Rattle.class_runs.specs.Sets.{status_of_unopened}
use Rattle.class_runs.specs.Runs.{Tells}

-- ---- what is told

none_seen : (sees : Option (List Recorded)) → sees ≡ with_all sees []
none_seen None = refl
none_seen (Some seen) = ap (λ (told : List Recorded). Some told) (sym (append-nil seen))

none_taken : (takes : Option (List ℕ)) → takes ≡ with_bytes takes []
none_taken None = refl
none_taken (Some taken) = ap (λ (bytes : List ℕ). Some bytes) (sym (append-nil taken))

pub tells_nothing : (sees : Option (List Recorded)) (taken : Option (List ℕ)) (takes : ℕ → ℕ → Option ℕ)
    → Tells [] sees sees taken taken takes takes
tells_nothing sees taken takes = record {
  watched = none_seen sees;
  printed = none_taken taken;
  leaves = λ more size. let same : more ≡ 0 + more = omega arith in ap (λ (n : ℕ). takes n size) same;
}

-- from no act on, all acts were told
pub tells_all : (old new : List Recorded) (sees sees' : Option (List Recorded)) (taken taken' : Option (List ℕ))
    (takes takes' : ℕ → ℕ → Option ℕ) → old ≡ [] → HasTold old new sees sees' taken taken' → LeavesShares takes takes' old new
    → Tells new sees sees' taken taken' takes takes'
tells_all old new sees sees' taken taken' takes takes' empty told left =
    let all : new ≡ told.further = told.acts ∙ ap (λ (first : List Recorded). first ++ told.further) empty in
    let also : left.further ≡ told.further = sym (left.acts ∙ ap (λ (first : List Recorded). first ++ left.further) empty) ∙ all in
    subst (λ (acts : List Recorded). Tells acts sees sees' taken taken' takes takes') (sym all)
    (record {
      watched = told.watched;
      printed = told.printed;
      leaves = subst (λ (acts : List Recorded). TakesBehind takes takes' (length (output_of acts))) also left.behind;
    })

-- ---- faults

module _ (set : Linked) (sink sink' image image' : ℕ) where
  pub sink_caused : (end : RunEnd) → IsCaused (fault_in end) sink sink' image image'
      → status_of_end set end ≡ status.SinkFault → sink' ≡ next_count sink
  sink_caused (Ended None) caused is = absurd (cc)
  sink_caused (Ended (Some thrown)) caused is = absurd (cc)
  sink_caused (Over fault.SinkFault) caused is = caused.0
  sink_caused (Over fault.ImageFault) caused is = absurd (cc)
  sink_caused (Over (fault.BadCode at)) caused is = absurd (cc)
  sink_caused (Over (fault.RegionRace thread other place)) caused is = absurd (cc)
  sink_caused (Over (fault.Full full)) caused is = absurd (cc)
  sink_caused (Over (fault.Stuck waits)) caused is = absurd (cc)
  sink_caused (Over (fault.LinkFault kind class index)) caused is = absurd (cc)

  -- it doesn't fail in a run that ends otherwise
  pub sink_spared : (end : RunEnd) → IsCaused (fault_in end) sink sink' image image'
      → (status_of_end set end ≡ status.SinkFault → ⊥) → sink' ≡ sink
  sink_spared (Ended None) caused isnt = caused.0
  sink_spared (Ended (Some thrown)) caused isnt = caused.0
  sink_spared (Over fault.SinkFault) caused isnt = absurd (isnt refl)
  sink_spared (Over fault.ImageFault) caused isnt = caused.0
  sink_spared (Over (fault.BadCode at)) caused isnt = caused.0
  sink_spared (Over (fault.RegionRace thread other place)) caused isnt = caused.0
  sink_spared (Over (fault.Full full)) caused isnt = caused.0
  sink_spared (Over (fault.Stuck waits)) caused isnt = caused.0
  sink_spared (Over (fault.LinkFault kind class index)) caused isnt = caused.0

  pub image_caused : (end : RunEnd) → IsCaused (fault_in end) sink sink' image image'
      → status_of_end set end ≡ status.ImageFault → image' ≡ next_count image
  image_caused (Ended None) caused is = absurd (cc)
  image_caused (Ended (Some thrown)) caused is = absurd (cc)
  image_caused (Over fault.SinkFault) caused is = absurd (cc)
  image_caused (Over fault.ImageFault) caused is = caused.1
  image_caused (Over (fault.BadCode at)) caused is = absurd (cc)
  image_caused (Over (fault.RegionRace thread other place)) caused is = absurd (cc)
  image_caused (Over (fault.Full full)) caused is = absurd (cc)
  image_caused (Over (fault.Stuck waits)) caused is = absurd (cc)
  image_caused (Over (fault.LinkFault kind class index)) caused is = absurd (cc)

  -- nor does the image
  pub image_spared : (end : RunEnd) → IsCaused (fault_in end) sink sink' image image'
      → (status_of_end set end ≡ status.ImageFault → ⊥) → image' ≡ image
  image_spared (Ended None) caused isnt = caused.1
  image_spared (Ended (Some thrown)) caused isnt = caused.1
  image_spared (Over fault.SinkFault) caused isnt = caused.1
  image_spared (Over fault.ImageFault) caused isnt = absurd (isnt refl)
  image_spared (Over (fault.BadCode at)) caused isnt = caused.1
  image_spared (Over (fault.RegionRace thread other place)) caused isnt = caused.1
  image_spared (Over (fault.Full full)) caused isnt = caused.1
  image_spared (Over (fault.Stuck waits)) caused isnt = caused.1
  image_spared (Over (fault.LinkFault kind class index)) caused isnt = caused.1

-- the sink fails in a run alone
pub never_by_sink : (why : Unopened) → status_of_unopened why ≡ status.SinkFault → ⊥
never_by_sink (unopened.BadImage line reason) is = cc
never_by_sink (unopened.ShapeChanged name) is = cc
never_by_sink (unopened.Full full) is = cc
never_by_sink unopened.ImageFailed is = cc
never_by_sink unopened.OutOfMemory is = cc

-- an opening that ends by a fault of the image failed for it
pub failed_opening : (why : Unopened) → status_of_unopened why ≡ status.ImageFault → why ≡ unopened.ImageFailed
failed_opening (unopened.BadImage line reason) is = absurd (cc)
failed_opening (unopened.ShapeChanged name) is = absurd (cc)
failed_opening (unopened.Full full) is = absurd (cc)
failed_opening unopened.ImageFailed is = refl
failed_opening unopened.OutOfMemory is = absurd (cc)

-- a launch fails by neither
pub unlaunched_by_sink : (why : NoLaunch) → status_of_unlaunched why ≡ status.SinkFault → ⊥
unlaunched_by_sink (no_launch.Full full) is = cc
unlaunched_by_sink no_launch.OutOfMemory is = cc

pub unlaunched_by_image : (why : NoLaunch) → status_of_unlaunched why ≡ status.ImageFault → ⊥
unlaunched_by_image (no_launch.Full full) is = cc
unlaunched_by_image no_launch.OutOfMemory is = cc

-- a count that stood until a later moment is one more, or stands, since an earlier one as since that
pub next_since : (first later now : ℕ) → later ≡ first → now ≡ next_count later → now ≡ next_count first
next_since first later now same next = next ∙ ap next_count same
