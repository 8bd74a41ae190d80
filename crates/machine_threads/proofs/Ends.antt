-- Where each live thread waits in the plain world, the plain run is stuck.
use Rattle.std.proofs.Common.{◌≡◌, ℕ, zero, suc, ◌+◌, ◌<◌, true, length, refl, sym, ◌∙◌, ap, arith, ◌||◌, ◌&&◌, not}
use Rattle.std.proofs.Common.{if◌then◌else◌}
use Rattle.std.specs.Prelude.{Option, Some, None, is_some, IsSome, slice_get}
use Rattle.run_types.specs.declared.wait.On.{On}
use Rattle.run_types.specs.declared.limits.Limits.{Limits}
use Rattle.run_types.specs.declared.fault.RunFault.{RunFault}
use Rattle.run_types.specs.declared.fault.RunFault.TheVariants as fault
use Rattle.graph_model.specs.declared.types.Graph.{Graph}
use Rattle.run_history.specs.Knowing.{Knowledge}
use Rattle.plain_model.specs.Facts.{SetFacts}
use Rattle.plain_model.specs.Limits.{most_threads}
use Rattle.plain_model.specs.Requests.{PlainRequest}
use Rattle.plain_model.specs.Ends.{waits_of, waits_from, all_wait}
use Rattle.convert_waits.specs.Rows.{Why, on_of}
use Rattle.convert_waits.specs.Rows.Why.{Plain}
use Rattle.convert_waits.proofs.Full.{full_rows_wait_plainly}
use Rattle.convert_waits.proofs.Stuck.{stuck_runs_wait_plainly}
use Rattle.machine_threads.specs.Plain.{asks_some, EndsStuck, FullRowsEndRuns, FullRowsTellWaits, StuckRunsEnd}
use Rattle.machine_threads.specs.Plain.{StuckRunsTellWaits}

pub zero-plus : (u : ℕ) → 0 + u ≡ u
zero-plus u = omega arith

pub length-waits : (waits : ℕ → Option On) (first count : ℕ) → length (waits_from waits first count) ≡ count
length-waits waits first zero = refl
length-waits waits first (suc n) = ap suc (length-waits waits (suc first) n)

pub waits-get : (waits : ℕ → Option On) (first count t : ℕ) → t < count
    → slice_get (waits_from waits first count) t ≡ Some (waits (first + t))
waits-get waits first zero t below = absurd (omega (arith, below))
waits-get waits first (suc n) zero below = let same : first ≡ first + 0 = omega arith in ap (λ k. Some (waits k)) same
waits-get waits first (suc n) (suc t) below =
    let same : suc first + t ≡ first + suc t = omega arith in
    waits-get waits (suc first) n t (omega (arith, below)) ∙ ap (λ k. Some (waits k)) same

one-waits : (r : Option PlainRequest) (w : Option On) → (IsSome r → IsSome w) → (not (is_some r) || is_some w) ≡ true
one-waits None w waits = refl
one-waits (Some request) w waits = waits refl

all-waiting : (requests : ℕ → Option PlainRequest) (waits : ℕ → Option On)
    → ((t : ℕ) → IsSome (requests t) → IsSome (waits t)) → (n : ℕ)
    → all_wait requests waits n ≡ true
all-waiting requests waits each zero = refl
all-waiting requests waits each (suc t) =
    ap (λ b. b && all_wait requests waits t) (one-waits (requests t) (waits t) (each t)) ∙ all-waiting requests waits each t

module _ (set : SetFacts) (opening : Graph) (limits : Limits) (known : Knowledge) (requests : ℕ → Option PlainRequest) where
  abbrev waits : ℕ → Option On
  waits = waits_of set known requests

  abbrev found : RunFault
  found = fault.Stuck (waits_from waits 0 most_threads)

  pub ends-stuck : (t : ℕ) → IsSome (requests t) → ((u : ℕ) → IsSome (requests u) → IsSome (waits u))
      → EndsStuck set opening limits known requests
  ends-stuck t asks each = record {
    stuck = record {
      lives = (t, asks);
      all_wait = each;
      named = waits_from waits 0 most_threads;
      sixty_four = length-waits waits 0 most_threads;
      told = λ u below. waits-get waits 0 most_threads u below ∙ ap (λ k. Some (waits k)) (zero-plus u);
      names = refl;
    };
    fault_is = ap (λ b. if b then Some found else None) (all-waiting requests waits each (length known.world.threads));
  }

some-of : (at : Option On) (o : On) → at ≡ Some o → IsSome at
some-of at o is = rw is refl

pub full_rows_end_runs : FullRowsEndRuns
full_rows_end_runs set opening limits known requests s es waited t row full asks =
    let plain = waits_of set known requests in
    ends-stuck set opening limits known requests t asks (λ u live.
    let w = full_rows_wait_plainly plain (asks_some requests) s es waited row full u live in
    some-of (plain u) w.0 w.2)

recorded-plain : (at : Option Why) (o : On) → at ≡ Some (Plain o) → (elim at [ None ↦ None | Some w ↦ Some (on_of w) ]) ≡ Some o
recorded-plain at o is = rw is refl

pub full_rows_tell_waits : FullRowsTellWaits
full_rows_tell_waits set known requests s es waited t row full asks =
    let plain = waits_of set known requests in
    let w = full_rows_wait_plainly plain (asks_some requests) s es waited row full t asks in
    recorded-plain (waited t) w.0 w.1 ∙ sym w.2

pub stuck_runs_end : StuckRunsEnd
stuck_runs_end set opening limits known requests s es recorded t agrees is stuck asks =
    let plain = waits_of set known requests in
    ends-stuck set opening limits known requests t asks (λ u live.
    let w = stuck_runs_wait_plainly plain (asks_some requests) s es recorded agrees is stuck u live in
    some-of (plain u) w.0 w.3)

pub stuck_runs_tell_waits : StuckRunsTellWaits
stuck_runs_tell_waits set known requests s es recorded t agrees is stuck asks =
    let plain = waits_of set known requests in
    let w = stuck_runs_wait_plainly plain (asks_some requests) s es recorded agrees is stuck t asks in
    w.1 ∙ sym w.3
