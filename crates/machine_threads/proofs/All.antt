-- What the thread of an event keeps and what it leaves of all others is what all keep.
use Rattle.std.proofs.Common.{◌≡◌, ◌≢◌, inl, inr, ℕ, zero, suc, ◌<◌, ◌≤◌, List, [], ◌∷◌, length, refl, sym, ◌∙◌}
use Rattle.std.proofs.Common.{subst, arith}
use Rattle.std.specs.Prelude.{Option, Some, slice_get, slice_set}
use Rattle.std.proofs.lemmas.Bool.Decides.{eqb_tells}
use Rattle.std.proofs.lemmas.List.{length-append, length-set}
use Rattle.std.proofs.lemmas.Option.{slice_get_within}
use Rattle.natives.specs.declared.requests.Reply.{Reply}
use Rattle.ap_base.specs.declared.reference.Ref.{Ref}
use Rattle.ap_base.specs.declared.reference.Item.{Item}
use Rattle.twin_forms.specs.Table.{Entry}
use Rattle.twin_forms.proofs.Led.{below_or_not}
use Rattle.run_forms.specs.Views.{ThreadFrames}
use Rattle.frames.specs.Turns.{answer, turn}
use Rattle.run_forms.specs.Standing.{IsRun, Launch, setting_of}
use Rattle.run_forms.specs.Laws.{answered_threads}
use Rattle.machine_ends.specs.Passed.{Opening, Machine}
use Rattle.machine_ends.specs.Passed.{KeepsRun}
use Rattle.machine_ends.specs.Passed.{RegionStep}
use Rattle.machine_ends.specs.RegionSteps as step
use Rattle.machine_ends.specs.Passed.{Happens}
use Rattle.machine_ends.specs.Passed.{called, written, fenced, converted, failed, begun, sealed, asked, acted, stored}
use Rattle.machine_ends.specs.Passed.{region}
use Rattle.machine_ends.specs.Passed.{frames_by, region_frames}
use Rattle.machine_threads.specs.Keeping.{AllKeep, EventsKeepAll, IsUnbegun, KeepsThread}
use Rattle.machine_threads.proofs.Asking.{event-there}
use Rattle.machine_threads.proofs.Beginning.{beginners_keep_theirs}
use Rattle.machine_threads.proofs.Others.{keeps, unbegun}

-- ---- no thread's frames are lost

module _ (o : Opening) (t : ℕ) (threads : List ThreadFrames) where
  set-long : (fs : ThreadFrames) → length threads ≤ length (slice_set threads t fs)
  set-long fs = let same = length-set threads t fs in omega (arith, same)

  answered-long : (launch : Launch) (fs : ThreadFrames) (r : Reply Ref Item) (now : List ThreadFrames)
      → length threads ≤ length (answered_threads launch threads t fs r now)
  answered-long launch fs r now =
      let answered : ThreadFrames = answer (setting_of launch) (turn (setting_of launch) fs).frames r in
      let same = length-set threads t answered in
      let more = length-append (slice_set threads t answered) now in
      omega (arith, same, more)

  region-long : (m m' : Machine) (es : List Entry) (e : RegionStep o t m es m') (fs : ThreadFrames)
      → length threads ≤ length (region_frames e threads fs)
  region-long m _ es (step.begun m' request r e) fs = answered-long o.launch fs r []
  region-long m _ es (step.guarded request place item entry e) fs = omega arith
  region-long m _ es (step.logged twin log e) fs = omega arith
  region-long m _ es (step.stored m' request place item e) fs = answered-long o.launch fs _ []
  region-long m _ es (step.ending twin request log e) fs = omega arith
  region-long m _ es (step.closing twin request log e) fs = omega arith
  region-long m _ es (step.ended m' request r e) fs = answered-long o.launch fs r []

  event-long : (m m' : Machine) (es es' : List Entry) (e : Happens o t m es m' es') (fs : ThreadFrames)
      (now : List ThreadFrames) → length threads ≤ length (frames_by e threads fs now)
  event-long m _ es _ (called twin e) fs now = omega arith
  event-long m _ es _ (written twin e) fs now = omega arith
  event-long m _ es _ (fenced twin e) fs now = set-long _
  event-long m _ es _ (converted m' answer e no_seal) fs now = omega arith
  event-long m _ es _ (failed m' e) fs now = omega arith
  event-long m _ es _ (begun m' es' n word answer e) fs now = omega arith
  event-long m _ es _ (sealed m' set named e) fs now = omega arith
  event-long m _ es _ (asked request place item e) fs now = omega arith
  event-long m _ es _ (acted m' request operation r e) fs now = answered-long o.launch fs r now
  event-long m _ es _ (stored m' request place item e) fs now = omega arith
  event-long m _ es _ (region m' e) fs now = region-long m m' es e fs

-- ---- all

there-of : (threads : List ThreadFrames) (u : ℕ) → u < length threads
    → (gs : ThreadFrames) × (slice_get threads u ≡ Some gs)
there-of [] u below = absurd (omega (arith, below))
there-of (fs ∷ threads) zero below = (fs, refl)
there-of (fs ∷ threads) (suc u) below = there-of threads u (omega (arith, below))

some-same : (gs hs : ThreadFrames) → ◌≡◌ {A = Option ThreadFrames} (Some gs) (Some hs) → gs ≡ hs
some-same gs hs same = cc

module _ (o : Opening) (t : ℕ) (m m' : Machine) (es es' : List Entry) (threads : List ThreadFrames) (fs : ThreadFrames)
    (now : List ThreadFrames) (k : KeepsRun o m es) (k' : KeepsRun o m' es') (run : IsRun o.launch m'.acts)
    (e : Happens o t m es m' es') (here : slice_get threads t ≡ Some fs) (all : AllKeep o m es threads) where
  abbrev frames : List ThreadFrames
  frames = frames_by e threads fs now

  other-keeps : (u : ℕ) (gs : ThreadFrames) → u ≢ t → slice_get frames u ≡ Some gs → KeepsThread o m' es' u gs
  other-keeps u gs other is = elim (below_or_not u (length threads)) [
    | inl below ↦
        (let old = there-of threads u below in
        let still = event-there o t u other threads old.0 old.1 m m' es es' e fs now in
        let same : old.0 ≡ gs = some-same old.0 gs (sym still ∙ is) in
        subst (KeepsThread o m' es' u) same
        (keeps o t u m m' es es' k run e other old.0 (all.each u old.0 old.1)))
    | inr past ↦ beginners_keep_theirs o u m' es' gs k' (unbegun o t u m m' es es' k run e other (all.unbegun u past))
  ]

  other-unbegun : (u : ℕ) → length frames ≤ u → IsUnbegun m' u
  other-unbegun u past =
      let long = event-long o t threads m m' es es' e fs now in
      let within = slice_get_within threads t fs here in
      unbegun o t u m m' es es' k run e (λ same. omega (arith, same, within, long, past))
      (all.unbegun u (omega (arith, long, past)))

pub events_keep_all : EventsKeepAll
events_keep_all o t m m' es es' threads fs now k k' run e here all mine = record {
  each = λ u gs is. elim (eqb_tells u t) [
    | inl same ↦ subst (λ x. KeepsThread o m' es' x gs) (sym same.1)
        (mine gs (subst (λ x. slice_get (frames_by e threads fs now) x ≡ Some gs) same.1 is))
    | inr other ↦ other-keeps o t m m' es es' threads fs now k k' run e here all u gs other.1 is
  ];
  unbegun = other-unbegun o t m m' es es' threads fs now k k' run e here all;
}
