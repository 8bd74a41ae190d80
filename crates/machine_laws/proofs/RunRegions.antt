-- Events of regions: the calls of a log, and the acts of a region.
use Rattle.std.proofs.Common.{◌≡◌, inl, ℕ, List, [], refl, ap, sym, subst, ◌∙◌, None}
use Rattle.ap_base.specs.declared.reference.Ref.{Ref}
use Rattle.ap_base.specs.declared.reference.Item.{Item}
use Rattle.ap_base.specs.declared.place.Place.{Place}
use Rattle.natives.specs.declared.requests.Request.{Request}
use Rattle.natives.specs.declared.requests.Request.TheVariants as ask
use Rattle.natives.specs.declared.requests.Reply.{Reply}
use Rattle.natives.specs.declared.requests.Reply.TheVariants as reply
use Rattle.run_types.specs.declared.resolved.At.{At}
use Rattle.run_history.specs.declared.act.Op.TheVariants as op
use Rattle.run_history.specs.Recorded.{Recorded}
use Rattle.plain_model.specs.Runs.{MayAct, request_after, wants_of}
use Rattle.run_forms.specs.Views.{ThreadFrames}
use Rattle.run_forms.specs.Standing.{known_at, plain_code}
use Rattle.run_forms.specs.Laws.{ActsGoOn, MovesStandForTheRun, ThreadsAskAlike, answered_threads}
use Rattle.twin_forms.specs.Table.{Entry}
use Rattle.twin_forms.specs.Sights.{Twin}
use Rattle.region_log.specs.declared.entry.Entry.{Entry as LogEntry}
use Rattle.region_log.specs.Log.{Log}
use Rattle.machine_laws.specs.AskLaws.{MayCome, asked_by, ActsMayCome}
use Rattle.machine_forms.specs.declared.doing.Doing.TheVariants.{Nothing}
use Rattle.machine_forms.specs.Machines.{Opening, Machine, shown_in, doing_of}
use Rattle.machine_forms.specs.Keeping.{KeepsRun}
use Rattle.machine_forms.specs.Events.{BeginsRegion, ClosesRegion, EndsByAct, GuardsPlace, LeavesLog, StoresLogged, act_in}
use Rattle.machine_forms.specs.Events.{at_once, emptied, value_in, with_closing, with_guarded, with_logged, RegionStep}
use Rattle.machine_laws.proofs.Logging.{GoesOn, LogGoesOn}
use Rattle.machine_laws.proofs.HeapRegions.{closing_goes_on, ending_goes_on, left_goes_on, logged_goes_on}
use Rattle.machine_forms.specs.Events as step
use Rattle.machine_laws.specs.Frames.{Asks, IsReady, RunsAsPlain, all_acted, AsksIts, region_frames}
use Rattle.machine_laws.proofs.RunActing.{answers, free-ready}
use Rattle.machine_laws.proofs.Going.{moved}
use Rattle.machine_laws.proofs.Lagging.{about-same}
use Rattle.machine_laws.proofs.Persisting.{persisted, ready-ask}
use Rattle.machine_forms.specs.Happening.{region, region_request}

-- ---- calls of a log

-- No object moves, and nobody acts.
logged-over : (law : MovesStandForTheRun) (o : Opening) (m : Machine) (es : List Entry)
    (threads : List ThreadFrames) → KeepsRun o m es → RunsAsPlain o m threads → (twin : Twin) (t : ℕ)
    (log' : Log) → LogGoesOn o m es t log' twin → RunsAsPlain o (with_logged m twin t log') threads
logged-over law o m es threads run plain twin t log' goes =
    moved law o m (with_logged m twin t log') es es threads run plain (record {
      acts = refl;
      doing = refl;
      move = goes.move;
      world = goes.kept.1;
    })

-- ---- who asks the end of a region

ends-ask : (o : Opening) (m : Machine) (twin : Twin) (t : ℕ) (request : Request Ref Item) {log' : Log}
    → LeavesLog o m twin t request log' → (from : At) × (request ≡ ask.End from)
ends-ask o m twin t request (emptied log' e) = e.calls.asks.is_end
ends-ask o m twin t request (at_once same asks idle ends) = asks.is_end

-- An end names no object: it asks the same wherever these lie.
same-asked : (m m' : Machine) (request : Request Ref Item) → (from : At) × (request ≡ ask.End from)
    → asked_by m request ≡ asked_by m' request
same-asked m m' request is = ap (asked_by m) is.1 ∙ sym (ap (asked_by m') is.1)

-- ---- acts of a region

module _ (may : ActsMayCome) (law : ActsGoOn) (same : MovesStandForTheRun) (alike : ThreadsAskAlike)
    (o : Opening) (m : Machine) (es : List Entry) (threads : List ThreadFrames) (run : KeepsRun o m es)
    (plain : RunsAsPlain o m threads) (t : ℕ) (fs : ThreadFrames) (request : Request Ref Item)
    (asks : Asks o m threads t fs request) where
  -- an act that may come once the thread has asked this may come in the plain run
  asked-act : IsReady (doing_of m t) → (act : Recorded) → MayCome o m (asked_by m request) act
      → MayAct o.launch.set (known_at o.launch m.acts)
      (wants_of o.launch.set o.launch.main o.launch.opening (plain_code o.launch) m.acts)
      (request_after o.launch.set o.launch.main o.launch.opening (plain_code o.launch) m.acts t) act
  asked-act idle act came =
      let asked = ready-ask alike o m es threads run plain t fs request idle asks in
      subst (λ q. MayAct o.launch.set (known_at o.launch m.acts)
      (wants_of o.launch.set o.launch.main o.launch.opening (plain_code o.launch) m.acts) q act)
      (sym asked.plain) came

  guarded-leaves : (place : Place) (item : Item) (e : LogEntry) → GuardsPlace o m es t request place item e
      → RunsAsPlain o (with_guarded m t place e) threads
  guarded-leaves place item e g =
      let act = act_in m t (op.Guarded place) [] in record {
        stands = persisted o.launch m.acts (shown_in m) m.rest (all_acted o.launch m.doing threads)
            plain.stands act refl
            (asked-act (free-ready o m es t (doing_of m t) g.doing) act
            (may o t m _ es _ run (region _ (step.guarded request place item e g)) None));
        begun = plain.begun;
      }

  closing-leaves : (twin : Twin) (log' : Log) → ClosesRegion o m twin t request log'
      → RunsAsPlain o (with_closing m twin t log') threads
  closing-leaves twin log' c =
      let over = with_logged m twin t log' in
      let act = act_in over t op.Closing [] in
      let on = logged-over same o m es threads run plain twin t log'
      (closing_goes_on o m es run twin t request log' c) in record {
        stands = persisted o.launch m.acts (shown_in over) m.rest (all_acted o.launch m.doing threads)
            on.stands act refl
            (asked-act (inl c.calls.asks.doing) act (may o t m _ es _ run (region _ (step.closing twin request log' c)) None));
        begun = on.begun;
      }

  begins-answer : (m' : Machine) (r : Reply Ref Item) → BeginsRegion o m m' es t request r
      → RunsAsPlain o m' (answered_threads o.launch threads t fs r [])
  begins-answer m' r b =
      answers law o m m' es threads run.world.launched plain t fs request op.Begin r asks b.does
      (may o t m _ es _ run (region m' (step.begun m' request r b)) None) (doing_of m t)
      (free-ready o m es t (doing_of m t) b.does.doing) (b.doing ∙ sym (about-same m.doing t)) [] refl

  stored-answers : (m' : Machine) (place : Place) (item : Item) → StoresLogged o m m' es t request place item
      → RunsAsPlain o m' (answered_threads o.launch threads t fs reply.Done [])
  stored-answers m' place item s =
      answers law o m m' es threads run.world.launched plain t fs request (op.Stored place (value_in m item))
      reply.Done asks s.does (may o t m _ es _ run (region m' (step.stored m' request place item s)) None) Nothing (inl refl) s.doing []
      refl

  ends-answer : (m' : Machine) (r : Reply Ref Item) → EndsByAct o m m' es t request r
      → RunsAsPlain o m' (answered_threads o.launch threads t fs r [])
  ends-answer m' r e =
      let over = with_logged m e.twin t e.log in
      let on = logged-over same o m es threads run plain e.twin t e.log
      (left_goes_on o m es run e.twin t request e.leaves) in
      let came = subst (λ q. MayCome o m q (act_in over t op.End []))
      (same-asked m over request (ends-ask o m e.twin t request e.leaves))
      (may o t m _ es _ run (region m' (step.ended m' request r e)) None) in
      answers law o over m' es threads run.world.launched on t fs request op.End r asks e.does came
      (doing_of m t) (free-ready o over es t (doing_of m t) e.does.doing)
      (e.doing ∙ sym (about-same m.doing t)) [] refl

-- ---- all of them

pub regions-go-on : ActsMayCome → ActsGoOn → MovesStandForTheRun → ThreadsAskAlike → (o : Opening) (t : ℕ)
    (m m' : Machine) (es : List Entry) (threads : List ThreadFrames) → KeepsRun o m es → RunsAsPlain o m threads
    → (e : RegionStep o t m es m') (fs : ThreadFrames) → AsksIts o m threads t fs (region_request e)
    → RunsAsPlain o m' (region_frames e threads fs)
regions-go-on may law same alike o t m _ es threads run plain (step.begun m' request r b) fs asks =
    begins-answer may law same alike o m es threads run plain t fs request asks m' r b
regions-go-on may law same alike o t m _ es threads run plain (step.guarded request place item e g) fs asks =
    guarded-leaves may law same alike o m es threads run plain t fs request asks place item e g
regions-go-on may law same alike o t m _ es threads run plain (step.logged twin log' w) fs asks =
    logged-over same o m es threads run plain twin t log' (logged_goes_on o m es run twin t log' w)
regions-go-on may law same alike o t m _ es threads run plain (step.stored m' request place item s) fs asks =
    stored-answers may law same alike o m es threads run plain t fs request asks m' place item s
regions-go-on may law same alike o t m _ es threads run plain (step.ending twin request log' e) fs asks =
    logged-over same o m es threads run plain twin t log' (ending_goes_on o m es run twin t request log' e)
regions-go-on may law same alike o t m _ es threads run plain (step.closing twin request log' c) fs asks =
    closing-leaves may law same alike o m es threads run plain t fs request asks twin log' c
regions-go-on may law same alike o t m _ es threads run plain (step.ended m' request r e) fs asks =
    ends-answer may law same alike o m es threads run plain t fs request asks m' r e
