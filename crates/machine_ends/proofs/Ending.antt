-- The faults of a machine's events, by what it keeps of its acts.
use Rattle.std.proofs.Common.{◌≡◌, inl, inr, ℕ, ◌<◌, true, false, List, length, Some, refl, ap, sym, subst, ◌∙◌}
use Rattle.ap_base.specs.declared.place.Place.{Place}
use Rattle.ap_base.specs.declared.reference.Ref.{Ref}
use Rattle.ap_base.specs.declared.reference.Item.{Item}
use Rattle.run_types.specs.declared.fault.RunFault.{RunFault}
use Rattle.run_types.specs.declared.fault.RunFault.TheVariants as fault
use Rattle.run_types.specs.declared.fault.Which.TheVariants as which
use Rattle.natives.specs.declared.requests.Request.{Request}
use Rattle.natives.specs.declared.requests.Reply.TheVariants as reply
use Rattle.run_history.specs.declared.act.Op.{Op}
use Rattle.run_history.specs.declared.act.Op.TheVariants as op
use Rattle.run_history.specs.Knowing.{Knowledge, owes_fence}
use Rattle.run_history.specs.Worlds.{World}
use Rattle.plain_model.specs.Limits.{words_left}
use Rattle.plain_model.specs.Steps.{Does, step}
use Rattle.plain_model.specs.Ends.{full, fault_of_store}
use Rattle.stop_theorem.specs.Layouts.{Layout}
use Rattle.shared_objects.specs.Plain.{plain_request}
use Rattle.shared_objects.specs.Worlds.{world_of}
use Rattle.run_forms.specs.Views.{ThreadFrames}
use Rattle.run_forms.specs.Standing.{IsAsked}
use Rattle.run_forms.specs.Ends.{IsEndedBy, MeetsNoFault}
use Rattle.run_forms.proofs.Visible.{is_outside}
use Rattle.twin_forms.specs.Table.{Entry}
use Rattle.machine_laws.proofs.Acts.{owes_some}
use Rattle.machine_laws.proofs.Asking.{stores-anyhow}
use Rattle.machine_laws.specs.Passed.{Doing}
use Rattle.machine_laws.specs.Passed.{Opening, Machine, known_in, roots_in, shown_in, doing_of, layout_in}
use Rattle.machine_laws.specs.Passed.{IsDoing, KeepsRun}
use Rattle.machine_laws.specs.Passed.{IsStoreOf, value_in}
use Rattle.machine_laws.specs.Frames.{Asks, IsReady, ReadyThreadsAskAlike, RunsAsPlain}
use Rattle.machine_ends.specs.Laws.{OwesFence, FullHistoriesEnd, StepsEnd, ImageFaultsEnd, FullLogsEnd, RacesEnd}
use Rattle.machine_ends.specs.Laws.{StepsMeetNoFault, FencesMeetNoFault, StoresMeetNoFault, EndsMeetNoFault}
use Rattle.machine_ends.specs.Stores.{IsFreeOp}
use Rattle.machine_ends.proofs.Faults.{MeetsNone, ShowsRun, step-ends, step-meets-none, store-ends, store-meets-none}
use Rattle.machine_ends.proofs.Faults.{end-meets-none}
use Rattle.machine_ends.proofs.Living.{asked_then, lives-asks}
use Rattle.machine_ends.proofs.Regions.{free-met, full-log-met, race-met, end-does}
use Rattle.machine_ends.proofs.Rooms.{full-history, image-fails, fence-meets-none}

-- ---- what is owed

module _ (known : Knowledge) (lay : Layout) (t : ℕ) where
  ready-paid : (d : Doing) → IsReady d → IsDoing known lay t d → owes_fence known.unfenced t ≡ false
  ready-paid d (inl nothing) is = (subst (IsDoing known lay t) nothing is).1
  ready-paid d (inr converting) is = (subst (IsDoing known lay t) converting is).1

  lagging-owes : (d : Doing) → OwesFence d → IsDoing known lay t d → owes_fence known.unfenced t ≡ true
  lagging-owes d (inl (line, writing)) is =
      let at = (subst (IsDoing known lay t) writing is).1 in owes_some known.unfenced t at.0 at.1
  lagging-owes d (inr fencing) is =
      let at = (subst (IsDoing known lay t) fencing is).1 in owes_some known.unfenced t at.0 at.1

shows : (o : Opening) (m : Machine) (es : List Entry) → KeepsRun o m es → (t : ℕ)
    → IsReady (doing_of m t) → ShowsRun o.launch m.acts (shown_in m) m.rest t
shows o m es run t ready = record {
  roots = roots_in o m;
  world = run.world.world;
  words = ap (λ (w : World). words_left o.launch.limits o.launch.opening w.heap) run.world.world
      ∙ sym run.world.words;
  paid = ready-paid (known_in o m) (layout_in o es) t (doing_of m t) ready (run.asked.doing t);
}

-- ---- faults

pub full-ends : FullHistoriesEnd
full-ends o m es threads run plain lines t fs lives enough =
    full-history o.launch m.acts lines t (asked_then o m threads plain lines t fs lives)
    (lives-asks o m threads plain lines t fs lives) enough

pub image-ends : ImageFaultsEnd
image-ends o m es threads run plain lines t fs lives room =
    image-fails o.launch m.acts lines t room (asked_then o m threads plain lines t fs lives)
    (lives-asks o m threads plain lines t fs lives)

pub steps-end : ReadyThreadsAskAlike → StepsEnd
steps-end law o m es threads run plain lines t fs request result now rest_now ready asks steps room =
    step-ends o.launch m.acts (shown_in m) m.rest lines t request
    (law o m es threads run plain t fs request ready asks) (shows o m es run t ready) room result now
    rest_now steps

-- ---- stores

-- a thread's request stores this
module _ (law : ReadyThreadsAskAlike) (o : Opening) (m : Machine) (es : List Entry)
    (threads : List ThreadFrames) (run : KeepsRun o m es) (plain : RunsAsPlain o m threads) (lines t : ℕ) (fs : ThreadFrames)
    (request : Request Ref Item) (place : Place) (item : Item) (ready : IsReady (doing_of m t))
    (asks : Asks o m threads t fs request) (store : IsStoreOf o m t request place item)
    (room : length m.acts < o.launch.limits.acts) where
  asked : IsAsked o.launch m.acts (shown_in m) m.rest t request
  asked = law o m es threads run plain t fs request ready asks

  here : ShowsRun o.launch m.acts (shown_in m) m.rest t
  here = shows o m es run t ready

  does : step o.launch.set (world_of here.roots (shown_in m) m.rest) t 1
      (plain_request (shown_in m).number request) ≡ Does (op.Stored place (value_in m item)) reply.Done
  does = stores-anyhow o.launch.set (shown_in m) m.rest t here.roots 1
      (plain_request (shown_in m).number request) place (value_in m item) store.asks

  ends-so : (f : RunFault) → is_outside f ≡ false
      → fault_of_store o.launch.set o.launch.opening o.launch.limits (known_in o m) t place (value_in m item)
      ≡ Some f
      → IsEndedBy o.launch lines m.acts t f
  ends-so f inside met =
      store-ends o.launch m.acts (shown_in m) m.rest lines t request asked here room place (value_in m item) f
      inside does met

  meets-none : MeetsNone o.launch m.acts t (op.Stored place (value_in m item))
      → MeetsNoFault o.launch lines m.acts t
  meets-none met =
      store-meets-none o.launch m.acts (shown_in m) m.rest lines t request asked here room place
      (value_in m item) does met

pub full-logs-end : ReadyThreadsAskAlike → FullLogsEnd
full-logs-end law o m es threads run plain lines t fs request place item ready asks store full_log room =
    ends-so law o m es threads run plain lines t fs request place item ready asks store room
    (full which.LogEntries 1 0) refl (full-log-met o m es run t place (value_in m item) full_log)

pub races-end : ReadyThreadsAskAlike → RacesEnd
races-end law o m es threads run plain lines t other fs request place item ready asks store guard another
    room =
    ends-so law o m es threads run plain lines t fs request place item ready asks store room
    (fault.RegionRace t other place) refl (race-met o m es run t place (value_in m item) other guard another)

-- ---- no fault

-- an operation that is free meets none
free-none : (o : Opening) (m : Machine) (es : List Entry) → KeepsRun o m es → (t : ℕ) (operation : Op)
    → IsFreeOp o m t operation → MeetsNone o.launch m.acts t operation
free-none o m es run t (op.Stored place value) free = free-met o m es run t place value free
free-none o m es run t operation free = tt

pub steps-meet-none : ReadyThreadsAskAlike → StepsMeetNoFault
steps-meet-none law o m es threads run plain lines t fs request operation r now rest_now ready asks steps
    free room =
    step-meets-none o.launch m.acts (shown_in m) m.rest lines t request
    (law o m es threads run plain t fs request ready asks) (shows o m es run t ready) room operation r now
    rest_now steps (free-none o m es run t operation free)

pub fences-meet-none : FencesMeetNoFault
fences-meet-none o m es threads run plain lines t owes room =
    fence-meets-none o.launch m.acts lines t room
    (lagging-owes (known_in o m) (layout_in o es) t (doing_of m t) owes (run.asked.doing t))

pub stores-meet-none : ReadyThreadsAskAlike → StoresMeetNoFault
stores-meet-none law o m es threads run plain lines t fs request place item ready asks store free
    room =
    meets-none law o m es threads run plain lines t fs request place item ready asks store room
    (free-met o m es run t place (value_in m item) free)

pub ends-meet-none : ReadyThreadsAskAlike → EndsMeetNoFault
ends-meet-none law o m es threads run plain lines t fs request asks ends room =
    let here = shows o m es run t (inl ends.doing) in
    end-meets-none o.launch m.acts (shown_in m) m.rest lines t request
    (law o m es threads run plain t fs request (inl ends.doing) asks) here room
    (end-does o m es run t request here.roots here.world ends)
