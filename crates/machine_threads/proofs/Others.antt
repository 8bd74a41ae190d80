-- An event of one thread leaves all others what the machine keeps of them.
use Rattle.std.proofs.Common.{◌≡◌, ◌≢◌, inl, inr, ℕ, List, [], ◌∷◌, ◌++◌, sym, ◌∙◌, ap, subst}
use Rattle.std.specs.Prelude.{Option, Some, None}
use Rattle.ap_base.specs.declared.place.Place.{Place}
use Rattle.ap_base.specs.declared.place.Place.TheVariants.{Static, Slot}
use Rattle.run_history.specs.Recorded.{Recorded}
use Rattle.run_history.specs.Knowing.{Knowledge, Pending, next_known, pending_of}
use Rattle.run_history.proofs.Grown.{known_after-append}
use Rattle.plain_model.specs.First.{first_known}
use Rattle.plain_model.specs.Runs.{request_after}
use Rattle.plain_model.proofs.Durable.{durable_stays}
use Rattle.plain_model.proofs.Visible.{may_act}
use Rattle.run_forms.specs.Views.{ThreadFrames}
use Rattle.run_forms.specs.Standing.{IsRun, Launch, known_at, plain_code}
use Rattle.region_log.specs.Log.{Log}
use Rattle.twin_forms.specs.Table.{Entry}
use Rattle.lasting_steps.specs.Asking.{AsksItsStore}
use Rattle.lasting_steps.proofs.Asking.{other_acts_keep_asking}
use Rattle.machine_ends.specs.Passed.{Doing}
use Rattle.machine_ends.specs.Passed.{Opening, Machine}
use Rattle.machine_ends.specs.Passed.{KeepsRun}
use Rattle.machine_ends.specs.Passed.{Happens, act_of}
use Rattle.machine_ends.proofs.Passed.{durable-kept, pending-kept}
use Rattle.machine_threads.specs.Claiming.{HasForwarded}
use Rattle.machine_threads.specs.Keeping.{IsToHoldDurable, IsUnbegun, KeepsThread, LagsByItsLog}
use Rattle.machine_threads.specs.Keeping.{LagsByItsStore}
use Rattle.machine_threads.specs.Keeping.{OthersKeepTheirs, OthersStayForwarded, OthersStayUnbegun}
use Rattle.machine_threads.proofs.Acts.{IsOf, adds, own, with_one}
use Rattle.machine_threads.proofs.Moved.{table-goes}
use Rattle.machine_threads.proofs.Parts.{doing-kept, log-kept}
use Rattle.machine_threads.proofs.Tables.{Goes}

-- ---- places that are to hold what is durable

pub holds-more : (known : Knowledge) (a : Recorded) (t : ℕ) (es es' : List Entry) (p : Place) → Goes t es es'
    → IsToHoldDurable known es p → IsToHoldDurable (next_known known a) es' p
holds-more known a t es es' (Static f) goes is = durable-kept known a (Static f) is
holds-more known a t es es' (Slot n i) goes (inl is) = inl (durable_stays known (a ∷ []) n is)
holds-more known a t es es' (Slot n i) goes (inr has) = inr (has.0, goes.copied n has.0 has.1)

pub holds-still : (known : Knowledge) (t : ℕ) (es es' : List Entry) (p : Place) → Goes t es es'
    → IsToHoldDurable known es p → IsToHoldDurable known es' p
holds-still known t es es' (Static f) goes is = is
holds-still known t es es' (Slot n i) goes (inl is) = inl is
holds-still known t es es' (Slot n i) goes (inr has) = inr (has.0, goes.copied n has.0 has.1)

-- ---- what is asked, after these acts

pub record AsksSo (launch : Launch) (acts : List Recorded) (es : List Entry) (u : ℕ) : Type 0 where
  pub about : AsksItsStore launch.set (known_at launch acts)
      (request_after launch.set launch.main launch.opening (plain_code launch) acts u) u
  pub holds : (p : Pending) → pending_of (known_at launch acts).asked u ≡ Some p
      → IsToHoldDurable (known_at launch acts) es p.place

module _ (launch : Launch) (acts : List Recorded) (t u : ℕ) (es es' : List Entry) (goes : Goes t es es')
    (other : u ≢ t) (so : AsksSo launch acts es u) where
  asks-still : AsksSo launch acts es' u
  asks-still = record {
    about = so.about;
    holds = λ p is. holds-still (known_at launch acts) t es es' p.place goes (so.holds p is);
  }

  asks-more : (a : Recorded) → a.act.thread ≡ t → IsRun launch (acts ++ a ∷ []) → AsksSo launch (acts ++ a ∷ []) es' u
  asks-more a own run =
      let known = known_at launch acts in
      let apart : a.act.thread ≢ u = λ same. other (sym same ∙ own) in
      let beside : u ≢ a.act.thread = λ same. apart (sym same) in
      let next : known_at launch (acts ++ a ∷ []) ≡ next_known known a
      = known_after-append (first_known launch.set launch.opening) acts a in
      let code = plain_code launch in record {
        about = other_acts_keep_asking launch.set launch.main launch.opening code acts a u
            (may_act launch.set launch.main launch.opening code acts a [] run) apart so.about;
        holds = λ p is. (
            let before : pending_of known.asked u ≡ Some p
            = sym (pending-kept known a u beside) ∙ subst (λ (k : Knowledge). pending_of k.asked u ≡ Some p) next is in
            subst (λ (k : Knowledge). IsToHoldDurable k es' p.place) (sym next)
            (holds-more known a t es es' p.place goes (so.holds p before)));
      }

  asks-by : (at : Option Recorded) → IsOf t at → IsRun launch (with_one acts at) → AsksSo launch (with_one acts at) es' u
  asks-by None own run = asks-still
  asks-by (Some a) own run = asks-more a own run

-- ---- another thread

module _ (o : Opening) (t u : ℕ) (m m' : Machine) (es es' : List Entry) (k : KeepsRun o m es)
    (run : IsRun o.launch m'.acts) (e : Happens o t m es m' es') (other : u ≢ t) where
  goes : Goes t es es'
  goes = table-goes o t m m' es es' k e

  asks-after : AsksSo o.launch m.acts es u → AsksSo o.launch m'.acts es' u
  asks-after so =
      let acts : m'.acts ≡ with_one m.acts (act_of e) = adds o t m m' es es' e in
      subst (λ done. AsksSo o.launch done es' u) (sym acts)
      (asks-by o.launch m.acts t u es es' goes other so (act_of e) (own o t m m' es es' e)
      (subst (IsRun o.launch) acts run))

  pub keeps : (fs : ThreadFrames) → KeepsThread o m es u fs → KeepsThread o m' es' u fs
  keeps fs old =
      let asks = asks-after (record { about = old.about; holds = old.holds }) in record {
        about = asks.about;
        holds = asks.holds;
        lags = subst (λ (d : Doing). LagsByItsStore o.launch d fs) (sym (doing-kept o t u other m m' es es' e)) old.lags;
        logs = subst (λ (log : Log). LagsByItsLog o.launch log.underway fs) (sym (log-kept o t u other m m' es es' e))
            old.logs;
      }

  pub unbegun : IsUnbegun m u → IsUnbegun m' u
  unbegun old = record {
    doing = doing-kept o t u other m m' es es' e ∙ old.doing;
    log = ap (λ (log : Log). log.underway) (log-kept o t u other m m' es es' e) ∙ old.log;
  }

  pub forwarded : HasForwarded es u → HasForwarded es' u
  forwarded old n claimed =
      let before = goes.others u n other claimed in before.1 ∙ old n before.0

pub others_keep_theirs : OthersKeepTheirs
others_keep_theirs o t u m m' es es' k run e other fs old = keeps o t u m m' es es' k run e other fs old

pub others_stay_unbegun : OthersStayUnbegun
others_stay_unbegun o t u m m' es es' k run e other old = unbegun o t u m m' es es' k run e other old

pub others_stay_forwarded : OthersStayForwarded
others_stay_forwarded o t u m m' es es' k run e other old = forwarded o t u m m' es es' k run e other old
