-- An event of a thread leaves the thread itself what it has asked: until that is stored it asks the same store, at a place that
-- is to hold what is durable.
use Rattle.std.proofs.Common.{◌≡◌, ℕ, ◌<◌, true, false, List, [], ◌∷◌, ◌++◌, length, refl, sym, ◌∙◌, ap, subst}
use Rattle.std.specs.Prelude.{Option, Some, None}
use Rattle.ap_base.specs.declared.place.Place.{Place}
use Rattle.ap_base.specs.declared.reference.Ref.{Ref}
use Rattle.ap_base.specs.declared.reference.Item.{Item}
use Rattle.ap_base.specs.declared.reference.Item.TheVariants.{Int as IntItem, Long as LongItem, Ref as RefItem}
use Rattle.graph_model.specs.declared.types.Value.{Value}
use Rattle.graph_model.specs.declared.types.Value.TheVariants.{Obj as Object}
use Rattle.run_history.specs.declared.act.Op.{Op}
use Rattle.run_history.specs.declared.act.Op.TheVariants as op
use Rattle.run_history.specs.Recorded.{Recorded}
use Rattle.run_history.specs.Knowing.{Knowledge, Pending, next_known, pending_of}
use Rattle.run_history.proofs.Grown.{known_after-append}
use Rattle.plain_model.specs.First.{first_known}
use Rattle.plain_model.proofs.Visible.{may_act}
use Rattle.run_forms.specs.Views.{ThreadFrames}
use Rattle.run_forms.specs.Standing.{IsRun, Launch, known_at, plain_code}
use Rattle.run_forms.proofs.Visible.{step-visible}
use Rattle.natives.specs.declared.requests.Request.{Request}
use Rattle.natives.specs.declared.requests.Reply.{Reply}
use Rattle.plain_model.specs.Codes.{is_persistent, taken_by}
use Rattle.shared_objects.specs.Plain.{plain_request, plain_reply}
use Rattle.shared_objects.specs.Worlds.{world_of}
use Rattle.shared_objects.specs.Shown.{item_value, number_value}
use Rattle.twin_forms.specs.Table.{Entry}
use Rattle.twin_forms.specs.Sights.{view_of}
use Rattle.machine_ends.proofs.Passed.{number_named}
use Rattle.lasting_steps.specs.Asking.{AsksThere}
use Rattle.lasting_steps.proofs.Asking.{acts_keep_asking}
use Rattle.machine_ends.specs.Passed.{Opening, Machine, known_in, layout_in, shown_in}
use Rattle.machine_ends.specs.Passed.{IsDoing, KeepsRun}
use Rattle.machine_ends.specs.Passed.{AsksFor, DoesRequest, RegionStep, act_in, value_in}
use Rattle.machine_ends.specs.RegionSteps as step
use Rattle.machine_ends.specs.Passed.{Happens, act_of, region_act}
use Rattle.machine_ends.specs.Passed.{called, written, fenced, converted, failed, begun, sealed, asked, acted, stored, region}
use Rattle.machine_ends.proofs.Passed.{asked_after, asked-next, pending-own, pending-without_own}
use Rattle.machine_ends.proofs.Passed.{lies, objects_many}
use Rattle.machine_threads.specs.Keeping.{AsksToHold, IsToHoldDurable, KeepsThread, OwnersKeepTheirs}
use Rattle.machine_threads.proofs.Acts.{IsOf, adds, own, with_one}
use Rattle.machine_threads.proofs.Moved.{table-goes}
use Rattle.machine_threads.proofs.Others.{AsksSo, holds-more, holds-still}
use Rattle.machine_threads.proofs.Tables.{Goes, same-goes}

-- ---- acts that ask nothing

abbrev IsNoAsk : Op → Type 0
IsNoAsk (op.Asked place value) = ⊥
IsNoAsk o = Unit {0}

abbrev AsksNone : Option Recorded → Type 0
AsksNone None = Unit {0}
AsksNone (Some a) = IsNoAsk a.act.op

visible-asks : (o : Op) → is_persistent o ≡ false → IsNoAsk o
visible-asks (op.Asked place value) e = absurd (let no = e in cc)
visible-asks o e = tt

-- what is pending then was pending
still-pending : (ps : List Pending) (t : ℕ) (o : Op) (p : Pending) → IsNoAsk o
    → pending_of (asked_after ps t o) t ≡ Some p → pending_of ps t ≡ Some p
still-pending ps t (op.Asked place value) p none is = absurd none
still-pending ps t (op.Stored place value) p none is =
    absurd (let gone = pending-without_own ps t in let no : ◌≡◌ {A = Option Pending} None (Some p) = sym gone ∙ is in cc)
still-pending ps t o p none is = is

module _ (launch : Launch) (acts : List Recorded) (t : ℕ) (es es' : List Entry) (goes : Goes t es es')
    (so : AsksSo launch acts es t) where
  still : AsksSo launch acts es' t
  still = record {
    about = so.about;
    holds = λ p is. holds-still (known_at launch acts) t es es' p.place goes (so.holds p is);
  }

  more : (a : Recorded) → a.act.thread ≡ t → IsNoAsk a.act.op → IsRun launch (acts ++ a ∷ [])
      → AsksSo launch (acts ++ a ∷ []) es' t
  more a own none run =
      let known = known_at launch acts in
      let next : known_at launch (acts ++ a ∷ []) ≡ next_known known a
      = known_after-append (first_known launch.set launch.opening) acts a in
      let code = plain_code launch in record {
        about = acts_keep_asking launch.set launch.main launch.opening code acts a t
            (may_act launch.set launch.main launch.opening code acts a [] run)
            (λ place n is. absurd (subst IsNoAsk is none)) so.about;
        holds = λ p is. (
            let now : pending_of (next_known known a).asked t ≡ Some p
            = subst (λ (k : Knowledge). pending_of k.asked t ≡ Some p) next is in
            let asked : pending_of (asked_after known.asked a.act.thread a.act.op) t ≡ Some p
            = sym (ap (λ (ps : List Pending). pending_of ps t) (asked-next known a)) ∙ now in
            let before : pending_of known.asked t ≡ Some p = still-pending known.asked t a.act.op p none
            (subst (λ u. pending_of (asked_after known.asked u a.act.op) t ≡ Some p) own asked) in
            subst (λ (k : Knowledge). IsToHoldDurable k es' p.place) (sym next)
            (holds-more known a t es es' p.place goes (so.holds p before)));
      }

  by : (at : Option Recorded) → IsOf t at → AsksNone at → IsRun launch (with_one acts at)
      → AsksSo launch (with_one acts at) es' t
  by None own none run = still
  by (Some a) own none run = more a own none run

-- ---- what is asked

module _ (o : Opening) (t : ℕ) (m : Machine) (es : List Entry) (k : KeepsRun o m es) (request : Request Ref Item)
    (place : Place) (item : Item) (e : AsksFor o m es t request place item) where
  abbrev asked_act : Recorded
  asked_act = act_in m t (op.Asked place (value_in m item)) []

  abbrev known : Knowledge
  known = known_at o.launch m.acts

  -- nothing is asked before it
  none-asked : pending_of known.asked t ≡ None
  none-asked = (subst (IsDoing (known_in o m) (layout_in o es) t) e.doing (k.asked.doing t)).0

  some-number : (x : Option ℕ) (n : ℕ) → number_value x ≡ Object n → x ≡ Some n
  some-number None n is = absurd (let no = is in cc)
  some-number (Some i) n is = cc

  named : (x : Item) (n : ℕ) → item_value (shown_in m).number x ≡ Object n → n < length es
  named (IntItem i) n is = absurd (let no = is in cc)
  named (LongItem i) n is = absurd (let no = is in cc)
  named (RefItem r) n is =
      (number_named (view_of m.spaces.twin) es n r (lies o m es k) (some-number ((shown_in m).number r) n is)).0

  there : AsksThere known asked_act
  there at n is =
      let value : value_in m item ≡ Object n = cc in
      subst (λ k. n < k) (sym (objects_many o m es k)) (named item n value)

  module _ (run : IsRun o.launch (m.acts ++ asked_act ∷ [])) (hold : IsToHoldDurable (known_in o m) es place)
      (so : AsksSo o.launch m.acts es t) where
    next : known_at o.launch (m.acts ++ asked_act ∷ []) ≡ next_known known asked_act
    next = known_after-append (first_known o.launch.set o.launch.opening) m.acts asked_act

    abbrev now : Pending
    now = record { thread = t; place = place; value = value_in m item }

    pending-now : pending_of (next_known known asked_act).asked t ≡ Some now
    pending-now = ap (λ (ps : List Pending). pending_of ps t) (asked-next known asked_act)
        ∙ pending-own known.asked now t refl none-asked

    asked-so : AsksSo o.launch (m.acts ++ asked_act ∷ []) es t
    asked-so = record {
      about = acts_keep_asking o.launch.set o.launch.main o.launch.opening (plain_code o.launch) m.acts asked_act t
          (may_act o.launch.set o.launch.main o.launch.opening (plain_code o.launch) m.acts asked_act [] run) there
          so.about;
      holds = λ p is. (
          let it : ◌≡◌ {A = Option Pending} (Some now) (Some p)
          = sym pending-now ∙ subst (λ (k : Knowledge). pending_of k.asked t ≡ Some p) next is in
          let same : now ≡ p = cc in
          subst (λ (q : Pending). IsToHoldDurable (known_at o.launch (m.acts ++ asked_act ∷ [])) es q.place) same
          (subst (λ (k : Knowledge). IsToHoldDurable k es place) (sym next)
          (holds-more known asked_act t es es place (same-goes t es es refl) hold)));
    }

-- ---- events

module _ (o : Opening) (t : ℕ) where
  does-none : (m m' : Machine) (es : List Entry) (request : Request Ref Item) (operation : Op) (r : Reply Ref Item)
      → DoesRequest o m m' es t request operation r → IsNoAsk operation
  does-none m m' es request operation r does = visible-asks operation
      (step-visible o.launch.set (world_of [] (shown_in m) m.rest) t (taken_by operation)
      (plain_request (shown_in m).number request) operation (plain_reply (shown_in m').number r) does.fit.fit
      (does.step.follows []).0)

  region-none : (m m' : Machine) (es : List Entry) (e : RegionStep o t m es m') → AsksNone (region_act e)
  region-none m _ es (step.begun m' request r e) = tt
  region-none m _ es (step.guarded request place item entry e) = tt
  region-none m _ es (step.logged twin log e) = tt
  region-none m _ es (step.stored m' request place item e) = tt
  region-none m _ es (step.ending twin request log e) = tt
  region-none m _ es (step.closing twin request log e) = tt
  region-none m _ es (step.ended m' request r e) = tt

  so-after : (m m' : Machine) (es es' : List Entry) → KeepsRun o m es → IsRun o.launch m'.acts
      → (e : Happens o t m es m' es') → AsksNone (act_of e) → AsksSo o.launch m.acts es t → AsksSo o.launch m'.acts es' t
  so-after m m' es es' k run e none so =
      let acts : m'.acts ≡ with_one m.acts (act_of e) = adds o t m m' es es' e in
      subst (λ done. AsksSo o.launch done es' t) (sym acts)
      (by o.launch m.acts t es es' (table-goes o t m m' es es' k e) so (act_of e) (own o t m m' es es' e) none
      (subst (IsRun o.launch) acts run))

  so-then : (m m' : Machine) (es es' : List Entry) → KeepsRun o m es → IsRun o.launch m'.acts
      → (e : Happens o t m es m' es') → AsksToHold e → AsksSo o.launch m.acts es t → AsksSo o.launch m'.acts es' t
  so-then m _ es _ k run (called twin e) hold so = so-after m _ es _ k run (called twin e) tt so
  so-then m _ es _ k run (written twin e) hold so = so-after m _ es _ k run (written twin e) tt so
  so-then m _ es _ k run (fenced twin e) hold so = so-after m _ es _ k run (fenced twin e) tt so
  so-then m _ es _ k run (converted m' answer e no_seal) hold so =
      so-after m m' es _ k run (converted m' answer e no_seal) tt so
  so-then m _ es _ k run (failed m' e) hold so = so-after m m' es _ k run (failed m' e) tt so
  so-then m _ es _ k run (begun m' es' n word answer e) hold so =
      so-after m m' es es' k run (begun m' es' n word answer e) tt so
  so-then m _ es _ k run (sealed m' set named e) hold so = so-after m _ es _ k run (sealed m' set named e) tt so
  so-then m _ es _ k run (asked request place item e) hold so = asked-so o t m es k request place item e run hold so
  so-then m _ es _ k run (acted m' request operation r e) hold so =
      so-after m m' es _ k run (acted m' request operation r e) (does-none m m' es request operation r e.does) so
  so-then m _ es _ k run (stored m' request place item e) hold so =
      so-after m m' es _ k run (stored m' request place item e) tt so
  so-then m _ es _ k run (region m' e) hold so = so-after m m' es _ k run (region m' e) (region-none m m' es e) so

pub owners_keep_theirs : OwnersKeepTheirs
owners_keep_theirs o t m m' es es' fs gs k run e hold old lags logs =
    let so = so-then o t m m' es es' k run e hold (record { about = old.about; holds = old.holds }) in record {
      about = so.about;
      holds = so.holds;
      lags = lags;
      logs = logs;
    }
