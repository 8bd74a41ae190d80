-- Whatever a machine does, until its flush a thread writes none of its lines back.
use Rattle.std.proofs.Common.{inl, inr, ℕ, ◌+◌, ◌/◌, ◌<◌, Bool, true, false, List, sym, ◌∙◌, ap, subst, if◌then◌else◌}
use Rattle.std.proofs.lemmas.Bool.{cases_Bool}
use Rattle.twin_forms.specs.Table.{Entry, entry, HasCopied}
use Rattle.convert_queue.specs.Marks.{after_fence, IsStored, with_fence}
use Rattle.convert_queue.specs.Queues.{Queues}
use Rattle.convert_words.specs.Steps.{told_fenced}
use Rattle.convert_words.proofs.Tied.{fenced_at}
use Rattle.converter.specs.Laws.{AreUnwritten}
use Rattle.converter.proofs.Unwritten.{stores_stay_unwritten, going_unwritten, events_stay_unwritten, beginnings_stay_unwritten}
use Rattle.region_log.specs.Fencing.{makes_fence}
use Rattle.region_log.specs.Log.{Log}
use Rattle.machine_laws.specs.Passed.{scene_of, Opening, Machine}
use Rattle.machine_laws.proofs.Beside.{OnlyAdds, claimed-was}
use Rattle.machine_ends.specs.Unwritten.{StartsHaveUnwritten, HasUnwritten}
use Rattle.machine_ends.proofs.Noted.{table-adds, notes}
use Rattle.machine_laws.specs.Passed.{KeepsRun}
use Rattle.twin_forms.specs.Sights.{Twin}
use Rattle.convert_words.specs.declared.step.ConvertStep.{ConvertStep}
use Rattle.machine_laws.specs.Passed as event
use Rattle.machine_laws.specs.Passed.{FailsOn, MakesFence, ConvertsOn, BeginsOn, ActsBeside, TableAfter, told_of_log}
use Rattle.converter.specs.declared.begin.Begun.{Begun}
use Rattle.natives.specs.declared.requests.Request.{Request}
use Rattle.ap_base.specs.declared.reference.Ref.{Ref}
use Rattle.ap_base.specs.declared.reference.Item.{Item}
use Rattle.run_history.specs.declared.act.Op.{Op}
use Rattle.natives.specs.declared.requests.Reply.{Reply}

pub starts-unwritten : StartsHaveUnwritten
starts-unwritten m es none t n c claimed early within copied = absurd (none t n claimed)

-- ---- calls of the image

-- a line that is stored to stays so by a fence
fenced-stored : (q : Queues) (t l : ℕ) → IsStored q.marks t l → IsStored (told_fenced q).marks t l
fenced-stored q t l is = fenced_at q.marks l ∙ ap after_fence is

pub fences-unwritten : (o : Opening) (m : Machine) (es : List Entry) → KeepsRun o m es → HasUnwritten m es
    → (twin : Twin) (t : ℕ) → MakesFence m twin t
    → HasUnwritten (event.with_fence m twin t) es
fences-unwritten o m es k old twin t e u n c claimed early within copied =
    fenced-stored m.queue u ((entry es n).line + c) (old u n c claimed early within copied)

-- as a log's call tells of its fence, or of none
module _ (q : Queues) (before after : Log) (es : List Entry) (old : AreUnwritten q es) where
  abbrev StaysSo : Bool → Type 0
  StaysSo b = AreUnwritten (record q { marks = if b then with_fence q.marks else q.marks }) es

  pub logs-unwritten : AreUnwritten (told_of_log q before after) es
  logs-unwritten = elim (cases_Bool (makes_fence before after)) [
    | inl made ↦ subst StaysSo (sym made)
        (λ u n c claimed early within copied.
        fenced-stored q u ((entry es n).line + c) (old u n c claimed early within copied))
    | inr none ↦ subst StaysSo (sym none) old
  ]

-- ---- conversions

pub conversions-unwritten : (o : Opening) (m : Machine) (es : List Entry) → KeepsRun o m es → HasUnwritten m es
    → (m' : Machine) (t : ℕ) (answer : ConvertStep)
    (c : ConvertsOn t answer m m' es) → HasUnwritten m' c.event.after
conversions-unwritten o m es k old m' t answer c =
    events_stay_unwritten t answer (scene_of m) (scene_of m') es m.rest.monitors m'.rest.monitors
    k.heap.agrees c.event old

pub failures-unwritten : (o : Opening) (m : Machine) (es : List Entry) → KeepsRun o m es → HasUnwritten m es
    → (m' : Machine) (t : ℕ) → FailsOn t m m' es
    → HasUnwritten m' es
failures-unwritten o m es k old m' t f = subst (λ (q : Queues). AreUnwritten q es) (sym f.event.fails.queue)
    (going_unwritten (scene_of m) f.event.at es t f.event.goes_on old)

pub beginnings-unwritten : (o : Opening) (m : Machine) (es : List Entry) → KeepsRun o m es → HasUnwritten m es
    → (m' : Machine) (es' : List Entry) (t n word : ℕ)
    (answer : Begun) → BeginsOn t n word answer o m m' es es' → HasUnwritten m' es'
beginnings-unwritten o m es k old m' es' t n word answer b =
    beginnings_stay_unwritten t n answer (scene_of m) (scene_of m') es es' k.heap.agrees b.idle b.begins old

-- ---- acts

-- a table with more objects, which nobody has claimed
adds-unwritten : (q : Queues) (es es' : List Entry) → OnlyAdds es es' → AreUnwritten q es → AreUnwritten q es'
adds-unwritten q es es' adds old u n c claimed early within copied =
    let before = claimed-was es es' adds u n claimed in
    let same = adds.same n before.0 in
    subst (λ (e : Entry). IsStored q.marks u (e.line + c)) (sym same)
    (old u n c before early (subst (λ (e : Entry). c < e.slots / 8 + 1) same within)
    (subst (λ (e : Entry). HasCopied e c) same copied))

pub acts-unwritten : (o : Opening) (m : Machine) (es : List Entry) → KeepsRun o m es → HasUnwritten m es
    → (m' : Machine) (es' : List Entry) (t : ℕ)
    (request : Request Ref Item) (operation : Op) (r : Reply Ref Item)
    → ActsBeside o m m' es t request operation r → TableAfter m operation es es' → HasUnwritten m' es'
acts-unwritten o m es k old m' es' t request operation r acts after =
    adds-unwritten m'.queue es es' (table-adds m operation es es' after)
    (elim (notes o m es k m' t request operation r acts) [
      | inl same ↦ subst (λ (q : Queues). AreUnwritten q es) (sym same) old
      | inr is ↦ subst (λ (q : Queues). AreUnwritten q es) (sym is.told_is)
          (stores_stay_unwritten (scene_of m) es is.thread is.line k.heap.agrees is.own old)
    ])
