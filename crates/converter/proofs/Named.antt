-- What a seal makes durable is what the queues of its threads held.
use Rattle.std.proofs.Common.{◌≡◌, inl, inr, ℕ, ◌+◌, List, sym, ◌∙◌, ap, subst, arith}
use Rattle.std.specs.Prelude.{slice_index}
use Rattle.twin_forms.specs.Table.{Entry, IsClaimed}
use Rattle.twin_forms.specs.Sights.{view_of}
use Rattle.convert_words.specs.Agreeing.{Is, item_in}
use Rattle.convert_words.specs.Scenes.{Scene, AgreesAt}
use Rattle.convert_words.proofs.Basics.{claimed_once, young}
use Rattle.converter.specs.Laws.{number_at, SealsNameQueues, QueuesNameOnce}

-- the number of a queued object
pub number_is : (s : Scene) (es : List Entry) (u i n : ℕ) → AgreesAt s es → Is s.queue es u i n → number_at s (item_in s.queue.queues u i).0 ≡ n
number_is s es u i n a is =
    ap (λ x. slice_index s.heap.space.words (x + 2)) is.object ∙ (a.lies.sits n is.claimed.0).number (young (view_of s.heap) es u n a.lies is.claimed)

pub seals_name_queues : SealsNameQueues
seals_name_queues t set s s' es ms ms' a e n =
    let durable = e.converts.says.durable n in (
      λ new. elim (durable.0 new.0) [
        | inl old ↦ absurd (new.1 old)
        | inr x ↦ (let q = a.queued.all x.0 n x.2 in (x.0, q.0, x.1, q.1.within, number_is s es x.0 q.0 n a q.1))
      ],
      λ x. let q = a.queued.there x.0 x.1 x.3 in
          let same : q.0 ≡ n = sym (number_is s es x.0 x.1 q.0 a q.1) ∙ x.4 in
          let claimed : IsClaimed es x.0 n = subst (IsClaimed es x.0) same q.1.claimed in (
            durable.1 (inr (x.0, x.2, claimed)),
            λ old. let owner = claimed.1 in let none = old.2 in omega (arith, owner, none),
          ),
    )

pub queues_name_once : QueuesNameOnce
queues_name_once s es t u i j a lt lu same =
    let x = a.queued.there t i lt in
    let y = a.queued.there u j lu in
    let one : x.0 ≡ y.0 = sym (number_is s es t i x.0 a x.1) ∙ same ∙ number_is s es u j y.0 a y.1 in
    let here : Is s.queue es t i y.0 = subst (Is s.queue es t i) one x.1 in
    let threads : t ≡ u = claimed_once es t u y.0 here.claimed y.1.claimed in
    (threads, a.queued.once u i j y.0 (subst (λ z. Is s.queue es z i y.0) threads here) y.1)
