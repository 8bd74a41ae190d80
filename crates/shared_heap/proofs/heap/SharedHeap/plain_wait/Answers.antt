use Rattle.std.proofs.Common.{◌≡◌, Some, None, sym, ◌∙◌, subst}
use Rattle.std.proofs.lemmas.Option.{get_or_from_slice_get}
use Rattle.ap_base.specs.declared.reference.Ref.{Ref}
use Rattle.ap_base.specs.declared.reference.Item.{Item}
use Rattle.natives.specs.declared.requests.Request.{Request}
use Rattle.plain_model.specs.Ends.{wait_of}
use Rattle.plain_model.specs.Steps.{step}
use Rattle.shared_objects.specs.Plain.{plain_request}
use Rattle.shared_objects.specs.Worlds.{world_of}
use Rattle.step_forms.specs.Follows.{Agrees}
use Rattle.two_spaces.specs.Seen.{shown_of}
use Rattle.store_barrier.specs.Passed.{shown_in}
use Rattle.store_barrier.specs.Barriers.{spaces_of}
use Rattle.shared_heap.specs.Notes.{asked_by}
use Rattle.shared_heap.specs.Shared.{Shared}
use Rattle.shared_heap.proofs.Requesting.{asks_from, same_request}
use Rattle.shared_heap.proofs.heap.SharedHeap.plain_wait.Goals as goal

pub wait_of-requires : goal.wait_of-requires
wait_of-requires g c =
    let facts = g.C.Types.facts c.args.set.now in
    let request = c.in-Some.request.now in
    let noted : asked_by c.self.inside.notes c.args.t ≡ Some request =
    get_or_from_slice_get c.self.inside.notes.asks c.args.t (Some request) None c.in-Some.ensures.asked in
    record {
      agrees = subst (λ (s : Shared). Agrees facts (shown_in s.machine) s.machine.rest) (sym c.self.view_is) c.requires.agrees;
      asks = asks_from facts _ c.args.self.now c.args.t request c.self.view_is c.requires.whole c.requires.long
          c.requires.agrees
          (c.requires.may request (subst (λ (s : Shared). asked_by s.notes c.args.t ≡ Some request) c.self.view_is noted));
    }

pub returns-in-Some-clause-waits : goal.returns-in-Some-clause-waits
returns-in-Some-clause-waits g c asked roots is =
    let facts = g.C.Types.facts c.args.set.now in
    let request = c.in-Some.request.now in
    let noted : asked_by c.self.inside.notes c.args.t ≡ Some request =
    get_or_from_slice_get c.self.inside.notes.asks c.args.t (Some request) None c.in-Some.ensures.asked in
    let same : request ≡ asked = same_request request asked
    (sym (subst (λ (s : Shared). asked_by s.notes c.args.t ≡ Some request) c.self.view_is noted) ∙ is) in
    let shown = shown_of (spaces_of c.self.inside.spaces) in
    subst (λ (s : Shared). c.wait_of.result ≡ wait_of (step facts
    (world_of roots (shown_in s.machine) s.machine.rest) c.args.t 1 (plain_request (shown_in s.machine).number asked)))
    c.self.view_is
    (subst (λ (r : Request Ref Item). c.wait_of.result ≡ wait_of (step facts
    (world_of roots shown c.self.inside.rest) c.args.t 1 (plain_request shown.number r))) same (c.wait_of.ensures.wait roots))
