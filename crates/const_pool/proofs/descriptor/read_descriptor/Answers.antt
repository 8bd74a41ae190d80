use Rattle.std.proofs.Common.{◌≡◌, List, ℕ, subst}
use Rattle.std.proofs.lemmas.Result.{IfOk-weaker}
use Rattle.const_pool.specs.Descriptor.{IsDescriptor, descriptor_bytes}
use Rattle.const_pool.specs.Parsing.{Gives, descriptor_at}
use Rattle.const_pool.proofs.Grammar.{Describes}
use Rattle.const_pool.proofs.Descriptors.{read_describes, read_found, bad_is_none}
use Rattle.const_pool.proofs.descriptor.read_descriptor.Goals as goal

pub returns-clause-found : goal.returns-clause-found
returns-clause-found c =
    let r = c.whole_descriptor.result in
    let name = c.args.name.now in
    let given = subst (λ (bytes : List ℕ). Gives (λ x. x) r (descriptor_at bytes)) c.as_slice.ensures.value c.whole_descriptor.ensures in
    IfOk-weaker r (λ d. Describes name d) (λ d. name ≡ descriptor_bytes d) (λ d h. h.parts) (read_describes name r c.as_slice.ensures.modified_utf8 given)

pub returns-clause-descriptor : goal.returns-clause-descriptor
returns-clause-descriptor c =
    let r = c.whole_descriptor.result in
    let name = c.args.name.now in
    let given = subst (λ (bytes : List ℕ). Gives (λ x. x) r (descriptor_at bytes)) c.as_slice.ensures.value c.whole_descriptor.ensures in
    IfOk-weaker r (λ d. Describes name d) IsDescriptor (λ d h. h.is) (read_describes name r c.as_slice.ensures.modified_utf8 given)

pub returns-clause-only : goal.returns-clause-only
returns-clause-only c = λ d is e.
    let given = subst (λ (bytes : List ℕ). Gives (λ x. x) c.whole_descriptor.result (descriptor_at bytes)) c.as_slice.ensures.value c.whole_descriptor.ensures in
    read_found c.args.name.now c.whole_descriptor.result d given is e

pub returns-clause-bad : goal.returns-clause-bad
returns-clause-bad c = λ bad d is e.
    let given = subst (λ (bytes : List ℕ). Gives (λ x. x) c.whole_descriptor.result (descriptor_at bytes)) c.as_slice.ensures.value c.whole_descriptor.ensures in
    bad_is_none c.whole_descriptor.result d (read_found c.args.name.now c.whole_descriptor.result d given is e) bad
