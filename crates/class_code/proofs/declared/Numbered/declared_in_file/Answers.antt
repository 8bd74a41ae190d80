use Rattle.std.proofs.Common.{rules, ◌≡◌, ◌<◌, ◌≤◌, [], ◌∷◌, ◌++◌, length, slice_index_or, ap, ◌∙◌, arith}
use Rattle.std.proofs.lemmas.List.{length-map}
use Rattle.run_types.specs.declared.resolved.MethodAt.{MethodAt}
use Rattle.class_set.specs.Members.{method_facts, text_at}
use Rattle.class_code.specs.Declarations.{declared_at}
use Rattle.class_code.specs.Methods.{method_count}
use Rattle.class_code.proofs.Declaring.{declared_ended, declared_more}
use Rattle.class_code.proofs.declared.Numbered.declared_in_file.Goals as goal

pub method_at-at-requires : goal.method_at-at-requires
method_at-at-requires c =
    let file = c.args.file.now in
    let items = c.as_slice-method-items.ensures in
    let l : c.loop-place.place < length file.methods = omega (arith, c.loop-place-test.true, ap length items) in
    let size = ap length c.requires.own ∙ length-map file.methods (method_facts file.pool) in
    omega (arith, l, size)

pub declared_at-requires : goal.declared_at-requires
declared_at-requires c =
    let file = c.args.file.now in
    let items = c.as_slice-method-items.ensures in
    let l : c.loop-place.place < length file.methods = omega (arith, c.loop-place-test.true, ap length items) in
    let size = ap length c.requires.own ∙ length-map file.methods (method_facts file.pool) in
    let place = ap (λ (m : MethodAt). m.method) c.method_at-at.ensures in
    let count = ap (λ (m : MethodAt). method_count c.args.self.now m.class) c.method_at-at.ensures in
    omega (arith, l, size, place, count)

pub loop-place-preserved : goal.loop-place-preserved
loop-place-preserved c =
    let set = c.args.self.now in
    let class = c.args.class in
    let file = c.args.file.now in
    let ms = file.methods in
    let i = c.loop-place.place in
    let m = c.method-item.result in
    let items = c.as_slice-method-items.ensures in
    let at : m ≡ slice_index_or ms i m = c.method-item.is ∙ ap (λ xs. slice_index_or xs i m) items in
    let l : i < length ms = omega (arith, c.loop-place-test.true, ap length items) in
    let old = c.loop-place.declared.items in
    declared_more set class (method_facts file.pool) ms i m old _ l at
    (c.in_ok-push.ensures.items ∙ ap (λ d. old ++ d ∷ []) (c.in_ok-declared_at.ensures
    ∙ ap (λ (a : MethodAt). declared_at set a.class a.method
    (record { name = c.text_at-name.result.now; descriptor = c.text_at-descriptor.result.now; is_static = a.is_static })) c.method_at-at.ensures
    ∙ ap (λ name. declared_at set class i
    (record { name = name; descriptor = c.text_at-descriptor.result.now; is_static = (method_facts file.pool m).is_static })) c.text_at-name.ensures
    ∙ ap (λ descriptor. declared_at set class i
    (record { name = text_at file.pool m.name; descriptor = descriptor; is_static = (method_facts file.pool m).is_static })) c.text_at-descriptor.ensures))
    ∙ c.loop-place.invariant

pub returns : goal.returns
returns c =
    let file = c.args.file.now in
    let past : length file.methods ≤ c.loop-place.place = omega (arith, c.loop-place-test.false, ap length c.as_slice-method-items.ensures) in
    let listed : c.from_vec.result ≡ c.loop-place.declared.items = search rules in
    listed ∙ declared_ended c.args.self.now c.args.class c.loop-place.place (method_facts file.pool) file.methods c.loop-place.declared.items _ past
    c.loop-place.invariant
