use Rattle.std.proofs.Common.{rules, ◌≡◌, ◌<◌, [], ◌∷◌, ◌++◌, length, get_or, ap, ◌∙◌, arith}
use Rattle.std.proofs.lemmas.List.{length-map}
use Rattle.run_types.specs.declared.resolved.MethodAt.{MethodAt}
use Rattle.built_in_table.specs.Rows.{member_facts}
use Rattle.class_code.specs.Declarations.{declared_at}
use Rattle.class_code.specs.Methods.{method_count}
use Rattle.class_code.proofs.Declaring.{declared_ended, declared_more}
use Rattle.class_code.proofs.Spelled.{no_member, self}
use Rattle.class_code.proofs.declared.Numbered.declared_built_in.Goals as goal

pub method_at-at-requires : goal.method_at-at-requires
method_at-at-requires c =
    let size = ap length c.requires.own ∙ length-map c.args.members.now member_facts in
    omega (arith, size)

pub declared_at-requires : goal.declared_at-requires
declared_at-requires c =
    let size = ap length c.requires.own ∙ length-map c.args.members.now member_facts in
    let place = ap (λ (m : MethodAt). m.method) c.method_at-at.ensures in
    let count = ap (λ (m : MethodAt). method_count c.args.self.now m.class) c.method_at-at.ensures in
    omega (arith, size, place, count)

pub loop-place-preserved : goal.loop-place-preserved
loop-place-preserved c =
    let set = c.args.self.now in
    let class = c.args.class in
    let ms = c.args.members.now in
    let i = c.loop-place.place in
    let m = get_or ms i no_member in
    let l : i < length ms = omega arith in
    let old = c.loop-place.declared.items in
    declared_more set class member_facts ms i m old _ l (self ms i no_member l)
    (c.in_ok-push.ensures.items ∙ ap (λ d. old ++ d ∷ []) (c.in_ok-declared_at.ensures
    ∙ ap (λ (a : MethodAt). declared_at set a.class a.method (record { name = m.name.now; descriptor = m.descriptor.now; is_static = a.is_static }))
    c.method_at-at.ensures))
    ∙ c.loop-place.invariant

pub returns : goal.returns
returns c =
    let listed : c.from_vec.result ≡ c.loop-place.declared.items = search rules in
    listed ∙ declared_ended c.args.self.now c.args.class c.loop-place.place member_facts c.args.members.now c.loop-place.declared.items _ (omega arith)
    c.loop-place.invariant
