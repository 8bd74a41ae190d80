use Rattle.std.proofs.Common.{◌≡◌, ◌+◌, ◌∙◌, true, refl, ap, sym, subst, arith}
use Rattle.std.specs.Prelude.{IsSome}
use Rattle.run_types.specs.declared.resolved.MethodAt.{MethodAt}
use Rattle.program_launch.proofs.MainMethods.{few_there, main_of_file}
use Rattle.audit_runs.specs.Audits.{IsMainOf}
use Rattle.audit_runs.proofs.FoundMain.{found-main, main-again, some-method}
use Rattle.audit_runs.proofs.mains.main_from.Goals as goal

pub unwrap-found-requires : goal.unwrap-found-requires
unwrap-found-requires c =
    let found = found-main c.args.set.now c.args.class c.requires.main.0 c.requires.main.1 in
    subst (λ o. IsSome o) (sym (c.find_method.ensures ∙ found.found)) refl

pub first_method-requires : goal.first_method-requires
first_method-requires c =
    let stands = main_of_file c.args.set.now c.args.class c.unwrap-found.result (sym c.find_method.ensures ∙ c.unwrap-found.ensures) in
    let class = stands.class in
    omega (arith, class)

pub overflow_add-result : goal.overflow_add-result
overflow_add-result c =
    let set = c.args.set.now in
    let found = c.unwrap-found.result in
    let stands = main_of_file set c.args.class found (sym c.find_method.ensures ∙ c.unwrap-found.ensures) in
    let method = stands.method in
    let few = few_there set found.class c.file_count-count.ensures.small stands.class in
    let first = c.first_method.ensures.few in
    omega (arith, method, few, first)

pub returns : goal.returns
returns c =
    let set = c.args.set.now in
    let class = c.args.class in
    let m = c.unwrap-found.result in
    let is = sym c.find_method.ensures ∙ c.unwrap-found.ensures in
    let found = found-main set class c.requires.main.0 c.requires.main.1 in
    let static : m.is_static ≡ true =
    subst (λ (x : MethodAt). x.is_static ≡ true) (some-method found.method m (sym found.found ∙ is)) found.static in
    subst (λ n. IsMainOf set class (record { class = class; method = n + m.method })) (sym c.first_method.ensures.number)
    (main-again set class m is static)
