use Rattle.std.proofs.Common.{sym, ◌∙◌, arith}
use Rattle.class_code.proofs.ClassesThere.{named_there}
use Rattle.program_launch.proofs.MainMethods.{few_there, main_of_file}
use Rattle.program_launch.proofs.mains.find_main.Goals as goal

pub first_method-requires : goal.first_method-requires
first_method-requires c =
    let stands = main_of_file c.args.set.now c.in-Some.class c.in-Some-find_method.main
    (sym c.find_method.ensures ∙ c.in-Some-find_method.is) in
    let class = stands.class in
    omega (arith, class)

pub overflow_add-result : goal.overflow_add-result
overflow_add-result c =
    let set = c.args.set.now in
    let main = c.in-Some-find_method.main in
    let stands = main_of_file set c.in-Some.class main (sym c.find_method.ensures ∙ c.in-Some-find_method.is) in
    let method = stands.method in
    let few = few_there set main.class c.file_count-count.ensures.small stands.class in
    let first = c.first_method.ensures.few in
    omega (arith, method, few, first)

pub returns-clause-there : goal.returns-clause-there
returns-clause-there c =
    named_there c.args.set.now c.args.name.now c.in-Some.class (sym c.class_named.ensures ∙ c.in-Some.is)
