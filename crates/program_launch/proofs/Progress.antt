-- The progress of a class set's classes at first.
use Rattle.std.proofs.Common.{◌≡◌, ℕ, ◌+◌, ◌-◌, ◌≤◌, List, [], ◌++◌, take, replicate, length, ap, sym, ◌∙◌, arith}
use Rattle.std.proofs.lemmas.List.{length-map, length-append, length-replicate, take_all}
use Rattle.run_history.specs.declared.plain.Progress.{Progress}
use Rattle.run_history.specs.declared.plain.Progress.TheVariants.{Untouched, Finished}
use Rattle.plain_model.specs.BuiltIn.{built_in_count}
use Rattle.plain_model.specs.First.{first_progress}
use Rattle.class_set.specs.ArrayTypes.{array_type}
use Rattle.class_set.specs.Facts.{class_facts, facts_of}
use Rattle.class_set.specs.Linked.{Linked, class_names, names_of}
use Rattle.class_set.proofs.Above.{class_names_counted}
use Rattle.one_space.specs.First.{no_graph}

program_counted : (set : Linked) → length (facts_of set).program ≡ length set.files
program_counted set = length-map set.files (class_facts set.files)

types_counted : (set : Linked) → length (names_of set) ≡ length set.files + (28 + length set.arrays)
types_counted set =
    let all = length-append (class_names set.files) set.arrays in
    omega (arith, all, class_names_counted set.files)

-- the program's classes, and then all others
progress_listed : (set : Linked) (n m : ℕ) → n ≡ length set.files → m ≡ length (names_of set)
    → take m (replicate n Untouched) ++ replicate (m - n) Finished ≡ first_progress (facts_of set) no_graph
progress_listed set n m e f =
    let counted : length (replicate n Untouched) ≡ n = length-replicate n Untouched in
    let fits : length (replicate n Untouched) ≤ m = omega (arith, counted, e, f, types_counted set) in
    let arrays : length (facts_of set).arrays ≡ length set.arrays = length-map set.arrays (array_type set.files) in
    let left : m - n ≡ built_in_count + length (facts_of set).arrays = omega (arith, e, f, types_counted set, arrays) in
    let front : n ≡ length (facts_of set).program = e ∙ sym (program_counted set) in
    ap (λ xs. xs ++ replicate (m - n) Finished) (take_all m (replicate n Untouched) fits)
    ∙ ap (λ k. replicate n Untouched ++ replicate k Finished) left
    ∙ ap (λ k. replicate k Untouched ++ replicate (built_in_count + length (facts_of set).arrays) Finished) front

-- as two fillings make them
pub progress_filled : (set : Linked) (none first all : List Progress) (n m a b : ℕ) → none ≡ [] → a ≡ 0
    → first ≡ take n none ++ replicate (n - a) Untouched → b ≡ n
    → all ≡ take m first ++ replicate (m - b) Finished
    → n ≡ length set.files → m ≡ length (names_of set) → all ≡ first_progress (facts_of set) no_graph
progress_filled set none first all n m a b empty zero_before filled counted more e f =
    let front : first ≡ replicate n Untouched =
    filled ∙ ap (λ xs. take n xs ++ replicate (n - a) Untouched) empty
    ∙ ap (λ xs. xs ++ replicate (n - a) Untouched) (take_all n [] (omega arith))
    ∙ ap (λ k. replicate k Untouched) (let same : n - a ≡ n = omega arith in same) in
    more ∙ ap (λ xs. take m xs ++ replicate (m - b) Finished) front
    ∙ ap (λ k. take m (replicate n Untouched) ++ replicate (m - k) Finished) counted
    ∙ progress_listed set n m e f
