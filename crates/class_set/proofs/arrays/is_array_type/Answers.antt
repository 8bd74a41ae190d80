use Rattle.std.proofs.Common.{rules, [], ◌≡◌, refl, ap, sym, ◌∙◌, subst}
use Rattle.std.specs.Prelude.{IfOk}
use Rattle.std.proofs.lemmas.Bool.{false≢true}
use Rattle.const_pool.specs.Parsing.{descriptor_at}
use Rattle.const_pool.specs.Utf8.{IsModifiedUtf8}
use Rattle.class_set.specs.ArrayTypes.{described_array, is_some_array}
use Rattle.class_set.proofs.Needed.{of_good_text, of_bad_text}
use Rattle.class_set.proofs.arrays.is_array_type.Goals as goal

pub returns-in-Some : goal.returns-in-Some
returns-in-Some c =
    let text = c.args.text.now in
    let same : c.in_ok-to_vec.field-0.items ≡ text = search rules in
    let good : IsModifiedUtf8 text = subst IsModifiedUtf8 same (c.in-Some.ensures.some.0 refl) in
    subst (λ b. IfOk c.is_array_name.result (λ yes. yes ≡ b))
    (ap (λ t. is_some_array (described_array [] t (descriptor_at t))) (c.in-Some.ensures.value ∙ same) ∙ sym (of_good_text text good))
    c.is_array_name.ensures

pub returns-in-None : goal.returns-in-None
returns-in-None c =
    let text = c.args.text.now in
    let same : c.in_ok-to_vec.field-0.items ≡ text = search rules in
    sym (of_bad_text text (λ good. false≢true (c.in-None.ensures.some.1 (subst IsModifiedUtf8 (sym same) good))))
