use Rattle.std.proofs.Common.{ℕ, drop, sym, subst}
use Rattle.std.proofs.lemmas.List.{take_rest}
use Rattle.const_pool.specs.Utf8.{IsModifiedUtf8}
use Rattle.const_pool.proofs.Grammar.{after_brackets}
use Rattle.const_pool.proofs.descriptor.field_type.Goals as goal

pub element_type-requires : goal.element_type-requires
element_type-requires c =
    let bytes = c.args.bytes.now in
    let n = c.leading_brackets-dimensions.result in
    let good = subst (λ (k : ℕ). IsModifiedUtf8 (drop k bytes)) (sym c.leading_brackets-dimensions.ensures.count) (after_brackets bytes c.requires) in
    subst IsModifiedUtf8 (sym (take_rest bytes n)) good
