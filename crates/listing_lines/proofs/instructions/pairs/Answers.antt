use Rattle.std.proofs.Common.{ℕ, List, ap, sym, ◌∙◌}
use Rattle.listing_lines.specs.Instructions.{key_label, pairs}
use Rattle.listing_lines.proofs.Pairs.{one_more}
use Rattle.listing_lines.proofs.instructions.pairs.Goals as goal

pub pairs-preserved : goal.pairs-preserved
pairs-preserved c =
    let key = c.key-item.result in
    let label = c.label-item.result in
    let read = ap (λ (w : List ℕ). key_label key w) (sym c.as_slice-in-len2-up.ensures.same)
    ∙ ap (λ (w : List ℕ). key_label w c.as_slice-in-len2-up.result.now) (sym c.as_slice.ensures.same)
    ∙ c.in_ok-key_label-in-len2-up.ensures in
    one_more c.pairs.pairs.items c.push.new.self.items c.pairs.rest.now key label
    c.in_ok-key_label-in-len2-up.field-0 (pairs c.args.words.now) c.in-len2-up.len_at_least c.key-item.is
    c.label-item.is read c.in_ok-push-in-len2-up.ensures.items c.pairs.invariant
