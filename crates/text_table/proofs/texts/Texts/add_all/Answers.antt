use Rattle.std.proofs.Common.{◌≡◌, ◌+◌, [], ◌∷◌, ◌++◌, drop, length, map, take, ap, sym, ◌∙◌}
use Rattle.std.proofs.lemmas.List.{length_push}
use Rattle.text_table.specs.Texts.{with_text, with_texts}
use Rattle.text_table.specs.Sorted.{items_of}
use Rattle.text_table.proofs.Grown.{left_next, with_next}
use Rattle.text_table.proofs.texts.Texts.add_all.Goals as goal

pub loop-text-preserved : goal.loop-text-preserved
loop-text-preserved c =
    let n = length c.loop-text.yielded in
    let old = c.args.self.now in
    let texts = c.args.texts.now in
    let text = c.in-Some.text.now.items in
    let rest = map items_of c.next.new.self in
    let left : drop n texts ≡ text ∷ rest = c.loop-text.invariant.left ∙ ap (map items_of) c.in-Some.ensures.steps in
    let count : length (c.loop-text.yielded ++ c.in-Some.text ∷ []) ≡ n + 1 = length_push c.loop-text.yielded c.in-Some.text in
    record {
      first = c.in_ok-add.ensures.added
          ∙ ap (with_text c.loop-text.self) c.as_slice.ensures.value
          ∙ ap (λ ts. with_text ts text) c.loop-text.invariant.first
          ∙ with_next old texts n text rest left
          ∙ ap (λ m. with_texts old (take m texts)) (sym count);
      left = ap (λ m. drop m texts) count ∙ left_next texts n text rest left;
    }
