use Rattle.std.proofs.Common.{◌≡◌, ℕ, ◌++◌, ◌∷◌, [], length, refl, ap, ◌∙◌}
use Rattle.history_file.specs.Kinds.{code_of, kind_of}
use Rattle.history_file.specs.Spelling.{words, head_word, count_of, fields}
use Rattle.history_file.proofs.Taken.{naming}
use Rattle.history_file.proofs.Texts.{three_put}
use Rattle.history_file.proofs.writing.put_act.Goals as goal

pub returns : goal.returns
returns c =
    let act = c.args.act.now in
    let objects = c.args.objects.now in
    let head = head_word (code_of (kind_of act.op)) act.thread (count_of (naming act objects)) in
    let is_head : c.head_word.result ≡ head =
    rw (c.head_word.ensures, c.fewest.ensures, c.extra.ensures.exact, c.of-kind.ensures) refl in
    three_put c.put_objects.result c.args.out.now.items c.put_words.new.out.items c.put_fields.new.out.items
    c.put_objects.new.out.items (words (head ∷ act.at ∷ [])) (fields act.op (length objects)) (words objects)
    (c.in_ok-put_words.ensures ∙ ap (λ (w : ℕ). c.args.out.now.items ++ words (w ∷ act.at ∷ [])) is_head)
    c.in_ok-put_fields.ensures c.put_objects.ensures
