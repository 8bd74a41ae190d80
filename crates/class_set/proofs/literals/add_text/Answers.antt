use Rattle.std.proofs.Common.{rules, ◌≡◌, Some, ap, sym, subst, ◌∙◌}
use Rattle.std.specs.Option.{option_to_list}
use Rattle.const_pool.specs.Pool.{utf8_at}
use Rattle.text_table.specs.Texts.{with_text, with_texts}
use Rattle.class_set.specs.Marks.{AreAdded}
use Rattle.class_set.proofs.TextsAdded.{added_next, marked_text}
use Rattle.class_set.proofs.literals.add_text.Goals as goal

pub returns-then-is_marked-clause-texts : goal.returns-then-is_marked-clause-texts
returns-then-is_marked-clause-texts c =
    marked_text c.args.pool.now c.args.texts.now c.args.added.now.items c.args.index c.requires.added (search rules)

pub returns-clause-texts : goal.returns-clause-texts
returns-clause-texts c =
    let at : utf8_at c.args.pool.now c.args.index ≡ Some c.in-Some.text.now = search rules in
    c.in_ok-add_name.ensures.added
    ∙ ap (with_text c.args.texts.now) c.as_slice-2.ensures.value
    ∙ ap (λ o. with_texts c.args.texts.now (option_to_list o)) (sym at)

pub returns-clause-added : goal.returns-clause-added
returns-clause-added c =
    let pool = c.args.pool.now in
    let text = c.in-Some.text.now in
    let at : utf8_at pool c.args.index ≡ Some text = search rules in
    subst (λ ts. AreAdded pool ts c.mark.new.marks.items)
    (sym (c.in_ok-add_name.ensures.added ∙ ap (with_text c.args.texts.now) c.as_slice-2.ensures.value))
    (added_next pool c.args.texts.now c.args.added.now.items c.mark.new.marks.items c.args.index text c.requires.added c.mark.ensures at)
