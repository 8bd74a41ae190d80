use Rattle.std.proofs.Common.{rules, ◌≡◌, map, ap, sym, ◌∙◌}
use Rattle.text_table.specs.Sorted.{insert_text, items_of}
use Rattle.text_table.proofs.Order.{insert_items}
use Rattle.text_table.proofs.sorted.SortedTexts.add.Goals as goal

pub returns-clause-added : goal.returns-clause-added
returns-clause-added c =
    let keys = c.self.inside.items.keys in
    let same : c.in_ok-key.key.items ≡ c.args.text.now = search rules in
    ap (map items_of) c.in_ok-insert.ensures.keys
    ∙ insert_items keys c.in_ok-key.key
    ∙ ap (λ t. insert_text (map items_of keys) t) same
    ∙ ap (λ ts. insert_text ts c.args.text.now) c.self.view_is
