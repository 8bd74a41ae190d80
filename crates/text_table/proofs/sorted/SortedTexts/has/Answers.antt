use Rattle.std.proofs.Common.{◌≡◌, ap, ◌∙◌}
use Rattle.text_table.specs.Sorted.{has_text}
use Rattle.text_table.proofs.Order.{has_items}
use Rattle.text_table.proofs.sorted.SortedTexts.has.Goals as goal

pub returns : goal.returns
returns c =
    c.contains.ensures
    ∙ has_items c.self.inside.items.keys c.args.text.now
    ∙ ap (λ ts. has_text ts c.args.text.now) c.self.view_is
