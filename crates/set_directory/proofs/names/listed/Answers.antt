use Rattle.std.proofs.Common.{ℕ, List, ap, ◌∙◌}
use Rattle.text_table.specs.Texts.{with_texts}
use Rattle.set_directory.proofs.Sorted.{listed_all}
use Rattle.set_directory.proofs.names.listed.Goals as goal

pub returns : goal.returns
returns c =
    c.in_ok-add_all.ensures.added
    ∙ ap (λ (ts : List (List ℕ)). with_texts ts c.args.names.now) c.new-texts.ensures
    ∙ listed_all c.args.names.now c.requires.in_order
