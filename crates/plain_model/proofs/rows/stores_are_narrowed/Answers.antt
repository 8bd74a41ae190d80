use Rattle.plain_model.proofs.Narrowing.{byte_kept, short_kept, boolean_kept, char_kept}
use Rattle.plain_model.proofs.rows.stores_are_narrowed.Goals as goal

pub returns : goal.returns
returns c = record { byte = byte_kept; short = short_kept; boolean = boolean_kept; char = char_kept }
