use Rattle.std.proofs.Common.{◌≡◌, drop}
use Rattle.std.specs.List.{list_any}
use Rattle.listing_lines.specs.Lines.{is_barred_in_field}
use Rattle.listing_lines.proofs.directives.is_misnamed_field.Given as goal

abbrev pub invariant-loop-b : goal.invariant-loop-b
invariant-loop-b l = list_any is_barred_in_field (drop l.b-index l.name) ≡ list_any is_barred_in_field l.name
