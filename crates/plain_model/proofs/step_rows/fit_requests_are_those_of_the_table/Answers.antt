use Rattle.plain_model.proofs.Fitting.{made_classes_are_made, fields_are_of_their_kind, pieces_are_printed, turns_break_by}
use Rattle.plain_model.proofs.step_rows.fit_requests_are_those_of_the_table.Goals as goal

pub returns-clause-made : goal.returns-clause-made
returns-clause-made c = made_classes_are_made

pub returns-clause-fields : goal.returns-clause-fields
returns-clause-fields c = fields_are_of_their_kind

pub returns-clause-pieces : goal.returns-clause-pieces
returns-clause-pieces c = pieces_are_printed

pub returns-clause-broken : goal.returns-clause-broken
returns-clause-broken c = turns_break_by
