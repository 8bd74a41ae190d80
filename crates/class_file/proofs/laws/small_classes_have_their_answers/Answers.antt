use Rattle.class_file.proofs.Rows.{classes_are_answers, faults_are_answers}
use Rattle.class_file.proofs.laws.small_classes_have_their_answers.Goals as goal

pub returns-clause-read : goal.returns-clause-read
returns-clause-read c = classes_are_answers

pub returns-clause-refused : goal.returns-clause-refused
returns-clause-refused c = faults_are_answers
