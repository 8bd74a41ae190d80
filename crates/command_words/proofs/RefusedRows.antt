-- Which words ask for nothing, by computation.
use Rattle.std.proofs.Common.{◌≡◌, ◌∷◌, [], None, codes, refl}
use Rattle.clap.proofs.OnLiterals.{clap_on_literals}
use Rattle.command_words.specs.Commands.{command_of}
use Rattle.command_words.specs.Numbers.{digits_from}
use Rattle.command_words.specs.Rows as rows

pub run_holds : rows.Each rows.AsksNothing rows.wrong_for_run
unfolding clap_on_literals digits_from rows.Each rows.between
run_holds = (refl, (refl, (refl, (refl, (refl, (refl, (refl, (refl, (refl, tt)))))))))

pub others_hold : rows.Each rows.AsksNothing rows.wrong_for_others
unfolding clap_on_literals digits_from rows.Each rows.between
others_hold = (refl, (refl, (refl, (refl, (refl, (refl, tt))))))

pub ranges_hold : rows.Each rows.AsksNothing rows.out_of_range
unfolding clap_on_literals digits_from rows.Each rows.between
ranges_hold = (refl, (refl, (refl, (refl, (refl, (refl, (refl, (refl, (refl, (refl, tt))))))))))

pub numbers_hold : rows.Each rows.AsksNothing rows.no_numbers
unfolding clap_on_literals digits_from rows.Each rows.between
numbers_hold = (refl, (refl, (refl, (refl, (refl, (refl, tt))))))

pub values_hold : rows.Each rows.AsksNothing rows.wrong_values
unfolding clap_on_literals digits_from rows.Each rows.between
values_hold = (refl, (refl, (refl, (refl, (refl, (refl, tt))))))

pub commands_hold : rows.Each rows.AsksNothing rows.no_commands
unfolding clap_on_literals digits_from rows.Each rows.between
commands_hold = (refl, (refl, (refl, (refl, (refl, (refl, (refl, (refl, (refl, (refl, (refl, tt)))))))))))

pub name_holds : command_of (codes "autopersist" ∷ []) ≡ None
unfolding clap_on_literals digits_from
name_holds = refl

pub files_hold : rows.Each rows.AsksNothing rows.wrong_files
unfolding clap_on_literals digits_from rows.Each rows.between
files_hold = (refl, (refl, (refl, (refl, (refl, (refl, (refl, (refl, (refl, (refl, tt))))))))))
