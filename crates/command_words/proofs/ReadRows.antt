-- What the rows' words ask for, by computation.
use Rattle.std.proofs.Common.{refl}
use Rattle.clap.proofs.OnLiterals.{clap_on_literals}
use Rattle.command_words.specs.Numbers.{digits_from}
use Rattle.command_words.specs.Rows as rows

pub order_holds : rows.Each rows.AsksFor rows.in_any_order
unfolding clap_on_literals digits_from rows.Each rows.between
order_holds = (refl, (refl, (refl, (refl, (refl, tt)))))

pub numbers_hold : rows.Each rows.AsksFor rows.with_numbers
unfolding clap_on_literals digits_from rows.Each rows.between
numbers_hold = (refl, (refl, (refl, (refl, tt))))

pub values_hold : rows.Each rows.AsksFor rows.with_odd_values
unfolding clap_on_literals digits_from rows.Each rows.between
values_hold = (refl, (refl, (refl, (refl, (refl, (refl, tt))))))

pub others_hold : rows.Each rows.AsksFor rows.of_others
unfolding clap_on_literals digits_from rows.Each rows.between
others_hold = (refl, (refl, (refl, (refl, (refl, (refl, (refl, tt)))))))

pub files_hold : rows.Each rows.AsksFor rows.with_files
unfolding clap_on_literals digits_from rows.Each rows.between
files_hold = (refl, (refl, (refl, (refl, (refl, (refl, (refl, tt)))))))
