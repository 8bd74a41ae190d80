use Rattle.set_opening.proofs.Again.{left_so, refused_so, unrefused}
use Rattle.set_opening.proofs.Room.{full_so}
use Rattle.set_opening.proofs.laws.opened_images_open_again.Goals as goal

pub returns : goal.returns
returns c = record {
  again = record {
    unrefused = λ start set numbered m directory lines graph free opened again after stood holds now why is.
        unrefused start set numbered m directory lines graph free opened again stood holds after now why is;
    as_left = λ start set numbered m directory lines graph free opened again stood holds now n found places opening behind reopened.
        left_so start set numbered m directory lines graph free opened again stood holds now n found places opening behind reopened;
    refused = λ set again after size directory stood holds now name is.
        refused_so size directory again stood holds set after now name is;
    full = λ set again after size directory stood holds now full is. full_so size directory again stood holds set after now full is;
  };
}
