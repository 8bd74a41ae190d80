use Rattle.class_runs.proofs.Again.{goes_on, not_bad, refused, unrefused, unrefused_behind}
use Rattle.class_runs.proofs.laws.stopped_runs_open_again.Goals as goal

pub returns : goal.returns
returns c =
    let law = c.opened_images_open_again.ensures.again in record {
      again = record {
        refusals = λ set name limits start takes opening acts after how ends is.
            refused set name limits start takes opening acts after how is ends;
        not_bad = not_bad;
        unrefused = unrefused law;
        unrefused_behind = λ set start opening all acts left stands again after is how cannot.
            unrefused_behind law set start opening all acts left stands again is after how cannot;
        goes_on = λ set start opening all acts left stands again is graph of.
            goes_on law set start opening all acts left stands again is graph of;
      };
    }
