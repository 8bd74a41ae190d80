-- Machines whose native methods are the built-in ones.
use Rattle.std.proofs.Common.{refl}
use Rattle.frames.proofs.Turns.{turns_and_answers_go_alike}
use Rattle.plain_frames.proofs.Runs.{frames-stay, worlds-are, duties-kept}
use Rattle.plain_frames.specs.Methods.{plain_natives}
use Rattle.plain_frames.specs.Moves.{map_state}
use Rattle.plain_frames.specs.Worlds.{is_in}
use Rattle.plain_frames.specs.Machines.{setting, PlainSettingsAreSuch, SettingsKeep, SettingsGoAlike}
use Rattle.plain_frames.specs.Machines.{BuiltInProgramsAskWhatIsFit, BuiltInWorldsAreOf, BuiltInFramesStayIn}
use Rattle.plain_frames.proofs.Moving.{methods_go_alike}
use Rattle.plain_frames.proofs.Kept.{built_in_methods_keep_in}

pub plain_settings_are_such : PlainSettingsAreSuch
plain_settings_are_such set opening p method = refl

module _ {R S V W : Type 0} (f : R → S) (h : V → W) where
  pub settings_keep : SettingsKeep f h
  settings_keep x y give give' known program main literal literal' of_long of_long' cells cells' a l w c =
      let go = methods_go_alike f h x y give give' a in
      record {
        program = refl;
        main = refl;
        null = a.null;
        is_null = a.is_null;
        literal = l;
        int = a.int;
        long = w;
        reference = a.reference;
        cells = c;
        start = λ k from values. go.start known k from values;
        asks = go.asks;
        next = go.next;
      }

  pub settings_go_alike : SettingsGoAlike f h
  settings_go_alike x y give give' known program main literal literal' of_long of_long' cells cells' a l w c =
      turns_and_answers_go_alike f (map_state f) h (setting x give known program main literal of_long cells)
      (setting y give' known program main literal' of_long' cells')
      (settings_keep x y give give' known program main literal literal' of_long of_long' cells cells' a l w c)

pub programs_ask_what_is_fit : BuiltInProgramsAskWhatIsFit
programs_ask_what_is_fit set opening p method main consistent is tables is_main =
    duties-kept set opening p (plain_natives set) method main (is_in set) consistent is tables
    (built_in_methods_keep_in set consistent) is_main

pub worlds_are_of : BuiltInWorldsAreOf
worlds_are_of set opening p method main consistent is tables is_main =
    worlds-are set opening p (plain_natives set) method main (is_in set) consistent is tables
    (built_in_methods_keep_in set consistent) is_main

pub frames_stay_in : BuiltInFramesStayIn
frames_stay_in set opening p method main consistent is tables is_main =
    frames-stay set opening p (plain_natives set) method main (is_in set) consistent is tables
    (built_in_methods_keep_in set consistent) is_main
