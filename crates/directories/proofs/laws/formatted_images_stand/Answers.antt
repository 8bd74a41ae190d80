use Rattle.directories.proofs.Formatted.{formatted_spells, formatted_opens, either_stands, formatted_well}
use Rattle.directories.proofs.laws.formatted_images_stand.Goals as goal

pub returns : goal.returns
returns c = record {
  stands = either_stands;
  opens = formatted_opens;
  well_formed = formatted_well;
  spells = formatted_spells;
}
