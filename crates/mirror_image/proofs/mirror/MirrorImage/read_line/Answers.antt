use Rattle.mirror_image.proofs.Using.{not_closed}
use Rattle.mirror_image.proofs.mirror.MirrorImage.read_line.Goals as goal

pub returns-in-Paired-clause-size : goal.returns-in-Paired-clause-size
returns-in-Paired-clause-size g c = rw c.in-Paired.is c.read_line.ensures.call.size

pub returns-in-Paired-clause-counted : goal.returns-in-Paired-clause-counted
returns-in-Paired-clause-counted g c = rw c.in-Paired.is c.read_line.ensures.call.counted

pub returns-in-Paired-clause-same : goal.returns-in-Paired-clause-same
returns-in-Paired-clause-same g c = rw c.in-Paired.is c.read_line.ensures.call.tells

pub returns-in-Paired-clause-words : goal.returns-in-Paired-clause-words
returns-in-Paired-clause-words g c = rw c.in-Paired.is c.read_line.ensures.words

pub returns-in-Paired-clause-stops : goal.returns-in-Paired-clause-stops
returns-in-Paired-clause-stops g c = rw c.in-Paired.is c.read_line.ensures.call.stops

pub returns-in-Paired-clause-closed : goal.returns-in-Paired-clause-closed
returns-in-Paired-clause-closed g c = not_closed _ c.in-Paired.is

pub returns-in-Paired-clause-uses : goal.returns-in-Paired-clause-uses
returns-in-Paired-clause-uses g c = rw c.in-Paired.is c.read_line.ensures.uses

pub returns-in-Paired-clause-asks : goal.returns-in-Paired-clause-asks
returns-in-Paired-clause-asks g c = rw c.in-Paired.is c.read_line.ensures.asks
