use Rattle.std.proofs.Common.{length, subst, arith}
use Rattle.directories.specs.declared.stepping.Progress.{Progress}
use Rattle.directories.specs.Appending.{HasCome}
use Rattle.directories.proofs.EntrySteps.{words_of_entry, count_of_entry, words_stops, raise_stops, finish_stops}
use Rattle.directories.proofs.stepping.append_step.Goals as goal

pub returns-in-Words-clause-changes : goal.returns-in-Words-clause-changes
returns-in-Words-clause-changes g c =
    words_of_entry c.args.used c.in-Words.n (length c.args.entry.now) c.args.entry.now c.args.memory.now c.words_step.new.memory
    (omega arith) c.words_step.ensures.changes

pub returns-in-Words-clause-stops : goal.returns-in-Words-clause-stops
returns-in-Words-clause-stops g c known come =
    words_stops c.args.used c.args.entry.now c.requires.room c.args.memory.now c.words_step.new.memory c.in-Words.n (length c.args.entry.now)
    (subst (λ (p : Progress). HasCome p c.args.used c.args.entry.now c.args.memory.now) c.in-Words.is come) c.words_step.ensures.changes

pub returns-in-Fenced-clause-changes : goal.returns-in-Fenced-clause-changes
returns-in-Fenced-clause-changes g c =
    count_of_entry c.args.used c.args.entry.now c.args.memory.now c.raise.new.memory c.raise.ensures.changes

pub returns-in-Fenced-clause-stops : goal.returns-in-Fenced-clause-stops
returns-in-Fenced-clause-stops g c known come =
    raise_stops c.args.used c.args.entry.now c.requires.room c.args.memory.now c.raise.new.memory
    (subst (λ (p : Progress). HasCome p c.args.used c.args.entry.now c.args.memory.now) c.in-Fenced.is come) c.raise.ensures.changes

pub returns-in-Raised-clause-stops : goal.returns-in-Raised-clause-stops
returns-in-Raised-clause-stops g c known come =
    finish_stops c.args.used c.args.entry.now c.requires.room c.args.memory.now c.finish.new.memory
    (subst (λ (p : Progress). HasCome p c.args.used c.args.entry.now c.args.memory.now) c.in-Raised.is come) c.finish.ensures.changes
