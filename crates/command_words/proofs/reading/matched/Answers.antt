use Rattle.std.proofs.Common.{◌≡◌, ◌∙◌, ap, subst, []}
use Rattle.clap.specs.Words.{App, HasKind, fault_of, is_simple, is_simple_and_free, subcommand_of}
use Rattle.command_words.specs.Clap.{autopersist}
use Rattle.command_words.specs.Commands as spec
use Rattle.command_words.specs.declared.command.WordsFault.TheVariants.{Usage}
use Rattle.command_words.proofs.Asked.{is_simple_command, is_free_command, none_is_left}
use Rattle.command_words.proofs.reading.matched.Goals as goal

pub returns-in-Ok-try_get_matches_from-clause-taken : goal.returns-in-Ok-try_get_matches_from-clause-taken
returns-in-Ok-try_get_matches_from-clause-taken c =
    subst (λ (a : App). fault_of a (spec.texts c.args.words.now) ≡ []) c.in-Ok.ensures.app
    (c.in-Ok-try_get_matches_from.ensures.kinds (ap is_simple_and_free c.in-Ok.ensures.app ∙ is_free_command))

pub returns-in-Ok-try_get_matches_from-clause-matches : goal.returns-in-Ok-try_get_matches_from-clause-matches
returns-in-Ok-try_get_matches_from-clause-matches c =
    (c.in-Ok-try_get_matches_from.ensures.matches (ap is_simple c.in-Ok.ensures.app ∙ is_simple_command)).1
    ∙ ap (λ (a : App). subcommand_of a (spec.texts c.args.words.now)) c.in-Ok.ensures.app

pub returns-in-Err-clause-usage : goal.returns-in-Err-clause-usage
returns-in-Err-clause-usage c = λ is_usage none.
    let kinds = c.in-Err.ensures.kinds (ap is_simple_and_free c.in-Ok.ensures.app ∙ is_free_command) in
    none_is_left (fault_of autopersist (spec.texts c.args.words.now)) c.in-Err.error
    (subst (λ (a : App). HasKind (fault_of a (spec.texts c.args.words.now)) c.in-Err.error) c.in-Ok.ensures.app kinds) none
    (let same : c.cause.result ≡ Usage = cc in c.cause.ensures.usage same)
