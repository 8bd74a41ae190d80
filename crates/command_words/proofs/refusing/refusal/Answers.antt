use Rattle.std.proofs.Common.{◌≡◌, ◌∙◌, ap, refl, subst, []}
use Rattle.clap.specs.Words.{App, HasKind, fault_of, is_simple_and_free}
use Rattle.command_words.specs.Clap.{autopersist}
use Rattle.command_words.specs.Commands.{texts}
use Rattle.command_words.proofs.Asked.{is_free_command, none_is_left}
use Rattle.command_words.proofs.refusing.refusal.Goals as goal

pub returns-in-Ok-try_get_matches_from : goal.returns-in-Ok-try_get_matches_from
returns-in-Ok-try_get_matches_from c =
    let taken = subst (λ (a : App). fault_of a (texts c.args.words.now) ≡ []) c.in-Ok.ensures.app
    (c.in-Ok-try_get_matches_from.ensures.kinds (ap is_simple_and_free c.in-Ok.ensures.app ∙ is_free_command)) in
    record { none = (λ same. taken, λ empty. refl) }

pub returns-in-Usage : goal.returns-in-Usage
returns-in-Usage c =
    let kinds = c.in-Err.ensures.kinds (ap is_simple_and_free c.in-Ok.ensures.app ∙ is_free_command) in
    record {
      none = (
        λ same. absurd cc,
        λ empty. absurd (none_is_left (fault_of autopersist (texts c.args.words.now)) c.in-Err.error
            (subst (λ (a : App). HasKind (fault_of a (texts c.args.words.now)) c.in-Err.error) c.in-Ok.ensures.app kinds) empty
            (c.cause.ensures.usage c.in-Usage.is)),
      );
    }
