use Rattle.std.proofs.Common.{◌≡◌, refl, true, [], ◌∷◌, Option, None}
use Rattle.std.proofs.Common.{inl, inr}
use Rattle.clap.specs.Words.{HasKind, is_simple, is_simple_and_free, kind_of, Kinds}
use Rattle.clap.specs.declared.error.Error.{Error}
use Rattle.clap.specs.declared.error.kind.ErrorKind.TheVariants.{OutOfMemory}
use Rattle.clap.proofs.OnLiterals.{clap_on_literals}
use Rattle.command_words.specs.Clap.{autopersist}
use Rattle.command_words.specs.Commands.{unless_refused}
use Rattle.command_words.specs.declared.command.Command.{Command}

pub is_simple_command : is_simple autopersist ≡ true
unfolding clap_on_literals
is_simple_command = refl

pub is_free_command : is_simple_and_free autopersist ≡ true
unfolding clap_on_literals
is_free_command = refl

pub taken : (kinds : Kinds) (asked : Option Command) → kinds ≡ [] → unless_refused kinds asked ≡ asked
taken [] asked e = refl
taken (k ∷ kinds) asked e = absurd cc

pub refused : (kinds : Kinds) (asked : Option Command) → (kinds ≡ [] → ⊥) → unless_refused kinds asked ≡ None
refused [] asked e = absurd (e refl)
refused (k ∷ kinds) asked e = refl

pub none_is_left : (kinds : Kinds) (e : Error) → HasKind kinds e → kinds ≡ [] → (kind_of e ≡ OutOfMemory → ⊥) → ⊥
none_is_left [] e (inl h) is not = not h
none_is_left [] e (inr h) is not = h
none_is_left (k ∷ ks) e h is not = absurd cc
