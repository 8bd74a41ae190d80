use Rattle.std.proofs.Common.{◌≡◌, ◌∙◌, Option, Some, None, List, ℕ, rules, subst}
use Rattle.std.specs.Option.{IsNone, IsSome, IfSome}
use Rattle.const_pool.specs.Parsing.{descriptor_at}
use Rattle.directories.proofs.Readings.{no_text, is_text}
use Rattle.directories.proofs.entries.is_descriptor.Goals as goal

at_none : {X P : Type 0} (o : Option X) → o ≡ None → (IsNone o → P) → P
at_none None is told = told (search rules)
at_none (Some x) is told = absurd (cc)

at_some : {X P : Type 0} (o : Option X) (x : X) → o ≡ Some x → (IsSome o → P) → P
at_some None x is told = absurd (cc)
at_some (Some y) x is told = told (search rules)

same_some : (o : Option (List ℕ)) (x bytes : List ℕ) → o ≡ Some x → IfSome o (λ y. y ≡ bytes) → x ≡ bytes
same_some None x bytes is told = absurd (cc)
same_some (Some y) x bytes is told = let back : x ≡ y = cc in back ∙ told

pub returns-in-None : goal.returns-in-None
returns-in-None c = no_text c.args.name.now (at_none c.in_ok-name.field-0 c.in-None.is c.in_ok-name.ensures.none)

pub returns-in-Ok : goal.returns-in-Ok
returns-in-Ok c =
    let name = c.args.name.now in
    let same : c.in-Some.name ≡ name = same_some c.in_ok-name.field-0 c.in-Some.name name c.in-Some.is c.in_ok-name.ensures.same in
    is_text name c.in-Ok.field-0 (at_some c.in_ok-name.field-0 c.in-Some.name c.in-Some.is c.in_ok-name.ensures.some)
    (subst (λ (bytes : List ℕ). descriptor_at bytes ≡ Some c.in-Ok.field-0) same c.in-Ok.ensures.exact)
