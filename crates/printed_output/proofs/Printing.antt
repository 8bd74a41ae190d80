-- Bytes that begin with each piece in turn.
use Rattle.std.proofs.Common.{◌≡◌, ◌↔◌, ℕ, zero, suc, ◌+◌, ◌<◌, Bool, true, false, nat_eq, List, [], ◌∷◌, ◌++◌, map, length, drop, Option, Some, None, refl, sym, ◌∙◌, ap, subst, arith, eqb-true, eq-eqb, if◌then◌else◌}
use Rattle.std.specs.Prelude.{slice_get}
use Rattle.std.proofs.lemmas.Bool.{false≢true}
use Rattle.run_history.specs.declared.act.Act.{Act}
use Rattle.run_history.specs.Recorded.{Recorded}
use Rattle.plain_model.specs.Runs.{output_of, printed_by}
use Rattle.printed_output.specs.Output.{behind, is_empty, is_output}

-- with a piece before them bytes begin with it
behind-piece : (piece rest : List ℕ) → behind piece (piece ++ rest) ≡ Some rest
behind-piece [] rest = refl
behind-piece (p ∷ ps) rest = rw (eq-eqb p p refl) (behind-piece ps rest)

-- what begins with a piece is the piece and what stands behind it
piece-behind : (piece bytes rest : List ℕ) → behind piece bytes ≡ Some rest → bytes ≡ piece ++ rest
piece-behind [] bytes rest is = (let it : Some bytes ≡ Some rest = is in cc)
piece-behind (p ∷ ps) [] rest is = absurd (let no : None ≡ Some rest = is in cc)
piece-behind (p ∷ ps) (b ∷ bs) rest is = elim (nat_eq p b) as (λ t. nat_eq p b ≡ t → (if t then behind ps bs else None) ≡ Some rest → b ∷ bs ≡ p ∷ ps ++ rest) [
  | true ↦ λ e h. ap (λ x. x ∷ bs) (sym (eqb-true p b e)) ∙ ap (λ xs. p ∷ xs) (piece-behind ps bs rest h)
  | false ↦ λ e h. absurd (let no : None ≡ Some rest = h in cc)
] refl is

is-empty : (bytes : List ℕ) → is_empty bytes ≡ true → [] ≡ bytes
is-empty [] is = refl
is-empty (b ∷ bs) is = absurd (false≢true is)

from-behind : (a : Recorded) (acts : List Recorded) (bytes : List ℕ) → ((rest : List ℕ) → is_output acts rest ≡ true → output_of acts ≡ rest)
    → (o : Option (List ℕ)) → behind (printed_by a.act.op) bytes ≡ o → (elim o [ None ↦ false | Some rest ↦ is_output acts rest ]) ≡ true
    → printed_by a.act.op ++ output_of acts ≡ bytes
from-behind a acts bytes further None is e = absurd (false≢true e)
from-behind a acts bytes further (Some rest) is e =
    ap (λ xs. printed_by a.act.op ++ xs) (further rest e) ∙ sym (piece-behind (printed_by a.act.op) bytes rest is)

is-told : (acts : List Recorded) (bytes : List ℕ) → is_output acts bytes ≡ true → output_of acts ≡ bytes
is-told [] bytes is = is-empty bytes is
is-told (a ∷ acts) bytes is = from-behind a acts bytes (is-told acts) (behind (printed_by a.act.op) bytes) refl is

told-is : (acts : List Recorded) → is_output acts (output_of acts) ≡ true
told-is [] = refl
told-is (a ∷ acts) =
    ap (λ (o : Option (List ℕ)). elim o [ None ↦ false | Some rest ↦ is_output acts rest ]) (behind-piece (printed_by a.act.op) (output_of acts))
    ∙ told-is acts

pub outputs-are-told : (acts : List Recorded) (bytes : List ℕ) → (is_output acts bytes ≡ true) ↔ (output_of acts ≡ bytes)
outputs-are-told acts bytes = (is-told acts bytes, λ same. subst (λ x. is_output acts x ≡ true) same (told-is acts))

-- ---- act by act

pub act-output : (acts : List Recorded) (i : ℕ) (a : Act) (rest : List ℕ) → slice_get (map (λ (r : Recorded). r.act) acts) i ≡ Some a
    → is_output (drop i acts) rest ≡ elim (behind (printed_by a.op) rest) [ None ↦ false | Some further ↦ is_output (drop (suc i) acts) further ]
act-output [] i a rest is = absurd (none i is)
  where
    none : (n : ℕ) → slice_get (map (λ (r : Recorded). r.act) []) n ≡ Some a → ⊥
    none zero e = let no : None ≡ Some a = e in cc
    none (suc n) e = let no : None ≡ Some a = e in cc
act-output (b ∷ acts) zero a rest is =
    let same : b.act ≡ a = (let e : Some b.act ≡ Some a = is in cc) in
    subst (λ (x : Act). elim (behind (printed_by b.act.op) rest) [ None ↦ false | Some further ↦ is_output acts further ]
    ≡ elim (behind (printed_by x.op) rest) [ None ↦ false | Some further ↦ is_output acts further ]) same refl
act-output (b ∷ acts) (suc i) a rest is = act-output acts i a rest is

pub act-none : (acts : List Recorded) (i : ℕ) (a : Act) (rest : List ℕ) → slice_get (map (λ (r : Recorded). r.act) acts) i ≡ Some a
    → None ≡ behind (printed_by a.op) rest → is_output (drop i acts) rest ≡ false
act-none acts i a rest is none =
    act-output acts i a rest is
    ∙ subst (λ (o : Option (List ℕ)). elim o [ None ↦ false | Some further ↦ is_output (drop (suc i) acts) further ] ≡ false) none refl

pub act-some : (acts : List Recorded) (i : ℕ) (a : Act) (rest further : List ℕ) → slice_get (map (λ (r : Recorded). r.act) acts) i ≡ Some a
    → Some further ≡ behind (printed_by a.op) rest → is_output (drop (i + 1) acts) further ≡ is_output (drop i acts) rest
act-some acts i a rest further is some =
    let next : i + 1 ≡ suc i = omega arith in
    ap (λ n. is_output (drop n acts) further) next
    ∙ sym (act-output acts i a rest is
    ∙ subst (λ (o : Option (List ℕ)). elim o [ None ↦ false | Some x ↦ is_output (drop (suc i) acts) x ] ≡ is_output (drop (suc i) acts) further) some refl)

pub no-act : (acts : List Recorded) (i : ℕ) → slice_get (map (λ (r : Recorded). r.act) acts) i ≡ None → i < length acts → ⊥
no-act [] i is lt = omega (arith, lt)
no-act (b ∷ acts) zero is lt = let no : Some b.act ≡ None = is in cc
no-act (b ∷ acts) (suc i) is lt = no-act acts i is (omega (arith, lt))
