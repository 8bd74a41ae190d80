-- An act that is read is of the kind that its head tells, and names what it may.
use Rattle.std.proofs.Common.{◌≡◌, ℕ, ◌-◌, ◌^◌, eqb, List, [], ◌∷◌, ◌++◌, Result, Ok, refl, sym, ap, subst, ◌∙◌}
use Rattle.parsing.specs.Results.{many_from}
use Rattle.parsing.proofs.Steps.{done, bind_ok, ok_is}
use Rattle.run_history.specs.declared.act.Act.{Act}
use Rattle.run_history.specs.declared.act.Op.{Op}
use Rattle.run_history.specs.declared.act.Op.TheVariants as op
use Rattle.run_history.specs.Recorded.{Recorded, History, with_act, names_for, names_after}
use Rattle.history_file.specs.declared.head.Head.{Head}
use Rattle.history_file.specs.declared.kind.Kind.{Kind}
use Rattle.history_file.specs.declared.kind.Kind.TheVariants as kind
use Rattle.history_file.specs.Kinds.{kind_of, named_count}
use Rattle.history_file.specs.Reading.{◌gives◌, below, number_at, exactly, place_at, key_at, option_at, test_at, piece_at}
use Rattle.history_file.specs.Reading.{word_at}
use Rattle.history_file.specs.Reading.{stored_at, numbers_at, three_at, access, monitor, of_two, stage_with, op_at, head_at}
use Rattle.history_file.specs.Reading.{act_at}

one_kind : {A : Type 0} (k : Kind) (read : Result (A × List ℕ) ℕ) (make : A → Op) (x : Op × List ℕ)
    → ((a : A) → kind_of (make a) ≡ k) → (read gives make) ≡ Ok x → kind_of x.0 ≡ k
one_kind k read make x is_kind e =
    let a = bind_ok read (λ a. Ok (make a.0, a.1)) x e in
    let made : Op × List ℕ = (make a.0.0, a.0.1) in
    subst (λ (y : Op × List ℕ). kind_of y.0 ≡ k) (ok_is ℕ made x a.2) (is_kind a.0.0)

no_fields : (k : Kind) (o : Op) (bytes : List ℕ) (x : Op × List ℕ) → kind_of o ≡ k
    → done {A = Op × List ℕ} ℕ (o, bytes) ≡ Ok x → kind_of x.0 ≡ k
no_fields k o bytes x is_kind e = subst (λ (y : Op × List ℕ). kind_of y.0 ≡ k) (ok_is ℕ (o, bytes) x e) is_kind

pub kind_read : (k : Kind) (words : ℕ) (bytes : List ℕ) (x : Op × List ℕ) → op_at k words bytes ≡ Ok x → kind_of x.0 ≡ k
unfolding op_at
kind_read kind.Pause words bytes x e = no_fields kind.Pause op.Pause bytes x refl e
kind_read kind.Alloc words bytes x e = one_kind kind.Alloc (three_at bytes) (λ x. op.Alloc x.0 x.1.0 x.1.1) x (λ a. refl) e
kind_read kind.Read words bytes x e = one_kind kind.Read (stored_at (eqb words 7) bytes) (access kind.Read) x (λ a. refl) e
kind_read kind.Stored words bytes x e = one_kind kind.Stored (stored_at (eqb words 7) bytes) (access kind.Stored) x
    (λ a. refl) e
kind_read kind.Length words bytes x e = one_kind kind.Length (numbers_at (2 ^ 32) bytes) (of_two kind.Length) x (λ a. refl) e
kind_read kind.Class words bytes x e = one_kind kind.Class (test_at bytes) (λ x. op.Class x.0 x.1) x (λ a. refl) e
kind_read kind.Same words bytes x e = one_kind kind.Same (below 2 bytes) (λ n. op.Same (eqb n 1)) x (λ a. refl) e
kind_read kind.Enter words bytes x e = one_kind kind.Enter (key_at bytes) (monitor kind.Enter) x (λ a. refl) e
kind_read kind.Exit words bytes x e = one_kind kind.Exit (key_at bytes) (monitor kind.Exit) x (λ a. refl) e
kind_read kind.Start words bytes x e = one_kind kind.Start (numbers_at 64 bytes) (λ x. op.Start x.0 x.1) x (λ a. refl) e
kind_read kind.Join words bytes x e = one_kind kind.Join (number_at bytes) op.Join x (λ a. refl) e
kind_read kind.Init words bytes x e = one_kind kind.Init (numbers_at 3 bytes) (λ x. op.Init x.0 (stage_with x.1)) x
    (λ a. refl) e
kind_read kind.Print words bytes x e = one_kind kind.Print (piece_at (words - 3) bytes) op.Print x (λ a. refl) e
kind_read kind.Throw words bytes x e = one_kind kind.Throw (numbers_at (2 ^ 32) bytes) (of_two kind.Throw) x (λ a. refl) e
kind_read kind.Begin words bytes x e = no_fields kind.Begin op.Begin bytes x refl e
kind_read kind.End words bytes x e = no_fields kind.End op.End bytes x refl e
kind_read kind.Ended words bytes x e = one_kind kind.Ended (option_at bytes) op.Ended x (λ a. refl) e
kind_read kind.Asked words bytes x e = one_kind kind.Asked (stored_at (eqb words 7) bytes) (access kind.Asked) x (λ a. refl) e
kind_read kind.Joined words bytes x e = one_kind kind.Joined (exactly (words - 3) bytes) (λ n. op.Joined) x (λ a. refl) e
kind_read kind.Guarded words bytes x e = one_kind kind.Guarded (place_at (eqb words 5) bytes) op.Guarded x (λ a. refl) e
kind_read kind.Closing words bytes x e = no_fields kind.Closing op.Closing bytes x refl e
kind_read kind.Fenced words bytes x e = no_fields kind.Fenced op.Fenced bytes x refl e

-- only a Joined act names objects
abbrev NamesFor : Kind → List ℕ → Type 0
NamesFor kind.Joined named = Unit {0}
NamesFor other named = named ≡ []

named_read : (k : Kind) (words : ℕ) (bytes : List ℕ) (x : List ℕ × List ℕ)
    → many_from number_at (named_count k words) bytes ≡ Ok x → NamesFor k x.0
unfolding many_from
named_read kind.Pause words bytes x e = ap (λ (y : List ℕ × List ℕ). y.0) (sym (ok_is ℕ ([], bytes) x e))
named_read kind.Alloc words bytes x e = ap (λ (y : List ℕ × List ℕ). y.0) (sym (ok_is ℕ ([], bytes) x e))
named_read kind.Read words bytes x e = ap (λ (y : List ℕ × List ℕ). y.0) (sym (ok_is ℕ ([], bytes) x e))
named_read kind.Stored words bytes x e = ap (λ (y : List ℕ × List ℕ). y.0) (sym (ok_is ℕ ([], bytes) x e))
named_read kind.Length words bytes x e = ap (λ (y : List ℕ × List ℕ). y.0) (sym (ok_is ℕ ([], bytes) x e))
named_read kind.Class words bytes x e = ap (λ (y : List ℕ × List ℕ). y.0) (sym (ok_is ℕ ([], bytes) x e))
named_read kind.Same words bytes x e = ap (λ (y : List ℕ × List ℕ). y.0) (sym (ok_is ℕ ([], bytes) x e))
named_read kind.Enter words bytes x e = ap (λ (y : List ℕ × List ℕ). y.0) (sym (ok_is ℕ ([], bytes) x e))
named_read kind.Exit words bytes x e = ap (λ (y : List ℕ × List ℕ). y.0) (sym (ok_is ℕ ([], bytes) x e))
named_read kind.Start words bytes x e = ap (λ (y : List ℕ × List ℕ). y.0) (sym (ok_is ℕ ([], bytes) x e))
named_read kind.Join words bytes x e = ap (λ (y : List ℕ × List ℕ). y.0) (sym (ok_is ℕ ([], bytes) x e))
named_read kind.Init words bytes x e = ap (λ (y : List ℕ × List ℕ). y.0) (sym (ok_is ℕ ([], bytes) x e))
named_read kind.Print words bytes x e = ap (λ (y : List ℕ × List ℕ). y.0) (sym (ok_is ℕ ([], bytes) x e))
named_read kind.Throw words bytes x e = ap (λ (y : List ℕ × List ℕ). y.0) (sym (ok_is ℕ ([], bytes) x e))
named_read kind.Begin words bytes x e = ap (λ (y : List ℕ × List ℕ). y.0) (sym (ok_is ℕ ([], bytes) x e))
named_read kind.End words bytes x e = ap (λ (y : List ℕ × List ℕ). y.0) (sym (ok_is ℕ ([], bytes) x e))
named_read kind.Ended words bytes x e = ap (λ (y : List ℕ × List ℕ). y.0) (sym (ok_is ℕ ([], bytes) x e))
named_read kind.Asked words bytes x e = ap (λ (y : List ℕ × List ℕ). y.0) (sym (ok_is ℕ ([], bytes) x e))
named_read kind.Joined words bytes x e = tt
named_read kind.Guarded words bytes x e = ap (λ (y : List ℕ × List ℕ). y.0) (sym (ok_is ℕ ([], bytes) x e))
named_read kind.Closing words bytes x e = ap (λ (y : List ℕ × List ℕ). y.0) (sym (ok_is ℕ ([], bytes) x e))
named_read kind.Fenced words bytes x e = ap (λ (y : List ℕ × List ℕ). y.0) (sym (ok_is ℕ ([], bytes) x e))

kept : (o : Op) (named : List ℕ) → NamesFor (kind_of o) named → (names_for o named ≡ named) × (names_after o named ≡ [])
kept op.Pause named e = (sym e, e)
kept (op.Alloc object shape slots) named e = (sym e, e)
kept (op.Read place value) named e = (sym e, e)
kept (op.Stored place value) named e = (sym e, e)
kept (op.Length object slots) named e = (sym e, e)
kept (op.Class object shape) named e = (sym e, e)
kept (op.Same same) named e = (sym e, e)
kept (op.Enter key) named e = (sym e, e)
kept (op.Exit key) named e = (sym e, e)
kept (op.Start object child) named e = (sym e, e)
kept (op.Join object) named e = (sym e, e)
kept (op.Init class is) named e = (sym e, e)
kept (op.Print bytes) named e = (sym e, e)
kept (op.Throw object class) named e = (sym e, e)
kept op.Begin named e = (sym e, e)
kept op.End named e = (sym e, e)
kept (op.Ended uncaught) named e = (sym e, e)
kept (op.Asked place value) named e = (sym e, e)
kept op.Joined named e = (refl, refl)
kept (op.Guarded place) named e = (sym e, e)
kept op.Closing named e = (sym e, e)
kept op.Fenced named e = (sym e, e)

abbrev pub act_of : Head → ℕ → Op → Act
act_of head at o = record { thread = head.thread; at = at; op = o }

-- the history with an act that was read has it with its objects
pub added : (bytes : List ℕ) (h : Head × List ℕ) (a : ℕ × List ℕ) (o : Op × List ℕ) (ns : List ℕ × List ℕ) (before : History)
    → head_at bytes ≡ Ok h → word_at h.1 ≡ Ok a → op_at h.0.kind h.0.words a.1 ≡ Ok o
    → many_from number_at (named_count h.0.kind h.0.words) o.1 ≡ Ok ns → before.named ≡ ns.0
    → ((r : Recorded) × (act_at bytes ≡ Ok (r, ns.1)) × ((with_act before (act_of h.0 a.0 o.0)).acts ≡ before.acts ++ r ∷ []))
    × ((with_act before (act_of h.0 a.0 o.0)).named ≡ [])
unfolding act_at
added bytes h a o ns before eh ea eo en same =
    let k = kind_read h.0.kind h.0.words a.1 o eo in
    let names : NamesFor (kind_of o.0) ns.0 = subst (λ (k : Kind). NamesFor k ns.0) (sym k)
    (named_read h.0.kind h.0.words o.1 ns en) in
    let keeps = kept o.0 ns.0 names in
    let r : Recorded = record { act = act_of h.0 a.0 o.0; named = ns.0 } in
    let read : act_at bytes ≡ Ok (r, ns.1) = rw (eh, ea, eo, en) refl in
    let taken : names_for o.0 before.named ≡ ns.0 = ap (names_for o.0) same ∙ keeps.0 in (
      (r, read, ap (λ (named : List ℕ). before.acts ++ record { act = act_of h.0 a.0 o.0; named = named } ∷ []) taken),
      ap
          (names_after o.0) same ∙ keeps.1,
    )
