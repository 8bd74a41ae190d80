-- Look-ups go on in the superclass.
use Rattle.std.proofs.Common.{true, false, ◌≡◌, ◌⊎◌, inl, inr, ℕ, zero, suc, ◌+◌, ◌<◌, ◌≤◌, List, [], ◌∷◌, Option, Some, None}
use Rattle.std.proofs.Common.{map, length, slice_index_or, refl, ap, sym, ◌∙◌, if◌then◌else◌, subst, arith}
use Rattle.std.specs.Prelude.{Bool, nat_lt, codes, All, IfSome, Ok, Err}
use Rattle.std.proofs.lemmas.Bool.{cases_lt}
use Rattle.std.proofs.lemmas.Bool.Decides.{nat_tests}
use Rattle.std.proofs.lemmas.List.{get_or-append-add, length-append, length-map}
use Rattle.std.proofs.lemmas.List.FromFn.{get_or-map-range_with_len}
use Rattle.std.proofs.lemmas.List.Elements.{All-nil, All-cons, All-append}
use Rattle.run_types.specs.declared.fault.LinkKind.TheVariants.{MissingMethod, NoCode, StaticMismatch}
use Rattle.run_types.specs.declared.resolved.MethodAt.{MethodAt}
use Rattle.graph_walks.specs.Circles.{HasNoCircle}
use Rattle.plain_model.specs.Classes.{ClassFacts, no_class}
use Rattle.plain_model.specs.Facts.{class_at, classes_of, superclasses_from, superclasses_of}
use Rattle.built_in_table.specs.Members.{MemberFacts, built_in_supers}
use Rattle.class_file.specs.declared.class.ClassFile.{ClassFile}
use Rattle.class_links.specs.Links.{Links}
use Rattle.class_set.specs.Linked.{Linked, class_names, names_of}
use Rattle.class_set.specs.Facts.{facts_of}
use Rattle.class_set.specs.Members.{own_methods, super_number, supers_of}
use Rattle.class_set.specs.Members.{superclasses_of as chain_of}
use Rattle.class_set.specs.Lookups.{class_edges, find_member, find_method, first_some, method_at, own_method}
use Rattle.class_set.proofs.Above.{class_names_counted, super_below, super_of_array, supers_counted}
use Rattle.class_set.proofs.Chains.{AreWithin, superclasses_listed}
use Rattle.class_set.proofs.Circles.{no_class_above_itself}
use Rattle.class_set.proofs.Edges.{supers_within}
use Rattle.class_set.proofs.Layering.{chain_step}
use Rattle.frames.specs.Tables.{dispatched}
use Rattle.frames.specs.Tables as tables
use Rattle.frames.specs.declared.program.Class.{Class}
use Rattle.frames.specs.declared.program.Dispatch.{Dispatch}
use Rattle.frames.specs.declared.program.Program.{Program}
use Rattle.frames.specs.declared.program.Target.{Target}
use Rattle.frames.specs.declared.program.Target.TheVariants as target
use Rattle.class_code.specs.Classes.{class_of, dispatch_from, dispatch_to, static_only, target_of}
use Rattle.class_code.specs.Dispatched.{IsTold, target_for}
use Rattle.class_code.specs.Entries.{Signature, called_method, place_from, run_signature, signatures_of}
use Rattle.class_code.specs.Inherited.{IsInherited, IsInitialiserOf, IsOwnTarget, IsTargetOf, found_above}
use Rattle.class_code.specs.Methods.{can_run, method_count, method_number}
use Rattle.class_code.specs.Programs.{program_of}
use Rattle.class_code.proofs.Dispatching.{is_told}
use Rattle.class_code.proofs.Finds.{own_place}
use Rattle.class_code.proofs.Found.{found_there, own_there}

-- ---- the chain of superclasses goes on in the superclass

above_of : Linked → Option ℕ → List ℕ
above_of set None = []
above_of set (Some s) = superclasses_of (facts_of set) s

abbrev super_of : Linked → ℕ → Option ℕ
super_of set n = (class_at (facts_of set) n).superclass

within : (files : List ClassFile) → AreWithin (length (supers_of files)) (supers_of files)
within files k s e = omega (arith, supers_within files k s e, supers_counted files)

chain_rest : (set : Linked) (n : ℕ) (o : Option ℕ) → slice_index_or (supers_of set.files) n None ≡ o
    → (elim o [ None ↦ [] | Some s ↦ chain_of set.files s ]) ≡ above_of set o
unfolding above_of
chain_rest set n None e = refl
chain_rest set n (Some s) e = sym (superclasses_listed set s (within set.files) (within set.files n s e))

chain_below : (set : Linked) (n : ℕ) → HasNoCircle (class_edges set.files) → n < length set.files + 28
    → superclasses_of (facts_of set) n ≡ n ∷ above_of set (super_of set n)
chain_below set n none l =
    let there : n < length (supers_of set.files) = omega (arith, l, supers_counted set.files) in
    superclasses_listed set n (within set.files) there
    ∙ chain_step set.files n none l
    ∙ ap (λ ns. n ∷ ns) (chain_rest set n (slice_index_or (supers_of set.files) n None) refl)
    ∙ ap (λ o. n ∷ above_of set o) (sym (super_below set n there))

top : (classes : List ClassFacts) (m s : ℕ) → (slice_index_or classes s no_class).superclass ≡ None → superclasses_from classes m s ≡ s ∷ []
top classes zero s e = refl
top classes (suc m) s e = ap (λ o. s ∷ (elim o [ None ↦ [] | Some super ↦ superclasses_from classes m super ])) e

one_up : (classes : List ClassFacts) (left more n s : ℕ) → left ≡ suc more → (slice_index_or classes n no_class).superclass ≡ Some s
    → superclasses_from classes left n ≡ n ∷ superclasses_from classes more s
one_up classes left more n s l e =
    ap (λ k. superclasses_from classes k n) l
    ∙ ap (λ o. n ∷ (elim o [ None ↦ [] | Some super ↦ superclasses_from classes more super ])) e

object_row : (first : ℕ) → slice_index_or (built_in_supers first) 18 None ≡ None
unfolding built_in_supers
object_row first = refl

object_top : (set : Linked) → super_of set (length set.files + 18) ≡ None
object_top set =
    let files = set.files in
    let own = map (super_number files) files in
    let size : length own ≡ length files = length-map files (super_number files) in
    super_below set (length files + 18) (omega (arith, supers_counted files))
    ∙ ap (λ n. slice_index_or (supers_of files) (n + 18) None) (sym size)
    ∙ get_or-append-add own (built_in_supers (length files)) 18 None
    ∙ object_row (length files)

pub names_counted : (set : Linked) → length (names_of set) ≡ length set.files + 28 + length set.arrays
names_counted set = let all = length-append (class_names set.files) set.arrays in omega (arith, all, class_names_counted set.files)

chain_array : (set : Linked) (n : ℕ) → length set.files + 28 ≤ n → n < length (names_of set)
    → superclasses_of (facts_of set) n ≡ n ∷ above_of set (super_of set n)
unfolding above_of
chain_array set n behind l =
    let classes = classes_of (facts_of set) in
    let object = length set.files + 18 in
    let super : super_of set n ≡ Some object = super_of_array set n behind (omega (arith, l, names_counted set)) in
    let count = length (facts_of set).program in
    one_up classes (count + 28) (count + 27) n object (omega arith) super
    ∙ ap (λ ns. n ∷ ns) (top classes (count + 27) object (object_top set) ∙ sym (top classes (count + 28) object (object_top set)))
    ∙ ap (λ o. n ∷ above_of set o) (sym super)

chain_on : (set : Linked) (n : ℕ) → HasNoCircle (class_edges set.files) → n < length (names_of set)
    → superclasses_of (facts_of set) n ≡ n ∷ above_of set (super_of set n)
chain_on set n none l = elim (cases_lt n (length set.files + 28)) [
  | inl below ↦ chain_below set n none below
  | inr past ↦ chain_array set n past l
]

some_same : (o p : Option ℕ) (s t : ℕ) → o ≡ Some s → o ≡ Some t → s ≡ t
some_same o p s t e f = cc

pub super_there : (set : Linked) (n s : ℕ) → n < length (names_of set) → super_of set n ≡ Some s → s < length (names_of set)
super_there set n s l e = elim (cases_lt n (length set.files + 28)) [
  | inl below ↦ omega (
    arith,
    names_counted set,
    supers_within set.files n s
        (sym (super_below set n (omega (arith, below, supers_counted set.files))) ∙ e),
  )
  | inr past ↦ omega (
    arith,
    names_counted set,
    some_same (super_of set n) None s (length set.files + 18) e (super_of_array set n past (omega (arith, l, names_counted set))),
  )
]

-- ---- look-ups

find_up : (set : Linked) (name descriptor : List ℕ) → Option ℕ → Option MethodAt
find_up set name descriptor None = None
find_up set name descriptor (Some s) = find_method set s name descriptor

up_rest : (set : Linked) (name descriptor : List ℕ) (o : Option ℕ)
    → first_some (own_method set name descriptor) (above_of set o) ≡ find_up set name descriptor o
unfolding above_of find_up
up_rest set name descriptor None = refl
up_rest set name descriptor (Some s) = refl

abbrev or_up : Option MethodAt → Option MethodAt → Option MethodAt
or_up own above = elim own [ None ↦ above | Some m ↦ Some m ]

find_on : (set : Linked) (n : ℕ) (name descriptor : List ℕ) → HasNoCircle (class_edges set.files) → n < length (names_of set)
    → find_method set n name descriptor ≡ or_up (own_method set name descriptor n) (find_up set name descriptor (super_of set n))
find_on set n name descriptor none l =
    ap (first_some (own_method set name descriptor)) (chain_on set n none l)
    ∙ ap (or_up (own_method set name descriptor n)) (up_rest set name descriptor (super_of set n))

placed_class : (n : ℕ) (o : Option (ℕ × MemberFacts)) (m : MethodAt) → method_at n o ≡ Some m → m.class ≡ n
placed_class n None m e = let no : ⊥ = cc in absurd no
placed_class n (Some f) m e =
    let same : record { class = n; method = f.0; is_static = f.1.is_static } ≡ m = cc in ap (λ (x : MethodAt). x.class) (sym same)

own_class : (set : Linked) (name descriptor : List ℕ) (n : ℕ) (m : MethodAt) → own_method set name descriptor n ≡ Some m → m.class ≡ n
own_class set name descriptor n m e = placed_class n (find_member (own_methods set n) name descriptor) m e

own_below : (set : Linked) (name descriptor : List ℕ) (n : ℕ) (m : MethodAt) → own_method set name descriptor n ≡ Some m
    → m.method < method_count set n
own_below set name descriptor n m e =
    subst (λ c. m.method < method_count set c) (own_class set name descriptor n m e) (own_there set name descriptor n m e)

abbrev Goes : {M : Type 0} → Linked → Program M → ℕ → Target → ℕ → Type 0
Goes set p n t k = IsOwnTarget set n t ⊎ (t ≡ found_above p (super_of set n) k)

module _ {M : Type 0} (native_at : (place number : ℕ) → Option M) (set : Linked) (none : HasNoCircle (class_edges set.files)) where
  told : (n : ℕ) → n < length (names_of set) → IsTold set (program_of native_at set) n
  told n l = is_told native_at set n l

  upward : (n : ℕ) (s : Signature) (k : ℕ) → n < length (names_of set) → place_from 0 (signatures_of set.files) s ≡ Some k
      → (o : Option ℕ) → super_of set n ≡ o
      → target_for set (find_up set s.name s.descriptor o) ≡ found_above (program_of native_at set) o k
  unfolding find_up
  upward n s k l at None e = refl
  upward n s k l at (Some super) e = sym ((told super (super_there set n super l e)).dispatch s k at)

  known : (n k : ℕ) (s : Signature) → n < length (names_of set) → place_from 0 (signatures_of set.files) s ≡ Some k
      → (o : Option MethodAt) → own_method set s.name s.descriptor n ≡ o
      → Goes set (program_of native_at set) n (dispatched (program_of native_at set) n k) k
  known n k s l at None e =
      inr ((told n l).dispatch s k at
      ∙ ap (target_for set) (find_on set n s.name s.descriptor none l ∙ ap (λ o. or_up o (find_up set s.name s.descriptor (super_of set n))) e)
      ∙ upward n s k l at (super_of set n) refl)
  known n k s l at (Some m) e =
      inl (record {
        method = m;
        own = own_class set s.name s.descriptor n m e;
        there = own_below set s.name s.descriptor n m e;
        target = (told n l).dispatch s k at
            ∙ ap (target_for set) (find_on set n s.name s.descriptor none l ∙ ap (λ o. or_up o (find_up set s.name s.descriptor (super_of set n))) e);
      })

  past_above : (n k : ℕ) → n < length (names_of set) → length (signatures_of set.files) ≤ k → (o : Option ℕ) → super_of set n ≡ o
      → target.Fails MissingMethod ≡ found_above (program_of native_at set) o k
  past_above n k l past None e = refl
  past_above n k l past (Some super) e = sym ((told super (super_there set n super l e)).no_more k past)

  goes_up : (n : ℕ) → n < length (names_of set) → (k : ℕ)
      → Goes set (program_of native_at set) n (dispatched (program_of native_at set) n k) k
  goes_up n l k = elim (cases_lt k (length (signatures_of set.files))) [
    | inl below ↦ let s = slice_index_or (signatures_of set.files) k run_signature in
        known n k s l (own_place set.files k run_signature below) (own_method set s.name s.descriptor n) refl
    | inr past ↦ inr ((told n l).no_more k past ∙ past_above n k l past (super_of set n) refl)
  ]

-- ---- the rows of a class

runnable : (set : Linked) (m : MethodAt) (static runs : Bool) → m.is_static ≡ static → can_run set m ≡ runs → m.method < method_count set m.class
    → IsTargetOf set (target_of set (if static then Err StaticMismatch else (if runs then Ok m else Err NoCode)))
runnable set m true runs s r l = tt
runnable set m false true s r l =
    record { method = m; there = l; of_instance = s; runs = r; numbered = refl }
runnable set m false false s r l = tt

dispatch_runs : (set : Linked) (n : ℕ) (o : Option MethodAt) → ((m : MethodAt) → o ≡ Some m → m.method < method_count set m.class)
    → All (λ (d : Dispatch). IsTargetOf set d.target) (dispatch_to set n o)
dispatch_runs set n None h = All-nil (λ (d : Dispatch). IsTargetOf set d.target)
dispatch_runs set n (Some m) h =
    All-cons (λ (d : Dispatch). IsTargetOf set d.target) (record { signature = n; target = target_of set (called_method set false m) }) []
    (runnable set m m.is_static (can_run set m) refl refl (h m refl)) (All-nil (λ (d : Dispatch). IsTargetOf set d.target))

rows_run : (set : Linked) (class n : ℕ) (ss : List Signature) → All (λ (d : Dispatch). IsTargetOf set d.target) (dispatch_from set class n ss)
rows_run set class n [] = All-nil (λ (d : Dispatch). IsTargetOf set d.target)
rows_run set class n (s ∷ ss) =
    All-append (λ (d : Dispatch). IsTargetOf set d.target) (dispatch_to set n (find_method set class s.name s.descriptor))
    (dispatch_from set class (suc n) ss)
    (dispatch_runs set n (find_method set class s.name s.descriptor) (λ m e. found_there set class s.name s.descriptor m e))
    (rows_run set class (suc n) ss)

initialises : (set : Linked) (n : ℕ) (b : Bool) → nat_lt n (length set.files) ≡ b → (o : Option MethodAt)
    → own_method set (codes "<clinit>") (codes "()V") n ≡ o
    → IfSome (if b then static_only set o else None) (IsInitialiserOf set n)
initialises set n false below o e = tt
initialises set n true below None e = tt
initialises set n true below (Some m) e = one m.is_static refl
  where
    one : (b : Bool) → m.is_static ≡ b → IfSome (if b then Some (method_number set m) else None) (IsInitialiserOf set n)
    one false s = tt
    one true s = record {
      method = m;
      own = e;
      class = own_class set (codes "<clinit>") (codes "()V") n m e;
      there = own_below set (codes "<clinit>") (codes "()V") n m e;
      static = s;
      of_program = grind (arith, nat_tests);
      numbered = refl;
    }

pub inherits : {M : Type 0} (native_at : (place number : ℕ) → Option M) (set : Linked) (n : ℕ) → Links set.files → n < length (names_of set)
    → IsInherited set (program_of native_at set) n
unfolding program_of
inherits native_at set n links l =
    let row = get_or-map-range_with_len (class_of set) 0 (length (names_of set)) n n tables.no_class l (omega arith) in
    record {
      inherited = goes_up native_at set (no_class_above_itself set.files links.no_circle) n l;
      targets = subst (λ (c : Class). All (λ (d : Dispatch). IsTargetOf set d.target) c.dispatch) (sym row)
          (rows_run set n 0 (signatures_of set.files));
      initialiser = subst (λ (c : Class). IfSome c.initialiser (IsInitialiserOf set n)) (sym row)
          (initialises set n (nat_lt n (length set.files)) refl (own_method set (codes "<clinit>") (codes "()V") n) refl);
    }
