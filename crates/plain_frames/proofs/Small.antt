-- The small program meets all premises of the law on duties.
use Rattle.std.proofs.Common.{◌≡◌, ℕ, zero, suc, ◌+◌, ◌<◌, ◌≤◌, Bool, true, false, nat_eq, ◌||◌, ◌&&◌, List, [], ◌∷◌, length}
use Rattle.std.proofs.Common.{map, slice_index_or, nat_lt, inl, inr, ◌⊎◌, Option, Some, None, refl, ap, sym, subst, ◌∙◌}
use Rattle.std.proofs.Common.{if◌then◌else◌, arith, lit<, lit≤}
use Rattle.std.specs.Prelude.{All, ◌≢◌, IfSome, Contains}
use Rattle.std.specs.List.{list_any}
use Rattle.std.proofs.lemmas.Bool.{eqb-true, eq-eqb, ltb-true, and_parts, cases_lt}
use Rattle.std.proofs.lemmas.List.{get_or_past}
use Rattle.std.proofs.lemmas.List.Elements.{All-nil, All-cons, All-from_recursion}
use Rattle.std.proofs.lemmas.Map.Views.{any-filter_same}
use Rattle.ap_base.specs.declared.kind.Kind.TheVariants.{L}
use Rattle.graph_model.specs.declared.types.Node.{Node}
use Rattle.graph_model.specs.declared.types.NamedValue.{NamedValue}
use Rattle.graph_model.specs.Heaps.{IsBelow}
use Rattle.run_types.specs.declared.fault.LinkKind.TheVariants.{MissingMethod}
use Rattle.plain_model.specs.Facts.{SetFacts, StaticFacts, classes_of, class_at, is_sub}
use Rattle.plain_model.specs.Kinds.{HasKind}
use Rattle.plain_model.specs.First.{IsOpening, class_named}
use Rattle.plain_model.specs.Rows.{nodes, null_root}
use Rattle.plain_model.specs.Duties.{IsClass}
use Rattle.plain_model.proofs.RunParts.{◌▸◌}
use Rattle.plain_model.proofs.Sets.{nodes_are_consistent}
use Rattle.frames.specs.declared.program.Class.{Class}
use Rattle.frames.specs.declared.program.Dispatch.{Dispatch}
use Rattle.frames.specs.declared.program.Target.TheVariants as target
use Rattle.frames.specs.declared.program.Method.{Method}
use Rattle.frames.specs.declared.program.Placed.{Placed}
use Rattle.frames.specs.declared.program.Selector.{Selector}
use Rattle.frames.specs.Tables.{no_class, target_of, dispatched, is_subtype}
use Rattle.frames.specs.Tables as tables
use Rattle.plain_frames.specs.Tables.{IsOpOf, IsOpIn, IsMethodOf, IsTarget, IsOwnTarget, IsClassOf, NamesWhatIsThere}
use Rattle.plain_frames.specs.Tables.{IsProgramOf, IsMainOf, found_above}
use Rattle.plain_frames.specs.Sound.{KeepIn}
use Rattle.plain_frames.specs.Small.{Nothing, numbers_from, row_of, small_row, rows_from, small_program, pausing, any_state}
use Rattle.plain_frames.specs.Small.{MeetsAll}

-- ---- rows of classes

rows-at : (row : ℕ → Class) (k c n : ℕ) (d : Class) → n < c
    → slice_index_or (rows_from row k c) n d ≡ row (k + n)
rows-at row k zero n d below = absurd (omega (arith, below))
rows-at row k (suc c) zero d below = ap row (let e : k ≡ k + 0 = omega arith in e)
rows-at row k (suc c) (suc n) d below =
    rows-at row (suc k) c n d (omega (arith, below))
    ∙ ap row (let e : suc k + n ≡ k + suc n = omega arith in e)

rows-length : (row : ℕ → Class) (k c : ℕ) → length (rows_from row k c) ≡ c
rows-length row k zero = refl
rows-length row k (suc c) = ap suc (rows-length row (suc k) c)

abbrev count : ℕ
count = length (classes_of nodes)

row-is : (n : ℕ) → n < count → tables.class_at small_program n ≡ small_row n
row-is n below =
    rows-at small_row 0 count n no_class below
    ∙ ap small_row (let e : 0 + n ≡ n = omega arith in e)

has-number : (k c n : ℕ) → k ≤ n → n < k + c → list_any (λ m. nat_eq m n) (numbers_from k c) ≡ true
has-number k zero n from below = absurd (omega (arith, from, below))
has-number k (suc c) n from below = elim (nat_eq k n) as (λ b. nat_eq k n ≡ b
    → (b || list_any (λ m. nat_eq m n) (numbers_from (suc k) c)) ≡ true) [
      | true ↦ λ e. refl
      | false ↦ λ e. has-number (suc k) c n
          (let other : k ≢ n = (λ same. absurd (let no : true ≡ false = sym (eq-eqb k n same) ∙ e in cc)) in
          omega (arith, from, other)) (omega (arith, below))
    ] refl

-- a row's supertypes are those of its class
row-subtypes : (set : SetFacts) (n above : ℕ) → above < length (classes_of set)
    → list_any (λ m. nat_eq m above) (row_of set n).supertypes ≡ is_sub set n above
row-subtypes set n above there =
    any-filter_same (λ m. nat_eq m above) (is_sub set n) (is_sub set n above)
    (λ k e. ap (is_sub set n) (eqb-true k above e)) (numbers_from 0 (length (classes_of set)))
    ∙ and-true (is_sub set n above) _
    (has-number 0 (length (classes_of set)) above (omega arith) (omega (arith, there)))
  where
    and-true : (b c : Bool) → c ≡ true → (b && c) ≡ b
    and-true true c e = e
    and-true false c e = refl

same-supertypes : (n : ℕ) → (small_row n).supertypes ≡ (row_of nodes n).supertypes
same-supertypes zero = refl
same-supertypes (suc zero) = refl
same-supertypes (suc (suc n)) = refl

small-subtypes : (n above : ℕ) → IsClass nodes n → IsClass nodes above
    → is_subtype small_program n above ≡ is_sub nodes n above
small-subtypes n above there above_there =
    ap (λ (c : Class). list_any (λ m. nat_eq m above) c.supertypes) (row-is n there)
    ∙ ap (λ ns. list_any (λ m. nat_eq m above) ns) (same-supertypes n)
    ∙ row-subtypes nodes n above above_there

-- ---- look-ups

-- Node alone has a method
no-dispatch : (n : ℕ) → n ≢ 1 → (small_row n).dispatch ≡ []
no-dispatch zero other = refl
no-dispatch (suc zero) other = absurd (other refl)
no-dispatch (suc (suc n)) other = refl

finds-none : (n signature : ℕ) → n ≢ 1
    → dispatched small_program n signature ≡ target.Fails MissingMethod
finds-none n signature other = elim (cases_lt n count) [
  | inl there ↦ ap (λ (c : Class). target_of c.dispatch signature) (row-is n there)
      ∙ ap (λ ds. target_of ds signature) (no-dispatch n other)
  | inr past ↦ ap (λ (c : Class). target_of c.dispatch signature)
      (get_or_past small_program.classes n no_class
      (let same = rows-length small_row 0 count in omega (arith, past, same)))
]

abbrev IsInherited : ℕ → Type 0
IsInherited n = (signature : ℕ) → IsOwnTarget nodes small_program n (dispatched small_program n signature)
    ⊎ (dispatched small_program n signature
    ≡ found_above nodes small_program (class_at nodes n).superclass signature)

-- no superclass is Node
above-none : (super : Option ℕ) → IfSome super (λ s. s ≢ 1) → (signature : ℕ)
    → found_above nodes small_program super signature ≡ target.Fails MissingMethod
above-none None other signature = refl
above-none (Some super) other signature = finds-none super signature other

inherited-else : (n : ℕ) → n ≢ 1 → IfSome (class_at nodes n).superclass (λ s. s ≢ 1) → IsInherited n
inherited-else n other super_other signature =
    inr (finds-none n signature other ∙ sym (above-none (class_at nodes n).superclass super_other signature))

-- each superclass is a class, and not Node
abbrev super_below : ℕ → Option ℕ → Bool
super_below b None = true
super_below b (Some super) = nat_lt super b && nat_lt 1 super

abbrev all_below : ℕ → List Class → Bool
all_below b [] = true
all_below b (c ∷ cs) = super_below b c.superclass && all_below b cs

super-is : (b : ℕ) (super : Option ℕ) → super_below b super ≡ true
    → IfSome super (λ n. n < b) × IfSome super (λ n. n ≢ 1)
super-is b None e = (tt, tt)
super-is b (Some super) e =
    let (below, past) = and_parts (nat_lt super b) (nat_lt 1 super) e in
    let one = ltb-true 1 super past in
    (ltb-true super b below, λ same. absurd (omega (arith, one, same)))

abbrev IsAbove : ℕ → Class → Type 0
IsAbove b c = IfSome c.superclass (λ n. n < b) × IfSome c.superclass (λ n. n ≢ 1)

supers-above : (b : ℕ) (cs : List Class) → all_below b cs ≡ true → All (IsAbove b) cs
supers-above b [] e = All-nil (IsAbove b)
supers-above b (c ∷ cs) e =
    let (first, rest) = and_parts (super_below b c.superclass) (all_below b cs) e in
    All-cons (IsAbove b) c cs (super-is b c.superclass first) (supers-above b cs rest)

all-above : All (IsAbove count) small_program.classes
all-above = supers-above count small_program.classes refl

same-super : (n : ℕ) → (small_row n).superclass ≡ (class_at nodes n).superclass
same-super zero = refl
same-super (suc zero) = refl
same-super (suc (suc n)) = refl

other-super : (n : ℕ) → IsClass nodes n → IfSome (class_at nodes n).superclass (λ s. s ≢ 1)
other-super n there =
    let same = rows-length small_row 0 count in
    subst (λ super. IfSome super (λ s. s ≢ 1))
    (ap (λ (c : Class). c.superclass) (row-is n there) ∙ same-super n)
    (all-above n no_class (omega (arith, there, same))).1

-- ---- classes

class-row : (n : ℕ) → IsClass nodes n → IsClassOf nodes small_program n (small_row n)
class-row zero there = record {
  superclass = refl;
  of_program = refl;
  supertypes = λ not_array above is_class. small-subtypes 0 above there is_class;
  initialiser = tt;
  dispatch = All-nil (λ (d : Dispatch). IsTarget nodes small_program d.target);
  inherited = inherited-else 0 (λ same. absurd (omega (arith, same))) (other-super 0 there);
}
class-row (suc zero) there = record {
  superclass = refl;
  of_program = refl;
  supertypes = λ not_array above is_class. small-subtypes 1 above there is_class;
  initialiser = record { static = (lit< tt, refl); own = refl; program = lit< tt; parameters = refl };
  dispatch = All-from_recursion (λ (d : Dispatch). IsTarget nodes small_program d.target)
      (small_row 1).dispatch ((lit< tt, refl) ▸ tt);
  inherited = λ signature. elim (nat_eq 2 signature) as
      (λ b. IsOwnTarget nodes small_program 1 (if b then target.Method 3 else target.Fails MissingMethod)
      ⊎ ((if b then target.Method 3 else target.Fails MissingMethod)
      ≡ found_above nodes small_program (class_at nodes 1).superclass signature)) [
        | true ↦ inl refl
        | false ↦ inr (sym (above-none (class_at nodes 1).superclass (other-super 1 there) signature))
      ];
}
class-row (suc (suc n)) there = record {
  superclass = refl;
  of_program = refl;
  supertypes = λ not_array above is_class. small-subtypes (suc (suc n)) above there is_class;
  initialiser = tt;
  dispatch = All-nil (λ (d : Dispatch). IsTarget nodes small_program d.target);
  inherited = inherited-else (suc (suc n)) (λ same. absurd (omega (arith, same)))
      (other-super (suc (suc n)) there);
}

-- ---- the program

small_names : NamesWhatIsThere nodes small_program
small_names = record {
  code = All-from_recursion (λ (i : Placed). IsOpOf nodes small_program i.op) small_program.code (
      (lit< tt, refl)
      ▸ (lit< tt, refl, inr (0, _, refl, refl, refl, refl))
      ▸ (lit< tt, refl, inr (0, _, refl, refl, refl, refl))
      ▸ tt ▸ tt ▸ tt ▸ tt ▸ tt ▸ tt
      );
  methods = All-from_recursion (λ (m : Method Nothing). IsClass nodes m.class) small_program.methods
      (lit< tt ▸ lit< tt ▸ lit< tt ▸ lit< tt ▸ tt);
  selectors = All-from_recursion (λ (s : Selector). IsClass nodes s.within) small_program.selectors
      (lit< tt ▸ tt);
  superclasses = λ k d within. (all-above k d within).0;
  throwable = refl;
  thread = refl;
  null_pointer = refl;
  arithmetic = refl;
}

small_tables : IsProgramOf nodes small_program
small_tables = record {
  names = small_names;
  code = All-from_recursion (λ (i : Placed). IsOpIn nodes small_program i.op) small_program.code
      (tt ▸ tt ▸ tt ▸ lit< tt ▸ (lit< tt, refl) ▸ tt ▸ tt ▸ tt ▸ tt);
  methods = All-from_recursion (IsMethodOf nodes small_program) small_program.methods (
      record { body = (lit< tt, lit< tt); monitor = λ no. absurd (let e = no in cc) }
      ▸ record { body = lit≤ tt; monitor = λ no. absurd (let e = no in cc) }
      ▸ record { body = (lit< tt, lit< tt); monitor = λ no. absurd (let e = no in cc) }
      ▸ record { body = (lit< tt, lit< tt); monitor = λ is. lit< tt }
      ▸ tt
      );
  count = rows-length small_row 0 count;
  classes = λ n there. subst (IsClassOf nodes small_program n) (sym (row-is n there)) (class-row n there);
}

small_main : IsMainOf nodes small_program 0 0
small_main = record { class = lit< tt; static = (lit< tt, refl); above = refl; parameters = refl }

pausing_keeps : KeepIn nodes pausing any_state
pausing_keeps = record {
  asks = λ world t s is. tt;
  start = λ world k from values all. refl;
  answered = λ world s r is replied below. tt;
  returned = λ world s r is result below. tt;
  more = λ m n s more is. refl;
}

null_root_opens : IsOpening nodes null_root
null_root_opens = record {
  shapes = All-nil (λ (n : Node). class_named (classes_of nodes) n.shape.name < length (classes_of nodes));
  agree = λ k d within. absurd (omega (arith, within));
  values = λ k d within. absurd (omega (arith, within));
  has_roots = All-from_recursion (λ (s : StaticFacts). s.is_root ≡ true
      → Contains (map (λ (r : NamedValue). r.name) null_root.roots) s.name) nodes.statics
      ((λ root. (0, lit< tt, refl)) ▸ tt);
  names_differ = λ i j d lt within. absurd (omega (arith, lt, within));
  references = All-from_recursion (λ (r : NamedValue). HasKind L r.value) null_root.roots (tt ▸ tt);
  in_roots = All-from_recursion (λ (r : NamedValue). IsBelow 0 r.value) null_root.roots (tt ▸ tt);
  in_nodes = λ k d within. absurd (omega (arith, within));
  few = lit< tt;
}

pub meets_all : MeetsAll
meets_all = record {
  consistent = nodes_are_consistent;
  opens = null_root_opens;
  tables = small_tables;
  natives = pausing_keeps;
  main = small_main;
}
