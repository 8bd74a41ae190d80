-- What an instruction of a method of a file makes is among what the code of the set makes.
use Rattle.std.proofs.Common.{◌≡◌, ℕ, suc, Bool, true, false, List, [], ◌∷◌, ◌++◌, Option, Some, None, filter, refl, ap, sym}
use Rattle.std.proofs.Common.{◌∙◌, subst, inl, inr, if◌then◌else◌}
use Rattle.std.specs.Prelude.{All, Contains, codes}
use Rattle.std.specs.List.{flat_map}
use Rattle.std.proofs.lemmas.List.Elements.{All-append, All-cons, All-contains_itself, All-head, All-nil, All-tail}
use Rattle.std.proofs.lemmas.List.Elements.{Contains-append_left, Contains-append_right}
use Rattle.graph_walks.proofs.Lists.{Contains-cons_cases, Contains-head, Contains-nil, Contains-tail}
use Rattle.const_pool.specs.Pool.{Slots}
use Rattle.code_form.specs.declared.ins.Ins.{Ins}
use Rattle.code_form.specs.declared.ins.Ins.TheVariants as ins
use Rattle.code_form.specs.declared.ins.Placed.{Placed as PlacedIns}
use Rattle.code_form.specs.declared.ins.PoolUse.TheVariants as usage
use Rattle.code_attribute.specs.declared.code.Code.{Code}
use Rattle.code_attribute.specs.declared.code.Handler.{Handler}
use Rattle.class_file.specs.declared.class.ClassFile.{ClassFile}
use Rattle.class_file.specs.declared.method.Method.{Method}
use Rattle.class_file.specs.Members.{code_in}
use Rattle.text_table.specs.Sorted.{insert_text, insert_texts}
use Rattle.class_set.specs.Linked.{Linked}
use Rattle.class_set.specs.ArrayTypes.{array_of, class_at, descriptor_of_class, is_array_type, primitive_letter}
use Rattle.class_set.specs.Sets.{made_of}
use Rattle.class_set.proofs.GivenArrays.{insert_has, inserts_keep}
use Rattle.class_code.specs.Codes.{Start, along, behind, no_code, own_code}
use Rattle.class_code.specs.Methods.{Site, code_of, sites_from, sites_in, sites_of}

-- ---- lists

flat-has : {X Y : Type 0} (f : X → List Y) (xs : List X) (x : X) (y : Y) → Contains xs x → Contains (f x) y
    → Contains (flat_map f xs) y
flat-has f [] x y c d = absurd (Contains-nil x c)
flat-has f (z ∷ zs) x y c d = elim (Contains-cons_cases z zs x c) [
  | inl same ↦ Contains-append_left (f z) (flat_map f zs) y (subst (λ w. Contains (f w) y) (sym same) d)
  | inr later ↦ Contains-append_right (f z) (flat_map f zs) y (flat-has f zs x y later d)
]

filter-has : (p : List ℕ → Bool) (xs : List (List ℕ)) (x : List ℕ) → p x ≡ true → Contains xs x
    → Contains (filter p xs) x
filter-has p [] x e c = absurd (Contains-nil x c)
filter-has p (y ∷ ys) x e c = elim (Contains-cons_cases y ys x c) [
  | inl same ↦ subst (λ b. Contains (if b then y ∷ filter p ys else filter p ys) x) (sym (ap p same ∙ e))
      (subst (λ z. Contains (z ∷ filter p ys) x) (sym same) (Contains-head x (filter p ys)))
  | inr d ↦ elim (p y) as (λ b. Contains (if b then y ∷ filter p ys else filter p ys) x) [
    | true ↦ Contains-tail y (filter p ys) x (filter-has p ys x e d)
    | false ↦ filter-has p ys x e d
  ]
]

inserts-have : (texts others : List (List ℕ)) (t : List ℕ) → Contains others t
    → Contains (insert_texts texts others) t
inserts-have texts [] t c = absurd (Contains-nil t c)
inserts-have texts (u ∷ us) t c = elim (Contains-cons_cases u us t c) [
  | inl same ↦ inserts_keep (insert_text texts u) us t
      (subst (λ v. Contains (insert_text texts u) v) same (insert_has texts u))
  | inr d ↦ inserts-have (insert_text texts u) us t d
]

-- ---- methods of files

-- its file is one of these, and the method one of its file's
pub record IsSite (files : List ClassFile) (site : Site) : Type 0 where
  pub file : Contains files site.file
  pub method : Contains site.file.methods site.method

in-file : (files : List ClassFile) (class number : ℕ) (file : ClassFile) (ms : List Method)
    → Contains files file → All (Contains file.methods) ms
    → All (IsSite files) (sites_in class number file ms)
in-file files class number file [] there all = All-nil (IsSite files)
in-file files class number file (m ∷ ms) there all =
    All-cons (IsSite files) (record { class = class; number = number; file = file; method = m })
    (sites_in class (suc number) file ms)
    (record { file = there; method = All-head (Contains file.methods) m ms all })
    (in-file files class (suc number) file ms there (All-tail (Contains file.methods) m ms all))

from-files : (files : List ClassFile) (class : ℕ) (cs : List ClassFile) → All (Contains files) cs
    → All (IsSite files) (sites_from class cs)
from-files files class [] all = All-nil (IsSite files)
from-files files class (c ∷ cs) all =
    All-append (IsSite files) (sites_in class 0 c c.methods) (sites_from (suc class) cs)
    (in-file files class 0 c c.methods (All-head (Contains files) c cs all) (All-contains_itself c.methods))
    (from-files files (suc class) cs (All-tail (Contains files) c cs all))

pub all-sites : (files : List ClassFile) → All (IsSite files) (sites_of files)
all-sites files = from-files files 0 files (All-contains_itself files)

-- rows that each are so, method by method
pub all-along : {X : Type 0} (P : X → Type 0) (Q : Site → Type 0) (set : Linked)
    (rows : Site → Start → List X)
    → ((site : Site) (start : Start) → Q site → All P (rows site start)) → (start : Start)
    (sites : List Site) → All Q sites → All P (along set rows start sites)
all-along P Q set rows each start [] h = All-nil P
all-along P Q set rows each start (s ∷ ss) h =
    All-append P (rows s start) (along set rows (behind set s start) ss) (each s start (All-head Q s ss h))
    (all-along P Q set rows each (behind set s start) ss (All-tail Q s ss h))

-- ---- what they make

-- the array types that an instruction makes
abbrev pub made_by : Slots → Ins → List (List ℕ)
made_by pool (ins.NewArray p) = array_of (primitive_letter p ∷ []) ∷ []
made_by pool (ins.Pool usage.NewReferenceArray index) =
    array_of (descriptor_of_class (class_at pool index)) ∷ []
made_by pool other = []

abbrev nothing : Handler → List (List ℕ)
nothing h = []

abbrev made_by_code : Slots → Option Code → List (List ℕ)
made_by_code pool None = []
made_by_code pool (Some code) =
    flat_map (λ (p : PlacedIns). made_by pool p.ins) code.instructions ++ flat_map nothing code.handlers

abbrev made_by_class : ClassFile → List (List ℕ)
made_by_class c = flat_map (λ (m : Method). made_by_code c.pool (code_in m.attributes)) c.methods

abbrev all_made : List ClassFile → List (List ℕ)
all_made files = codes "[C" ∷ codes "[Ljava/lang/String;" ∷ flat_map made_by_class files

made-so : (set : Linked) → made_of set ≡ insert_texts [] (filter is_array_type (all_made set.files))
made-so set = refl

code-makes : (pool : Slots) (o : Option Code) (p : PlacedIns) (t : List ℕ)
    → Contains (elim o as (λ x. Code) [ None ↦ no_code | Some code ↦ code ]).instructions p
    → Contains (made_by pool p.ins) t → Contains (made_by_code pool o) t
code-makes pool None p t c d = absurd (Contains-nil p c)
code-makes pool (Some code) p t c d =
    Contains-append_left (flat_map (λ (q : PlacedIns). made_by pool q.ins) code.instructions)
    (flat_map nothing code.handlers) t
    (flat-has (λ (q : PlacedIns). made_by pool q.ins) code.instructions p t c d)

-- what an instruction of a method makes is among what the code of the set makes
pub made-listed : (set : Linked) (site : Site) (p : PlacedIns) (t : List ℕ) → IsSite set.files site
    → Contains (own_code site).instructions p → Contains (made_by site.file.pool p.ins) t
    → is_array_type t ≡ true → Contains (made_of set) t
made-listed set site p t at c d is =
    let by_class : Contains (made_by_class site.file) t =
    flat-has (λ (m : Method). made_by_code site.file.pool (code_in m.attributes)) site.file.methods
    site.method t at.method (code-makes site.file.pool (code_of site) p t c d) in
    let by_files : Contains (all_made set.files) t =
    Contains-tail (codes "[C") (codes "[Ljava/lang/String;" ∷ flat_map made_by_class set.files) t
    (Contains-tail (codes "[Ljava/lang/String;") (flat_map made_by_class set.files) t
    (flat-has made_by_class set.files site.file t at.file by_class)) in
    subst (λ texts. Contains texts t) (sym (made-so set))
    (inserts-have [] (filter is_array_type (all_made set.files)) t
    (filter-has is_array_type (all_made set.files) t is by_files))
