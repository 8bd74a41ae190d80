-- The rows of methods: those of one class behind another's, each by its number in its class.
use Rattle.std.proofs.Common.{inl, inr, true, false, ◌≡◌, ℕ, zero, suc, ◌+◌, ◌-◌, ◌<◌, ◌≤◌, Bool, List, [], ◌∷◌, ◌++◌, Option}
use Rattle.std.proofs.Common.{Some, None, length, map, get_or, refl, ap, sym, ◌∙◌, append_assoc, arith}
use Rattle.std.specs.Prelude.{nat_lt, slice_get, sum, if◌then◌else◌}
use Rattle.std.specs.List.{flat_map, range_with_len}
use Rattle.std.proofs.lemmas.Bool.{cases_lt}
use Rattle.std.proofs.lemmas.Bool.Decides.{nat_tests}
use Rattle.std.proofs.lemmas.List.{length-append, length-map, map-append}
use Rattle.std.proofs.lemmas.List.Sums.{sum_by-cons}
use Rattle.std.proofs.lemmas.Option.{slice_get_past, slice_get_within}
use Rattle.run_types.specs.declared.resolved.MethodAt.{MethodAt}
use Rattle.code_form.specs.declared.ins.Sort.{Sort as CellSort}
use Rattle.class_file.specs.declared.class.ClassFile.{ClassFile}
use Rattle.class_file.specs.declared.method.Method.{Method as FileMethod}
use Rattle.built_in_table.specs.Members.{BuiltInClass, MemberFacts, built_in_members, with_methods}
use Rattle.class_set.specs.Linked.{BuiltIn, Linked, OfFile, array_or_none, behind_files, class_count}
use Rattle.class_set.specs.Members.{method_facts, methods_of_sort, own_methods}
use Rattle.class_set.proofs.Above.{get_or-map_all}
use Rattle.class_set.proofs.Declared.{members_counted}
use Rattle.frames.specs.Tables.{method_at, no_method}
use Rattle.frames.specs.declared.program.Method.{Method}
use Rattle.class_code.specs.Codes.{Start, along, along_all, behind, built_in_from, built_ins_from, first_start, method_of}
use Rattle.class_code.specs.Codes.{methods_of}
use Rattle.class_code.specs.Methods.{Site, first_method, method_count, method_number, parameters_of, sites_from, sites_in}
use Rattle.class_code.specs.Methods.{sites_of}
use Rattle.class_code.specs.Programs.{program_of}
use Rattle.class_code.proofs.Along.{StandFrom}
use Rattle.class_code.proofs.FirstMethods.{element, past_all}
use Rattle.class_code.proofs.Rowed.{own_row}

-- what a row says besides where its code stands
pub record Head : Type 0 where
  pub class : ℕ
  pub number : ℕ
  pub parameters : List CellSort
  pub is_static : Bool

abbrev pub head : {M : Type 0} → Method M → Head
head m = record { class = m.class; number = m.number; parameters = m.parameters; is_static = m.is_static }

abbrev pub head_of : (class number : ℕ) → MemberFacts → Head
head_of class number m =
    record { class = class; number = number; parameters = parameters_of m.is_static m.descriptor; is_static = m.is_static }

abbrev heads_from : (class number : ℕ) → List MemberFacts → List Head
heads_from class number [] = []
heads_from class number (m ∷ ms) = head_of class number m ∷ heads_from class (suc number) ms

abbrev heads_of : Linked → ℕ → List Head
heads_of set class = heads_from class 0 (own_methods set class)

abbrev pub no_member : MemberFacts
no_member = record { name = []; descriptor = []; is_static = true }

heads_counted : (class number : ℕ) (ms : List MemberFacts) → length (heads_from class number ms) ≡ length ms
heads_counted class number [] = refl
heads_counted class number (m ∷ ms) = ap suc (heads_counted class (suc number) ms)

head_read : (class number k : ℕ) (ms : List MemberFacts) (d : Head) → k < length ms
    → get_or (heads_from class number ms) k d ≡ head_of class (number + k) (get_or ms k no_member)
head_read class number k [] d h = absurd (omega (arith, h))
head_read class number zero (m ∷ ms) d h = let e : number ≡ number + 0 = omega arith in ap (λ n. head_of class n m) e
head_read class number (suc k) (m ∷ ms) d h =
    let e : suc number + k ≡ number + suc k = omega arith in
    head_read class (suc number) k ms d (omega (arith, h)) ∙ ap (λ n. head_of class n (get_or ms k no_member)) e

-- ---- numbers in a row

ranges : {X : Type 0} (f : ℕ → List X) (a n m : ℕ)
    → flat_map f (range_with_len a n) ++ flat_map f (range_with_len (a + n) m) ≡ flat_map f (range_with_len a (n + m))
ranges f a zero m =
    let e : a + 0 ≡ a = omega arith in
    let none : m ≡ 0 + m = omega arith in
    ap (λ k. flat_map f (range_with_len k m)) e ∙ ap (λ k. flat_map f (range_with_len a k)) none
ranges f a (suc n) m =
    let e : a + suc n ≡ a + 1 + n = omega arith in
    let one : suc (n + m) ≡ suc n + m = omega arith in
    append_assoc (f a) (flat_map f (range_with_len (a + 1) n)) (flat_map f (range_with_len (a + suc n) m))
    ∙ ap (λ k. f a ++ (flat_map f (range_with_len (a + 1) n) ++ flat_map f (range_with_len k m))) e
    ∙ ap (λ xs. f a ++ xs) (ranges f (a + 1) n m)
    ∙ ap (λ k. flat_map f (range_with_len a k)) one

-- ---- the methods of files

pub own_of_file : (set : Linked) (n : ℕ) (file : ClassFile) → slice_get set.files n ≡ Some file
    → own_methods set n ≡ map (method_facts file.pool) file.methods
own_of_file set n file h =
    ap (λ (o : Option ClassFile). methods_of_sort (elim o [ None ↦ behind_files set (n - length set.files) | Some f ↦ OfFile f ])) h

abbrev site_head : Site → Head
site_head site = head_of site.class site.number (method_facts site.file.pool site.method)

abbrev pub own_rows : {M : Type 0} → Linked → Site → Start → List (Method M)
own_rows set site start = method_of set site start ∷ []

along_heads : (M : Type 0) (set : Linked) (start : Start) (sites : List Site)
    → map head (along set (own_rows {M = M} set) start sites) ≡ map site_head sites
along_heads M set start [] = refl
along_heads M set start (s ∷ ss) = ap (λ hs. site_head s ∷ hs) (along_heads M set (behind set s start) ss)

class_heads : (class number : ℕ) (file : ClassFile) (ms : List FileMethod)
    → map site_head (sites_in class number file ms) ≡ heads_from class number (map (method_facts file.pool) ms)
class_heads class number file [] = refl
class_heads class number file (m ∷ ms) =
    ap (λ hs. head_of class number (method_facts file.pool m) ∷ hs) (class_heads class (suc number) file ms)

files_heads : (set : Linked) (class : ℕ) (cs : List ClassFile) → StandFrom set.files class cs
    → map site_head (sites_from class cs) ≡ flat_map (heads_of set) (range_with_len class (length cs))
files_heads set class [] h = refl
files_heads set class (c ∷ cs) h =
    let here : class ≡ class + 0 = omega arith in
    let at : slice_get set.files class ≡ Some c = ap (slice_get set.files) here ∙ h 0 in
    let next : suc class ≡ class + 1 = omega arith in
    let further : StandFrom set.files (suc class) cs
    = λ k. let more : suc class + k ≡ class + suc k = omega arith in ap (slice_get set.files) more ∙ h (suc k) in
    map-append site_head (sites_in class 0 c c.methods) (sites_from (suc class) cs)
    ∙ ap (λ hs. hs ++ map site_head (sites_from (suc class) cs))
    (class_heads class 0 c c.methods ∙ ap (heads_from class 0) (sym (own_of_file set class c at)))
    ∙ ap (λ hs. heads_of set class ++ hs)
    (files_heads set (suc class) cs further ∙ ap (λ n. flat_map (heads_of set) (range_with_len n (length cs))) next)

-- ---- those of built-in classes

own_of_built_in : (set : Linked) (place : ℕ) (c : BuiltInClass) → slice_get built_in_members place ≡ Some c
    → own_methods set (length set.files + place) ≡ c.methods
own_of_built_in set place c h =
    let n = length set.files + place in
    let past : slice_get set.files n ≡ None = slice_get_past set.files n (omega arith) in
    let index : n - length set.files ≡ place = omega arith in
    let low = slice_get_within built_in_members place c h in
    let few : place < 28 = omega (arith, low, members_counted) in
    let within : nat_lt place 28 ≡ true = grind (arith, nat_tests) in
    ap (λ (o : Option ClassFile). methods_of_sort (elim o [ None ↦ behind_files set (n - length set.files) | Some f ↦ OfFile f ])) past
    ∙ ap (λ k. methods_of_sort (behind_files set k)) index
    ∙ ap (λ b. methods_of_sort (if b then BuiltIn place else array_or_none (slice_get set.arrays (place - 28)))) within
    ∙ ap (λ (x : BuiltInClass). x.methods) (element built_in_members place c (with_methods []) h)

abbrev StandAt : ℕ → List BuiltInClass → Type 0
StandAt place cs = (k : ℕ) → slice_get built_in_members (place + k) ≡ slice_get cs k

module _ {M : Type 0} (native_at : (place number : ℕ) → Option M) where
  built_in_heads : (class place number : ℕ) (ms : List MemberFacts)
      → map head (built_in_from native_at class place number ms) ≡ heads_from class number ms
  built_in_heads class place number [] = refl
  built_in_heads class place number (m ∷ ms) =
      ap (λ hs. head_of class number m ∷ hs) (built_in_heads class place (suc number) ms)

  built_ins_heads : (set : Linked) (place : ℕ) (cs : List BuiltInClass) → StandAt place cs
      → map head (built_ins_from native_at (length set.files) place cs)
      ≡ flat_map (heads_of set) (range_with_len (length set.files + place) (length cs))
  built_ins_heads set place [] h = refl
  built_ins_heads set place (c ∷ cs) h =
      let class = length set.files + place in
      let here : place ≡ place + 0 = omega arith in
      let at : slice_get built_in_members place ≡ Some c = ap (slice_get built_in_members) here ∙ h 0 in
      let next : length set.files + suc place ≡ length set.files + place + 1 = omega arith in
      let further : StandAt (suc place) cs
      = λ k. let more : suc place + k ≡ place + suc k = omega arith in ap (slice_get built_in_members) more ∙ h (suc k) in
      map-append head (built_in_from native_at class place 0 c.methods) (built_ins_from native_at (length set.files) (suc place) cs)
      ∙ ap (λ hs. hs ++ map head (built_ins_from native_at (length set.files) (suc place) cs))
      (built_in_heads class place 0 c.methods ∙ ap (heads_from class 0) (sym (own_of_built_in set place c at)))
      ∙ ap (λ hs. heads_of set class ++ hs)
      (built_ins_heads set (suc place) cs further ∙ ap (λ n. flat_map (heads_of set) (range_with_len n (length cs))) next)

  -- ---- all methods

  heads_listed : (set : Linked) → map head (methods_of native_at set) ≡ flat_map (heads_of set) (range_with_len 0 (class_count set))
  heads_listed set =
      let own = along_all set (own_rows {M = M} set) in
      let others = built_ins_from native_at (length set.files) 0 built_in_members in
      let files : StandFrom set.files 0 set.files = λ k. let e : 0 + k ≡ k = omega arith in ap (slice_get set.files) e in
      let rows : StandAt 0 built_in_members = λ k. let e : 0 + k ≡ k = omega arith in ap (slice_get built_in_members) e in
      let at : length set.files + 0 ≡ 0 + length set.files = omega arith in
      map-append head own others
      ∙ ap (λ hs. hs ++ map head others) (along_heads M set (first_start set) (sites_of set.files) ∙ files_heads set 0 set.files files)
      ∙ ap (λ hs. flat_map (heads_of set) (range_with_len 0 (length set.files)) ++ hs)
      (built_ins_heads set 0 built_in_members rows
      ∙ ap (λ n. flat_map (heads_of set) (range_with_len n (length built_in_members))) at
      ∙ ap (λ n. flat_map (heads_of set) (range_with_len (0 + length set.files) n)) members_counted)
      ∙ ranges (heads_of set) 0 (length set.files) 28

heads_before : (set : Linked) (a n : ℕ) → length (flat_map (heads_of set) (range_with_len a n)) ≡ sum (map (method_count set) (range_with_len a n))
heads_before set a zero = refl
heads_before set a (suc n) =
    let all = length-append (heads_of set a) (flat_map (heads_of set) (range_with_len (a + 1) n)) in
    let sums = sum_by-cons (λ k. k) (method_count set a) (map (method_count set) (range_with_len (a + 1) n)) in
    all ∙ ap (λ k. k + length (flat_map (heads_of set) (range_with_len (a + 1) n))) (heads_counted a 0 (own_methods set a))
    ∙ ap (λ k. method_count set a + k) (heads_before set (a + 1) n) ∙ sym sums

pub class_below : (set : Linked) (class method : ℕ) → method < method_count set class → class < class_count set
class_below set class method h = elim (cases_lt class (class_count set)) [
  | inl low ↦ low
  | inr past ↦ absurd (omega (arith, h, past_all set class past))
]

-- the row with the number of a method
pub method_told : {M : Type 0} (native_at : (place number : ℕ) → Option M) (set : Linked) (m : MethodAt) → m.method < method_count set m.class
    → (method_number set m < length (program_of native_at set).methods)
    × (head (method_at (program_of native_at set) (method_number set m)) ≡ head_of m.class m.method (get_or (own_methods set m.class) m.method no_member))
unfolding program_of
method_told {M} native_at set m h =
    let all = methods_of native_at set in
    let d = head (no_method {M = M}) in
    let within : m.method < length (heads_of set m.class) = omega (arith, h, heads_counted m.class 0 (own_methods set m.class)) in
    let row = own_row (heads_of set) (class_count set) m.class m.method d (class_below set m.class m.method h) within in
    let before : length (flat_map (heads_of set) (range_with_len 0 m.class)) + m.method ≡ method_number set m
    = ap (λ n. n + m.method) (heads_before set 0 m.class) in
    let size : length (map head all) ≡ length (flat_map (heads_of set) (range_with_len 0 (class_count set))) = ap length (heads_listed native_at set) in
    let number : 0 + m.method ≡ m.method = omega arith in
    let low = row.0 in (
      omega (arith, low, before, size, length-map all head),
      sym (get_or-map_all head no_method all (method_number set m))
          ∙ ap (λ hs. get_or hs (method_number set m) d) (heads_listed native_at set)
          ∙ ap (λ n. get_or (flat_map (heads_of set) (range_with_len 0 (class_count set))) n d) (sym before)
          ∙ row.1 ∙ head_read m.class 0 m.method (own_methods set m.class) d h
          ∙ ap (λ k. head_of m.class k (get_or (own_methods set m.class) m.method no_member)) number,
    )
