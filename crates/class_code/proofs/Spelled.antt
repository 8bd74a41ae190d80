-- The descriptors of built-in methods are modified UTF-8.
use Rattle.std.proofs.Common.{◌≡◌, ℕ, zero, suc, ◌+◌, ◌<◌, ◌≤◌, ◌^◌, Bool, true, false, List, [], ◌∷◌, ◌++◌, Option, Some, None}
use Rattle.std.proofs.Common.{map, length, get_or, drop, refl, ap, sym, ◌∙◌, append_assoc, arith}
use Rattle.std.specs.Prelude.{◌&&◌, nat_lt}
use Rattle.std.specs.List.{list_all, AllByRecursion}
use Rattle.std.proofs.lemmas.Grind.{common_steps}
use Rattle.std.proofs.lemmas.Bool.Decides.{nat_tests}
use Rattle.std.proofs.lemmas.List.{append-nil, at_drop_all, length-map}
use Rattle.const_pool.specs.Utf8.{IsModifiedUtf8, IsUnit, unit_bytes, units_bytes}
use Rattle.built_in_table.specs.declared.built_in.BuiltIn.{BuiltIn as Row}
use Rattle.built_in_table.specs.declared.built_in.Member.{Member}
use Rattle.built_in_table.specs.Members.{MemberFacts, built_in_members}
use Rattle.built_in_table.specs.Rows.{member_facts, row_members}
use Rattle.frames.specs.declared.program.Body.{Body}
use Rattle.frames.specs.declared.program.Method.{Method}
use Rattle.class_code.specs.BuiltIns.{are_spelled, built_in_with, is_ascii, is_spelled}
use Rattle.class_code.specs.Codes.{built_in_from, built_in_method, built_ins_from, native_body}
use Rattle.class_code.proofs.Coding.{dropped}

one_byte : (b : ℕ) → is_ascii b ≡ true → unit_bytes b ≡ b ∷ []
one_byte b h = grind (arith, nat_tests, common_steps)

small : (b : ℕ) → is_ascii b ≡ true → b < 2 ^ 16
small b h = grind (arith, nat_tests, common_steps)

pub first_true : (x y : Bool) → (x && y) ≡ true → x ≡ true
first_true true y h = refl
first_true false y h = h

pub rest_true : (x y : Bool) → (x && y) ≡ true → y ≡ true
rest_true true y h = h
rest_true false y h = absurd cc

units : (bytes : List ℕ) → list_all is_ascii bytes ≡ true → AllByRecursion IsUnit bytes
units [] h = tt
units (b ∷ bytes) h = (
  small b (first_true (is_ascii b) (list_all is_ascii bytes) h),
  units bytes (rest_true (is_ascii b) (list_all is_ascii bytes) h),
)

spelled : (bytes : List ℕ) → list_all is_ascii bytes ≡ true → bytes ≡ units_bytes bytes
spelled [] h = refl
spelled (b ∷ bytes) h =
    let first = one_byte b (first_true (is_ascii b) (list_all is_ascii bytes) h) in
    let rest = spelled bytes (rest_true (is_ascii b) (list_all is_ascii bytes) h) in
    rw first (ap (λ (xs : List ℕ). b ∷ xs) rest)

pub ascii_is_utf8 : (bytes : List ℕ) → list_all is_ascii bytes ≡ true → IsModifiedUtf8 bytes
ascii_is_utf8 bytes h = (bytes, units bytes h, spelled bytes h)

pub built_ins_spelled : list_all are_spelled built_in_members ≡ true
unfolding built_in_members
built_ins_spelled = refl

-- ---- one more

pub test_more : {X Y : Type 0} (p : Y → Bool) (f : X → Y) (xs : List X) (i : ℕ) (x : X) → i < length xs → x ≡ get_or xs i x
    → list_all p (map f (drop i xs)) ≡ true → (p (f x) ≡ true) × (list_all p (map f (drop (i + 1) xs)) ≡ true)
test_more p f xs i x h e all =
    let both : (p (f x) && list_all p (map f (drop (i + 1) xs))) ≡ true = sym (ap (λ ys. list_all p (map f ys)) (dropped xs i x h e)) ∙ all in (
      first_true (p (f x)) (list_all p (map f (drop (i + 1) xs))) both,
      rest_true (p (f x)) (list_all p (map f (drop (i + 1) xs))) both,
    )

pub self : {X : Type 0} (xs : List X) (i : ℕ) (d : X) → i < length xs → get_or xs i d ≡ get_or xs i (get_or xs i d)
self [] i d h = absurd (omega (arith, h))
self (x ∷ xs) zero d h = refl
self (x ∷ xs) (suc i) d h = self xs i d (omega (arith, h))

pub test_at : {X Y : Type 0} (p : Y → Bool) (f : X → Y) (xs : List X) (i : ℕ) (d : X) → i < length xs
    → list_all p (map f (drop i xs)) ≡ true → p (f (get_or xs i d)) ≡ true
test_at p f xs i d l all = (test_more p f xs i (get_or xs i d) l (self xs i d l) all).0

pub tests_behind : {X Y : Type 0} (p : Y → Bool) (f : X → Y) (xs : List X) (i : ℕ) → (d : X) → i < length xs
    → list_all p (map f (drop i xs)) ≡ true → list_all p (map f (drop (i + 1) xs)) ≡ true
tests_behind p f xs i d l all = (test_more p f xs i (get_or xs i d) l (self xs i d l) all).1

module _ {M : Type 0} (native_at : (place number : ℕ) → Option M) where
  same_body : (o : Option M) → native_body (λ place number. o) o ≡ native_body native_at o
  same_body None = refl
  same_body (Some native) = refl

  pub same_method : (class place number : ℕ) (m : MemberFacts)
      → built_in_with (native_at place number) class number m ≡ built_in_method native_at class place number m
  same_method class place number m =
      let made : Method M = built_in_method native_at class place number m in
      ap (λ (b : Body M). record made { body = b }) (same_body (native_at place number))

  pub members_more : (class place : ℕ) (ms : List Member) (i : ℕ) (m : Member) (old new : List (Method M)) → i < length ms → m ≡ get_or ms i m
      → new ≡ old ++ built_in_with (native_at place i) class i (member_facts m) ∷ []
      → new ++ built_in_from native_at class place (i + 1) (map member_facts (drop (i + 1) ms))
      ≡ old ++ built_in_from native_at class place i (map member_facts (drop i ms))
  members_more class place ms i m old new h e n =
      let more : i + 1 ≡ suc i = omega arith in
      let rest = map member_facts (drop (i + 1) ms) in
      ap (λ xs. xs ++ built_in_from native_at class place (i + 1) rest) n
      ∙ append_assoc old (built_in_with (native_at place i) class i (member_facts m) ∷ []) (built_in_from native_at class place (i + 1) rest)
      ∙ ap (λ x. old ++ x ∷ built_in_from native_at class place (i + 1) rest) (same_method class place i (member_facts m))
      ∙ ap (λ k. old ++ built_in_method native_at class place i (member_facts m) ∷ built_in_from native_at class place k rest) more
      ∙ ap (λ xs. old ++ built_in_from native_at class place i (map member_facts xs)) (sym (dropped ms i m h e))

  pub members_at : (class place : ℕ) (ms : List Member) (i : ℕ) (d : Member) (old new : List (Method M)) → i < length ms
      → new ≡ old ++ built_in_with (native_at place i) class i (member_facts (get_or ms i d)) ∷ []
      → new ++ built_in_from native_at class place (i + 1) (map member_facts (drop (i + 1) ms))
      ≡ old ++ built_in_from native_at class place i (map member_facts (drop i ms))
  members_at class place ms i d old new l n = members_more class place ms i (get_or ms i d) old new l (self ms i d l) n

  pub members_ended : (class place i : ℕ) (ms : List Member) (methods all : List (Method M)) → length ms ≤ i
      → methods ++ built_in_from native_at class place i (map member_facts (drop i ms)) ≡ all → methods ≡ all
  members_ended class place i ms methods all h e =
      sym (append-nil methods)
      ∙ sym (at_drop_all (λ xs. methods ++ built_in_from native_at class place i (map member_facts xs)) ms i h) ∙ e

  pub rows_more : (first : ℕ) (rows : List Row) (i : ℕ) (row : Row) (old new : List (Method M)) → i < length rows → row ≡ get_or rows i row
      → new ≡ old ++ built_in_from native_at (first + i) i 0 (map member_facts row.methods.now)
      → new ++ built_ins_from native_at first (i + 1) (map row_members (drop (i + 1) rows))
      ≡ old ++ built_ins_from native_at first i (map row_members (drop i rows))
  rows_more first rows i row old new h e n =
      let more : i + 1 ≡ suc i = omega arith in
      let rest = map row_members (drop (i + 1) rows) in
      let own = built_in_from native_at (first + i) i 0 (map member_facts row.methods.now) in
      ap (λ xs. xs ++ built_ins_from native_at first (i + 1) rest) n
      ∙ append_assoc old own (built_ins_from native_at first (i + 1) rest)
      ∙ ap (λ k. old ++ (own ++ built_ins_from native_at first k rest)) more
      ∙ ap (λ xs. old ++ built_ins_from native_at first i (map row_members xs)) (sym (dropped rows i row h e))

  pub rows_at : (first : ℕ) (rows : List Row) (i : ℕ) (d : Row) (old new : List (Method M)) → i < length rows
      → new ≡ old ++ built_in_from native_at (first + i) i 0 (map member_facts (get_or rows i d).methods.now)
      → new ++ built_ins_from native_at first (i + 1) (map row_members (drop (i + 1) rows))
      ≡ old ++ built_ins_from native_at first i (map row_members (drop i rows))
  rows_at first rows i d old new l n = rows_more first rows i (get_or rows i d) old new l (self rows i d l) n

  pub rows_ended : (first i : ℕ) (rows : List Row) (methods all : List (Method M)) → length rows ≤ i
      → methods ++ built_ins_from native_at first i (map row_members (drop i rows)) ≡ all → methods ≡ all
  rows_ended first i rows methods all h e =
      sym (append-nil methods)
      ∙ sym (at_drop_all (λ xs. methods ++ built_ins_from native_at first i (map row_members xs)) rows i h) ∙ e

pub row_spelled : (row : Row) → are_spelled (row_members row) ≡ true
    → (length row.methods.now < 2 ^ 32) × (list_all is_spelled (map member_facts row.methods.now) ≡ true)
row_spelled row h =
    let test = first_true (nat_lt (length (map member_facts row.methods.now)) 256) (list_all is_spelled (map member_facts row.methods.now)) h in
    let low : length (map member_facts row.methods.now) < 256 = grind (arith, nat_tests) in (
      omega (arith, low, length-map row.methods.now member_facts),
      rest_true (nat_lt (length (map member_facts row.methods.now)) 256) (list_all is_spelled (map member_facts row.methods.now)) h,
    )

pub row_few : (row : Row) → are_spelled (row_members row) ≡ true → length row.methods.now < 2 ^ 32
row_few row h = (row_spelled row h).0

pub row_all : (row : Row) → are_spelled (row_members row) ≡ true → list_all is_spelled (map member_facts row.methods.now) ≡ true
row_all row h = (row_spelled row h).1

-- what an element past the end is read as
abbrev pub no_member : Member
no_member = record {
  name = record { ref_ptr = (0, 0); now = [] };
  descriptor = record { ref_ptr = (0, 0); now = [] };
  is_static = false;
}

abbrev pub no_row : Row
no_row = record {
  name = record { ref_ptr = (0, 0); now = [] };
  superclass = None;
  interfaces = record { ref_ptr = (0, 0); now = [] };
  is_interface = false;
  layout = record { ref_ptr = (0, 0); now = [] };
  element = None;
  fields = record { ref_ptr = (0, 0); now = [] };
  methods = record { ref_ptr = (0, 0); now = [] };
}
