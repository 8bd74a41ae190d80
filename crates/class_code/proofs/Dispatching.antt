-- The rows of a class's dispatch are what the look-up finds.
use Rattle.std.proofs.Common.{true, false, ◌≡◌, ℕ, suc, ◌+◌, ◌<◌, ◌≤◌, List, [], ◌∷◌, ◌++◌, Option, Some, None, length, refl}
use Rattle.std.proofs.Common.{ap, sym, ◌∙◌, eq-eqb, arith}
use Rattle.std.specs.Prelude.{Bool, ◌&&◌, if◌then◌else◌}
use Rattle.std.specs.Str.{bytes_eq}
use Rattle.std.proofs.lemmas.Bool.{ne_eqb}
use Rattle.std.proofs.lemmas.List.FromFn.{get_or-map-range_with_len}
use Rattle.std.proofs.lemmas.Slice.Eq.{bytes_eq-Decides}
use Rattle.run_types.specs.declared.fault.LinkKind.TheVariants.{MissingMethod}
use Rattle.run_types.specs.declared.resolved.MethodAt.{MethodAt}
use Rattle.class_set.specs.Linked.{Linked, names_of}
use Rattle.class_set.specs.Lookups.{find_method}
use Rattle.frames.specs.Tables.{no_class, target_of}
use Rattle.frames.specs.declared.program.Class.{Class}
use Rattle.frames.specs.declared.program.Dispatch.{Dispatch}
use Rattle.frames.specs.declared.program.Target.TheVariants as target
use Rattle.class_code.specs.Classes.{class_of, dispatch_from, dispatch_to}
use Rattle.class_code.specs.Dispatched.{IsTold, looked_up, target_for}
use Rattle.class_code.specs.Entries.{Signature, is_same, place_from, signatures_of}
use Rattle.class_code.specs.Programs.{program_of}

-- a row of another signature is passed
pass : (set : Linked) (n k : ℕ) (o : Option MethodAt) (rest : List Dispatch) → (n ≡ k → ⊥)
    → target_of (dispatch_to set n o ++ rest) k ≡ target_of rest k
pass set n k None rest other = refl
pass set n k (Some m) rest other =
    ap (λ b. if b then target_for set (Some m) else target_of rest k) (ne_eqb n k other)

here : (set : Linked) (n : ℕ) (o : Option MethodAt) (rest : List Dispatch) → target_of rest n ≡ target.Fails MissingMethod
    → target_of (dispatch_to set n o ++ rest) n ≡ target_for set o
here set n None rest none = none
here set n (Some m) rest none = ap (λ b. if b then target_for set (Some m) else target_of rest n) (eq-eqb n n refl)

-- signatures are numbered upwards
pub below : (set : Linked) (class n k : ℕ) (ss : List Signature) → k < n → target_of (dispatch_from set class n ss) k ≡ target.Fails MissingMethod
below set class n k [] h = refl
below set class n k (s ∷ ss) h =
    pass set n k (find_method set class s.name s.descriptor) (dispatch_from set class (suc n) ss) (λ e. omega (arith, e, h))
    ∙ below set class (suc n) k ss (omega (arith, h))

pub above : (set : Linked) (class n k : ℕ) (ss : List Signature) → n + length ss ≤ k
    → target_of (dispatch_from set class n ss) k ≡ target.Fails MissingMethod
above set class n k [] h = refl
above set class n k (s ∷ ss) h =
    pass set n k (find_method set class s.name s.descriptor) (dispatch_from set class (suc n) ss) (λ e. omega (arith, e, h))
    ∙ above set class (suc n) k ss (omega (arith, h))

place_low : (n k : ℕ) (ss : List Signature) (s : Signature) → place_from n ss s ≡ Some k → n ≤ k
place_low n k [] s e = let no : ⊥ = cc in absurd no
place_low n k (t ∷ ts) s e = one (λ h. place_low (n + 1) k ts s h) (is_same t s) e
  where
    one : (place_from (n + 1) ts s ≡ Some k → n + 1 ≤ k) → (b : Bool) → (if b then Some n else place_from (n + 1) ts s) ≡ Some k → n ≤ k
    one next true e = let same : n ≡ k = cc in omega arith
    one next false e = let low = next e in omega (arith, low)

both_true : (a b : Bool) → (a && b) ≡ true → (a ≡ true) × (b ≡ true)
both_true true b h = (refl, h)
both_true false b h = let no : ⊥ = cc in absurd no

same_lookup : (set : Linked) (class : ℕ) (t s : Signature) → is_same t s ≡ true → looked_up set class t ≡ looked_up set class s
same_lookup set class t s h =
    let parts = both_true (bytes_eq t.name s.name) (bytes_eq t.descriptor s.descriptor) h in
    ap (λ name. target_for set (find_method set class name t.descriptor)) ((bytes_eq-Decides t.name s.name).0 parts.0)
    ∙ ap (λ descriptor. target_for set (find_method set class s.name descriptor)) ((bytes_eq-Decides t.descriptor s.descriptor).0 parts.1)

pub finds : (set : Linked) (class n k : ℕ) (ss : List Signature) (s : Signature) → place_from n ss s ≡ Some k
    → target_of (dispatch_from set class n ss) k ≡ looked_up set class s
finds set class n k [] s e = let no : ⊥ = cc in absurd no
finds set class n k (t ∷ ts) s e = one (λ h. finds set class (n + 1) k ts s h) (is_same t s) refl e
  where
    one : (place_from (n + 1) ts s ≡ Some k → target_of (dispatch_from set class (n + 1) ts) k ≡ looked_up set class s)
        → (b : Bool) → is_same t s ≡ b → (if b then Some n else place_from (n + 1) ts s) ≡ Some k
        → target_of (dispatch_to set n (find_method set class t.name t.descriptor) ++ dispatch_from set class (suc n) ts) k ≡ looked_up set class s
    one next true same e =
        let at : n ≡ k = cc in
        ap (λ m. target_of (dispatch_to set n (find_method set class t.name t.descriptor) ++ dispatch_from set class (suc n) ts) m) (sym at)
        ∙ here set n (find_method set class t.name t.descriptor) (dispatch_from set class (suc n) ts)
        (below set class (suc n) n ts (omega arith))
        ∙ same_lookup set class t s same
    one next false same e =
        let low = place_low (n + 1) k ts s e in
        let more : n + 1 ≡ suc n = omega arith in
        pass set n k (find_method set class t.name t.descriptor) (dispatch_from set class (suc n) ts) (λ same. omega (arith, same, low))
        ∙ ap (λ m. target_of (dispatch_from set class m ts) k) (sym more) ∙ next e

pub is_told : {M : Type 0} (native_at : (place number : ℕ) → Option M) (set : Linked) (n : ℕ) → n < length (names_of set)
    → IsTold set (program_of native_at set) n
unfolding program_of
is_told native_at set n h =
    let row = get_or-map-range_with_len (class_of set) 0 (length (names_of set)) n n no_class h (omega arith) in
    record {
      superclass = ap (λ (c : Class). c.superclass) row;
      supertypes = ap (λ (c : Class). c.supertypes) row;
      initialiser = ap (λ (c : Class). c.initialiser) row;
      of_program = ap (λ (c : Class). c.of_program) row;
      dispatch = λ s k e. ap (λ (c : Class). target_of c.dispatch k) row ∙ finds set n 0 k (signatures_of set.files) s e;
      no_more = λ k e. ap (λ (c : Class). target_of c.dispatch k) row ∙ above set n 0 k (signatures_of set.files) (omega (arith, e));
    }
