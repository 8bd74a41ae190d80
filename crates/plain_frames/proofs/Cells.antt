-- Private instructions keep references within the world: each cell that they write was there, or holds a
-- number.
use Rattle.std.proofs.Common.{◌≡◌, ℕ, ℤ, ◌+◌, ◌-◌, nat_le, ◌&&◌, Bool, true, false, List, [], ◌∷◌, ◌++◌, length, take, drop}
use Rattle.std.proofs.Common.{slice_get, slice_set, Option, Some, None, refl, subst, if◌then◌else◌}
use Rattle.std.specs.Prelude.{All}
use Rattle.std.proofs.lemmas.List.Elements.{All-nil, All-cons, All-head, All-tail, All-append, All-drop, All-take, All-set}
use Rattle.std.proofs.lemmas.Option.{slice_get_within, get_or_from_slice_get}
use Rattle.std.specs.Int.{w32, w64}
use Rattle.code_form.specs.declared.ins.Binary.{Binary}
use Rattle.code_form.specs.declared.ins.Case.{Case}
use Rattle.code_form.specs.declared.ins.Condition.{Condition}
use Rattle.code_form.specs.declared.ins.Conversion.{Conversion}
use Rattle.code_form.specs.declared.ins.Conversion.TheVariants as to_type
use Rattle.code_form.specs.declared.ins.Equality.{Equality}
use Rattle.code_form.specs.declared.ins.Equality.TheVariants as equality
use Rattle.code_form.specs.declared.ins.Number.{Number}
use Rattle.code_form.specs.declared.ins.Number.TheVariants as number
use Rattle.code_form.specs.declared.ins.Shift.{Shift}
use Rattle.code_form.specs.declared.ins.Sort.{Sort}
use Rattle.code_form.specs.declared.ins.Sort.TheVariants as sort
use Rattle.code_form.specs.declared.ins.Stack.{Stack}
use Rattle.code_form.specs.declared.ins.Stack.TheVariants as form
use Rattle.graph_model.specs.declared.types.Value.{Value}
use Rattle.run_history.specs.Worlds.{World}
use Rattle.plain_model.specs.Duties.{IsReferenceIn}
use Rattle.frame_cells.specs.declared.cell.Cell.{Cell}
use Rattle.frame_cells.specs.declared.cell.Cell.TheVariants.{Empty, Int, Long, Half, Reference}
use Rattle.frame_cells.specs.declared.cell.Did.{Did}
use Rattle.frame_cells.specs.declared.cell.Did.TheVariants.{Next}
use Rattle.frame_cells.specs.Own.{Own, After, int_of, long_of, reference_of, int_at, long_at, reference_at, put, keep, written}
use Rattle.frame_cells.specs.Own.{is_whole}
use Rattle.frame_cells.specs.Numbers.{combined}
use Rattle.frame_cells.specs.Families.{with, when, unless_divided, loads, stores, increments, combines, negates, shifts}
use Rattle.frame_cells.specs.Families.{converts, compares, branches, branches_on_two, branches_on_null, switches, looks_up}
use Rattle.frame_cells.specs.Families.{drops, copies, swaps, rearranges}
use Rattle.plain_frames.specs.Sound.{IsCellIn, IsOwnIn}

pub All-slice_get : {X : Type 0} (P : X → Type 0) (xs : List X) (n : ℕ) (x : X) → All P xs →
    slice_get xs n ≡
    Some x → P x
All-slice_get P xs n x all e =
    subst P (get_or_from_slice_get xs n x x e) (all n x (slice_get_within xs n x e))

some-is : {X : Type 0} (P : X → Type 0) (x y : X) → ◌≡◌ {A = Option X} (Some x) (Some y) → P x → P y
some-is P x y e p = let same : x ≡ y = cc in subst P same p

module _ (world : World) where
  held-by : (c : Option (Cell Value)) (r : Value) → ((d : Cell Value) → c ≡ Some d → IsCellIn world d) →
      reference_of c ≡ Some r → IsReferenceIn world r
  held-by None r is e = absurd (let no : ◌≡◌ {A = Option Value} None (Some r) = e in cc)
  held-by (Some Empty) r is e = absurd (let no : ◌≡◌ {A = Option Value} None (Some r) = e in cc)
  held-by (Some (Int i)) r is e = absurd (let no : ◌≡◌ {A = Option Value} None (Some r) = e in cc)
  held-by (Some (Long i)) r is e = absurd (let no : ◌≡◌ {A = Option Value} None (Some r) = e in cc)
  held-by (Some Half) r is e = absurd (let no : ◌≡◌ {A = Option Value} None (Some r) = e in cc)
  held-by (Some (Reference s)) r is e = some-is (IsReferenceIn world) s r e (is (Reference s) refl)

  -- a reference that is read from cells that are in the world is in it
  pub reference-in : (xs : List (Cell Value)) (n : ℕ) (r : Value) → All (IsCellIn world) xs →
      reference_of (slice_get xs n) ≡ Some r → IsReferenceIn world r
  reference-in xs n r all e = held-by (slice_get xs n) r
      (λ d is. All-slice_get (IsCellIn world) xs n d all is) e

  in-if : (c : Bool) (x y : After Value) → IsOwnIn world x.own → IsOwnIn world y.own →
      IsOwnIn world (if c then x else y).own
  in-if true x y p q = p
  in-if false x y p q = q

  pub put-in : (n : ℕ) (new : List (Cell Value)) (did : Did) (own : Own Value) → All (IsCellIn world) new →
      IsOwnIn world own → IsOwnIn world (put n new did own).own
  put-in n new did own all is =
      in-if (nat_le n (length own.stack)) _ _
      (in-if (nat_le (length new + (length own.stack - n)) own.room) _ _
      (record {
        locals = is.locals;
        stack =
            All-append (IsCellIn world) new (drop n own.stack) all
            (All-drop (IsCellIn world) n own.stack is.stack);
      }) is) is

  written-in : (xs : List (Cell Value)) (at : ℕ) (new : List (Cell Value)) → All (IsCellIn world) xs →
      All (IsCellIn world) new → All (IsCellIn world) (written xs at new)
  written-in xs at [] all news = all
  written-in xs at (c ∷ new) all news =
      written-in (slice_set xs at c) (at + 1) new
      (All-set (IsCellIn world) xs at c (All-head (IsCellIn world) c new news) all)
      (All-tail (IsCellIn world) c new news)

  pub keep-in : (n at : ℕ) (new : List (Cell Value)) (own : Own Value) → All (IsCellIn world) new →
      IsOwnIn world own → IsOwnIn world (keep n at new own).own
  keep-in n at new own all is =
      in-if (nat_le (at + length new) (length own.locals) && nat_le n (length own.stack)) _ _
      (record {
        locals = written-in own.locals at new is.locals all;
        stack =
            All-drop (IsCellIn world) n own.stack is.stack;
      }) is

  pub one-in : (c : Cell Value) → IsCellIn world c → All (IsCellIn world) (c ∷ [])
  one-in c is = All-cons (IsCellIn world) c [] is (All-nil (IsCellIn world))

  pub long-in : (i : ℤ) → All (IsCellIn world) (Half ∷ Long i ∷ [])
  long-in i = All-cons (IsCellIn world) Half (Long i ∷ []) tt (one-in (Long i) tt)

  low-in : (i : ℤ) → All (IsCellIn world) (Long i ∷ Half ∷ [])
  low-in i = All-cons (IsCellIn world) (Long i) (Half ∷ []) tt (one-in Half tt)

  with-in : {X : Type 0} (x : Option X) (own : Own Value) (go : X → After Value) → IsOwnIn world own →
      ((v : X) → x ≡ Some v → IsOwnIn world (go v).own) → IsOwnIn world (with x own go).own
  with-in None own go is then_in = is
  with-in (Some v) own go is then_in = then_in v refl

  when-in : (c : Bool) (own : Own Value) (go : After Value) → IsOwnIn world own → IsOwnIn world go.own →
      IsOwnIn world (when c own go).own
  when-in true own go is then_in = then_in
  when-in false own go is then_in = is

  divided-in : (x : Option ℤ) (own : Own Value) (go : ℤ → After Value) → IsOwnIn world own →
      ((v : ℤ) → IsOwnIn world (go v).own) → IsOwnIn world (unless_divided x own go).own
  divided-in None own go is then_in = is
  divided-in (Some v) own go is then_in = then_in v

  int-put : (n : ℕ) (v : ℤ) (own : Own Value) → IsOwnIn world own →
      IsOwnIn world (put n (Int v ∷ []) Next own).own
  int-put n v own is = put-in n (Int v ∷ []) Next own (one-in (Int v) tt) is

  long-put : (n : ℕ) (v : ℤ) (own : Own Value) → IsOwnIn world own →
      IsOwnIn world (put n (Half ∷ Long v ∷ []) Next own).own
  long-put n v own is = put-in n (Half ∷ Long v ∷ []) Next own (long-in v) is

  pub nothing-put : (n : ℕ) (did : Did) (own : Own Value) → IsOwnIn world own →
      IsOwnIn world (put n [] did own).own
  nothing-put n did own is = put-in n [] did own (All-nil (IsCellIn world)) is

  module _ (own : Own Value) (is : IsOwnIn world own) where
    on-int : (x : Option ℤ) (n : ℕ) (result : ℤ → ℤ) →
        IsOwnIn world (with x own (λ a. put n (Int (result a) ∷ []) Next own)).own
    on-int x n result = with-in x own _ is (λ a e. int-put n (result a) own is)

    on-long : (x : Option ℤ) (n : ℕ) (result : ℤ → ℤ) →
        IsOwnIn world (with x own (λ a. put n (Half ∷ Long (result a) ∷ []) Next own)).own
    on-long x n result = with-in x own _ is (λ a e. long-put n (result a) own is)

    pub combines-in : (n : Number) (o : Binary) → IsOwnIn world (combines n o own).own
    combines-in number.Int o = with-in (int_at 1 own) own _ is
        (λ a e. with-in (int_at 0 own) own _ is (λ b d.
        divided-in (combined w32 o a b) own _ is (λ c. int-put 2 c own is)))
    combines-in number.Long o = with-in (long_at 2 own) own _ is
        (λ a e. with-in (long_at 0 own) own _ is (λ b d.
        divided-in (combined w64 o a b) own _ is (λ c. long-put 4 c own is)))

    pub negates-in : (n : Number) → IsOwnIn world (negates n own).own
    negates-in number.Int = on-int (int_at 0 own) 1 _
    negates-in number.Long = on-long (long_at 0 own) 2 _

    pub shifts-in : (n : Number) (o : Shift) → IsOwnIn world (shifts n o own).own
    shifts-in number.Int o = with-in (int_at 1 own) own _ is (λ a e. on-int (int_at 0 own) 2 _)
    shifts-in number.Long o = with-in (long_at 1 own) own _ is (λ a e. on-long (int_at 0 own) 3 _)

    pub converts-in : (o : Conversion) → IsOwnIn world (converts o own).own
    converts-in to_type.IntToLong = on-long (int_at 0 own) 1 _
    converts-in to_type.LongToInt = on-int (long_at 0 own) 2 _
    converts-in to_type.IntToByte = on-int (int_at 0 own) 1 _
    converts-in to_type.IntToChar = on-int (int_at 0 own) 1 _
    converts-in to_type.IntToShort = on-int (int_at 0 own) 1 _

    pub compares-in : IsOwnIn world (compares own).own
    compares-in = with-in (long_at 2 own) own _ is (λ a e. on-int (long_at 0 own) 4 _)

    pub increments-in : (at : ℕ) (n : ℤ) → IsOwnIn world (increments at n own).own
    increments-in at n = with-in (int_of (slice_get own.locals at)) own _ is (λ a e. keep-in 0 at (Int _ ∷
        []) own (one-in (Int _) tt) is)

    pub branches-in : (c : Condition) (t : ℕ) → IsOwnIn world (branches c t own).own
    branches-in c t = with-in (int_at 0 own) own _ is (λ a e. nothing-put 1 _ own is)

    pub branches_on_two-in : (c : Condition) (t : ℕ) → IsOwnIn world (branches_on_two c t own).own
    branches_on_two-in c t = with-in (int_at 1 own) own _ is
        (λ a e. with-in (int_at 0 own) own _ is (λ b d. nothing-put 2 _ own is))

    pub branches_on_null-in : (null : Value → Bool) (e : Equality) (t : ℕ) →
        IsOwnIn world (branches_on_null null e t own).own
    branches_on_null-in null equality.Equal t =
        with-in (reference_at 0 own) own _ is (λ a e. nothing-put 1 _ own is)
    branches_on_null-in null equality.NotEqual t =
        with-in (reference_at 0 own) own _ is (λ a e. nothing-put 1 _ own is)

    pub switches-in : (d : ℕ) (low : ℤ) (ts : List ℕ) → IsOwnIn world (switches d low ts own).own
    switches-in d low ts = with-in (int_at 0 own) own _ is (λ a e. nothing-put 1 _ own is)

    pub looks_up-in : (d : ℕ) (cases : List Case) → IsOwnIn world (looks_up d cases own).own
    looks_up-in d cases = with-in (int_at 0 own) own _ is (λ a e. nothing-put 1 _ own is)

    pub loads-in : (s : Sort) (at : ℕ) → IsOwnIn world (loads s at own).own
    loads-in sort.Int at = on-int (int_of (slice_get own.locals at)) 0 (λ v. v)
    loads-in sort.Long at = on-long (long_of (slice_get own.locals at) (slice_get own.locals (at + 1))) 0
        (λ v. v)
    loads-in sort.Reference at = with-in (reference_of (slice_get own.locals at)) own _ is (λ r e.
        put-in 0 (Reference r ∷ []) Next own
        (one-in (Reference r) (reference-in own.locals at r is.locals e))
        is)

    pub stores-in : (s : Sort) (at : ℕ) → IsOwnIn world (stores s at own).own
    stores-in sort.Int at = with-in (int_at 0 own) own _ is (λ v e. keep-in 1 at (Int v ∷
        []) own (one-in (Int v) tt) is)
    stores-in sort.Long at = with-in (long_at 0 own) own _ is (λ v e. keep-in 2 at (Long v ∷ Half ∷
        []) own (low-in v) is)
    stores-in sort.Reference at = with-in (reference_at 0 own) own _ is (λ r e.
        keep-in 1 at (Reference r ∷ []) own (one-in (Reference r) (reference-in own.stack 0 r is.stack e))
        is)

    pub drops-in : (m : ℕ) → IsOwnIn world (drops m own).own
    drops-in m = when-in (is_whole m own) own _ is (nothing-put m Next own is)

    pub copies-in : (m n : ℕ) → IsOwnIn world (copies m n own).own
    copies-in m n = when-in (is_whole m own && is_whole (m + n) own) own _ is
        (put-in (m + n) (take (m + n) own.stack ++ take m own.stack) Next own
        (All-append (IsCellIn world) (take (m + n) own.stack) (take m own.stack)
        (All-take (IsCellIn world) (m + n) own.stack is.stack)
        (All-take (IsCellIn world) m own.stack is.stack)) is)

    pub swaps-in : IsOwnIn world (swaps own).own
    swaps-in = when-in (is_whole 1 own && is_whole 2 own) own _ is
        (put-in 2 (drop 1 (take 2 own.stack) ++ take 1 own.stack) Next own
        (All-append (IsCellIn world) (drop 1 (take 2 own.stack)) (take 1 own.stack)
        (All-drop (IsCellIn world) 1 (take 2 own.stack) (All-take (IsCellIn world) 2 own.stack is.stack))
        (All-take (IsCellIn world) 1 own.stack is.stack)) is)

    pub rearranges-in : (m : Stack) → IsOwnIn world (rearranges m own).own
    rearranges-in form.Pop = drops-in 1
    rearranges-in form.Pop2 = drops-in 2
    rearranges-in form.Dup = copies-in 1 0
    rearranges-in form.DupX1 = copies-in 1 1
    rearranges-in form.DupX2 = copies-in 1 2
    rearranges-in form.Dup2 = copies-in 2 0
    rearranges-in form.Dup2X1 = copies-in 2 1
    rearranges-in form.Dup2X2 = copies-in 2 2
    rearranges-in form.Swap = swaps-in
