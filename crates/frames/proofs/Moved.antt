-- A setting with the tables of another one, over other references: what its private instructions and
-- requests come to.
use Rattle.std.proofs.Common.{◌≡◌, ℕ, ℤ, ◌+◌, ◌-◌, Bool, true, false, [], ◌∷◌, slice_index_or, Option, Some, None, refl}
use Rattle.std.proofs.Common.{if◌then◌else◌}
use Rattle.std.specs.Option.{option_map}
use Rattle.run_types.specs.declared.resolved.At.{At}
use Rattle.ap_base.specs.declared.kind.Kind.{Kind}
use Rattle.ap_base.specs.declared.kind.Kind.TheVariants as kinds
use Rattle.code_form.specs.declared.ins.Access.TheVariants as access
use Rattle.natives.specs.declared.requests.Request.{Request}
use Rattle.natives.specs.declared.requests.Request.TheVariants as ask
use Rattle.frame_cells.specs.declared.cell.Cell.TheVariants.{Int, Long, Half, Reference}
use Rattle.frame_cells.specs.declared.cell.Did.TheVariants.{Next}
use Rattle.frame_cells.specs.Own.{Own, int_at, long_at, reference_at}
use Rattle.frames.specs.declared.op.Op.{Op}
use Rattle.frames.specs.declared.op.Op.TheVariants as op
use Rattle.frames.specs.declared.program.Lookup.{Lookup}
use Rattle.frames.specs.declared.program.Table.{Table}
use Rattle.frames.specs.Tables.{no_table, no_lookup, method_at, class_at, selector_at, field_at}
use Rattle.frames.specs.Settings.{Setting}
use Rattle.frames.specs.Private.{by_table, by_lookup, private_step}
use Rattle.frames.specs.Requests.{width_of, given, value_so, request_of}
use Rattle.frames.specs.Maps.{map_own, map_after, map_asks, Keeps}
use Rattle.frames.proofs.Cells.{int-map, reference-map, long-map, put-map}
use Rattle.frames.proofs.Families.{combines-map, compares-map, shifts-map, negates-map, converts-map, increments-map}
use Rattle.frames.proofs.Families.{branches-map, branches_on_two-map, branches_on_null-map, switches-map, looks_up-map}
use Rattle.frames.proofs.Families.{loads-map, stores-map, rearranges-map}

abbrev pub moved : {M R S N O V W : Type 0} → Setting M R N V → Setting M S O W → Setting M S O W
moved a b = record b { program = a.program; main = a.main }

module _ {M R S N O V W : Type 0} (f : R → S) (g : N → O) (h : V →
    W) (a : Setting M R N V) (b : Setting M S O W) (k : Keeps f g h a b) where
  table-map : (t : Table) (own : Own R) → by_table t (map_own f own) ≡ map_after f (by_table t own)
  table-map t own = switches-map f t.default t.low t.targets own

  lookup-map : (t : Lookup) (own : Own R) → by_lookup t (map_own f own) ≡ map_after f (by_lookup t own)
  lookup-map t own = looks_up-map f t.default t.cases own

  pub private_step-map : (o : Op) (own : Own R) →
      private_step (moved a b) o (map_own f own) ≡ map_after f (private_step a o own)
  private_step-map op.Nop own = refl
  private_step-map op.PushNull own = rw k.null (put-map f 0 (Reference a.null ∷ []) Next own)
  private_step-map (op.PushInt n) own = put-map f 0 (Int n ∷ []) Next own
  private_step-map (op.PushLong n) own = put-map f 0 (Half ∷ Long _ ∷ []) Next own
  private_step-map (op.PushLiteral n) own =
      rw (k.literal n) (put-map f 0 (Reference (a.literal n) ∷ []) Next own)
  private_step-map (op.Load sort local) own = loads-map f sort local own
  private_step-map (op.Store sort local) own = stores-map f sort local own
  private_step-map (op.Stack form) own = rearranges-map f form own
  private_step-map (op.Binary number operator) own = combines-map f number operator own
  private_step-map (op.Negate number) own = negates-map f number own
  private_step-map (op.Shift number direction) own = shifts-map f number direction own
  private_step-map (op.Convert conversion) own = converts-map f conversion own
  private_step-map op.CompareLongs own = compares-map f own
  private_step-map (op.Increment local by) own = increments-map f local by own
  private_step-map (op.If condition target) own = branches-map f condition target own
  private_step-map (op.IfInts condition target) own = branches_on_two-map f condition target own
  private_step-map (op.IfNull equality target) own =
      branches_on_null-map f a.is_null b.is_null k.is_null equality target own
  private_step-map (op.Goto target) own = refl
  private_step-map (op.TableSwitch n) own = table-map (slice_index_or a.program.tables n no_table) own
  private_step-map (op.LookupSwitch n) own = lookup-map (slice_index_or a.program.lookups n no_lookup) own
  private_step-map other own = refl

  given-same : {X : Type 0} → (x : Option X) (go : X → Option (Request R V)) (go' : X →
      Option (Request S W)) →
      ((v : X) → go' v ≡ map_asks f h (go v)) → given x go' ≡ map_asks f h (given x go)
  given-same None go go' e = refl
  given-same (Some v) go go' e = e v

  given-reference : (x : Option R) (go : R → Option (Request R V)) (go' : S → Option (Request S W)) →
      ((r : R) → go' (f r) ≡ map_asks f h (go r)) → given (option_map f x) go' ≡ map_asks f h (given x go)
  given-reference None go go' e = refl
  given-reference (Some v) go go' e = e v

  int-so : (n : ℕ) (own : Own R) (go : ℤ → Option (Request R V)) (go' : ℤ → Option (Request S W)) →
      ((i : ℤ) → go' i ≡ map_asks f h (go i)) → given (int_at n (map_own f own)) go' ≡
      map_asks f h (given (int_at n own) go)
  int-so n own go go' e = rw (int-map f own.stack n) (given-same (int_at n own) go go' e)

  reference-so : (n : ℕ) (own : Own R) (go : R → Option (Request R V)) (go' : S → Option (Request S W)) →
      ((r : R) → go' (f r) ≡ map_asks f h (go r)) →
      given (reference_at n (map_own f own)) go' ≡ map_asks f h (given (reference_at n own) go)
  reference-so n own go go' e = rw (reference-map f own.stack n)
      (given-reference (reference_at n own) go go' e)

  value_so-int : (own : Own R) (go : V → Option (Request R V)) (go' : W → Option (Request S W)) →
      ((v : V) → go' (h v) ≡ map_asks f h (go v)) →
      given (int_at 0 (map_own f own)) (λ i. go' (b.of_int i)) ≡
      map_asks f h (given (int_at 0 own) (λ i. go (a.of_int i)))
  value_so-int own go go' e = int-so 0 own _ _ (λ i. rw (k.int i) (e (a.of_int i)))

  value_so-map : (kind : Kind) (own : Own R) (go : V → Option (Request R V)) (go' : W →
      Option (Request S W)) →
      ((v : V) → go' (h v) ≡ map_asks f h (go v)) →
      value_so (moved a b) kind (map_own f own) go' ≡ map_asks f h (value_so a kind own go)
  value_so-map kinds.J own go go' e =
      rw (long-map f own.stack 1 0) (given-same (long_at 0 own) _ _ (λ i. rw (k.long i) (e (a.of_long i))))
  value_so-map kinds.L own go go' e =
      reference-so 0 own _ _ (λ r. rw (k.reference r) (e (a.of_reference r)))
  value_so-map kinds.Z own go go' e = value_so-int own go go' e
  value_so-map kinds.B own go go' e = value_so-int own go go' e
  value_so-map kinds.C own go go' e = value_so-int own go go' e
  value_so-map kinds.S own go go' e = value_so-int own go go' e
  value_so-map kinds.I own go go' e = value_so-int own go go' e
  value_so-map kinds.Text own go go' e = value_so-int own go go' e

  init-map : (of_program : Bool) (class : ℕ) (from : At) →
      (if of_program then Some (ask.Init from class) else None)
      ≡ map_asks f h (if of_program then Some (ask.Init from class) else None)
  init-map true class from = refl
  init-map false class from = refl

  pub request_of-map : (o : Op) (from : At) (own : Own R) →
      request_of (moved a b) o from (map_own f own) ≡ map_asks f h (request_of a o from own)
  request_of-map (op.InvokeStatic m) from own =
      init-map (class_at a.program (method_at a.program m).class).of_program (method_at a.program m).class
      from
  request_of-map (op.InvokeVirtual s) from own =
      reference-so ((selector_at a.program s).arguments - 1) own _ _ (λ r. refl)
  request_of-map (op.Element access.Load kind) from own =
      reference-so 1 own _ _ (λ r. int-so 0 own _ _ (λ i. refl))
  request_of-map (op.Element access.Store kind) from own =
      reference-so (width_of kind + 1) own _ _
      (λ r. int-so (width_of kind) own _ _ (λ i. value_so-map kind own _ _ (λ v. refl)))
  request_of-map (op.IfSame equality target) from own =
      reference-so 1 own _ _ (λ r. reference-so 0 own _ _ (λ s. refl))
  request_of-map (op.Static access.Load n) from own = refl
  request_of-map (op.Static access.Store n) from own =
      value_so-map (field_at a.program n).kind own _ _ (λ v. refl)
  request_of-map (op.Field access.Load n) from own = reference-so 0 own _ _ (λ r. refl)
  request_of-map (op.Field access.Store n) from own =
      reference-so (width_of (field_at a.program n).kind) own _ _
      (λ r. value_so-map (field_at a.program n).kind own _ _ (λ v. refl))
  request_of-map (op.New class) from own = refl
  request_of-map (op.NewArray shape) from own = int-so 0 own _ _ (λ i. refl)
  request_of-map op.Length from own = reference-so 0 own _ _ (λ r. refl)
  request_of-map op.Throw from own = reference-so 0 own _ _ (λ r. refl)
  request_of-map (op.Cast class) from own = reference-so 0 own _ _ (λ r. refl)
  request_of-map (op.IsA class) from own = reference-so 0 own _ _ (λ r. refl)
  request_of-map op.Enter from own = reference-so 0 own _ _ (λ r. refl)
  request_of-map op.Exit from own = reference-so 0 own _ _ (λ r. refl)
  request_of-map other from own = refl
