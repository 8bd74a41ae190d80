-- The decoded code of a linked set makes arrays only of types that have shapes in a directory.
use Rattle.std.proofs.Common.{◌≡◌, ℕ, nat_lt, Bool, true, false, List, [], ◌∷◌, ◌++◌, Option, Some, None, length, refl, ap, sym}
use Rattle.std.proofs.Common.{◌∙◌, subst, if◌then◌else◌}
use Rattle.std.specs.Prelude.{All, Contains, Result, Ok, Err, codes, not}
use Rattle.std.proofs.lemmas.Bool.{false≢true}
use Rattle.std.proofs.lemmas.List.Elements.{All-cons, All-contains, All-contains_itself, All-head, All-nil, All-tail}
use Rattle.graph_walks.proofs.Lists.{Contains-head}
use Rattle.run_types.specs.declared.fault.LinkKind.{LinkKind}
use Rattle.run_types.specs.declared.fault.LinkKind.TheVariants.{MissingClass, StaticMismatch}
use Rattle.run_types.specs.declared.resolved.MethodAt.{MethodAt}
use Rattle.const_pool.specs.Parsing.{after_front, base_at, brackets, class_at, descriptor_at, element_at, field_at, name_len}
use Rattle.const_pool.specs.Parsing.{only_field}
use Rattle.const_pool.specs.Pool.{Slots, class_name_at, entry_at, member_at}
use Rattle.const_pool.specs.Utf8.{bad_place, char_len}
use Rattle.const_pool.specs.declared.entry.Entry.{Entry}
use Rattle.const_pool.specs.declared.entry.Entry.TheVariants as entry
use Rattle.code_form.specs.declared.ins.Access.{Access}
use Rattle.code_form.specs.declared.ins.Access.TheVariants as access
use Rattle.code_form.specs.declared.ins.Branch.{Branch}
use Rattle.code_form.specs.declared.ins.Branch.TheVariants as branch
use Rattle.code_form.specs.declared.ins.Constant.{Constant}
use Rattle.code_form.specs.declared.ins.Constant.TheVariants as constant
use Rattle.code_form.specs.declared.ins.Ins.{Ins}
use Rattle.code_form.specs.declared.ins.Ins.TheVariants as ins
use Rattle.code_form.specs.declared.ins.LongConstant.TheVariants as long_constant
use Rattle.code_form.specs.declared.ins.Placed.{Placed as PlacedIns}
use Rattle.code_form.specs.declared.ins.Plain.{Plain}
use Rattle.code_form.specs.declared.ins.Plain.TheVariants as plain
use Rattle.code_form.specs.declared.ins.PoolUse.{PoolUse}
use Rattle.code_form.specs.declared.ins.PoolUse.TheVariants as usage
use Rattle.code_form.specs.declared.ins.Primitive.{Primitive}
use Rattle.code_form.specs.declared.ins.Sort.{Sort}
use Rattle.code_attribute.specs.declared.code.Code.{Code}
use Rattle.class_links.specs.Names.{class_name}
use Rattle.plain_model.specs.Classes.{ArrayType, is_made}
use Rattle.plain_model.specs.Facts.{class_at as facts_at, innermost_of}
use Rattle.class_set.specs.Linked.{Linked, class_named}
use Rattle.class_set.specs.ArrayTypes.{array_of, array_type, begins_with_bracket, class_of_member, descriptor_of_class}
use Rattle.class_set.specs.ArrayTypes.{is_array_type, primitive_letter}
use Rattle.class_set.specs.ArrayTypes.{class_at as class_named_at}
use Rattle.class_set.specs.Facts.{facts_of}
use Rattle.class_set.specs.Sets.{IsLinked, is_there, made_of}
use Rattle.class_set.proofs.Kept.{all_small}
use Rattle.frames.specs.declared.op.Op.{Op}
use Rattle.frames.specs.declared.op.Op.TheVariants as op
use Rattle.frames.specs.declared.program.Placed.{Placed}
use Rattle.frames.specs.Tables.{no_placed}
use Rattle.plain_frames.proofs.Frames.{entry-in}
use Rattle.class_code.specs.Codes.{Start, along_all, end_of, first_start, indexed, ops_from, ops_of, own_code, past, pooled}
use Rattle.class_code.specs.Entries.{class_of_entry, special_of_entry, static_of_entry}
use Rattle.class_code.specs.Instructions.{Indexed, array_op, branch_op, class_op, constant_in, constant_op, field_op, index_of}
use Rattle.class_code.specs.Instructions.{invoke_static_op, last_local, local_number, made, moves, op_of, or_bad, plain_op}
use Rattle.class_code.specs.Instructions.{pool_op, primitive_op, slot_op, special_op, static_op, virtual_op, when}
use Rattle.class_code.specs.Methods.{Site, code_of, sites_of}
use Rattle.class_code.specs.Operands.{Pooled, operand_at}
use Rattle.class_code.specs.Programs.{program_of}
use Rattle.class_code.proofs.ClassesThere.{called_named}
use Rattle.set_directory.specs.Written.{is_written}
use Rattle.launch_laws.specs.Written.{CharsAreWritten, CodeMakesWrittenArrays}
use Rattle.launch_laws.proofs.Listed.{IsSite, all-along, all-sites, made-listed, made_by}
use Rattle.launch_laws.proofs.Types.{MakesByName, class-found, class-there, found-listed, innermost-here, nested-there}
use Rattle.launch_laws.proofs.Types.{short-there, type-listed, written}

-- ---- the name of an entry's class

abbrev name_or : List ℕ → Option (List ℕ) → List ℕ
name_or other None = other
name_or other (Some name) = name

no-nameless : is_array_type (array_of (descriptor_of_class [])) ≡ false
unfolding bad_place char_len descriptor_at after_front only_field field_at brackets
    element_at base_at class_at name_len
no-nameless = refl

same-name : (o : Option (List ℕ)) (other : List ℕ)
    → is_array_type (array_of (descriptor_of_class (name_or [] o))) ≡ true
    → name_or other o ≡ name_or [] o
same-name None other is = absurd (false≢true (sym no-nameless ∙ is))
same-name (Some name) other is = refl

entry-name : (pool : Slots) (index : ℕ)
    → is_array_type (array_of (descriptor_of_class (class_name pool index))) ≡ true
    → class_named_at pool index ≡ class_name pool index
entry-name pool index is =
    same-name (class_name_at pool index) (class_of_member pool (member_at pool index)) is

-- ---- instructions

module _ (set : Linked) where
  abbrev IsWritten : Op → Type 0
  IsWritten (op.NewArray shape) = is_written set shape ≡ true
  IsWritten o = Unit {0}

  constant-written : (c : Constant) → IsWritten (constant_op c)
  constant-written constant.Null = tt
  constant-written (constant.Int i) = tt
  constant-written (constant.Long long_constant.Zero) = tt
  constant-written (constant.Long long_constant.One) = tt

  plain-written : (i : Plain) → IsWritten (plain_op i)
  plain-written (plain.Constant c) = constant-written c
  plain-written plain.Nop = tt
  plain-written i = tt

  moves-written : (b : Bool) (a : Access) (sort : Sort) (n : ℕ) → IsWritten (when b (moves a sort n))
  moves-written true access.Load sort n = tt
  moves-written true access.Store sort n = tt
  moves-written false a sort n = tt

  when-written : (b : Bool) (o : Op) → IsWritten o → IsWritten (when b o)
  when-written true o h = h
  when-written false o h = tt

  branch-written : (b : Branch) (target : ℕ) → IsWritten (branch_op b target)
  branch-written (branch.If condition) target = tt
  branch-written b target = tt

  or_bad-written : (o : Option ℕ) (make : ℕ → Op)
      → ((n : ℕ) → o ≡ Some n → IsWritten (make n)) → IsWritten (or_bad o make)
  or_bad-written None make h = tt
  or_bad-written (Some n) make h = h n refl

  class-written : (index : ℕ) (r : Result ℕ LinkKind) (make : ℕ → Op)
      → ((n : ℕ) → IsWritten (make n)) → IsWritten (class_op index r make)
  class-written index (Err kind) make h = tt
  class-written index (Ok n) make h = h n

  virtual-written : (index : ℕ) (r : Result (Option ℕ) LinkKind) → IsWritten (virtual_op index r)
  virtual-written index (Err kind) = tt
  virtual-written index (Ok None) = tt
  virtual-written index (Ok (Some n)) = tt

  literal-written : (e : Option Entry) (literal : Option ℕ) → IsWritten (constant_in e literal)
  literal-written (Some (entry.Integer i)) literal = tt
  literal-written other literal = or_bad-written literal op.PushLiteral (λ k e. tt)

  static-written : (a : Access) (index : ℕ) (r : Result _ LinkKind) → IsWritten (static_op a index r)
  static-written a index (Err kind) = tt
  static-written a index (Ok row) = one row.field.is_static
    where
      one : (b : Bool) → IsWritten (if b then op.Static a row.number
          else op.Unlinked (record { kind = StaticMismatch; index = index }))
      one true = tt
      one false = tt

  field-written : (p : Pooled) (a : Access) (index : ℕ) (r : Result _ LinkKind)
      → IsWritten (field_op p a index r)
  field-written p a index (Err kind) = tt
  field-written p a index (Ok row) = one row.field.is_static
    where
      one : (b : Bool) → IsWritten (if b then op.Unlinked (record { kind = StaticMismatch; index = index })
          else slot_op p a row)
      one true = tt
      one false =
          when-written (not (facts_at (facts_of p.set) row.field.class).is_interface)
          (op.Field a row.number) tt

  special-written : (p : Pooled) (index : ℕ) (r : Result MethodAt LinkKind) → IsWritten (special_op p index r)
  special-written p index (Err kind) = tt
  special-written p index (Ok m) = tt

  invoke-written : (p : Pooled) (index : ℕ) (r : Result MethodAt LinkKind)
      → IsWritten (invoke_static_op p index r)
  invoke-written p index (Err kind) = tt
  invoke-written p index (Ok m) = tt

  -- ---- those that make arrays

  module _ (linked : IsLinked set) (by_name : MakesByName) where
    -- what a name finds has a shape where it is made and its innermost class is there
    text-written : (t : List ℕ) (n : ℕ) → class_named set (array_of t) ≡ Some n
        → (is_array_type (array_of t) ≡ true → Contains (made_of set) (array_of t))
        → (is_array_type (array_of t) ≡ true → is_there (array_type set.files (array_of t)).innermost ≡ true)
        → is_written set n ≡ true
    text-written t n e made there =
        let found = found-listed set (array_of t) n (all_small set.files linked.readable) refl e in
        let is : is_array_type (array_of t) ≡ true =
        All-contains (λ u. is_array_type u ≡ true) set.arrays (array_of t) linked.arrays found.listed in
        subst (λ k. is_written set k ≡ true) (sym found.number)
        (written set (array_of t) found.listed by_name (made is) (there is))

    -- the elements of the type are of a class or an array type that a name finds
    element-there : (name : List ℕ) (element : ℕ) → class_named set name ≡ Some element
        → is_there (innermost_of (facts_of set) element) ≡ true
        → is_array_type (array_of (descriptor_of_class name)) ≡ true
        → is_there (array_type set.files (array_of (descriptor_of_class name))).innermost ≡ true
    element-there name element e there =
        elim (begins_with_bracket name) as (λ b. begins_with_bracket name ≡ b
        → is_array_type (array_of (if b then name else 76 ∷ name ++ 59 ∷ [])) ≡ true
        → is_there (array_type set.files
        (array_of (if b then name else 76 ∷ name ++ 59 ∷ []))).innermost ≡ true) [
          | true ↦ λ bracket is.
              let found = found-listed set name element (all_small set.files linked.readable) bracket e in
              let own : is_array_type name ≡ true =
              All-contains (λ u. is_array_type u ≡ true) set.arrays name linked.arrays found.listed in
              nested-there set name own
              (sym (ap is_there (innermost-here set name found.listed))
              ∙ ap (λ n. is_there (innermost_of (facts_of set) n)) (sym found.number) ∙ there) is
          | false ↦ λ plain is.
              let found = class-found set name element linked.arrays plain e in
              class-there set name element found.0 found.1 is
        ] refl

    module _ (site : Site) (at : IsSite set.files site) where
      abbrev own : Pooled
      own = pooled set site

      abbrev pool : Slots
      pool = site.file.pool

      abbrev Has : Ins → Type 0
      Has i = (p : PlacedIns) × Contains (own_code site).instructions p × (p.ins ≡ i)

      listed : (i : Ins) (t : List ℕ) → Has i → Contains (made_by pool i) t → is_array_type t ≡ true
          → Contains (made_of set) t
      listed i t (p, here, same) c is =
          made-listed set site p t at here (subst (λ j. Contains (made_by pool j) t) (sym same) c) is

      primitive-written : (p : Primitive) → Has (ins.NewArray p) → IsWritten (primitive_op own p)
      primitive-written p has =
          let t = primitive_letter p ∷ [] in
          or_bad-written (class_named set (array_of t)) op.NewArray (λ n e.
          text-written t n e (listed (ins.NewArray p) (array_of t) has (Contains-head (array_of t) []))
          (λ is. short-there set (array_of t) is refl))

      array-written : (index : ℕ) → Has (ins.Pool usage.NewReferenceArray index) → (r : Result ℕ LinkKind)
          → class_of_entry set pool index ≡ r → IsWritten (array_op own index r)
      array-written index has (Err kind) e = tt
      array-written index has (Ok element) e = one (is_there (innermost_of (facts_of set) element)) refl
        where
          one : (b : Bool) → is_there (innermost_of (facts_of set) element) ≡ b → IsWritten (if b
              then or_bad
              (class_named set (array_of (descriptor_of_class (class_name pool index)))) op.NewArray
              else op.Unlinked (record { kind = MissingClass; index = index }))
          one false there = tt
          one true there =
              let text = descriptor_of_class (class_name pool index) in
              or_bad-written (class_named set (array_of text)) op.NewArray (λ n h.
              text-written text n h
              (λ is. listed (ins.Pool usage.NewReferenceArray index) (array_of text) has
              (subst (λ named. Contains (array_of (descriptor_of_class named) ∷ []) (array_of text))
              (sym (entry-name pool index is))
              (Contains-head (array_of text) [])) is)
              (element-there (class_name pool index) element
              (called_named set (class_name pool index) element e) there))

      pool-written : (what : PoolUse) (index : ℕ) → Has (ins.Pool what index)
          → IsWritten (pool_op own what index)
      pool-written usage.LoadConstant index has =
          literal-written (entry_at pool index) (operand_at own index).literal
      pool-written usage.LoadLong index has =
          or_bad-written (operand_at own index).long op.PushLong (λ k e. tt)
      pool-written usage.GetStatic index has = static-written access.Load index (operand_at own index).field
      pool-written usage.PutStatic index has = static-written access.Store index (operand_at own index).field
      pool-written usage.GetField index has =
          field-written own access.Load index (operand_at own index).field
      pool-written usage.PutField index has =
          field-written own access.Store index (operand_at own index).field
      pool-written usage.InvokeVirtual index has = virtual-written index (operand_at own index).selector
      pool-written usage.InvokeSpecial index has =
          special-written own index (special_of_entry set site.class pool index)
      pool-written usage.InvokeStatic index has = invoke-written own index (static_of_entry set pool index)
      pool-written usage.New index has =
          class-written index (class_of_entry set pool index) (made own) (λ n.
          when-written (is_made (facts_at (facts_of set) n)) (op.New n) tt)
      pool-written usage.NewReferenceArray index has =
          array-written index has (class_of_entry set pool index) refl
      pool-written usage.CheckCast index has =
          class-written index (class_of_entry set pool index) op.Cast (λ n. tt)
      pool-written usage.InstanceOf index has =
          class-written index (class_of_entry set pool index) op.IsA (λ n. tt)

      op-written : (max_locals : ℕ) (from : Indexed) (tables lookups : ℕ) (i : Ins) → Has i
          → IsWritten (op_of own max_locals from tables lookups i)
      op-written max_locals from tables lookups (ins.Plain p) has = plain-written p
      op-written max_locals from tables lookups (ins.Variable a sort v) has =
          moves-written (nat_lt (last_local sort (local_number v)) max_locals) a sort (local_number v)
      op-written max_locals from tables lookups (ins.PushByte n) has = tt
      op-written max_locals from tables lookups (ins.PushShort n) has = tt
      op-written max_locals from tables lookups (ins.LoadConstant index) has =
          literal-written (entry_at pool index) (operand_at own index).literal
      op-written max_locals from tables lookups (ins.Pool what index) has = pool-written what index has
      op-written max_locals from tables lookups (ins.InvokeInterface index count) has =
          virtual-written index (operand_at own index).selector
      op-written max_locals from tables lookups (ins.NewArray p) has = primitive-written p has
      op-written max_locals from tables lookups (ins.Increment n by) has =
          when-written (nat_lt n max_locals) (op.Increment n by) tt
      op-written max_locals from tables lookups (ins.IncrementWide n by) has =
          when-written (nat_lt n max_locals) (op.Increment n by) tt
      op-written max_locals from tables lookups (ins.Branch b target) has =
          branch-written b (index_of from target)
      op-written max_locals from tables lookups (ins.GotoWide target) has = tt
      op-written max_locals from tables lookups (ins.TableSwitch default low high targets) has = tt
      op-written max_locals from tables lookups (ins.LookupSwitch default cases) has = tt

      ops-written : (start : Start) (ps : List PlacedIns) → All (Contains (own_code site).instructions) ps
          → All (λ (i : Placed). IsWritten i.op) (ops_from set site start ps)
      ops-written start [] all =
          All-cons (λ (i : Placed). IsWritten i.op)
          (record { op = end_of (code_of site); method = start.method; pc = length (own_code site).bytes }) []
          (end-written (code_of site)) (All-nil (λ (i : Placed). IsWritten i.op))
        where
          end-written : (o : Option Code) → IsWritten (end_of o)
          end-written None = tt
          end-written (Some code) = tt
      ops-written start (p ∷ ps) all =
          All-cons (λ (i : Placed). IsWritten i.op)
          (record {
            op = op_of own (own_code site).max_locals (indexed site start) start.tables start.lookups p.ins;
            method = start.method;
            pc = p.pc;
          })
          (ops_from set site (past site start p.ins) ps)
          (op-written (own_code site).max_locals (indexed site start) start.tables start.lookups p.ins
          (p, All-head (Contains (own_code site).instructions) p ps all, refl))
          (ops-written (past site start p.ins) ps (All-tail (Contains (own_code site).instructions) p ps all))

    code-written : All (λ (i : Placed). IsWritten i.op) (along_all set (ops_of set))
    code-written =
        all-along (λ (i : Placed). IsWritten i.op) (IsSite set.files) set (ops_of set)
        (λ site start at. ops-written site at start (own_code site).instructions
        (All-contains_itself (own_code site).instructions))
        (first_start set) (sites_of set.files) (all-sites set.files)

-- ---- the program

-- the set has the array types that its code makes
abbrev pub KnowsMade : Type 0
KnowsMade = (set : Linked) (text : List ℕ) → IsLinked set → Contains (made_of set) text
    → (a : ArrayType) × Contains (facts_of set).arrays a × (a.descriptor ≡ text)

pub code-makes : {M : Type 0} → MakesByName → CodeMakesWrittenArrays M
unfolding program_of
code-makes by_name native_at set shape linked (at, e) =
    subst (IsWritten set) e
    (entry-in (λ (i : Placed). IsWritten set i.op) (program_of native_at set).code at no_placed
    (code-written set linked by_name) tt)

pub chars-written : MakesByName → KnowsMade
    → ((set : Linked) → Contains (made_of set) (codes "[C")) → CharsAreWritten
chars-written by_name known made set linked =
    let (a, has, same) = known set (codes "[C") linked (made set) in
    let listed : Contains set.arrays (codes "[C") =
    subst (Contains set.arrays) same (type-listed set.files set.arrays a has) in
    let is : is_array_type (codes "[C") ≡ true =
    All-contains (λ t. is_array_type t ≡ true) set.arrays (codes "[C") linked.arrays listed in
    written set (codes "[C") listed by_name (made set) (short-there set (codes "[C") is refl)
