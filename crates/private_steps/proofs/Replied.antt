-- Replies without a rule of their own.
use Rattle.std.proofs.Common.{◌≡◌, ℕ, false, List, drop, Option, None, Some, IfSome, refl}
use Rattle.run_types.specs.declared.key.Key.{Key}
use Rattle.run_types.specs.declared.resolved.At.{At}
use Rattle.code_form.specs.declared.ins.Equality.{Equality}
use Rattle.code_form.specs.declared.ins.Sort.{Sort}
use Rattle.natives.specs.declared.requests.Reply.{Reply}
use Rattle.natives.specs.declared.requests.Reply.TheVariants as reply
use Rattle.frame_cells.specs.Own.{Own}
use Rattle.frames.specs.declared.op.Op.{Op}
use Rattle.frames.specs.declared.op.Op.TheVariants as op
use Rattle.frames.specs.Settings.{Frame, Runs, BeginsMain, BeginsThread, Enters, Unwinds, Initialises, Setting}
use Rattle.frames.specs.Calls.{goes_on, native_does, returns_to, resumes, runs_initialiser, throws, calls, result_of}
use Rattle.frames.specs.Turns.{class_of, gives_back, replied, instruction_answered, native_answered, answered}
use Rattle.frame_thread.specs.declared.form.Form.{Form}
use Rattle.frame_thread.specs.declared.form.Form.TheVariants as form
use Rattle.frame_thread.specs.Stacked.{frames_with, IsBelowEnd}
use Rattle.private_steps.specs.Waits.{WaitsFor}
use Rattle.private_steps.specs.Replies.{cells_replied, IsPlain, is_shape, is_item, is_thrown, is_init, goes_its_way}

module _ {M R N V : Type 0} (x : Setting M R N V) (m at : ℕ) (own : Own R) (held : Option (Key R))
    (below : List (Frame R N)) where
  pub virtual-replied : (s : ℕ) (r : Reply R V) → IsPlain r → is_shape r ≡ false →
      instruction_answered x (op.InvokeVirtual s) m at own held below r ≡
      replied x (op.InvokeVirtual s) m at own held below (cells_replied x r)
  virtual-replied s (reply.Shape class) p e = absurd cc
  virtual-replied s (reply.Thrown r class) p e = absurd p
  virtual-replied s (reply.Init class) p e = absurd p
  virtual-replied s r p e = refl

  pub throw-replied : (r : Reply R V) → IsPlain r → is_shape r ≡ false →
      instruction_answered x op.Throw m at own held below r ≡
      replied x op.Throw m at own held below (cells_replied x r)
  throw-replied (reply.Shape class) p e = absurd cc
  throw-replied (reply.Thrown r class) p e = absurd p
  throw-replied (reply.Init class) p e = absurd p
  throw-replied r p e = refl

  pub same-replied : (equality : Equality) (to : ℕ) (r : Reply R V) → IsPlain r → is_item r ≡ false →
      instruction_answered x (op.IfSame equality to) m at own held below r ≡
      replied x (op.IfSame equality to) m at own held below (cells_replied x r)
  same-replied equality to (reply.Item v) p e = absurd cc
  same-replied equality to (reply.Thrown r class) p e = absurd p
  same-replied equality to (reply.Init class) p e = absurd p
  same-replied equality to r p e = refl

  pub static-replied : (k : ℕ) (r : Reply R V) → IsPlain r →
      instruction_answered x (op.InvokeStatic k) m at own held below r ≡ calls x k m at own held below
  static-replied k (reply.Thrown r class) p = absurd p
  static-replied k (reply.Init class) p = absurd p
  static-replied k r p = refl

  pub return-replied : (r : Reply R V) → IsPlain r →
      instruction_answered x op.Return m at own held below r ≡
      gives_back x (result_of None own) m at own held below
  return-replied (reply.Thrown r class) p = absurd p
  return-replied (reply.Init class) p = absurd p
  return-replied r p = refl

  pub value-replied : (sort : Sort) (r : Reply R V) → IsPlain r →
      instruction_answered x (op.ReturnValue sort) m at own held below r ≡
      gives_back x (result_of (Some sort) own) m at own held below
  value-replied sort (reply.Thrown r class) p = absurd p
  value-replied sort (reply.Init class) p = absurd p
  value-replied sort r p = refl

  pub other-replied : (o : Op) (r : Reply R V) → goes_its_way o ≡ false → IsPlain r →
      instruction_answered x o m at own held below r ≡ replied x o m at own held below (cells_replied x r)
  other-replied (op.InvokeStatic k) r e p = absurd cc
  other-replied (op.InvokeVirtual s) r e p = absurd cc
  other-replied op.Throw r e p = absurd cc
  other-replied op.Return r e p = absurd cc
  other-replied (op.ReturnValue sort) r e p = absurd cc
  other-replied (op.IfSame equality to) r e p = absurd cc
  other-replied o (reply.Item v) e p = refl
  other-replied o (reply.Made r) e p = refl
  other-replied o (reply.Thrown r class) e p = absurd p
  other-replied o (reply.Init class) e p = absurd p
  other-replied o r e p = refl

module _ {M R N V : Type 0} (x : Setting M R N V) where
  pub native-other : (from : At) (state : N) (below : List (Frame R N)) (r : Reply R V) → is_thrown r ≡ false →
      native_answered x from state below r ≡
      native_does x (x.next state r) from below (λ v. returns_to x v below)
  native-other from state below (reply.Thrown r class) e = absurd cc
  native-other from state below r e = refl

  pub main-other : (class : ℕ) (fs : List (Frame R N)) (r : Reply R V) → is_init r ≡ false →
      answered x (BeginsMain class) fs r ≡ resumes x fs
  main-other class fs (reply.Init c) e = absurd cc
  main-other class fs r e = refl

  pub super-other : (super : ℕ) (fs : List (Frame R N)) (r : Reply R V) → is_init r ≡ false →
      answered x (Initialises super) fs r ≡ runs_initialiser x (class_of x fs) fs
  super-other super fs (reply.Init c) e = absurd cc
  super-other super fs r e = refl

  pub entry-other : (fs : List (Frame R N)) (r : Reply R V) → is_thrown r ≡ false →
      answered x Enters fs r ≡ goes_on Runs fs
  entry-other fs (reply.Thrown r class) e = absurd cc
  entry-other fs r e = refl

  pub exit-other : (thrown : R) (class : ℕ) (fs : List (Frame R N)) (r : Reply R V) → is_thrown r ≡ false →
      answered x (Unwinds thrown class) fs r ≡ throws x thrown class (drop 1 fs)
  exit-other thrown class fs (reply.Thrown r other) e = absurd cc
  exit-other thrown class fs r e = refl

  pub thread-other : (thread : R) (fs : List (Frame R N)) (r : Reply R V) → is_shape r ≡ false →
      is_thrown r ≡ false → answered x (BeginsThread thread) fs r ≡ goes_on (BeginsThread thread) fs
  thread-other thread fs (reply.Shape class) e f = absurd cc
  thread-other thread fs (reply.Thrown r class) e f = absurd cc
  thread-other thread fs r e f = refl

-- frames that wait have one that may go on
pub waits-form : {R N : Type 0} → (f : Option (Form R N)) (own : Own R) (below : List (Frame R N)) →
    WaitsFor Runs (frames_with f own below) → IfSome f IsBelowEnd
waits-form None own below h = tt
waits-form (Some (form.Running s)) own below h = h
waits-form (Some (form.Native from state)) own below h = tt
waits-form (Some (form.Initialiser class from)) own below h = tt
waits-form (Some (form.Main m arguments)) own below h = tt
