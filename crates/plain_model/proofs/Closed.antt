-- What durable places refer to is durable: at first, and after each front of a run.
use Rattle.std.proofs.Common.{◌≡◌, ℕ, zero, suc, ◌+◌, ◌<◌, true, false, List, [], ◌∷◌, ◌++◌, refl, ap, sym, ◌∙◌, nat_eq, ◌||◌}
use Rattle.std.proofs.Common.{◌&&◌, if◌then◌else◌, arith, length, map, subst}
use Rattle.std.specs.Prelude.{All, Option, Some, None, slice_get, slice_index_or}
use Rattle.std.proofs.lemmas.Bool.{eqb-true}
use Rattle.std.proofs.lemmas.List.{get_or_append_left, length-map}
use Rattle.std.proofs.lemmas.List.Elements.{All-head, All-tail, All-map, All-get_or, All-contains, All-filter}
use Rattle.graph_model.specs.declared.types.Value.{Value}
use Rattle.graph_model.specs.declared.types.Value.TheVariants.{Obj as Object}
use Rattle.graph_model.specs.declared.types.Obj.{Obj}
use Rattle.graph_model.specs.declared.types.NamedValue.{NamedValue}
use Rattle.graph_model.specs.declared.types.Graph.{Graph}
use Rattle.graph_model.specs.Heaps.{no_object, IsBelow, default_of}
use Rattle.run_history.specs.Recorded.{Recorded}
use Rattle.run_history.specs.Knowing.{Knowledge, next_known, known_after, is_root}
use Rattle.run_history.specs.Wanted.{Wishes, WantsNow, IsClosed}
use Rattle.plain_model.specs.Facts.{SetFacts, StaticFacts, stream_class, arguments_class}
use Rattle.plain_model.specs.Kinds.{narrowed}
use Rattle.plain_model.specs.First.{IsOpening, first_known, first_world, first_heap, first_objects, first_statics, node_object}
use Rattle.plain_model.specs.First.{literal_object, static_value, constant_value, root_static, root_value, roots_from}
use Rattle.plain_model.specs.First.{is_lacking, lacking_roots, name_is}
use Rattle.plain_model.specs.Codes.{Code, frames_after_op}
use Rattle.plain_model.specs.Runs.{GoesOn}
use Rattle.plain_model.proofs.Durable.{below_from_has_number, has_number_from_below}

module _ (set : SetFacts) (main : ℕ) (opening : Graph) {Frames : Type 0} (code : Code set main opening Frames) where
  pub closed_after : (known : Knowledge) (frames : List Frames) (Now : Wishes) (front rest : List Recorded)
      → IsClosed known → GoesOn set main opening code known frames Now (front ++ rest) → IsClosed (known_after known front)
  closed_after known frames Now [] rest closed run = closed
  closed_after known frames Now (a ∷ front) rest closed run =
      closed_after (next_known known a) (frames_after_op set main opening code known.world frames a.act.thread a.act.op)
      (WantsNow (next_known known a) Now) front rest run.0.is_closed run.1

-- a value that is an object of the first n is one of them
below_object : (n m : ℕ) (value : Value) → IsBelow n value → value ≡ Object m → m < n
below_object n m value below is = let P : Value → Type 0 = IsBelow n in subst P is below

slice_get-append_right : {X : Type 0} (xs ys : List X) (j : ℕ) → slice_get (xs ++ ys) (length xs + j) ≡ slice_get ys j
slice_get-append_right [] ys j = let e : 0 + j ≡ j = omega arith in ap (slice_get ys) e
slice_get-append_right (x ∷ xs) ys j =
    let e : suc (length xs) + j ≡ suc (length xs + j) = omega arith in
    ap (slice_get (x ∷ xs ++ ys)) e ∙ slice_get-append_right xs ys j

module _ (set : SetFacts) (opening : Graph) (is : IsOpening set opening) where
  abbrev nodes : ℕ
  nodes = length opening.nodes

  node_values : All (λ (o : Obj). All (IsBelow nodes) o.values) (map (node_object set opening) opening.nodes)
  node_values = All-map (λ (o : Obj). All (IsBelow nodes) o.values) (node_object set opening) opening.nodes is.in_nodes

  -- the objects of the first heap that are no nodes
  abbrev other_objects : List Obj
  other_objects = record { shape = stream_class set; values = [] } ∷ record { shape = arguments_class set; values = [] } ∷ map (literal_object set opening) set.literals

  pub root_value_below : (roots : List NamedValue) (name : List ℕ) → All (λ (r : NamedValue). IsBelow nodes r.value) roots → IsBelow nodes (root_value roots name)
  root_value_below [] name all = tt
  root_value_below (r ∷ rs) name all = elim (name_is r.name name) as (λ b. IsBelow nodes (if b then r.value else root_value rs name)) [
    | true ↦ All-head (λ (r : NamedValue). IsBelow nodes r.value) r rs all
    | false ↦ root_value_below rs name (All-tail (λ (r : NamedValue). IsBelow nodes r.value) r rs all)
  ]

  -- the static of a durable root is the value of one of the graph's roots, or null
  root_static_below : (fields : List StaticFacts) (rest : List Value) (name : List ℕ) (k m : ℕ) → root_static fields name ≡ Some k
      → slice_get (map (static_value set opening) fields ++ rest) k ≡ Some (Object m) → m < nodes
  root_static_below [] rest name k m found at = absurd (let no : None ≡ Some k = found in cc)
  root_static_below (s ∷ ss) rest name k m found at =
      elim s.is_root as (λ is_root. (if is_root && name_is s.name name then Some 0 else later) ≡ Some k
      → slice_get ((if is_root then root_value opening.roots s.name else otherwise) ∷ map (static_value set opening) ss ++ rest) k ≡ Some (Object m) → m < nodes) [
        | true ↦ λ f a. root (root_static_below ss rest name) f a
        | false ↦ λ f a. further (root_static_below ss rest name) otherwise k f a
      ] found at
    where
      later : Option ℕ
      later = elim (root_static ss name) [ None ↦ None | Some j ↦ Some (suc j) ]

      otherwise : Value
      otherwise = elim s.constant [
        | None ↦ default_of s.kind
        | Some constant ↦ narrowed s.kind (constant_value set opening constant)
      ]

      further : ((j n : ℕ) → root_static ss name ≡ Some j → slice_get (map (static_value set opening) ss ++ rest) j ≡ Some (Object n) → n < nodes)
          → (v : Value) (i : ℕ) → later ≡ Some i → slice_get (v ∷ map (static_value set opening) ss ++ rest) i ≡ Some (Object m) → m < nodes
      further below v i f a = elim (root_static ss name) as (λ r. root_static ss name ≡ r
          → (elim r [ None ↦ None | Some j ↦ Some (suc j) ]) ≡ Some i → slice_get (v ∷ map (static_value set opening) ss ++ rest) i ≡ Some (Object m) → m < nodes) [
            | None ↦ λ e g b. absurd (let none : None ≡ Some i = g in cc)
            | Some j ↦ λ e g b. let is_i : i ≡ suc j = (let it : Some (suc j) ≡ Some i = g in cc) in below j m e (rw is_i at b)
          ] refl f a

      root : ((j n : ℕ) → root_static ss name ≡ Some j → slice_get (map (static_value set opening) ss ++ rest) j ≡ Some (Object n) → n < nodes)
          → (if name_is s.name name then Some 0 else later) ≡ Some k
          → slice_get (root_value opening.roots s.name ∷ map (static_value set opening) ss ++ rest) k ≡ Some (Object m) → m < nodes
      root below f a = elim (name_is s.name name) as (λ same. (if same then Some 0 else later) ≡ Some k
          → slice_get (root_value opening.roots s.name ∷ map (static_value set opening) ss ++ rest) k ≡ Some (Object m) → m < nodes) [
            | true ↦ λ g b.
                let is_k : k ≡ 0 = (let it : Some 0 ≡ Some k = g in cc) in
                let here : Some (root_value opening.roots s.name) ≡ Some (Object m) = rw is_k at b in
                below_object nodes m (root_value opening.roots s.name) (root_value_below opening.roots s.name is.in_roots) cc
            | false ↦ λ g b. further below (root_value opening.roots s.name) k g b
          ] f a

  lacking_below : (values : List Value) (lacking m : ℕ) → All (IsBelow nodes) values → slice_get values lacking ≡ Some (Object m) → m < nodes
  lacking_below [] k m all at = absurd (let no : None ≡ Some (Object m) = at in cc)
  lacking_below (v ∷ vs) zero m all at = below_object nodes m v (All-head (IsBelow nodes) v vs all) (let it : Some v ≡ Some (Object m) = at in cc)
  lacking_below (v ∷ vs) (suc k) m all at = lacking_below vs k m (All-tail (IsBelow nodes) v vs all) at

  lacking_values : All (IsBelow nodes) (map (λ (r : NamedValue). r.value) (lacking_roots set opening))
  lacking_values = All-map (IsBelow nodes) (λ (r : NamedValue). r.value) (lacking_roots set opening)
      (All-filter (is_lacking set opening) (λ (r : NamedValue). IsBelow nodes r.value) opening.roots is.in_roots)

  -- what a durable root holds at first is a node, or no object
  roots_below : (roots : List NamedValue) (lacking k m : ℕ) → is_root (roots_from set opening lacking roots) k ≡ true
      → slice_get (first_statics set opening) k ≡ Some (Object m) → m < nodes
  roots_below [] lacking k m root at = absurd (let none : false ≡ true = root in cc)
  roots_below (r ∷ rs) lacking k m root at = elim (root_static set.statics r.name) as (λ place. root_static set.statics r.name ≡ place
      → is_root (elim place [
        | None ↦ record { name = r.name; at = suc (length set.statics) + lacking } ∷ roots_from set opening (suc lacking) rs
        | Some j ↦ record { name = r.name; at = suc j } ∷ roots_from set opening lacking rs
      ]) k ≡ true → m < nodes) [
        | None ↦ λ e h. unnamed (roots_below rs (suc lacking) k m) h
        | Some j ↦ λ e h. named j (roots_below rs lacking k m) e h
      ] refl root
    where
      unnamed : (is_root (roots_from set opening (suc lacking) rs) k ≡ true → slice_get (first_statics set opening) k ≡ Some (Object m) → m < nodes)
          → (nat_eq (suc (length set.statics) + lacking) k || is_root (roots_from set opening (suc lacking) rs) k) ≡ true → m < nodes
      unnamed rest h = elim (nat_eq (suc (length set.statics) + lacking) k) as (λ b. nat_eq (suc (length set.statics) + lacking) k ≡ b
          → (b || is_root (roots_from set opening (suc lacking) rs) k) ≡ true → m < nodes) [
            | true ↦ λ same g.
                let fields = map (static_value set opening) set.statics in
                let values = map (λ (r : NamedValue). r.value) (lacking_roots set opening) in
                let here : k ≡ suc (length fields + lacking) = omega (arith, eqb-true (suc (length set.statics) + lacking) k same, length-map set.statics (static_value set opening)) in
                lacking_below values lacking m lacking_values (sym (slice_get-append_right fields values lacking) ∙ (rw here at at))
            | false ↦ λ other g. rest g at
          ] refl h

      named : (j : ℕ) → (is_root (roots_from set opening lacking rs) k ≡ true → slice_get (first_statics set opening) k ≡ Some (Object m) → m < nodes)
          → root_static set.statics r.name ≡ Some j
          → (nat_eq (suc j) k || is_root (roots_from set opening lacking rs) k) ≡ true → m < nodes
      named j rest e h = elim (nat_eq (suc j) k) as (λ b. nat_eq (suc j) k ≡ b → (b || is_root (roots_from set opening lacking rs) k) ≡ true → m < nodes) [
        | true ↦ λ same g.
            let here : k ≡ suc j = sym (eqb-true (suc j) k same) in
            root_static_below set.statics (map (λ (r : NamedValue). r.value) (lacking_roots set opening)) r.name j m e (rw here at at)
        | false ↦ λ other g. rest g at
      ] refl h

  pub closed_at_first : IsClosed (first_known set opening)
  unfolding first_world first_heap
  closed_at_first = record {
    objects = λ m n durable refers.
        let below = below_from_has_number nodes m durable in
        let fewer : m < length (map (node_object set opening) opening.nodes) = rw (length-map opening.nodes (node_object set opening)) below in
        let there = All-get_or (λ (o : Obj). All (IsBelow nodes) o.values) (map (node_object set opening) opening.nodes) m no_object fewer node_values in
        let same = get_or_append_left (map (node_object set opening) opening.nodes) (other_objects) no_object m fewer in
        has_number_from_below nodes n (All-contains (IsBelow nodes) (slice_index_or (first_objects set opening) m no_object).values (Object n) (rw same there) refers);
    roots = λ k n root at. has_number_from_below nodes n (roots_below opening.roots 0 k n root at);
  }
