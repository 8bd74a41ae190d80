-- What a plain run begins with.
use Rattle.std.proofs.Common.{◌≡◌, ℕ, ◌<◌, ◌^◌, List, [], ◌∷◌, ◌++◌, map, length, ap, sym, ◌∙◌, subst, arith, append_assoc}
use Rattle.std.specs.Prelude.{All, pos, unwrap_or}
use Rattle.std.proofs.lemmas.List.{get_or-map, length-map}
use Rattle.std.proofs.lemmas.List.Elements.{All-append, All-cons, All-head, All-nil, All-tail}
use Rattle.std.proofs.lemmas.Option.{slice_get-get_or}
use Rattle.ap_base.specs.declared.reference.Ref.{Ref}
use Rattle.ap_base.specs.declared.reference.Ref.TheVariants.{Null as NoRef, Volatile}
use Rattle.run_types.specs.declared.limits.Limits.{Limits}
use Rattle.graph_model.specs.declared.types.Graph.{Graph}
use Rattle.graph_model.specs.declared.types.Node.{Node}
use Rattle.graph_model.specs.declared.types.Obj.{Obj}
use Rattle.graph_model.specs.declared.types.Value.{Value}
use Rattle.graph_model.specs.declared.types.Value.TheVariants.{Int}
use Rattle.plain_model.specs.Consistent.{IsConsistent}
use Rattle.plain_model.specs.Duties.{IsClass}
use Rattle.plain_model.specs.Facts.{SetFacts, arguments_class, shapes_of, stream_class, string_number}
use Rattle.plain_model.specs.First.{IsOpening, arguments_number, first_objects, first_progress, first_statics, literal_number}
use Rattle.plain_model.specs.First.{literal_object, node_object, numbers_to}
use Rattle.plain_model.proofs.Places.{numbers-at, numbers-length}
use Rattle.plain_frames.specs.Tables.{NamesWhatIsThere}
use Rattle.class_set.specs.Facts.{facts_of}
use Rattle.class_set.specs.Linked.{Linked}
use Rattle.program_host.specs.Literals.{literal_in, spare}
use Rattle.program_launch.specs.declared.mains.Main.{Main}
use Rattle.program_launch.specs.Launches.{set_program}
use Rattle.plain_machine.specs.declared.beginning.Beginning.{Beginning}
use Rattle.plain_machine.specs.Beginnings.{BeginsWith}
use Rattle.plain_launch.specs.Launches.{launch_of, references_to}
use Rattle.plain_launch.specs.Objects.{text_object}

-- ---- objects

pub object_made : (class number : ℕ) (values others : List Value) (o : Obj)
    → o ≡ record { shape = number; values = others } → number ≡ class → others ≡ values
    → o ≡ record { shape = class; values = values }
object_made class number values others o made same_class same_values =
    made ∙ ap (λ n. record { shape = n; values = others }) same_class
    ∙ ap (λ vs. record { shape = class; values = vs }) same_values

abbrev out : SetFacts → Obj
out set = record { shape = stream_class set; values = [] }

abbrev array : SetFacts → Obj
array set = record { shape = arguments_class set; values = [] }

pub objects_listed : (set : SetFacts) (opening : Graph) (nodes : List Node) (texts : List (List ℕ))
    (one two three all : List Obj) (s a : Obj) (string : ℕ)
    → opening.nodes ≡ nodes → texts ≡ set.literals → one ≡ map (node_object set opening) nodes
    → s ≡ out set → a ≡ array set → string ≡ string_number set
    → two ≡ one ++ s ∷ [] → three ≡ two ++ a ∷ [] → all ≡ three ++ map (text_object string) texts
    → all ≡ first_objects set opening
objects_listed set opening nodes texts one two three all s a string same_nodes literals is_one is_s is_a is_string
    is_two is_three is_all =
    let front = map (node_object set opening) nodes in
    let behind = map (text_object string) texts in
    is_all
    ∙ ap (λ os. os ++ behind)
    (is_three ∙ ap (λ os. os ++ a ∷ []) (is_two ∙ ap (λ os. os ++ s ∷ []) is_one))
    ∙ append_assoc (front ++ s ∷ []) (a ∷ []) behind ∙ append_assoc front (s ∷ []) (a ∷ behind)
    ∙ ap (λ o. front ++ o ∷ a ∷ behind) is_s ∙ ap (λ o. front ++ out set ∷ o ∷ behind) is_a
    ∙ ap (λ n. front ++ out set ∷ array set ∷ map (text_object n) texts) is_string
    ∙ ap (λ ts. front ++ out set ∷ array set ∷ map (text_object (string_number set)) ts) literals
    ∙ ap (λ ns. map (node_object set opening) ns ++ out set ∷ array set ∷ map (literal_object set opening) set.literals)
    (sym same_nodes)

abbrev IsShort : Obj → Type 0
IsShort o = length o.values < 2 ^ 31

short_nodes : (set : SetFacts) (opening : Graph) (nodes : List Node)
    → All (λ (n : Node). length n.values < 2 ^ 31) nodes → All IsShort (map (node_object set opening) nodes)
short_nodes set opening [] all = All-nil IsShort
short_nodes set opening (n ∷ ns) all =
    All-cons IsShort (node_object set opening n) (map (node_object set opening) ns)
    (All-head (λ (n : Node). length n.values < 2 ^ 31) n ns all)
    (short_nodes set opening ns (All-tail (λ (n : Node). length n.values < 2 ^ 31) n ns all))

short_texts : (set : SetFacts) (opening : Graph) (texts : List (List ℕ))
    → All (λ (text : List ℕ). length text < 2 ^ 16) texts → All IsShort (map (literal_object set opening) texts)
short_texts set opening [] all = All-nil IsShort
short_texts set opening (t ∷ ts) all =
    All-cons IsShort (literal_object set opening t) (map (literal_object set opening) ts)
    (let counted = length-map t (λ c. Int (pos c)) in
    let few : length t < 2 ^ 16 = All-head (λ (text : List ℕ). length text < 2 ^ 16) t ts all in
    omega (arith, counted, few))
    (short_texts set opening ts (All-tail (λ (text : List ℕ). length text < 2 ^ 16) t ts all))

-- no first object is large where no node is
pub first_short : (set : SetFacts) (opening : Graph) (objects : List Obj) → objects ≡ first_objects set opening
    → All (λ (n : Node). length n.values < 2 ^ 31) opening.nodes
    → All (λ (text : List ℕ). length text < 2 ^ 16) set.literals → All IsShort objects
first_short set opening objects same nodes texts =
    let behind = map (literal_object set opening) set.literals in
    subst (All IsShort) (sym same)
    (All-append IsShort (map (node_object set opening) opening.nodes) (out set ∷ array set ∷ behind)
    (short_nodes set opening opening.nodes nodes)
    (All-cons IsShort (out set) (array set ∷ behind) (omega arith)
    (All-cons IsShort (array set) behind (omega arith) (short_texts set opening set.literals texts))))

-- ---- literals

-- a literal's reference is at the number of its object
literal_given : (set : SetFacts) (opening : Graph) (n k : ℕ) → k < n
    → literal_in (references_to set opening n) k ≡ Volatile (literal_number set opening k)
literal_given set opening n k below =
    let f : ℕ → Ref = λ k. Volatile (literal_number set opening k) in
    let within : k < length (map f (numbers_to n)) =
    omega (arith, below, length-map (numbers_to n) f, numbers-length n) in
    let there : k < length (numbers_to n) = omega (arith, below, numbers-length n) in
    ap (λ o. unwrap_or o (spare k)) (slice_get-get_or (map f (numbers_to n)) k NoRef within)
    ∙ get_or-map f (numbers_to n) k 0 NoRef there ∙ ap f (numbers-at n k 0 below)

-- ---- the beginning

-- what is known of the set, the main class and the graph
pub record CanBegin (set : Linked) (main : Main) (opening : Graph) : Type 0 where
  pub consistent : IsConsistent (facts_of set)
  pub names : NamesWhatIsThere (facts_of set) (set_program set)
  pub graph : IsOpening (facts_of set) opening
  pub class : IsClass (facts_of set) main.class

-- what the parts are
pub record AreFirst (set : Linked) (main : Main) (opening : Graph) (b : Beginning) : Type 0 where
  pub shapes : b.shapes ≡ shapes_of (facts_of set)
  pub objects : b.objects.items ≡ first_objects (facts_of set) opening
  pub statics : b.statics.items ≡ first_statics (facts_of set) opening
  pub classes : b.classes.items ≡ first_progress (facts_of set) opening
  pub class_is : b.class ≡ main.class
  pub method_is : b.method ≡ main.method
  pub array : b.arguments ≡ arguments_number (facts_of set) opening

pub begins : (set : Linked) (main : Main) (opening : Graph) (limits : Limits) (b : Beginning)
    → CanBegin set main opening → AreFirst set main opening b → BeginsWith (launch_of set main opening limits) b
begins set main opening limits b can are = record {
  launched = record {
    consistent = can.consistent;
    names = can.names;
    opening = can.graph;
    main = can.class;
  };
  shapes = are.shapes;
  objects = are.objects;
  statics = are.statics;
  classes = are.classes;
  main = are.class_is;
  method = are.method_is;
  array = are.array;
  literals = λ k below. literal_given (facts_of set) opening (length (facts_of set).literals) k below;
}

-- any limits
pub some_limits : Limits
some_limits = record { heap_words = 0; acts = 0 }
