use Rattle.std.proofs.Common.{◌≡◌, ◌∙◌, ℕ, length, ap, refl}
use Rattle.std.proofs.lemmas.Result.{on_ok_weaker}
use Rattle.line_memory.specs.Memory.{Memory}
use Rattle.word_changes.specs.Changes.{Nothing, ChangesTo, WritesAll}
use Rattle.word_changes.proofs.Going.{goes_more, goes_by_call}
use Rattle.image_compact.specs.Writing.{OfSuperblock}
use Rattle.image_compact.proofs.LineWords.{super_changes_as, super_wrote_as}
use Rattle.image_compact.proofs.ImageWords.{used_of, front_of_body, objects_of_body, body_change, body_fenced, body_done, body_fixed}
use Rattle.image_compact.proofs.writing.write_body.Goals as goal

pub returns-in_err-write_front-clause-changes : goal.returns-in_err-write_front-clause-changes
returns-in_err-write_front-clause-changes g c =
    front_of_body c.args.graph.now c.args.memory.now c.write_front.new.memory c.write_front.ensures.changes

pub returns-in_err-write_objects-clause-changes : goal.returns-in_err-write_objects-clause-changes
returns-in_err-write_objects-clause-changes g c =
    objects_of_body c.args.graph.now c.args.memory.now c.write_front.new.memory c.write_objects.new.memory
    c.write_front.ensures.changes c.write_objects.ensures.changes

pub returns-in_err-write_objects-clause-goes_on : goal.returns-in_err-write_objects-clause-goes_on
returns-in_err-write_objects-clause-goes_on g c =
    goes_more c.args.memory.now c.write_front.new.memory c.write_objects.new.memory c.write_front.ensures.goes_on c.write_objects.ensures.goes_on

pub returns-in_err-write_superblock-clause-changes : goal.returns-in_err-write_superblock-clause-changes
returns-in_err-write_superblock-clause-changes g c =
    let graph = c.args.graph.now in
    let a : Memory = c.args.memory.now in
    let b : Memory = c.write_front.new.memory in
    let d : Memory = c.write_objects.new.memory in
    let e : Memory = c.write_superblock.new.memory in
    let sized : d.size ≡ a.size = c.write_objects.ensures.changes.size ∙ c.write_front.ensures.changes.size in
    let used : length c.as_slice-words.result.now ≡ used_of graph =
    ap length (c.as_slice-words.ensures.value ∙ c.requires.plan.words) in
    let super : ChangesTo (OfSuperblock a.size (used_of graph)) d e =
    super_changes_as d.size a.size (length c.as_slice-words.result.now) (used_of graph) d e sized used c.write_superblock.ensures.changes in
    body_change graph a b d c.write_front.ensures.changes c.write_objects.ensures.changes e super

pub returns-in_err-write_superblock-clause-goes_on : goal.returns-in_err-write_superblock-clause-goes_on
returns-in_err-write_superblock-clause-goes_on g c =
    let graph = c.args.graph.now in
    let a : Memory = c.args.memory.now in
    let b : Memory = c.write_front.new.memory in
    let d : Memory = c.write_objects.new.memory in
    goes_more a d c.write_superblock.new.memory
    (goes_more a b d c.write_front.ensures.goes_on c.write_objects.ensures.goes_on) c.write_superblock.ensures.goes_on

pub returns-clause-wrote : goal.returns-clause-wrote
returns-clause-wrote g c =
    let graph = c.args.graph.now in
    let a : Memory = c.args.memory.now in
    let b : Memory = c.write_front.new.memory in
    let d : Memory = c.write_objects.new.memory in
    let e : Memory = c.write_superblock.new.memory in
    let sized : d.size ≡ a.size = c.write_objects.ensures.changes.size ∙ c.write_front.ensures.changes.size in
    let used : length c.as_slice-words.result.now ≡ used_of graph =
    ap length (c.as_slice-words.ensures.value ∙ c.requires.plan.words) in
    let super : ChangesTo (OfSuperblock a.size (used_of graph)) d e =
    super_changes_as d.size a.size (length c.as_slice-words.result.now) (used_of graph) d e sized used c.write_superblock.ensures.changes in
    let three : WritesAll (OfSuperblock a.size (used_of graph)) d e =
    super_wrote_as d.size a.size (length c.as_slice-words.result.now) (used_of graph) d e sized used c.in_ok-write_superblock.ensures.wrote in
    on_ok_weaker c.make_fence.result
    (λ durable. body_done graph a b d c.write_front.ensures.changes c.write_objects.ensures.changes e super
    c.requires.enough c.requires.plan.room c.in_ok-write_front.ensures.wrote c.in_ok-write_objects.ensures.wrote three
    c.make_fence.new.memory c.make_fence.ensures.changes)
    c.make_fence.ensures.durable

pub returns-clause-fixed : goal.returns-clause-fixed
returns-clause-fixed g c tells =
    let graph = c.args.graph.now in
    let a : Memory = c.args.memory.now in
    let b : Memory = c.write_front.new.memory in
    let d : Memory = c.write_objects.new.memory in
    let e : Memory = c.write_superblock.new.memory in
    let sized : d.size ≡ a.size = c.write_objects.ensures.changes.size ∙ c.write_front.ensures.changes.size in
    let used : length c.as_slice-words.result.now ≡ used_of graph =
    ap length (c.as_slice-words.ensures.value ∙ c.requires.plan.words) in
    let super : ChangesTo (OfSuperblock a.size (used_of graph)) d e =
    super_changes_as d.size a.size (length c.as_slice-words.result.now) (used_of graph) d e sized used c.write_superblock.ensures.changes in
    let three : WritesAll (OfSuperblock a.size (used_of graph)) d e =
    super_wrote_as d.size a.size (length c.as_slice-words.result.now) (used_of graph) d e sized used c.in_ok-write_superblock.ensures.wrote in
    on_ok_weaker c.make_fence.result
    (λ durable. body_fixed graph a b d c.write_front.ensures.changes c.write_objects.ensures.changes e super
    c.requires.enough c.requires.plan.room c.in_ok-write_front.ensures.wrote c.in_ok-write_objects.ensures.wrote three
    c.make_fence.new.memory c.make_fence.ensures.changes durable tells)
    c.make_fence.ensures.durable

pub returns-clause-changes : goal.returns-clause-changes
returns-clause-changes g c =
    let graph = c.args.graph.now in
    let a : Memory = c.args.memory.now in
    let b : Memory = c.write_front.new.memory in
    let d : Memory = c.write_objects.new.memory in
    let e : Memory = c.write_superblock.new.memory in
    let sized : d.size ≡ a.size = c.write_objects.ensures.changes.size ∙ c.write_front.ensures.changes.size in
    let used : length c.as_slice-words.result.now ≡ used_of graph =
    ap length (c.as_slice-words.ensures.value ∙ c.requires.plan.words) in
    let super : ChangesTo (OfSuperblock a.size (used_of graph)) d e =
    super_changes_as d.size a.size (length c.as_slice-words.result.now) (used_of graph) d e sized used c.write_superblock.ensures.changes in
    body_fenced graph a b d c.write_front.ensures.changes c.write_objects.ensures.changes e super
    c.make_fence.new.memory c.make_fence.ensures.changes

pub returns-clause-goes_on : goal.returns-clause-goes_on
returns-clause-goes_on g c =
    let graph = c.args.graph.now in
    let a : Memory = c.args.memory.now in
    let b : Memory = c.write_front.new.memory in
    let d : Memory = c.write_objects.new.memory in
    goes_more a c.write_superblock.new.memory c.make_fence.new.memory
    (goes_more a d c.write_superblock.new.memory
    (goes_more a b d c.write_front.ensures.goes_on c.write_objects.ensures.goes_on) c.write_superblock.ensures.goes_on)
    (goes_by_call Nothing c.write_superblock.new.memory c.make_fence.new.memory c.make_fence.ensures.changes c.make_fence.ensures.count)
