-- The laws of steps.
use Rattle.convert_words.proofs.Starting.{starts}
use Rattle.convert_words.proofs.Adding.{agrees_added}
use Rattle.std.proofs.Common.{◌≡◌, ◌+◌, ◌*◌, ◌/◌, ◌%◌, refl, sym, subst, arith}
use Rattle.line_memory.specs.Memory.{IsWritten}
use Rattle.twin_forms.specs.Table.{entry, line_of}
use Rattle.twin_forms.specs.Sights.{view_of, held_of, written_of}
use Rattle.convert_queue.specs.Threads.{needs_of}
use Rattle.convert_words.specs.Steps.{told_fenced}
use Rattle.convert_words.specs.Scenes.{IsKey}
use Rattle.convert_words.specs.Laws.{CallsKeep, ToldWritesKeep, ToldFencesKeep, NeedsKeep, PlacesKeep, ClaimsKeep, CopiesKeep}
use Rattle.convert_words.specs.Laws.{ForwardsKeep, RepairsKeep, SettledSetsAreClosed, SealsKeep, SealsMakeDurable}
use Rattle.convert_words.specs.Laws.{CopiedStoresKeep, OldStoresKeep, OrdinaryStoresKeep, DurableStoresKeep, AnsweredIsMet}
use Rattle.convert_words.specs.Laws.{MetLinesGoOn, ForwardedQueuesRepair, RepairedLinesGoOn, RepairedObjectsGoOn}
use Rattle.convert_words.specs.Laws.{RepairedQueuesFlush, OtherStoresKeep, NewObjectsKeep, StartsAgree}
use Rattle.convert_words.proofs.Bridges.{word_line, quiet_of, moved_of, quiet_same, only_of, kinds_of, moved_same}
use Rattle.convert_words.proofs.Bridges.{moved_elsewhere}
use Rattle.convert_words.proofs.Quiet.{agrees_quiet, agrees_wrote, agrees_fenced, agrees_need, agrees_progress}
use Rattle.convert_words.proofs.Quiet.{agrees_elsewhere}
use Rattle.convert_words.proofs.Copying.{agrees_copied, agrees_forwarded, agrees_repaired}
use Rattle.convert_words.proofs.Claiming.{agrees_claimed}
use Rattle.convert_words.proofs.Settled.{fenced_and_closed}
use Rattle.convert_words.proofs.Released.{agrees_sealed, sealed_is, only_sealed}
use Rattle.convert_words.proofs.Storing.{agrees_stored, agrees_stored_old, agrees_stored_apart}
use Rattle.convert_words.proofs.Meeting.{answered_is_met, next_line, to_repair, next_repair, next_repaired_object, to_flush}

pub calls_keep : CallsKeep
calls_keep s m es known known' keeps a =
    agrees_quiet (view_of s.heap) (view_of (record s.heap { memory = m })) (held_of s.heap.memory) (held_of m) (written_of s.heap.memory) (written_of m) s.queue s.free (IsKey s.keys) es
    (moved_of s.heap m es known known' keeps a.lies) (quiet_of s.heap m known known' keeps) a

pub told_writes_keep : ToldWritesKeep
told_writes_keep s l es lt reads a =
    agrees_wrote (view_of s.heap) (held_of s.heap.memory) (written_of s.heap.memory) s.queue s.free (IsKey s.keys) es l lt
    (λ w lw. subst (λ k. IsWritten s.heap.memory k ((8 * l + w) % 8)) (sym (word_line l w lw)) (reads ((8 * l + w) % 8))) a

pub told_fences_keep : ToldFencesKeep
told_fences_keep s m es known known' keeps durable a =
    let v = view_of s.heap in
    let v' = view_of (record s.heap { memory = m }) in
    let held = held_of s.heap.memory in
    let held' = held_of m in
    let back = written_of s.heap.memory in
    let back' = written_of m in
    let quiet = quiet_of s.heap m known known' keeps in
    let moved = moved_of s.heap m es known known' keeps a.lies in
    let q' = told_fenced s.queue in
    let b = agrees_quiet v v' held held' back back s.queue s.free (IsKey s.keys) es moved
    (record {
      lines = quiet.lines;
      kept = quiet.kept;
      shown = quiet.shown;
      leaves = quiet.leaves;
      keeps = λ l w lt lw
          no is. is;
    }) a in
    let c = agrees_fenced v' held' back s.queue s.free (IsKey s.keys) es (λ p x is left. durable (p / 8) (p % 8) is x left) b in
    agrees_quiet v' v' held' held' back back' q' s.free (IsKey s.keys) es (moved_same v' es b.lies)
    (record {
      lines = refl;
      kept = refl;
      shown = λ l w lt lw no. refl;
      leaves = λ l w x lt lw no left. left;
      keeps = λ l w
          lt lw no is. quiet.keeps l w (let size = quiet.lines in omega (arith, lt, size)) lw no is;
    }) c

pub needs_keep : NeedsKeep
needs_keep s needs es long on real a = agrees_need (view_of s.heap) (held_of s.heap.memory) (written_of s.heap.memory) s.queue s.free (IsKey s.keys) es needs long on real a

pub places_keep : PlacesKeep
places_keep s q t p n l es goes reached a = agrees_progress (view_of s.heap) (held_of s.heap.memory) (written_of s.heap.memory) s.queue q s.free (IsKey s.keys) es t p n l goes reached a

pub claims_keep : ClaimsKeep
claims_keep s heap es es' t n ln young nobody few copying place moved one same a =
    agrees_claimed (view_of s.heap) (view_of heap) (held_of s.heap.memory) (held_of heap.memory) (written_of s.heap.memory) (written_of heap.memory) s.queue s.free (IsKey s.keys) es es' t n
    ln young nobody few copying place moved one (quiet_same s.heap heap same moved.same.kept) a

pub copies_keep : CopiesKeep
copies_keep s heap es t i n is copying at one copied left moved changes a =
    agrees_copied (view_of s.heap) (view_of heap) (held_of s.heap.memory) (held_of heap.memory) (written_of s.heap.memory) (written_of heap.memory) s.queue s.free (IsKey s.keys) es t i n
    is copying at one copied left moved (only_of s.heap heap ((entry es n).line + (entry es n).copied) changes moved.same.kept) a

pub forwards_keep : ForwardsKeep
forwards_keep s heap q keys es t i n is copying at one copied full moved same goes rekeyed a =
    agrees_forwarded (view_of s.heap) (view_of heap) (held_of s.heap.memory) (held_of heap.memory)
    (written_of s.heap.memory) (written_of heap.memory) s.queue q s.free (IsKey s.keys) (IsKey keys) es t i n
    is copying at one copied full moved (quiet_same s.heap heap same moved.same.kept) goes rekeyed a

pub repairs_keep : RepairsKeep
repairs_keep s heap es t i n c is repairing at at_line within moved changes a =
    agrees_repaired (view_of s.heap) (view_of heap) (held_of s.heap.memory) (held_of heap.memory) (written_of s.heap.memory) (written_of heap.memory) s.queue s.free (IsKey s.keys) es t i n c
    is repairing at at_line within moved (only_of s.heap heap ((entry es n).line + c) changes moved.same.kept) a

pub settled_sets_are_closed : SettledSetsAreClosed
settled_sets_are_closed s es set a closed settled = fenced_and_closed (view_of s.heap) (held_of s.heap.memory) (written_of s.heap.memory) s.queue s.free (IsKey s.keys) es set a closed settled

pub seals_keep : SealsKeep
seals_keep s heap q es es' set settled moved those same released a =
    agrees_sealed (view_of s.heap) (view_of heap) (held_of s.heap.memory) (held_of heap.memory) (written_of s.heap.memory) (written_of heap.memory) s.queue q s.free (IsKey s.keys) es es' set
    settled moved those (quiet_same s.heap heap same moved.same.kept) released a

pub seals_make_durable : SealsMakeDurable
seals_make_durable s es es' set a settled those n = (
  λ p. only_sealed es es' set n those p,
  λ p. sealed_is (view_of s.heap) (held_of s.heap.memory) (written_of s.heap.memory) s.queue s.free (IsKey s.keys) es es' set n a settled those p,
)

pub copied_stores_keep : CopiedStoresKeep
copied_stores_keep s heap es t i n k w is lk copied stored marks changes may a =
    agrees_stored (view_of s.heap) (view_of heap) (held_of s.heap.memory) (held_of heap.memory) (written_of s.heap.memory) (written_of heap.memory) s.queue s.free (IsKey s.keys) es t i n k w
    is lk copied stored (kinds_of s.heap heap marks) (only_of s.heap heap ((entry es n).line + line_of k) changes stored.kept) may a

pub old_stores_keep : OldStoresKeep
old_stores_keep s heap es t i n k w is fresh stored marks same a =
    agrees_stored_old (view_of s.heap) (view_of heap) (held_of s.heap.memory) (held_of heap.memory) (written_of s.heap.memory) (written_of heap.memory) s.queue s.free (IsKey s.keys) es t i n k w
    is fresh stored (kinds_of s.heap heap marks) (quiet_same s.heap heap same stored.kept) a

pub ordinary_stores_keep : OrdinaryStoresKeep
ordinary_stores_keep s heap es n k w ln nobody stored marks same a =
    agrees_stored_apart (λ _. ⊥) (view_of s.heap) (view_of heap) (held_of s.heap.memory) (held_of heap.memory)
    (written_of s.heap.memory) (written_of heap.memory) s.queue s.free (IsKey s.keys) es n k w
    ln nobody (λ l no. absurd no) stored (kinds_of s.heap heap marks) (quiet_same s.heap heap same stored.kept) a

pub durable_stores_keep : DurableStoresKeep
durable_stores_keep s heap es n k w durable lk stored marks changes a =
    let high = durable.1 in
    agrees_stored_apart (λ l. l ≡ (entry es n).line + line_of k) (view_of s.heap) (view_of heap) (held_of s.heap.memory)
    (held_of heap.memory) (written_of s.heap.memory) (written_of heap.memory) s.queue s.free (IsKey s.keys) es n k w
    durable.0 durable.2 (λ l eq. (omega (arith, high), omega (arith, eq), omega (arith, eq, lk))) stored
    (kinds_of s.heap heap marks) (only_of s.heap heap ((entry es n).line + line_of k) changes stored.kept) a

pub answered : AnsweredIsMet
answered s es t m lm is = answered_is_met es (needs_of s.queue.needs) t m lm is

pub met_lines_go_on : MetLinesGoOn
met_lines_go_on s es t i0 n0 a is copying at copied met = next_line (view_of s.heap) (held_of s.heap.memory)
    (written_of s.heap.memory) s.queue s.free (IsKey s.keys) es t i0 n0 a is copying at copied met

pub forwarded_queues_repair : ForwardedQueuesRepair
forwarded_queues_repair s es t a copying at = to_repair (view_of s.heap) (held_of s.heap.memory) (written_of s.heap.memory) s.queue s.free (IsKey s.keys) es t a copying at

pub repaired_lines_go_on : RepairedLinesGoOn
repaired_lines_go_on s es t i0 n0 a is repairing at done = next_repair (view_of s.heap) (held_of s.heap.memory)
    (written_of s.heap.memory) s.queue s.free (IsKey s.keys) es t i0 n0 a is repairing at done

pub repaired_objects_go_on : RepairedObjectsGoOn
repaired_objects_go_on s es t i0 n0 a is repairing at all = next_repaired_object (view_of s.heap) (held_of s.heap.memory)
    (written_of s.heap.memory) s.queue s.free (IsKey s.keys) es t i0 n0 a is repairing at all

pub repaired_queues_flush : RepairedQueuesFlush
repaired_queues_flush s es t a repairing at = to_flush (view_of s.heap) (held_of s.heap.memory) (written_of s.heap.memory) s.queue s.free (IsKey s.keys) es t a repairing at

pub other_stores_keep : OtherStoresKeep
other_stores_keep s m line es changes apart a =
    let heap = record s.heap { memory = m } in
    agrees_elsewhere (view_of s.heap) (view_of heap) (held_of s.heap.memory) (held_of m) (written_of s.heap.memory) (written_of m) s.queue s.free (IsKey s.keys) es line
    (moved_elsewhere s.heap m line es changes apart a.lies) (only_of s.heap heap line changes refl) apart a

pub new_objects_keep : NewObjectsKeep
new_objects_keep s heap es shape slots added same a =
    agrees_added (view_of s.heap) (view_of heap) (held_of s.heap.memory) (held_of heap.memory) (written_of s.heap.memory) (written_of heap.memory) s.queue s.free (IsKey s.keys) es shape slots
    added (quiet_same s.heap heap same added.kept) a

pub starts_agree : StartsAgree
starts_agree s es lies sizes empty nobody marks count some below owners unheld =
    starts (view_of s.heap) (held_of s.heap.memory) (written_of s.heap.memory) s.queue s.free (IsKey s.keys) es lies sizes empty nobody marks count some below owners
    (λ w key. let lt = key.1 in omega (arith, lt, unheld))
