-- `journal::checkpoint::checkpoint` meets its contract.
use Rattle.std.proofs.Common.{rules, ◌≡◌, refl, true, false, ap, ◌∙◌, arith, length, ℕ, ◌+◌, List, [], ◌∷◌, ◌++◌, map}
use Rattle.std.specs.Prelude.{Ok, Err}
use lib.ListN.{length-append, length-map}
use Rattle.cells.specs.Upto.Laws.{length-up_to}
use Rattle.card.specs.Card.{Order, write, flush, run, blocks_in}
use Rattle.card.specs.CodeQueue.{card_of}
use Rattle.card.proofs.Runs.{writes_below}
use Rattle.journal.specs.Geometry.{trap}
use Rattle.journal.specs.declared.header.Header.{Header}
use Rattle.journal.specs.Header.{empty_header}
use Rattle.journal.specs.Log.{slot_entry, entries}
use Rattle.journal.specs.Orders.{header_write, checkpoint_orders}
use Rattle.journal.proofs.OrderLists.{checkpoint_writes}
use Rattle.journal.proofs.Logs.{entries_whole, entries-short, entries_below}
use Rattle.journal.proofs.Phases.{stopped, resumed, below_card, flushed_empty}
use Rattle.journal.proofs.checkpoint.checkpoint.Goals as goal

-- the last phase
abbrev last : ℕ → ℕ → List Order
last N c = header_write (empty_header N c) ∷ flush ∷ []

homes : (s : List ℕ) (n : ℕ) → length (map write (entries trap s n)) ≡ n
homes s n = rw (length-map) (length-up_to (slot_entry trap s) n)

homes_flush : (s : List ℕ) (n : ℕ) → length (map write (entries trap s n) ++ (flush ∷ [])) ≡ n + 1
homes_flush s n = rw (length-append, homes s n)

pub returns-in_err-written-clause-queue_after : goal.returns-in_err-written-clause-queue_after
unfolding checkpoint_orders
returns-in_err-written-clause-queue_after c =
    let a = c.args in
    let w = c.in_err-written.ensures in
    let same : c.from_residual.result ≡ Err c.in_err-written.field-0.0 = search rules in
    let o = stopped _ (map write (entries trap a.settled.now a.n)) (flush ∷ last a.blocks a.save) refl a.n 3 _ (homes a.settled.now a.n) refl
    (card_of a.settled.now a.waiting.now a.queue) _ (w.by_index a.settled.now) false w.happened_value refl in
    rw same o.1

pub flush-requires-clause-below : goal.flush-requires-clause-below
flush-requires-clause-below c =
    let a = c.args in
    let s = a.settled.now in
    let w = c.in_ok-written.ensures in
    let m : length (entries trap s a.n) ≡ a.n = length-up_to (slot_entry trap s) a.n in
    let below = writes_below (blocks_in s) (entries trap s a.n) (card_of s a.waiting.now a.queue) (omega arith)
    (entries_whole trap s a.n (omega arith) (omega arith)) (entries-short trap s a.n (λ i. search rules) (omega arith) (omega arith))
    (entries_below trap (blocks_in s) s a.n c.requires.by_index) c.requires.below in
    below_card (blocks_in s) s c.write_homes.new.waiting c.in_ok-written.written _ (w.by_index s) below

pub returns-in_err-flushed : goal.returns-in_err-flushed
returns-in_err-flushed c =
    let a = c.args in
    let s = a.settled.now in
    let w = c.in_ok-written.ensures in
    let f = c.in_err-flushed.ensures in
    let same : c.from_residual-in_err-flushed.result ≡ Err c.in_err-flushed.field-0.0 = search rules in
    let first = resumed _ (map write (entries trap s a.n)) (flush ∷ []) refl a.n 1 _ (homes s a.n) refl
    (card_of s a.waiting.now a.queue) _ (w.by_index s) true w.happened_value refl _ false f.queue_after f.happened_value in
    let o = stopped _ (map write (entries trap s a.n) ++ (flush ∷ [])) (last a.blocks a.save) (checkpoint_writes a.blocks a.save (entries trap s a.n)) (a.n + 1) 2 (a.n + 3) (homes_flush s a.n) (omega arith)
    (card_of s a.waiting.now a.queue) _ first.1 false first.0 refl in
    rw same (record { happened_value = o.0; queue_after = o.1 })

pub order-requires : goal.order-requires
order-requires c =
    let s = c.args.settled.now in
    let f = c.in_ok-flushed.ensures in
    let empty : c.in_ok-flushed.flushed.waiting ≡ 0 =
    flushed_empty s c.write_homes.new.waiting c.in_ok-written.written c.flush.new.settled (Ok c.in_ok-flushed.flushed) f.queue_after f.happened_value refl in
    record {
      settled_nonzero = omega arith;
      waiting_lt_most_places = omega arith;
      entry_bytes_in_bounds = omega arith;
      below = λ i p. absurd (omega arith);
    }

pub returns : goal.returns
returns c =
    let a = c.args in
    let s = a.settled.now in
    let w = c.in_ok-written.ensures in
    let f = c.in_ok-flushed.ensures in
    let first = resumed _ (map write (entries trap s a.n)) (flush ∷ []) refl a.n 1 _ (homes s a.n) refl
    (card_of s a.waiting.now a.queue) _ (w.by_index s) true w.happened_value refl _ true f.queue_after f.happened_value in
    let o = resumed _ (map write (entries trap s a.n) ++ (flush ∷ [])) (last a.blocks a.save) (checkpoint_writes a.blocks a.save (entries trap s a.n)) (a.n + 1) 2 (a.n + 3) (homes_flush s a.n) (omega arith)
    (card_of s a.waiting.now a.queue) _ first.1 true first.0 refl
    _ _ (c.order.ensures.queue_after ∙ ap (λ (x : Header). run (header_write x ∷ flush ∷ []) (card_of c.flush.new.settled c.write_homes.new.waiting c.in_ok-flushed.flushed)) c.empty.ensures) c.order.ensures.happened_value in
    record { happened_value = o.0; queue_after = o.1 }
