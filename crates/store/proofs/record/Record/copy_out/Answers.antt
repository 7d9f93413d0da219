-- `store::record::Record::copy_out` meets its contract: i blocks are copied out.
use Prim.Native.Nat.{◌+◌, ◌*◌, ◌-◌, ◌<◌}
use mathlib.Core.Path.{◌≡◌, ◌∙◌}
use native.Mathlib.Omega.{arith}
use lib.ListN.{length, take, drop, length-take, length-drop}
use Rattle.cells.specs.Upto.Laws.{ext_joined}
use Rattle.journal.specs.Geometry.{trap}
use Rattle.journal.specs.Log.{slot_address}
use Rattle.journal.specs.Wanted.{wanted_count, wanted_at}
use Rattle.store.specs.CodeState.{fresh}
use Rattle.store.specs.Lists.{open_from, group_from, listed}
use Rattle.store.specs.Get.{waiting_from}
use Rattle.store.proofs.Listings.{copied, met-lt, copied-newest, one_out, all_out}
use Rattle.store.proofs.record.Record.copy_out.Goals as goal

pub copy_newest-requires-clause-opened_lt_slots : goal.copy_newest-requires-clause-opened_lt_slots
copy_newest-requires-clause-opened_lt_slots c = λ k e.
    let a = c.args in
    let l = c.loop-i in
    let less = met-lt a.list.now a.opened.now (λ j. (listed a.work.now open_from j).address) a.self.opened l.i c.requires.met.0 (omega arith) k e in
    omega arith

pub copy_newest-requires-clause-grouped_lt_slots : goal.copy_newest-requires-clause-grouped_lt_slots
copy_newest-requires-clause-grouped_lt_slots c = λ k e.
    let a = c.args in
    let l = c.loop-i in
    let less = met-lt a.list.now a.grouped.now (λ j. (listed a.work.now (group_from trap) j).address) a.self.grouped l.i c.requires.met.1 (omega arith) k e in
    omega arith

pub copy_newest-requires-clause-logged_lt_slots : goal.copy_newest-requires-clause-logged_lt_slots
copy_newest-requires-clause-logged_lt_slots c = λ k e.
    let a = c.args in
    let l = c.loop-i in
    let less = met-lt a.list.now a.logged.now (slot_address a.settled.now) a.self.logged l.i c.requires.met_2.0 (omega arith) k e in
    omega arith

pub copy_newest-requires-clause-waited_in_bounds : goal.copy_newest-requires-clause-waited_in_bounds
copy_newest-requires-clause-waited_in_bounds c = λ k e.
    let a = c.args in
    let l = c.loop-i in
    let less = met-lt a.list.now a.waited.now (λ j. (listed a.waiting.now waiting_from j).address) a.self.waiting l.i c.requires.met_2.1 (omega arith) k e in
    (omega arith, omega arith)

pub loop-i-preserved : goal.loop-i-preserved
loop-i-preserved c =
    let a = c.args in
    let l = c.loop-i in
    let f = copied a.settled.now a.waiting.now a.work.now a.list.now a.opened.now a.grouped.now a.logged.now a.waited.now in
    let address : c.wanted.result ≡ wanted_at a.list.now l.i = c.wanted.ensures in
    let block : c.copy_newest.new.block ≡ f l.i = rw (← address) (c.copy_newest.ensures (fresh 0)) in
    let total : length a.blocks.now ≡ 512 * wanted_count a.list.now = c.requires.blocks_len in
    let here : l.i < wanted_count a.list.now = omega arith in
    let kept : length c.copy_newest.new.block ≡ length (take (512 * l.i + 512 - 512 * l.i) (drop (512 * l.i) l.blocks)) = c.copy_newest.auto.block in
    let whole : length (take (512 * l.i + 512 - 512 * l.i) (drop (512 * l.i) l.blocks)) ≡ 512 = rw (length-take, length-drop) (omega (arith, l.invariant.size)) in
    let size : length c.copy_newest.new.block ≡ 512 = kept ∙ whole in
    one_out f a.blocks.now l.blocks c.copy_newest.new.block l.i (512 * l.i + 512 - 512 * l.i) l.invariant (omega arith) (omega arith) size block

pub returns : goal.returns
returns c =
    let a = c.args in
    let l = c.loop-i in
    let over : l.i ≡ wanted_count a.list.now = omega arith in
    all_out _ a.blocks.now l.blocks _ (rw over at l.invariant) c.requires.blocks_len
    ∙ ext_joined _ _ (wanted_count a.list.now) (λ i h. copied-newest a.self a.settled.now a.waiting.now a.work.now a.list.now a.opened.now a.grouped.now a.logged.now a.waited.now i c.requires.met.0 c.requires.met.1 c.requires.met_2.0 c.requires.met_2.1 h)
