-- What is known of an open state, in the terms of the laws on cards.
use Prim.Native.Nat.{ℕ, ◌^◌, ◌≤◌, ◌<◌}
use mathlib.Core.Path.{◌≡◌, ap, ap₂, sym, ◌∙◌}
use mathlib.Core.Logic.{◌≢◌}
use mathlib.Core.Bool.{true, false}
use mathlib.Core.List.{List, ◌++◌, append-nil}
use native.Mathlib.Omega.{arith}
use lib.ListN.{length}
use Rattle.cells.specs.Upto.Laws.{length-up_to}
use Rattle.cells.specs.Entry.{Entry, entry_at}
use Rattle.cells.specs.Entry.Laws.{length_block}
use Rattle.fnv.specs.Fnv.{start}
use Rattle.card.specs.Disk.{overlay}
use Rattle.card.specs.Card.{queue, block_at, blocks_in}
use Rattle.card.specs.Marks.{whole_block}
use Rattle.card.proofs.All.{All, all-up_to}
use Rattle.card.proofs.Overlays.{overlay_agree}
use Rattle.card.proofs.Runs.{Whole, NarrowAddress, settle-overlay}
use Rattle.journal.specs.Geometry.{Geometry}
use Rattle.journal.specs.Layout.{first_data, is_data}
use Rattle.journal.specs.Log.{entries, sum_of, all_data}
use Rattle.crash.proofs.Logs.{log_d, slot_e, entries_disk, data_below}
use Rattle.crash.proofs.Frames.{Besides, KeepOff}
use Rattle.crash.proofs.Leads.{Behind}
use Rattle.crash.proofs.Waiting.{settled_log, settled_size, open_behind}
use Rattle.store.specs.State.{State, card_in}
use Rattle.store.specs.Lists.{group_from, listed}
use Rattle.store.specs.Saves.{group_of}
use Rattle.store.proofs.Causes.{SizeFacts, sizes_facts}
use Rattle.history.specs.Plain.{Plain, addresses}
use Rattle.history.specs.Ledger.{Ledger}
use Rattle.journal.proofs.Logs.{from_whole, entries_whole, all-all_data}
use Rattle.history.proofs.Relation.Lists.{Data}
use Rattle.history.proofs.Relation.WorkLists.{data_short}
use Rattle.history.proofs.Relation.CauseLaws.{RecordFacts, ListFacts, record_facts, few_wait}
use Rattle.history.proofs.Relation.Sim.{Basics, flushed_bytes, OpenSim, cut_loose}
use Rattle.history.proofs.Steps.Shown.{small_N, big-N, waits_off, waits_high}

module _ (geo : Geometry) where
  module _ (st : State) (l : Ledger) (d : Plain) (b : Basics geo st d) (o : OpenSim geo st l d) where
    sz : SizeFacts geo st
    sz = sizes_facts geo st b.sizes

    rc : RecordFacts geo st
    rc = record_facts geo st b.counts

    ls : ListFacts geo st
    ls = rc.lists o.mode

    -- the direct writes that wait
    abbrev pub waiting : List Entry
    waiting = queue (card_in st)

    pub few : st.rec.waiting ≤ geo.direct
    few = few_wait geo st rc o.mode

    pub length-waiting : length waiting ≡ st.rec.waiting
    unfolding queue
    length-waiting = length-up_to (entry_at st.waiting) st.rec.waiting

    pub off : KeepOff geo waiting
    off = waits_off geo st o.waits

    pub high : All (λ e. whole_block ≢ e.address) waiting
    high = waits_high geo st o.waits

    pub waiting_whole : All Whole waiting
    unfolding queue
    waiting_whole = all-up_to Whole (entry_at st.waiting) st.rec.waiting (λ i h. length_block st.waiting i (omega (arith, sz.waiting, few, geo.queued)))

    -- the settled bytes once they have settled
    abbrev pub flushed : List ℕ
    flushed = flushed_bytes geo st

    pub size_flushed : st.rec.blocks ≡ blocks_in flushed
    size_flushed = rc.blocks ∙ sym (settled_size geo waiting off st.settled)

    pub size : st.rec.blocks ≡ blocks_in st.settled
    size = rc.blocks

    pub big : first_data geo < st.rec.blocks
    big = big-N geo st d b

    pub small : st.rec.blocks < 2 ^ 32
    small = small_N geo st d b

    pub n_most : st.rec.logged ≤ geo.slots
    n_most = rc.log_count

    pub length-group : length (group_of geo st) ≡ st.rec.grouped
    length-group = length-up_to (listed st.work (group_from geo)) st.rec.grouped

    pub group_whole : All Whole (group_of geo st)
    group_whole = from_whole st.work (group_from geo) st.rec.grouped (omega (arith, sz.work, rc.group_count))

    pub group_data : all_data geo st.rec.blocks (group_of geo st) ≡ true
    group_data = all-all_data geo st.rec.blocks (group_of geo st) ls.group_data

    most : st.rec.blocks ≤ 65536
    most = omega (arith, sz.most, rc.blocks)

    pub group-short : All NarrowAddress (group_of geo st)
    group-short = data_short geo st.rec.blocks most (group_of geo st) ls.group_data

    -- the log on the card
    abbrev pub log : List Entry
    log = log_d geo (block_at st.settled) st.rec.logged

    pub entries-log : entries geo st.settled st.rec.logged ≡ log
    entries-log = entries_disk geo st.settled st.rec.logged

    pub length-log : length log ≡ st.rec.logged
    length-log = length-up_to (slot_e geo (block_at st.settled)) st.rec.logged

    pub log_data : All (Data geo st.rec.blocks) log
    log_data = rw (← entries-log) ls.log_data

    pub log_whole : All Whole log
    log_whole = rw (← entries-log) (entries_whole geo st.settled st.rec.logged (omega (arith, sz.least)) rc.log_count)

    pub sum : st.rec.sum ≡ sum_of start log
    sum = o.sum ∙ ap (sum_of start) entries-log

    -- on the card once they have settled
    pub flushed-log : log_d geo (block_at flushed) st.rec.logged ≡ log
    flushed-log = settled_log geo waiting off st.settled st.rec.logged n_most

    -- behind them: what they do not write to stands
    pub behind : Behind geo (Besides waiting) (Besides waiting) st.rec.blocks st.settled waiting l.written d.S st.rec.logged false
    behind = open_behind geo waiting off st.settled st.rec.blocks l.written d.S st.rec.logged false big small size waiting_whole o.card

    -- the disk under the log, the waiting writes over it
    pub open_disk : (a : ℕ) → is_data geo st.rec.blocks a ≡ true → d.S.disk a ≡ overlay log (overlay waiting (block_at st.settled)) a
    open_disk a h =
        o.card.disk a h tt
        ∙ ap (λ (l : List Entry). overlay l (block_at flushed) a) flushed-log
        ∙ overlay_agree log (block_at flushed) (overlay waiting (block_at st.settled)) a (settle-overlay waiting st.settled a (rw (← size) (data_below geo st.rec.blocks a h)) waiting_whole)

    -- which are loose at a cut
    pub writes_are : cut_loose d ≡ addresses waiting
    writes_are = ap₂ (λ (x y : List ℕ). x ++ y) (b.mirrors.writes o.mode) o.loose ∙ append-nil (addresses waiting)

    pub log_are : d.log ≡ addresses log
    log_are = b.mirrors.log o.mode ∙ ap addresses entries-log

    pub written_is : l.written ≡ log
    written_is = o.card.same ∙ flushed-log

    pub plain_group : d.G ≡ group_of geo st
    plain_group = b.mirrors.G o.mode

    pub plain_count : length d.G ≡ st.rec.grouped
    plain_count = ap length plain_group ∙ length-group
