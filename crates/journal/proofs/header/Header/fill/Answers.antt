-- `journal::header::Header::fill` meets its contract.
use mathlib.Core.Path.{◌≡◌}
use lib.ListN.{length, replicate}
use Rattle.cells.specs.Entry.{block_bytes}
use Rattle.journal.proofs.Headers.{filled}
use Rattle.journal.proofs.header.Header.fill.Goals as goal

pub returns : goal.returns
returns c =
    let size : length c.args.block.now ≡ block_bytes = c.requires in
    let zeroed : c.zero.new.s ≡ replicate block_bytes 0 = rw size at c.zero.ensures in
    rw (c.write_u64-3.ensures, c.write_u64-2.ensures, c.write_u64.ensures, c.write_u32-4.ensures, c.write_u32-3.ensures, c.write_u32-2.ensures, c.write_u32.ensures)
    (filled c.args.self c.zero.new.s zeroed)
