-- `firmware::record::encode` meets its contract.
use Rattle.firmware.proofs.Records.{stored}
use Rattle.firmware.proofs.record.encode.Goals as goal

pub returns : goal.returns
returns c =
    rw (c.write_u64-2.ensures, c.write_u64.ensures, c.write_u32-7.ensures, c.write_u32-6.ensures, c.write_u32-5.ensures, c.write_u32-4.ensures, c.write_u32-3.ensures, c.write_u32-2.ensures, c.write_u32.ensures)
    (stored c.args.r c.args.bytes.now c.requires)
