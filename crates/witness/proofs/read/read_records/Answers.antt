use Rattle.fields.proofs.Chunks.{split_whole}
use Rattle.witness.proofs.Records.{mapped_more}
use Rattle.witness.proofs.read.read_records.Goals as goal

pub loop-bytes-preserved : goal.loop-bytes-preserved
loop-bytes-preserved g c =
    let cs = c.in_ok-chunks.chunks.now in
    let w = split_whole g.row.N 64 c.args.contents.now cs c.in_ok-chunks.ensures in
    let m = mapped_more g.R.Record.record_of 64 cs c.loop-bytes.bytes-index c.bytes-item.result c.loop-bytes-test.true w.room c.bytes-item.is in
    cc (c.push.ensures.items, c.loop-bytes.invariant, c.from_bytes.ensures, m)
