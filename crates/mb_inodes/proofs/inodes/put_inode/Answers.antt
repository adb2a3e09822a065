use Rattle.std.proofs.Common.{◌+◌, ◌*◌, ◌∙◌, ap, arith, length}
use Rattle.mb_word.specs.Numbers.{put_at}
use Rattle.mb_word.proofs.Writes.{put_mid_whole}
use Rattle.mb_layout.specs.Inode.{FitsDinode}
use Rattle.mb_layout.proofs.InodeBytes.{dinode_put, length-dinode_bytes}
use Rattle.mb_inodes.proofs.Writing.{whole_written}
use Rattle.mb_inodes.proofs.inodes.put_inode.Goals as goal

pub returns : goal.returns
returns c =
    let b = c.args.bytes.now in
    let d = c.args.inode.now in
    let area =
    put_mid_whole c.put_long.new.b 12 52 c.copy_from_slice.new.self (omega arith)
    ∙ ap (put_at c.put_long.new.b 12) c.copy_from_slice.ensures.after in
    let fits : FitsDinode d = record {
      mode = omega arith;
      nlink = omega arith;
      uid = omega arith;
      gid = omega arith;
      size = omega arith;
      area = omega arith;
      atime = omega arith;
      mtime = omega arith;
      ctime = omega arith;
    } in
    let whole = (dinode_put b c.put_word.new.b c.put_word-2.new.b c.put_word-3.new.b c.put_word-4.new.b c.put_long.new.b _ c.put_long-2.new.b c.put_long-3.new.b c.put_long-4.new.b 0 d (omega arith) fits.area
    c.put_word.ensures c.put_word-2.ensures c.put_word-3.ensures c.put_word-4.ensures c.put_long.ensures area
    c.put_long-2.ensures c.put_long-3.ensures c.put_long-4.ensures).put in
    let bytes = whole_written b c.put_long-4.new.b d (omega arith) fits.area whole in
    record {
      bytes = bytes;
      sized = ap length bytes ∙ length-dinode_bytes d fits.area;
      fits = fits;
    }
