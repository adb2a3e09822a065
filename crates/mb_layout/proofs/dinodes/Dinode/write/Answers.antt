use Rattle.std.proofs.Common.{◌+◌, ◌*◌, ◌∙◌, ap, arith}
use Rattle.mb_word.specs.Numbers.{put_at}
use Rattle.mb_word.proofs.Writes.{put_mid_whole}
use Rattle.mb_layout.specs.Inode.{dinode_at, FitsDinode}
use Rattle.mb_layout.proofs.InodeBytes.{dinode_put, dinode_back, dinode_others}
use Rattle.mb_layout.proofs.dinodes.Dinode.write.Goals as goal

pub returns : goal.returns
returns c =
    let b = c.args.b.now in
    let at = 64 * c.args.place in
    let d = c.args.self.now in
    let area =
    put_mid_whole c.put_long.new.b (at + 12) (at + 52) c.copy_from_slice.new.self (omega arith)
    ∙ ap (put_at c.put_long.new.b (at + 12)) c.copy_from_slice.ensures.after in
    let fits : FitsDinode d = record {
      mode = omega arith;
      nlink = omega arith;
      uid = omega arith;
      gid = omega arith;
      size = omega arith;
      area = omega arith;
      atime = omega arith;
      mtime = omega arith;
      ctime = omega arith;
    } in
    let whole = (dinode_put b c.put_word.new.b c.put_word-2.new.b c.put_word-3.new.b c.put_word-4.new.b c.put_long.new.b _ c.put_long-2.new.b c.put_long-3.new.b c.put_long-4.new.b at d (omega arith) fits.area
    c.put_word.ensures c.put_word-2.ensures c.put_word-3.ensures c.put_word-4.ensures c.put_long.ensures area
    c.put_long-2.ensures c.put_long-3.ensures c.put_long-4.ensures).put in
    record {
      bytes = whole;
      value = ap (λ z. dinode_at z c.args.place) whole ∙ dinode_back b c.args.place d (omega arith) fits;
      others = λ other below apart. ap (λ z. dinode_at z other) whole ∙ dinode_others b c.args.place other d (omega arith) (omega arith) fits.area apart;
    }
