use Rattle.mb_blocks.proofs.InodeWrites.{value_now, dinode_written, addresses_now, fields_now}
use Rattle.mb_blocks.proofs.laws.inode_bytes.Goals as goal

pub returns : goal.returns
returns c = record {
  value = λ old new ino d some long written same. (
    dinode_written old new ino d some long written same,
    value_now old new ino d some long written,
    addresses_now old new ino d some long written,
  );
  fields = λ old new ino d node some long written has. fields_now old new ino d some long written node has;
}
