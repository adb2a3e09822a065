use Rattle.mb_moves.proofs.Asking.{inode_near, list_near, part_near, reaching_near}
use Rattle.mb_moves.proofs.Nearness.{had_near, place_near}
use Rattle.mb_moves.proofs.need_laws.had_is_near.Goals as goal

pub returns : goal.returns
returns c = record {
  had = λ image tree chain looks block stored had. had_near image tree looks chain stored block had;
  place = place_near;
  part = part_near;
  list = λ image tree chain looks block stored is. list_near image tree chain stored looks block is;
  inode = λ image tree chain looks ino stored some below. inode_near image tree chain stored looks ino some below;
  reaching = λ image tree chain looks ino block stored some below asked. reaching_near image tree chain stored looks ino block some below asked;
}
