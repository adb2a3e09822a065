-- The worked examples, by computing them.
use Rattle.std.proofs.Common.{inr, refl, arith}
use Rattle.mb_tree.specs.Chain.{after_taking}
use Rattle.mb_blocks.specs.FreeLists.{after_freeing}
use Rattle.mb_blocks.specs.Walk.{under_each, under_block}
use Rattle.mb_blocks.specs.Worked.{PutBack, FreshChain, SmallFile}

pub put_back : PutBack
unfolding after_freeing
put_back = record {
  none_count = refl;
  none_ends = refl;
  none_last = refl;
  one_count = refl;
  one_first = refl;
  one_last = refl;
  near_count = refl;
  near_last = refl;
  full_count = refl;
  full_last = refl;
  over_count = refl;
}

pub fresh_chain : FreshChain
unfolding after_freeing after_taking
fresh_chain = record {
  taken = (record { some = omega arith; few = omega arith; here = refl; real = omega arith }, (record { some = omega arith; few = omega arith; here = refl; real = omega arith }, (record { some = omega arith; few = omega arith; here = refl; real = omega arith }, (record { some = omega arith; few = omega arith; here = refl; real = omega arith }, inr (refl, refl)))));
  order = refl;
}

pub small_file : SmallFile
unfolding under_each under_block
small_file = record { walk = refl; direct = refl; single = refl; double = refl; triple = refl }
