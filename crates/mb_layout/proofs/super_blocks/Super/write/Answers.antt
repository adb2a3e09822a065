use Rattle.std.proofs.Common.{◌∙◌, ap, sym, get_or, arith}
use Rattle.mb_word.specs.Fields.{free_of, cached_of}
use Rattle.mb_layout.specs.SuperBlock.{super_at, FitsSuper}
use Rattle.mb_layout.specs.declared.super_blocks.Super.{Super}
use Rattle.mb_layout.proofs.NumberLists.{listed_item}
use Rattle.mb_layout.proofs.SuperBlockBytes.{super_put, super_back, super_kept}
use Rattle.mb_layout.proofs.super_blocks.Super.write.Goals as goal

pub returns : goal.returns
returns c =
    let b = c.args.b.now in
    let z = c.put_words.new.b in
    let s = c.args.self.now in
    let fits : FitsSuper s = record {
      isize = omega arith;
      fsize = omega arith;
      nfree = omega arith;
      frees = omega arith;
      free = c.put_longs.ensures.items;
      ninode = omega arith;
      inodes = omega arith;
      inode = c.put_words.ensures.items;
    } in
    let whole = (super_put b c.put_word.new.b c.put_long.new.b c.put_word-2.new.b c.put_longs.new.b c.put_word-3.new.b z s (omega arith) fits.frees fits.inodes
    c.put_word.ensures c.put_long.ensures c.put_word-2.ensures c.put_longs.ensures.bytes c.put_word-3.ensures c.put_words.ensures.bytes).put in
    let value = ap super_at whole ∙ super_back b s (omega arith) fits in
    record {
      bytes = whole;
      value = value;
      free = λ k below. sym (listed_item (free_of z) 50 k below) ∙ ap (λ (t : Super). get_or t.s_free k 0) value;
      inode = λ k below. sym (listed_item (cached_of z) 100 k below) ∙ ap (λ (t : Super). get_or t.s_inode k 0) value;
      kept = λ k low high. ap (λ l. get_or l k 0) whole ∙ super_kept b s (omega arith) fits.frees fits.inodes k low high;
    }
