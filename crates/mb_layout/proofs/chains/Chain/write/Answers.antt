use Rattle.std.proofs.Common.{◌∙◌, ap, sym, get_or, arith}
use Rattle.mb_word.specs.Fields.{chain_entry}
use Rattle.mb_layout.specs.ChainBlock.{chain_at, FitsChain}
use Rattle.mb_layout.specs.declared.chains.Chain.{Chain}
use Rattle.mb_layout.proofs.NumberLists.{listed_item}
use Rattle.mb_layout.proofs.ChainBytes.{chain_put, chain_back, chain_kept}
use Rattle.mb_layout.proofs.chains.Chain.write.Goals as goal

pub returns : goal.returns
returns c =
    let b = c.args.b.now in
    let z = c.put_longs.new.b in
    let chain = c.args.self.now in
    let fits : FitsChain chain = record { count = omega arith; items = omega arith; item = c.put_longs.ensures.items } in
    let whole = (chain_put b c.put_word.new.b z chain (omega arith) fits.items c.put_word.ensures c.put_longs.ensures.bytes).put in
    let value = ap chain_at whole ∙ chain_back b chain (omega arith) fits in
    record {
      bytes = whole;
      value = value;
      list = λ k below. sym (listed_item (chain_entry z) 50 k below) ∙ ap (λ (l : Chain). get_or l.list k 0) value;
      kept = λ k low high. ap (λ l. get_or l k 0) whole ∙ chain_kept b chain (omega arith) fits.items k low high;
    }
