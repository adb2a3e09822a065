use Rattle.std.proofs.Common.{◌/◌, ◌%◌, ◌+◌, ◌∷◌, [], ◌∙◌, ap, refl, set, arith}
use Rattle.mb_word.specs.Numbers.{word_bytes, addr_bytes, put_at}
use Rattle.mb_word.proofs.Values.{length-word_bytes}
use Rattle.mb_word.proofs.Writes.{put_more, put_one}
use Rattle.mb_word.proofs.writers.put_addr.Goals as goal

pub returns : goal.returns
unfolding addr_bytes
returns c =
    let b = c.args.b.now in
    let at = c.args.at in
    let high = c.args.value / 65536 in
    let low = c.args.value % 65536 in
    put_more b (set b at high) c.put_word.new.b at (at + 1) 1
    (high ∷ []) (word_bytes low)
    refl refl (omega (arith, length-word_bytes low))
    (put_one b at high (omega arith)) c.put_word.ensures
    ∙ ap (λ x. put_at b at (x ∷ word_bytes low)) (omega arith)
