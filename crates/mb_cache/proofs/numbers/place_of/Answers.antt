use Rattle.mb_cache.proofs.numbers.place_of.Goals as goal

pub returns-then-key-block-clause-found : goal.returns-then-key-block-clause-found
returns-then-key-block-clause-found c = (c.in-Some.field-0-1.now, (let e = c.in-Some.ensures.entry in let k = c.if-key-block.true in cc))
