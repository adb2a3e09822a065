use Rattle.std.proofs.Common.{ℕ, ◌∙◌, ◌++◌, ◌∷◌, [], ap, sym, subst}
use Rattle.std.proofs.lemmas.List.{map-append, take_more_set}
use Rattle.mb_cache.specs.State.{seen}
use Rattle.mb_cache.specs.Kept.{KeptBlock}
use Rattle.mb_copies.specs.Reads.{AreRead, numbers}
use Rattle.mb_copies.proofs.CopyLoops.{read_more}
use Rattle.mb_copies.proofs.reads.Reads.read.Goals as goal

pub returns-clause-ok : goal.returns-clause-ok
returns-clause-ok g c = λ before.
    let view = seen g.D.Disk.told c.args.cache.now in
    let one : ℕ × KeptBlock = (c.args.block, c.read.new.self) in
    let now = take_more_set c.reserve_one.new.items.items c.self.inside.count one c.in_ok-reserve_one.ensures.ok ∙ ap (λ reads. reads ++ one ∷ []) (c.in_ok-reserve_one.ensures.same ∙ c.self.view_is) in
    subst (AreRead view c.args.cache.now.stamps) (sym now)
    (read_more view c.args.cache.now.stamps c.args.self.now one before c.in_ok-read.ensures.ok)

pub returns-clause-numbers : goal.returns-clause-numbers
returns-clause-numbers g c =
    let one : ℕ × KeptBlock = (c.args.block, c.read.new.self) in
    let now = take_more_set c.reserve_one.new.items.items c.self.inside.count one c.in_ok-reserve_one.ensures.ok ∙ ap (λ reads. reads ++ one ∷ []) (c.in_ok-reserve_one.ensures.same ∙ c.self.view_is) in
    ap numbers now ∙ map-append (λ (read : ℕ × KeptBlock). read.0) c.args.self.now (one ∷ [])
