use Rattle.std.proofs.Common.{rules, refl, ◌≡◌, [], ◌∷◌, ◌++◌}
use Rattle.mb_frames.proofs.Heads.{made_start, made_next, made_sound, made_rings}
use Rattle.mb_frames.proofs.rings.Rings.new.Goals as goal

pub heads-init : goal.heads-init
heads-init c =
    let all : c.push.new.self.items ≡ c.in_ok-all.all.items ++ c.add_head-spare.result ∷ [] = search rules in
    (made_start _ _ c.add_head-spare.result _ c.in_ok-all.all.items _ c.new-links.ensures.cells c.add_head-spare.ensures c.in_ok-heads.ensures.items c.in_ok-all.ensures.items all, search rules, search rules, search rules, search rules)

pub heads-preserved : goal.heads-preserved
heads-preserved c =
    let heads : c.push-in-Some-pop.new.self.items ≡ c.heads.heads.items ++ c.add_head-head.result ∷ [] = search rules in let all : c.push-in-Some-pop-2.new.self.items ≡ c.heads.all.items ++ c.add_head-head.result ∷ [] = search rules in
    (made_next _ _ _ c.heads.heads.items c.heads.all.items _ _ c.add_head-head.result c.heads.invariant.0 c.add_head-head.ensures heads all, search rules, search rules, search rules, search rules)

pub invariant_of-result : goal.invariant_of-result
invariant_of-result c = made_sound _ _ _ _ c.heads.invariant.0

pub returns : goal.returns
returns c = let made = made_rings c.heads.links.nodes.cells c.add_head-spare.result.ptr c.heads.heads.items _ c.args.count c.heads.invariant.0 (search rules) in (made.0, made.1, refl)
