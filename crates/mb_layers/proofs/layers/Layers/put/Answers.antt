use Rattle.std.proofs.Common.{ap, sym, subst, ◌∙◌, ◌≡◌, ◌-◌, ◌++◌, ◌∷◌, [], arith, rules, nat_eq}
use Rattle.std.specs.Prelude.{vec_len, vec_capacity}
use Rattle.indexmap.specs.IndexMap.{insert_entry}
use Rattle.mb_frames.specs.Pages.{page, contents}
use Rattle.mb_layers.specs.Pages.{LayerState}
use Rattle.mb_layers.specs.State.{IsSound}
use Rattle.mb_layers.proofs.Moved.{token_stands, written_is, written_contents}
use Rattle.mb_layers.proofs.Replaced.{placed_replaced, changes_replaced, contents_put}
use Rattle.mb_layers.proofs.Sound.{current_is, sealed_is, same_sound, put_both, put_one}
use Rattle.mb_layers.proofs.layers.Layers.put.Goals as goal

pub write-requires : goal.write-requires
write-requires c = token_stands _ c.self.invariant.rings 1 (omega arith) c.args.block _ (sym (c.in-Some.ensures ∙ c.self.invariant.tied.current c.args.block))

pub invariant_of-self : goal.invariant_of-self
invariant_of-self c =
    same_sound c.self.inside.rings c.write.new.self c.self.inside.tokens c.self.inside.both.items c.self.invariant _ (written_is c.self.inside.rings.rings c.write.new.self.rings c.self.invariant.rings c.args.block _ c.args.bytes.now (sym (c.in-Some.ensures ∙ c.self.invariant.tied.current c.args.block)) c.write.ensures.rings)
    (placed_replaced _ _ c.args.bytes.now) (changes_replaced _ _ c.args.bytes.now (omega arith) c.self.invariant.rings.current) (λ p. (c.write.ensures.named p).stands)

pub returns-in-Some-clause-current : goal.returns-in-Some-clause-current
returns-in-Some-clause-current c =
    ap contents (current_is c.self.inside.rings c.write.new.self c.self.inside.tokens c.self.inside.both.items c.self.invariant _ (written_is c.self.inside.rings.rings c.write.new.self.rings c.self.invariant.rings c.args.block _ c.args.bytes.now (sym (c.in-Some.ensures ∙ c.self.invariant.tied.current c.args.block)) c.write.ensures.rings))
    ∙ written_contents c.self.inside.rings.rings c.write.new.self.rings c.self.invariant.rings c.args.block _ c.args.bytes.now (sym (c.in-Some.ensures ∙ c.self.invariant.tied.current c.args.block)) c.write.ensures.rings
    ∙ ap (λ (v : LayerState). insert_entry nat_eq v.current c.args.block c.args.bytes.now) c.self.view_is

pub returns-in-Some-clause-sealed : goal.returns-in-Some-clause-sealed
returns-in-Some-clause-sealed c =
    ap contents (sealed_is c.self.inside.rings c.write.new.self c.self.inside.tokens c.self.inside.both.items c.self.invariant _ (written_is c.self.inside.rings.rings c.write.new.self.rings c.self.invariant.rings c.args.block _ c.args.bytes.now (sym (c.in-Some.ensures ∙ c.self.invariant.tied.current c.args.block)) c.write.ensures.rings))
    ∙ ap (λ (v : LayerState). v.sealed) c.self.view_is

pub invariant_of-self-then-put : goal.invariant_of-self-then-put
invariant_of-self-then-put c =
    let all : c.push.new.self.items ≡ c.self.inside.both.items ++ c.args.block ∷ [] = search rules in
    subst (IsSound c.put-token.new.self c.put.new.self) (sym all)
    (put_both c.self.inside.rings c.put-token.new.self c.self.inside.tokens c.put.new.self c.self.inside.both.items c.self.invariant c.put-token.result c.args.block c.args.bytes.now
    c.put-token.ensures.rings (record { below = c.requires.below; sized = omega arith }) (sym c.in_default.ensures) c.put-token.ensures.token.0 c.put-token.ensures.others
    c.put.ensures.current c.put.ensures.sealed c.put.ensures.aged c.put.ensures.ages (vec_capacity c.self.inside.both - vec_len c.self.inside.both) (omega (arith, c.requires.room, ap (λ (v : LayerState). v.spare) c.self.view_is)))

pub invariant_of-self-else-put : goal.invariant_of-self-else-put
invariant_of-self-else-put c =
    put_one c.self.inside.rings c.put-token.new.self c.self.inside.tokens c.put.new.self c.self.inside.both.items c.self.invariant c.put-token.result c.args.block c.args.bytes.now
    c.put-token.ensures.rings (record { below = c.requires.below; sized = omega arith }) (sym c.in_default.ensures) c.put-token.ensures.token.0 c.put-token.ensures.others
    c.put.ensures.current c.put.ensures.sealed c.put.ensures.aged c.put.ensures.ages (vec_capacity c.self.inside.both - vec_len c.self.inside.both) (omega (arith, c.requires.room, ap (λ (v : LayerState). v.spare) c.self.view_is))
    (sym c.put.ensures.both ∙ c.if-put.false)

pub returns-then-put-clause-current : goal.returns-then-put-clause-current
returns-then-put-clause-current c =
    ap contents (current_is c.self.inside.rings c.put-token.new.self c.self.inside.tokens c.self.inside.both.items c.self.invariant _ c.put-token.ensures.rings)
    ∙ contents_put _ (page c.put-token.result c.args.block c.args.bytes.now) (sym (c.in_default.ensures ∙ c.self.invariant.tied.current c.args.block))
    ∙ ap (λ (v : LayerState). insert_entry nat_eq v.current c.args.block c.args.bytes.now) c.self.view_is

pub returns-else-put-clause-current : goal.returns-else-put-clause-current
returns-else-put-clause-current c =
    ap contents (current_is c.self.inside.rings c.put-token.new.self c.self.inside.tokens c.self.inside.both.items c.self.invariant _ c.put-token.ensures.rings)
    ∙ contents_put _ (page c.put-token.result c.args.block c.args.bytes.now) (sym (c.in_default.ensures ∙ c.self.invariant.tied.current c.args.block))
    ∙ ap (λ (v : LayerState). insert_entry nat_eq v.current c.args.block c.args.bytes.now) c.self.view_is
