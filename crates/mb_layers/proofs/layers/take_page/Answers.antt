use Rattle.std.proofs.Common.{sym, ap, ◌∙◌, None, cond, nat_eq, arith}
use Rattle.mb_layers.specs.Places.{place_at}
use Rattle.mb_layers.proofs.Finds.{contents_none}
use Rattle.mb_layers.proofs.Moved.{token_stands, taken_current, taken_contents, taken_places, taken_rings}
use Rattle.mb_layers.proofs.layers.take_page.Goals as goal

pub unlink-requires : goal.unlink-requires
unlink-requires c = token_stands _ c.requires.rings 0 (omega arith) c.args.block _ (sym (c.in-Some.ensures.token ∙ c.requires.tied.sealed c.args.block))

pub returns-in-Some-clause-rings : goal.returns-in-Some-clause-rings
returns-in-Some-clause-rings c = taken_rings _ _ c.requires.rings c.args.block _ (sym (c.in-Some.ensures.token ∙ c.requires.tied.sealed c.args.block)) c.unlink.ensures.rings c.unlink.ensures.gone c.unlink.ensures.others

pub returns-in-Some-clause-tied : goal.returns-in-Some-clause-tied
returns-in-Some-clause-tied c =
    let at = sym (c.in-Some.ensures.token ∙ c.requires.tied.sealed c.args.block) in
    record {
      current = λ block. c.take_sealed.ensures.current block ∙ c.requires.tied.current block ∙ ap (λ r. place_at r block) (sym (taken_current _ _ c.requires.rings c.args.block _ at c.unlink.ensures.rings));
      sealed = λ block. c.take_sealed.ensures.sealed block ∙ ap (cond (nat_eq c.args.block block) None) (c.requires.tied.sealed block) ∙ sym (taken_places _ _ c.requires.rings c.args.block _ at c.unlink.ensures.rings block);
      aged = c.take_sealed.ensures.aged;
    }

pub returns-in-Some-clause-current : goal.returns-in-Some-clause-current
returns-in-Some-clause-current c = taken_current _ _ c.requires.rings c.args.block _ (sym (c.in-Some.ensures.token ∙ c.requires.tied.sealed c.args.block)) c.unlink.ensures.rings

pub returns-in-Some-clause-sealed : goal.returns-in-Some-clause-sealed
returns-in-Some-clause-sealed c = taken_contents _ _ c.requires.rings c.args.block _ (sym (c.in-Some.ensures.token ∙ c.requires.tied.sealed c.args.block)) c.unlink.ensures.rings

pub returns-in-Some-clause-places : goal.returns-in-Some-clause-places
returns-in-Some-clause-places c = taken_places _ _ c.requires.rings c.args.block _ (sym (c.in-Some.ensures.token ∙ c.requires.tied.sealed c.args.block)) c.unlink.ensures.rings

pub returns-in_default-clause-sealed : goal.returns-in_default-clause-sealed
returns-in_default-clause-sealed c = contents_none _ c.args.block (sym (c.in_default.ensures.token ∙ c.requires.tied.sealed c.args.block))
