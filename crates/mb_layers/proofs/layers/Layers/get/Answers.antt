use Rattle.std.proofs.Common.{ap, ◌∙◌, Some, option_copied}
use Rattle.std.specs.Option.{option_or}
use Rattle.mb_layers.specs.Pages.{LayerState, page_at}
use Rattle.mb_layers.proofs.Moved.{newest_none, newest_some}
use Rattle.mb_layers.proofs.layers.Layers.get.Goals as goal

pub newest-requires : goal.newest-requires
newest-requires c = c.self.invariant.tied.aged

pub returns-in_err-token : goal.returns-in_err-token
returns-in_err-token c =
    ap option_copied c.from_residual.ensures ∙ newest_none c.self.inside.rings.rings c.self.invariant.rings c.args.block (c.in_err-token.ensures ∙ (λ i. option_or (c.self.invariant.tied.current c.args.block i) (c.self.invariant.tied.sealed c.args.block i)))
    ∙ ap (λ (v : LayerState). option_or (page_at v.current c.args.block) (page_at v.sealed c.args.block)) c.self.view_is

pub get-requires : goal.get-requires
get-requires c = (newest_some c.self.inside.rings.rings c.self.invariant.rings c.args.block c.in_ok-token.token.now (c.in_ok-token.ensures ∙ (λ i. option_or (c.self.invariant.tied.current c.args.block i) (c.self.invariant.tied.sealed c.args.block i)))).0

pub returns : goal.returns
returns c =
    ap Some c.get.ensures ∙ (newest_some c.self.inside.rings.rings c.self.invariant.rings c.args.block c.in_ok-token.token.now (c.in_ok-token.ensures ∙ (λ i. option_or (c.self.invariant.tied.current c.args.block i) (c.self.invariant.tied.sealed c.args.block i)))).1
    ∙ ap (λ (v : LayerState). option_or (page_at v.current c.args.block) (page_at v.sealed c.args.block)) c.self.view_is
