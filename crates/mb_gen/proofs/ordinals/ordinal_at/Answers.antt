use Rattle.std.proofs.Common.{◌≡◌, ◌+◌, ◌-◌, ap, sym, ◌∙◌, arith}
use Rattle.std.specs.Prelude.{slice_index}
use Rattle.mb_jobs.specs.Lists.{ordinals}
use Rattle.mb_gen.proofs.Places.{place_in}
use Rattle.mb_gen.proofs.ordinals.ordinal_at.Goals as goal

pub returns : goal.returns
returns c =
    let here : 1 + c.args.place - 1 ≡ c.args.place = omega arith in
    ap (λ n. n + 1) c.calls_of.ensures.exact
    ∙ sym (place_in c.args.calls.now c.args.place c.index-calls-place.result c.requires.inside)
    ∙ ap (slice_index (ordinals c.args.calls.now)) (sym here)
