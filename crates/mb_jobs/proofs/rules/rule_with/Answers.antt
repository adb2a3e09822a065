use Rattle.std.proofs.Common.{◌-◌, ◌<◌, length, ap, refl, arith}
use Rattle.mb_jobs.proofs.RuleWords.{caller-at, length-ordinals}
use Rattle.mb_jobs.proofs.rules.rule_with.Goals as goal

pub bounds-struck-at-2 : goal.bounds-struck-at-2
bounds-struck-at-2 c =
    let same = length-ordinals c.args.struck.calls.now in
    let found = ap length c.requires.ordinals in
    omega (arith, same, found, c.requires.one, c.requires.within)

pub returns : goal.returns
returns c =
    let inside : c.args.index - 1 < length c.args.struck.calls.now = omega (arith, c.requires.one, c.requires.within) in
    rw (c.requires.ordinals, caller-at c.args.struck.calls.now (c.args.index - 1) c.index-struck-at.result inside) refl
