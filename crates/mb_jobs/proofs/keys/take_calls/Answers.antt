use Rattle.std.proofs.Common.{ap, codes, ◌∙◌, option_map}
use Rattle.toml.proofs.Views.{view-lookup}
use Rattle.toml.specs.View.{view}
use Rattle.mb_jobs.proofs.TakenCalls.{fields_beside-taken}
use Rattle.mb_jobs.proofs.keys.take_calls.Goals as goal

pub returns : goal.returns
returns c =
    let found = ap (option_map view) c.remove.ensures.value ∙ view-lookup (codes "calls") c.args.table.now.entries in
    rw (found, c.remove.ensures.entries) (fields_beside-taken c.args.table.now.entries)
