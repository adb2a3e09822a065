use Rattle.std.proofs.Common.{ap, sym, ◌∙◌}
use Rattle.toml.specs.Parse.{parse_document}
use Rattle.mb_jobs.proofs.Documents.{table_in-no_text, table_in-text}
use Rattle.mb_jobs.proofs.reading.table_of.Goals as goal

pub returns-in_default : goal.returns-in_default
returns-in_default c = table_in-no_text c.args.bytes.now c.in_default.ensures.cases.0

pub returns-in-Ok-table_from_str : goal.returns-in-Ok-table_from_str
returns-in-Ok-table_from_str c =
    table_in-text c.args.bytes.now c.in-Ok.ensures.cases.1 ∙ ap parse_document (sym c.in-Ok.ensures.cases.0) ∙ c.in-Ok-table_from_str.ensures.ok
