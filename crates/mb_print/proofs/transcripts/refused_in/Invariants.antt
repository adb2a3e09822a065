use Rattle.std.proofs.Common.{◌≡◌, ◌≤◌, ◌+◌, drop}
use Rattle.std.specs.List.{count_by}
use Rattle.mb_print.specs.Transcript.{is_refused}
use Rattle.mb_print.proofs.transcripts.refused_in.Given as goal

abbrev pub invariant-entries : goal.invariant-entries
invariant-entries l = record {
  few : l.count ≤ l.entry-index;
  rest : l.count + count_by is_refused (drop l.entry-index l.history) ≡ count_by is_refused l.history;
}
