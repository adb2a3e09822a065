use Rattle.std.proofs.Common.{List, ap, ◌∙◌}
use Rattle.mb_jobs.specs.declared.jobs.Caller.{Caller}
use Rattle.mb_jobs.specs.declared.jobs.JobCall.{JobCall}
use Rattle.mb_print.specs.Transcript.{lines_from}
use Rattle.mb_print.proofs.Remaining.{Goes-end, Goes-more, Goes-start}
use Rattle.mb_print.proofs.transcripts.lines_of.Goals as goal

pub entries-init : goal.entries-init
entries-init c = rw c.new-out.ensures.items (Goes-start _ _ _ _ c.first_places-places.ensures)

pub entries-preserved : goal.entries-preserved
entries-preserved c =
    rw c.in_ok-push_line.ensures
    (Goes-more _ _ _ _ _ _ _ _ c.index-history-index.result c.entries-test.true c.index-history-index.is c.next_text-text.ensures.text c.next_text-text.ensures.taken c.next_text-text.ensures.others c.entries.invariant)

pub returns : goal.returns
returns c =
    Goes-end _ _ _ _ _ _ c.entries-test.false c.entries.invariant
    ∙ ap (λ (callers : List Caller). lines_from callers c.as_slice-calls.result.now 1 c.args.history.now) c.as_slice-callers.ensures
    ∙ ap (λ (calls : List JobCall). lines_from c.args.job.now.callers calls 1 c.args.history.now) c.as_slice-calls.ensures
