-- A worker may move, since its pass and the pass's value may.
use denote.Param.Send.{IsSend, sendable}
use Rattle.std.proofs.Crossing.{crosses}
use Rattle.mb_turn.specs.contracts.tests.Worker.{the_row as worker}
use Rattle.mb_turn.proofs.tests.Book.TheSendSync.{the_send as book_send}
use Rattle.mb_turn.proofs.Sending.{pass_send}
use Rattle.mb_turn.proofs.tests.two_threads_add_a_hundred_entries_each.Goals as goal

worker_send : IsSend worker
worker_send = search (sendable, crosses, pass_send, book_send) depth 60

pub each-workers-requires-send-A : goal.each-workers-requires-send-A
each-workers-requires-send-A g c κs = search (sendable, crosses, worker_send) depth 60
