use Rattle.mb_core_state.proofs.Enterings.{goes_again, goes_new_with, if_ok}
use Rattle.mb_core_state.proofs.fields.Fields.take_ticket.Goals as goal

pub returns-then-flies-clause-ok : goal.returns-then-flies-clause-ok
returns-then-flies-clause-ok g c = if_ok c.go_in_again.result _ _ (λ ticket goes mine here.
    goes_again c.args.self.now c.go_in_again.new.self c.args.caller mine c.args.call.now ticket c.args.reserved (c.flies.ensures.flies c.if-flies.true mine here) (λ flight flies. goes mine flight here flies)) c.go_in_again.ensures.ok

pub returns-in_ok-call-clause-ok : goal.returns-in_ok-call-clause-ok
returns-in_ok-call-clause-ok g c = if_ok c.go_in_new.result _ _ (λ ticket goes.
    goes_new_with c.args.self.now _ c.go_in_new.new.self c.args.caller c.args.call.now c.in_ok-call.call ticket c.args.reserved c.self.view_is c.in_ok-call.ensures (c.flies.ensures.none c.if-flies.false) goes) c.go_in_new.ensures.ok
