use Rattle.std.proofs.Common.{◌∙◌, length, sym, ap, subst, arith}
use Rattle.std.proofs.lemmas.List.{length-map}
use Rattle.mb_tree.specs.Opening.{first_seat}
use Rattle.mb_session.specs.Ranges.{AreInRange}
use Rattle.mb_session.proofs.Ranges.{first_in}
use Rattle.mb_session.proofs.sessions.Sessions.new.Goals as goal

pub invariant_of-result : goal.invariant_of-result
invariant_of-result c = (let long = ap length c.begin.ensures ∙ length-map c.as_slice-creds.result.now first_seat in let few = c.as_slice-creds.ensures.few in let creds = c.as_slice-creds.ensures.creds in let same = ap length creds in omega (arith, long, few, same), subst AreInRange (sym c.begin.ensures) (first_in c.as_slice-creds.result.now))
