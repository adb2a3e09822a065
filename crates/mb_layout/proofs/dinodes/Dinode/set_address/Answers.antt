use Rattle.std.proofs.Common.{◌*◌, ◌∙◌, ap, get_or, arith}
use Rattle.mb_word.specs.Numbers.{addr_at}
use Rattle.mb_word.proofs.Values.{addr_back}
use Rattle.mb_layout.proofs.IndexEntries.{address_others, spare_kept}
use Rattle.mb_layout.proofs.dinodes.Dinode.set_address.Goals as goal

pub returns-clause-address : goal.returns-clause-address
returns-clause-address c = ap (λ area. addr_at area (3 * c.args.place)) c.put_addr.ensures ∙ addr_back c.args.self.now.area (3 * c.args.place) c.args.address (omega arith) (omega arith)

pub returns-clause-others : goal.returns-clause-others
returns-clause-others c = λ other below apart. ap (λ area. addr_at area (3 * other)) c.put_addr.ensures ∙ address_others c.args.self.now.area c.args.place other c.args.address (omega arith) apart

pub returns-clause-kept : goal.returns-clause-kept
returns-clause-kept c = ap (λ area. get_or area 39 0) c.put_addr.ensures ∙ spare_kept c.args.self.now.area c.args.place c.args.address (omega arith) (omega arith)
