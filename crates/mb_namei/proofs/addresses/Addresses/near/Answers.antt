use Rattle.std.proofs.Common.{IfSome, subst}
use Rattle.mb_word.specs.Fields.{address_of, inode_place}
use Rattle.mb_namei.specs.Addresses.{AreBlockBytes, IsAddress}
use Rattle.mb_namei.proofs.Leading.{direct_leads, near_leads}
use Rattle.mb_namei.proofs.addresses.Addresses.near.Goals as goal

pub returns-then-part-lt-DIRECT-clause-leads : goal.returns-then-part-lt-DIRECT-clause-leads
returns-then-part-lt-DIRECT-clause-leads c = direct_leads c.args.self.now c.args.part c.inode_address.result c.if-part-lt-DIRECT.true c.inode_address.ensures

pub returns-then-part-lt-NEAR-clause-leads : goal.returns-then-part-lt-NEAR-clause-leads
returns-then-part-lt-NEAR-clause-leads c = near_leads c.args.self.now c.args.part c.long_at.result c.in_ok-self.field-0.now c.valid.result c.if-part-lt-DIRECT.false c.if-part-lt-NEAR.true
    (λ shown changes ino of. subst (λ o. IfSome o (λ index. (block : _) × (IsAddress (address_of c.args.self.now.inode.now (inode_place ino) 10) block × AreBlockBytes shown changes block index.now))) c.in_ok-self.was of.index)
    c.long_at.ensures c.valid.ensures
