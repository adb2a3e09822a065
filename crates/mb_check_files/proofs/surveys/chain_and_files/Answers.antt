use Rattle.std.proofs.Common.{◌≡◌, ℕ, List, [], Ok, Err, true, false, refl, ap, sym, ◌∙◌, ◌+◌, ◌-◌, ◌*◌, ◌≤◌, subst, length, arith}
use Rattle.mb_word.specs.Fields.{isize_of, nfree_of}
use Rattle.mb_check_files.proofs.Listing.{if_told, given}
use Rattle.mb_check_files.proofs.Stopping.{came_from}
use Rattle.mb_check_files.proofs.SuperTests.{bounds_of, chain_ends, chain_length, files_end, files_length, finds_stop, paid_by}
use Rattle.mb_check_files.proofs.Underways.{told_of}
use Rattle.mb_check_files.proofs.surveys.chain_and_files.Goals as goal

pub returns-in_err-chain-clause-walk : goal.returns-in_err-chain-clause-walk
returns-in_err-chain-clause-walk g c = if_told (g.D.Disk.told c.args.disk.now) _ (λ image told same head stands.
    let are = bounds_of image c.args.first.now c.args.bounds.now c.requires.sized same in
    finds_stop c.in_err-chain.field-0.0 c.from_residual.result [] [] c.chain.new.met _ _ (came_from c.from_residual.result c.in_err-chain.field-0.0 c.from_residual.ensures)
    (λ broken h. chain_ends image head broken h)
    (told_of (g.D.Disk.told c.args.disk.now) image _ told c.in_err-chain.ensures.chain same are stands))

pub returns-in_err-each_inode-clause-walk : goal.returns-in_err-each_inode-clause-walk
returns-in_err-each_inode-clause-walk g c = if_told (g.D.Disk.told c.args.disk.now) _ (λ image told same head stands.
    let are = bounds_of image c.args.first.now c.args.bounds.now c.requires.sized same in
    let one = told_of (g.D.Disk.told c.args.disk.now) image _ told c.in_ok-chain.ensures.chain same are stands in
    finds_stop c.in_err-each_inode.field-0.0 c.from_residual-in_err-each_inode.result one.0 [] c.each_inode.new.met _ _ (came_from c.from_residual-in_err-each_inode.result c.in_err-each_inode.field-0.0 c.from_residual-in_err-each_inode.ensures)
    (λ broken h. files_end image head one.0 (Err broken) one.1 h)
    (told_of (g.D.Disk.told c.chain.new.disk) image _ (c.chain.ensures.told ∙ told) c.in_err-each_inode.ensures.walk one.0 are one.2))

pub returns-clause-walk : goal.returns-clause-walk
returns-clause-walk g c = if_told (g.D.Disk.told c.args.disk.now) _ (λ image told same head stands.
    let are = bounds_of image c.args.first.now c.args.bounds.now c.requires.sized same in
    let one = told_of (g.D.Disk.told c.args.disk.now) image _ told c.in_ok-chain.ensures.chain same are stands in
    let two = told_of (g.D.Disk.told c.chain.new.disk) image _ (c.chain.ensures.told ∙ told) c.in_ok-each_inode.ensures.walk one.0 are one.2 in
    (two.0, files_end image head one.0 (Ok two.0) one.1 two.1))

pub returns-clause-tells : goal.returns-clause-tells
returns-clause-tells g c = if_told (g.D.Disk.told c.args.disk.now) _ (λ image told same head stands.
    let are = bounds_of image c.args.first.now c.args.bounds.now c.requires.sized same in
    let one = told_of (g.D.Disk.told c.args.disk.now) image _ told c.in_ok-chain.ensures.chain same are stands in
    let two = told_of (g.D.Disk.told c.chain.new.disk) image _ (c.chain.ensures.told ∙ told) c.in_ok-each_inode.ensures.walk one.0 are one.2 in
    let whole : (block : ℕ) → length (image.at block) ≡ 512 = λ block. g.met.D.Disk.sized c.args.disk.now image block told in
    let low : 3 ≤ isize_of (image.at 1) = (let e = are.low in let s = c.requires.sized.some in omega (arith, e, s)) in
    let few : nfree_of (image.at 1) ≤ 50 = subst (λ (b : List ℕ). nfree_of b ≤ 50) same c.requires.sized.free in
    let chain = chain_length image head whole low few one.0 two.0 one.1 two.1 in
    let files = files_length image head whole low few one.0 two.0 one.1 two.1 in
    record {
      paid = paid_by c.saturating_sub.result c.met_count.result c.met_count-free.result (length two.0) (length one.0) _ c.saturating_sub.ensures (c.met_count.ensures ∙ two.2.count) (c.met_count-free.ensures ∙ one.2.count) files;
      chain = c.met_count-free.ensures ∙ one.2.count ∙ chain;
    })
