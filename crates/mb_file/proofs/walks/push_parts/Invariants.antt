use Rattle.std.proofs.Common.{◌≡◌, ◌-◌, ◌≤◌, length}
use Rattle.mb_file.proofs.Listing.{HasParts}
use Rattle.mb_file.proofs.walks.push_parts.Given as goal

abbrev pub invariant-loop-passed : goal.invariant-loop-passed
invariant-loop-passed l = (length l.parts ≡ 128) × (l.count ≤ l.passed) × (l.count ≡ l.passed → HasParts l.index l.list.items l.parts l.passed (128 - l.passed))
