-- What is promised of a query that its own function answers is promised of it as one of all.
use Rattle.std.proofs.Common.{◌≡◌, sym, subst}
use Rattle.mb_kinds.specs.Image.{Image}
use Rattle.mb_tree.specs.declared.trees.Tree.{Tree}
use Rattle.mb_iface.specs.Asking.{Finds}
use Rattle.mb_iface.specs.declared.queries.Query.{Query}
use Rattle.mb_iface.specs.declared.replies.Asked.{Asked}

pub found_so : (query own : Query) → query ≡ own → (image : Image) (tree : Tree) (result : Asked) → Finds image tree own result → Finds image tree query result
found_so query own is image tree result finds = subst (λ q. Finds image tree q result) (sym is) finds
