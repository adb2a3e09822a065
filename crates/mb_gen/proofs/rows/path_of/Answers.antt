use Rattle.std.proofs.Common.{◌≡◌, sym, subst, rules}
use Rattle.mb_kinds.specs.Texts.{IsPath}
use Rattle.mb_gen.specs.Calls.{name_of}
use Rattle.mb_gen.proofs.Names.{name_is_path}
use Rattle.mb_gen.proofs.rows.path_of.Goals as goal

pub from_vec-requires : goal.from_vec-requires
from_vec-requires c =
    let is : c.into_bytes.result.items ≡ name_of c.args.name = search rules in
    subst IsPath (sym is) (name_is_path c.args.name c.requires)
