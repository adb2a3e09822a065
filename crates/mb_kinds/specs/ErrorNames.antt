-- The name of each error, as V7's intro(2) spells it.
use Rattle.std.specs.Prelude.{List, ℕ, codes}
use Rattle.mb_kinds.specs.declared.errors.Errno.{Errno}
use Rattle.mb_kinds.specs.declared.errors.Errno.TheVariants.{EPERM, ENOENT, ENXIO, EBADF, EACCES, EBUSY, EEXIST, ENOTDIR, EISDIR, EINVAL, EMFILE, EFBIG, ENOSPC, EMLINK}

abbrev pub error_name : Errno → List ℕ
error_name EPERM = codes "EPERM"
error_name ENOENT = codes "ENOENT"
error_name ENXIO = codes "ENXIO"
error_name EBADF = codes "EBADF"
error_name EACCES = codes "EACCES"
error_name EBUSY = codes "EBUSY"
error_name EEXIST = codes "EEXIST"
error_name ENOTDIR = codes "ENOTDIR"
error_name EISDIR = codes "EISDIR"
error_name EINVAL = codes "EINVAL"
error_name EMFILE = codes "EMFILE"
error_name EFBIG = codes "EFBIG"
error_name ENOSPC = codes "ENOSPC"
error_name EMLINK = codes "EMLINK"
