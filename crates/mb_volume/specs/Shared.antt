-- What contracts see of a core that callers share.
use Rattle.mb_volume_core.specs.declared.volume_core.Origin.{Origin}
use Rattle.mb_volume_core.specs.declared.volume_core.VolumeCore.{VolumeCore}

pub record Shared (F D : Type 0) : Type 0 where
  pub core : VolumeCore F D

-- what it was begun on
abbrev pub origin_of : {F D : Type 0} → Shared F D → Origin D
origin_of shared = record { first = shared.core.core.first; config = shared.core.core.config }
