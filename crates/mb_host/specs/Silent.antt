-- A disk that tells no image keeps every law of those that do.
use Rattle.std.specs.Prelude.{◌≡◌, None, Some}
use Rattle.mb_kinds.specs.Image.{Image}

pub tells_nothing : {P : Type 0} {image : Image} → None ≡ Some image → P
tells_nothing told = cc
