-- What a call sees of a volume in memory.
use Rattle.std.specs.Prelude.{List, ℕ, ◌+◌, Bool, Option, None, cond, get_or, nat_eq, slice_get}
use Rattle.mb_calls.specs.Following.{ViewGrows}
use Rattle.mb_bench.specs.declared.devices.BenchDevice.{BenchDevice}

-- a block that is gathered for the call that is made
abbrev pub is_gathered : BenchDevice → ℕ → Bool
is_gathered device block = nat_eq (get_or device.gathered.items block (device.call + 1)) device.call

-- what a call sees of a device
abbrev pub shown_of : BenchDevice → ℕ → Option (List ℕ)
shown_of device block = cond (is_gathered device block) (slice_get device.blocks.items block) None

-- a device that shows all that it showed, with the same bytes
abbrev pub ShowsMore : BenchDevice → BenchDevice → Type 0
ShowsMore old new = ViewGrows (shown_of old) (shown_of new)
