-- Which copy that was handed out is stale.
use Rattle.std.specs.Prelude.{ℕ, Bool, false, ◌&&◌, if◌then◌else◌, Option, None, Some, min, fold, nat_eq, bytes_eq}
use Rattle.mb_cache.specs.Stamps.{Stamps, stamp_of}
use Rattle.mb_cache.specs.Kept.{CopyList, KeptBlock, kept_at}

-- a copy has these bytes and this stamp
abbrev pub is_same : Option KeptBlock → ℕ → KeptBlock → Bool
is_same None stamp page = false
is_same (Some copy) stamp page = bytes_eq copy.bytes page.bytes && nat_eq copy.stamp stamp

-- a page that was handed out is one that is kept, and its block did not change since
abbrev pub is_fresh : CopyList → Stamps → ℕ × KeptBlock → Bool
is_fresh copies stamps page = is_same (kept_at copies page.0) (stamp_of stamps page.0) page.1

abbrev pub lesser : Option ℕ → ℕ → ℕ
lesser None block = block
lesser (Some least) block = min least block

-- the least stale block, one page more looked at
abbrev pub stale_step : CopyList → Stamps → Option ℕ → ℕ × KeptBlock → Option ℕ
stale_step copies stamps least page = if is_fresh copies stamps page then least else Some (lesser least page.0)

-- the least block of those pages that are stale
abbrev pub least_stale : CopyList → Stamps → CopyList → Option ℕ
least_stale copies stamps pages = fold (stale_step copies stamps) None pages
