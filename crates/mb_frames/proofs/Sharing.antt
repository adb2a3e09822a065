-- A `&` to the owner reaches each node. Assumes `Logic`.
use Rattle.std.specs.Prelude.{List, [], ◌∷◌}
use base.Fml.{Lft, ftrue, Incl}
use base.Fraction.{full_share}
use seplogic.Ra.Ura.{Ura}
use types.Logic.{Logic}
use denote.RawPtr.{lies_at}
use denote.Sharing.{ShrLaws}
use denote.SharingLaws.{beside_shr_laws, nothing_shr_laws}
use denote.Shares.{Shares-less}
use denote.Struct.Lending.{Lends, lent_at, lent_at_shr_laws, Lends-lies, Lends-first, Lends-both, Lends-nothing}
use denote.Memory.{lone}
use mir.Raw.{raw as bare}
use Rattle.std.specs.contracts.impls.GlobalAllocator.TheImpl.{ghosts}
use Rattle.mb_frames.specs.Cells.{Cell}
use Rattle.mb_frames.specs.Ownership.{cell_owns, cells_own, cells_lent}
use Rattle.mb_frames.specs.contracts.node.Node.{the_row as R}
use Rattle.mb_frames.proofs.node.Node.TheLaws.{the_row_laws}

pub cells_lent_laws : (cs : List Cell) → ShrLaws (cells_lent cs)
cells_lent_laws [] = nothing_shr_laws
cells_lent_laws (c ∷ cs) = beside_shr_laws _ _ (lent_at_shr_laws R the_row_laws.shr_laws c.at c.node) (cells_lent_laws cs)

module _ {M : Type 1} {𝓤 : Ura M} (𝓛 : Logic 𝓤) (l : Lft) (inc : Incl l R.lives) where
  Lends-cell : (c : Cell) → Lends 𝓛 (cell_owns c) (lent_at R c.at c.node) l
  Lends-cell c = Lends-first 𝓛 (lies_at R full_share c.at c.node) (ghosts.dealloc_token c.alloc (bare (lone R.mir)) c.at) (lent_at R c.at c.node) l
      (Lends-lies 𝓛 R l c.at c.node (Shares-less 𝓛 R R.lives l inc (the_row_laws.shares 𝓛) c.node))

  pub Lends-cells : (cs : List Cell) → Lends 𝓛 (cells_own cs) (cells_lent cs) l
  Lends-cells [] = Lends-nothing 𝓛 ftrue l
  Lends-cells (c ∷ cs) = Lends-both 𝓛 (cell_owns c) (cells_own cs) (lent_at R c.at c.node) (cells_lent cs) l (Lends-cell c) (Lends-cells cs)
