-- A `&` to the owner reaches each node. Assumes `Logic`.
use denote.RawPtr.{RawPtr}
use denote.Param.Shared.{copy_shared}
use denote.Struct.Laws.{field_copy}
use denote.Struct.Lending.{of_Lends}
use Rattle.core.specs.contracts.marker.PhantomData as marker
use Rattle.mb_frames.specs.contracts.nodes.Nodes as C
use Rattle.mb_frames.proofs.nodes.Nodes.TheLaw.Statement.{statement}
use Rattle.mb_frames.proofs.Sharing.{cells_lent_laws, Lends-cells}

pub shares : statement
shares = of_Lends C.struct (C.the_codes (marker.the_row RawPtr).coded) C.the_heap C.the_lent (λ d p. cells_lent_laws d.cells) (copy_shared (marker.the_field RawPtr) (field_copy (marker.the_type RawPtr) tt), tt) (λ M 𝓤 𝓛 d p. Lends-cells 𝓛 C.the_row.lives (λ a m. m) d.cells)
