-- A boxed node, as std's steps on a box see it.
use mathlib.Core.List.{[], ◌∷◌}
use mir.Syntax.{Dict, impl, tcons, tnil, dnil}
use denote.RattleType.{RattleType}
use denote.Exit.{no}
use denote.Param.{layout, arg}
use denote.Param.Laws.{Laws, arg_laws}
use mathlib.Core.Path.{refl}
use mir.Raw.{raw as bare}
use Rattle.std_alloc.proofs.BoxSteps.Form.{Bx}
use Rattle.std.specs.contracts.alloc.Global as heap
use Rattle.std.proofs.alloc.Global.TheLaws as global_laws
use Rattle.std.specs.contracts.impls.GlobalAllocator.TheImpl.{ghosts, dict}
use Rattle.mb_frames.specs.contracts.node.Node.{the_row as R}
use Rattle.mb_frames.proofs.node.Node.TheLaws.{the_row_laws}

-- the drop of a type that has none
abbrev pub no_drop : RattleType → Dict
no_drop Y = impl ("mb_frames::Destruct++none::drop" ∷ []) (tcons (layout Y) tnil) dnil

-- the two rows as a call passes them
abbrev pub Element : RattleType
Element = arg (bare (layout R)) no R

abbrev pub element_laws : Laws Element
element_laws = arg_laws (bare (layout R)) no R the_row_laws refl

abbrev pub Heap : RattleType
Heap = arg (bare (layout heap.the_row)) no heap.the_row

abbrev pub heap_laws : Laws Heap
heap_laws = arg_laws (bare (layout heap.the_row)) no heap.the_row global_laws.the_row_laws refl

abbrev pub E : Bx
E = record { row = Element; laws = element_laws; al = record { row = Heap; laws = heap_laws; g = ghosts; d = dict; drops = no_drop Heap } }
