use Rattle.std.proofs.Common.{[], ◌≡◌, length, take}
use Rattle.mb_run.specs.Calm.{AreAllPlain, HoldsNowhere, AreCalm}
use Rattle.mb_run.proofs.Calm.{IsToldBy}
use Rattle.mb_run.specs.Letters.{AreLetters, HasBegunBy, letters_of}
use Rattle.mb_run.specs.Orders.{IsWhole, asked_in}
use Rattle.mb_run.proofs.orders.run_order.Given as goal

abbrev pub invariant-loop-character : goal.invariant-loop-character
invariant-loop-character g l = record {
  whole : IsWhole l.calls (g.H.Hook.test l.fn.hook) (asked_in (take l.character-index l.order)) (g.C.EventCore.sight l.fn.core) (g.C.EventCore.sight l.core) l.fn.runners l.runners;
  firsts : AreLetters (letters_of l.callers) → HasBegunBy (letters_of l.callers) l.calls [] (g.C.EventCore.sight l.fn.core) → HasBegunBy (letters_of l.callers) l.calls (take l.character-index l.order) (g.C.EventCore.sight l.core);
  told : HoldsNowhere (g.H.Hook.test l.fn.hook) → AreLetters (letters_of l.callers) → AreCalm (letters_of l.callers) l.calls [] (g.C.EventCore.sight l.fn.core) l.fn.runners → AreAllPlain (g.C.EventCore.sight l.core).history
      → IsToldBy (letters_of l.callers) l.calls (take l.character-index l.order) (g.C.EventCore.sight l.core) l.runners;
  size : length l.runners ≡ length l.fn.runners;
  origin : g.C.EventCore.origin l.core ≡ g.C.EventCore.origin l.fn.core;
  test : g.H.Hook.test l.hook ≡ g.H.Hook.test l.fn.hook;
}
