-- What each plan of a row keeps: the reply is one of a call that is served, and the session can make the change.
use Rattle.std.specs.Prelude.{◌≡◌, Some, IsSome}
use Rattle.mb_kinds.specs.declared.replies.Reply.{Reply}
use Rattle.mb_kinds.specs.declared.replies.Reply.TheVariants.{Num, Got, Info}
use Rattle.mb_tree.specs.Sessions.{free_descriptor, file_on}
use Rattle.mb_tree.specs.declared.plans.CallPlan.{CallPlan}
use Rattle.mb_tree.specs.declared.seats.Seat.{Seat}
use Rattle.mb_tree.specs.declared.seats.SessionChange.{SessionChange}
use Rattle.mb_tree.specs.declared.seats.SessionChange.TheVariants.{Fresh, Twin, Free, Move}

-- a number, bytes, or what stat tells
abbrev pub IsServedReply : Reply → Type 0
IsServedReply (Num number) = Unit {0}
IsServedReply (Got bytes) = Unit {0}
IsServedReply (Info stat) = Unit {0}
IsServedReply _ = ⊥

-- a descriptor that comes into use is the lowest free one; one that is doubled, freed or moved has an open file
abbrev pub CanMake : Seat → SessionChange → Type 0
CanMake seat (Fresh fd ino how) = free_descriptor seat ≡ Some fd
CanMake seat (Twin fd to) = (free_descriptor seat ≡ Some to) × IsSome (file_on seat fd)
CanMake seat (Free fd) = IsSome (file_on seat fd)
CanMake seat (Move fd offset) = IsSome (file_on seat fd)
CanMake seat _ = Unit {0}

-- both
abbrev pub IsPlanFor : Seat → CallPlan → Type 0
IsPlanFor seat planned = CanMake seat planned.session × IsServedReply planned.reply
