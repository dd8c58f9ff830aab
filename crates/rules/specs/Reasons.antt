-- The reasons of the code by the numbers of documents 01 and 02, and the reply that a refusal is.
use Rattle.std.specs.Prelude.{ℤ, pos, Result, Ok, Err}
use Rattle.rules.specs.declared.Reply.{Reply}
use Rattle.rules.specs.declared.Reply.TheVariants.{Refused}
use Rattle.rules.specs.declared.Reply.TheVariants as Reply
use Rattle.rules.specs.declared.refusals.Reason.{Reason}
use Rattle.rules.specs.declared.refusals.Reason.TheVariants.{RecordsUnsound, PositionsUnsound, OutOfRange, IdUsed, NoRecord, Elsewhere, NotAdjustable, ToClose, Repeated, OtherSide, WrongSum, HoldsTooLittle, NoSuffix, NoRoom, NoPositionsRoom, PositionOutOfRange, UnderGiveUp, OutOfTurn, ProcessesUnsound, NoProcessesRoom}
use Rattle.rules.specs.declared.refusals.Refusal.{Refusal}
use Rattle.rules.specs.declared.refusals.Confirmation.{Confirmation}
use Rattle.rules.specs.declared.refusals.Confirmation.TheVariants.{Booked, ClosingError}

abbrev pub number_of : Reason → ℤ
number_of RecordsUnsound = pos 1
number_of PositionsUnsound = pos 2
number_of OutOfRange = pos 3
number_of IdUsed = pos 4
number_of NoRecord = pos 5
number_of Elsewhere = pos 6
number_of NotAdjustable = pos 7
number_of ToClose = pos 8
number_of Repeated = pos 9
number_of OtherSide = pos 10
number_of WrongSum = pos 11
number_of HoldsTooLittle = pos 12
number_of NoSuffix = pos 13
number_of NoRoom = pos 14
number_of NoPositionsRoom = pos 15
number_of PositionOutOfRange = pos 16
number_of UnderGiveUp = pos 17
number_of OutOfTurn = pos 18
number_of ProcessesUnsound = pos 19
number_of NoProcessesRoom = pos 23

-- "refused, with number and place"
abbrev pub refused_for : Refusal → Reply
refused_for e = Refused (number_of e.reason) e.place

abbrev pub reply_of : Result Reply Refusal → Reply
reply_of (Ok answer) = answer
reply_of (Err e) = refused_for e

-- "booked, with its rows and the residual"; "booked with a closing error, with the excess"
abbrev pub confirmed_by : Confirmation → Reply
confirmed_by (Booked rows residual) = Reply.Booked rows residual
confirmed_by (ClosingError excess) = Reply.ClosingError excess

abbrev pub answer_of : Result Confirmation Refusal → Reply
answer_of (Ok c) = confirmed_by c
answer_of (Err e) = refused_for e
