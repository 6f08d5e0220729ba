use Rattle.std.proofs.Crossing.{crosses}
use mir.Syntax.{ty_unit}
use denote.Exit.{no}
use denote.Param.{arg}
use denote.Param.Send.{IsSend, sendable, param_send, arg_send}
use denote.Param.SendFields.{declared_send, as_row_send}
use Rattle.ra_base.proofs.Crossing.{console_send}
use Rattle.adequacy_tests.proofs.consoles.Meeting.TheSendSync as meeting
use Rattle.adequacy_tests.specs.contracts.consoles.HeldConsole as held
use Rattle.adequacy_tests.proofs.consoles.met.Goals as goal

held_send : IsSend held.the_row
held_send =
    let c = console_send in
    let m = meeting.the_send in
    let s = meeting.the_sync in
    declared_send held.the_type (search (sendable, as_row_send, c), (search (crosses, sendable, as_row_send, m, s), (search sendable, (search sendable, tt))))

pub tell-requires-send-C : goal.tell-requires-send-C
tell-requires-send-C g c κs within =
    let s = param_send 1 (arg ty_unit no held.the_row) (arg_send ty_unit no held.the_row held_send) in
    record { owned = λ x vs. s.owned x vs; leaving = λ k x w. s.leaving k x w }
