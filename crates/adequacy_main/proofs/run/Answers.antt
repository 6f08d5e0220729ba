use Rattle.std.proofs.Crossing.{crosses}
use mir.Syntax.{ty_unit}
use denote.RattleType.{RattleType}
use denote.Exit.{no}
use denote.Param.{arg, param}
use denote.Param.Send.{IsSend, sendable, param_send, arg_send}
use denote.Param.SendFields.{declared_send}
use Rattle.ra_base.proofs.Crossing.{log_send}
use Rattle.adequacy_main.specs.contracts.std_console.Lines as lines
use Rattle.adequacy_main.specs.contracts.std_console.StdConsole as console
use Rattle.adequacy_main.proofs.run.Goals as goal

lines_send : (F : RattleType) → IsSend F → IsSend (lines.the_row F)
lines_send F f =
    declared_send (lines.the_type F) (search (sendable, f), (search (crosses, sendable), (search sendable, (search sendable, tt))))

-- a console over a reader that may go to another thread may go too
console_send : (F : RattleType) → IsSend F → IsSend (console.the_row F)
console_send F f =
    let r = lines_send F f in
    let l = log_send in
    declared_send (console.the_type F) (search (sendable, r), (search sendable, (search (sendable, l), tt)))

pub adequacy-requires-send-C : goal.adequacy-requires-send-C
adequacy-requires-send-C g c κs within =
    let f = param 1 g.row.F in
    let s = param_send 2 (arg ty_unit no (console.the_row f)) (arg_send ty_unit no (console.the_row f) (console_send f c.type_bounds.send-F)) in
    record { owned = λ x vs. s.owned x vs; leaving = λ k x w. s.leaving k x w }
