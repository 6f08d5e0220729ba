-- What a console keeps of its answers may go to another thread, and so may a console in memory.
use Rattle.std.proofs.Common.{ℕ}
use Rattle.std.proofs.Crossing.{crosses}
use mir.Syntax.{ty_unit}
use denote.Exit.{no}
use denote.Param.{arg, param}
use denote.Param.Send.{IsSend, sendable, param_send, arg_send}
use denote.Param.SendFields.{declared_send, owner_send}
use Rattle.ra_base.proofs.text.Text.TheSendSync as text
use Rattle.ra_base.specs.contracts.line_log.LineLog as log
use Rattle.ra_base.specs.contracts.memory_console.MemoryConsole as console

pub log_send : IsSend log.the_row
log_send = owner_send log.the_type tt (λ d. tt) (λ k x w. tt)

pub console_send : IsSend console.the_row
console_send =
    let t = text.the_send in
    let l = log_send in
    declared_send console.the_type (search (crosses, sendable), (search (crosses, sendable, t), (search (crosses, sendable), (search sendable, (search sendable, (search (sendable, l), tt))))))

-- the same where it is passed for a type parameter
pub console_arg_send : (number : ℕ) → IsSend (param number (arg ty_unit no console.the_row))
console_arg_send number = param_send number (arg ty_unit no console.the_row) (arg_send ty_unit no console.the_row console_send)
