use Rattle.ra_base.proofs.Crossing.{console_arg_send}
use Rattle.adequacy_tests.proofs.consoles.tell_lines.Goals as goal

pub tell-requires-send-C : goal.tell-requires-send-C
tell-requires-send-C g c κs within =
    record { owned = λ x vs. (console_arg_send 1).owned x vs; leaving = λ k x w. (console_arg_send 1).leaving k x w }
