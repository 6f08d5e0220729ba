use Rattle.ra_base.proofs.Crossing.{console_arg_send}
use Rattle.campaign_tests.proofs.of_campaign_console.faults_end_the_console.Goals as goal

pub ran-requires-send-C : goal.ran-requires-send-C
ran-requires-send-C g c κs =
    record { owned = λ x vs. (console_arg_send 1).owned x vs; leaving = λ k x w. (console_arg_send 1).leaving k x w }

pub ran-requires-2-send-C : goal.ran-requires-2-send-C
ran-requires-2-send-C g c κs =
    record { owned = λ x vs. (console_arg_send 1).owned x vs; leaving = λ k x w. (console_arg_send 1).leaving k x w }
